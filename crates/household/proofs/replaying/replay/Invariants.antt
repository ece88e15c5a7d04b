use Rattle.std.proofs.Common.{map, length, drop}
use Rattle.ltlf.specs.Contents.{book_contents}
use Rattle.record.specs.Calls.{record_model}
use Rattle.household.specs.Law.{drawn}
use Rattle.household.proofs.Runs.{Playing}
use Rattle.household.proofs.replaying.replay.Given as goal

abbrev pub invariant-loop-call : goal.invariant-loop-call
invariant-loop-call g l =
    let d = drawn g.T.Theory.meaning (length l.initial.rows) (length l.initial.history) in
    let b = book_contents l.book in
    Playing g.O.Observer.hears b.codes b.atoms (length l.initial.visits) (map d l.calls) l.initial.observer (map d (drop l.call-index l.calls))
    (record_model l.«record») l.visits l.observer
