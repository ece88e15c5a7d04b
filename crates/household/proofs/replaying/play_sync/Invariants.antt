use Rattle.std.proofs.Common.{◌≡◌, length, take}
use Rattle.record.specs.Calls.{sync_model}
use Rattle.household.proofs.Notes.{Going}
use Rattle.household.proofs.replaying.play_sync.Given as goal

abbrev pub invariant-loop-code : goal.invariant-loop-code
invariant-loop-code g l =
    let r = (sync_model l.initial.sync).taken in
    ((sync_model l.sync).taken ≡ r)
    × Going g.O.Observer.hears r.codes r.atoms (take r.kept l.initial.visits) l.notes (length l.initial.visits) l.initial.observer
    l.code-index l.sync.held l.visits l.observer
