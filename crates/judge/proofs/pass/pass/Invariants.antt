use Rattle.ltlf.specs.Contents.{book_contents}
use Rattle.judge.proofs.Passing.{PassedAll}
use Rattle.judge.proofs.pass.pass.Given as goal

abbrev pub invariant-loop-number : goal.invariant-loop-number
invariant-loop-number g l = PassedAll (g.T.Theory.meaning l.theory) (book_contents l.book) l.code l.next l.later l.here l.number
