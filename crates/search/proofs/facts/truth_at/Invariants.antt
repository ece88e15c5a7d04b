use Rattle.search.specs.Questions.{Shown}
use Rattle.search.proofs.facts.truth_at.Given as goal

abbrev pub invariant-loop-atom : goal.invariant-loop-atom
invariant-loop-atom g l = Shown (g.T.Theory.meaning l.theory) l.code l.next l.truth l.atom
