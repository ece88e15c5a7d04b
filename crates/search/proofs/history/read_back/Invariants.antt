use Rattle.search.proofs.Backward.{Back}
use Rattle.search.proofs.history.read_back.Given as goal

abbrev pub invariant-loop-left : goal.invariant-loop-left
invariant-loop-left l = Back l.rows l.initial.history l.initial.at l.depth l.history l.at l.left
