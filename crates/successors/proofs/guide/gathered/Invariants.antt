use Rattle.successors.specs.Guides.{reach_at, must_at}
use Rattle.successors.proofs.Filling.{Gathering}
use Rattle.successors.proofs.guide.gathered.Given as goal

-- the members that were taken off are done
abbrev pub invariant-loop-rest : goal.invariant-loop-rest
invariant-loop-rest l = Gathering (reach_at l.guides) l.members l.rest l.reach × Gathering (must_at l.guides) l.members l.rest l.must

abbrev pub decreases-loop-rest : goal.decreases-loop-rest
decreases-loop-rest l = l.rest
