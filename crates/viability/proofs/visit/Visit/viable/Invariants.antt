use Rattle.viability.specs.Viable.{ViableBelow}
use Rattle.viability.specs.Visits.{moment_at, contents_at}
use Rattle.viability.proofs.visit.Visit.viable.Given as goal

-- the formulas below this one are done
abbrev pub invariant-loop-number : goal.invariant-loop-number
invariant-loop-number l = ViableBelow (moment_at l.self) (contents_at l.self) l.able l.number
