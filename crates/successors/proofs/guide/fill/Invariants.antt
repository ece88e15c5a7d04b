use Rattle.viability.specs.Visits.{moment_at, contents_at}
use Rattle.successors.specs.Guides.{GuidesBelow}
use Rattle.successors.proofs.guide.fill.Given as goal

-- the formulas below this one are done
abbrev pub invariant-loop-number : goal.invariant-loop-number
invariant-loop-number l = GuidesBelow (moment_at l.visit) (contents_at l.visit) l.able l.guides l.number
