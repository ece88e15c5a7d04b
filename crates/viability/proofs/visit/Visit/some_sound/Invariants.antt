use Rattle.std.proofs.Common.{◌≡◌}
use Rattle.viability.specs.Offers.{Inside}
use Rattle.viability.proofs.visit.Visit.some_sound.Given as goal

-- the expansion so far is viable
abbrev pub invariant-loop-number : goal.invariant-loop-number
invariant-loop-number l = Inside l.expansion l.able

-- only the first choice is tried
abbrev pub invariant-choices : goal.invariant-choices
invariant-choices l = l.flips ≡ 0
