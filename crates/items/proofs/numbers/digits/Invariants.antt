use Rattle.std.proofs.Common.{◌≡◌, ◌≤◌, length}
use Rattle.items.specs.Numbers.{digits_after}
use Rattle.items.proofs.numbers.digits.Given as goal

abbrev pub invariant-loop-rest : goal.invariant-loop-rest
invariant-loop-rest l = (l.value ≤ l.limit) × (digits_after l.value l.rest ≡ digits_after 0 l.text)

abbrev pub decreases-loop-rest : goal.decreases-loop-rest
decreases-loop-rest l = length l.rest
