use Rattle.std.proofs.Common.{◌≡◌, ℕ, ◌<◌, true, get_or, pos, take}
use Rattle.numbers.specs.Codes.{all_values}
use Rattle.numbers.specs.Limits.{within}
use Rattle.numbers.specs.Model.{numbers_of}
use Rattle.numbers.proofs.numbers.Numbers.values.Given as goal

-- the first values stand, and are small
abbrev pub invariant-loop-variable : goal.invariant-loop-variable
invariant-loop-variable l =
    let all = all_values (numbers_of l.self).variables l.code in
    (l.values.items ≡ take l.variable all) × ((k : ℕ) → k < l.variable → within 10000 (get_or all k (pos 0)) ≡ true)
