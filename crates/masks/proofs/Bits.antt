-- What the bits of a mask say.
use Rattle.std.proofs.Common.{◌≡◌, ℕ, ◌%◌, ◌^◌, ◌<◌, ◌≤◌, true, false, nat_eq, ap, inl, inr, lt_of_lt_of_le, pow_mono}
use native.Mathlib.Nat.{div-eq_of_lt}
use lib.Bits.{bit_or}
use Rattle.std.proofs.lemmas.Bool.{cases_lt, cond-true, lt-ltb, both_ways}
use Rattle.masks.specs.Masks.{has, including}

-- a set below 2 ^ n has no number from n on
pub has_past : (mask n number : ℕ) → mask < 2 ^ n → n ≤ number → has mask number ≡ false
has_past mask n number lt le =
    let up : mask < 2 ^ number = lt_of_lt_of_le lt (pow_mono le) in
    ap (λ (x : ℕ). nat_eq (x % 2) 1) (div-eq_of_lt up)

-- what a set below 2 ^ n has is below n
pub has_below : (mask n number : ℕ) → mask < 2 ^ n → has mask number ≡ true → number < n
has_below mask n number lt h =
    elim (cases_lt number n) [
      | inl less ↦ less
      | inr more ↦ absurd (both_ways (has mask number) (has_past mask n number lt more) h)
    ]

-- with a number below 64
pub including_is : (mask number : ℕ) → number < 64 → including mask number ≡ bit_or mask (2 ^ number)
including_is mask number lt = cond-true _ _ _ (lt-ltb number 64 lt)
