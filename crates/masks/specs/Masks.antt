-- Sets of numbers below 64, as the bits of a mask.
use Rattle.std.specs.Prelude.{ℕ, ◌/◌, ◌%◌, ◌^◌, Bool, cond, nat_lt, ◌==◌, bit_or, bit_xor}

-- whether the set has a number: its bit is 1
abbrev pub has : (mask number : ℕ) → Bool
has mask number = mask / 2 ^ number % 2 == 1

-- the set with one more number, where that is below 64
abbrev pub including : (mask number : ℕ) → ℕ
including mask number = cond (nat_lt number 64) (bit_or mask (2 ^ number)) mask

-- the set without a number
abbrev pub excluding : (mask number : ℕ) → ℕ
excluding mask number = cond (has mask number) (bit_xor mask (2 ^ number)) mask

-- whether every number of the first set is in the second
abbrev pub within : (mask others : ℕ) → Bool
within mask others = bit_or mask others == others
