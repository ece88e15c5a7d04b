-- The limits of a numbers theory.
use Rattle.std.specs.Prelude.{ℕ, ◌+◌, ◌*◌, Bool, ◌&&◌, List, length, ℤ, ◌-ℤ◌, int_le, nat_le, nat_lt, unsigned_abs}
use Rattle.std.specs.List.{list_all}
use Rattle.numbers.specs.declared.term.Term.{Term}

-- a number lies within ±limit
abbrev pub within : (limit : ℕ) → ℤ → Bool
within limit z = nat_le (unsigned_abs z) limit

-- how many values there are from low to high
abbrev pub value_count : (low high : ℤ) → ℕ
value_count low high = unsigned_abs (high -ℤ low) + 1

-- bounds lie within ±10,000, low ≤ high, and beside these codes they make at most 4,096
abbrev pub bounds_fit : (codes : ℕ) (low high : ℤ) → Bool
bounds_fit codes low high = within 10000 low && (within 10000 high && (int_le low high && nat_le (codes * value_count low high) 4096))

-- a term names one of the variables, and its coefficient lies within ±1,000
abbrev pub term_fits : (variables : ℕ) → Term → Bool
term_fits variables t = nat_lt t.variable variables && within 1000 t.coefficient

-- every term does
abbrev pub terms_fit : (variables : ℕ) → List Term → Bool
terms_fit variables ts = list_all (term_fits variables) ts

-- an atom is a sum of 1 to 4 such terms, and its constant lies within ±40,000,000
abbrev pub sum_fits : (variables : ℕ) → List Term → (constant : ℤ) → Bool
sum_fits variables terms constant =
    nat_lt 0 (length terms) && (nat_le (length terms) 4 && (terms_fit variables terms && within 40000000 constant))
