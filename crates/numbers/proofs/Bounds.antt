-- What lies within ±limit, as inequalities.
use Rattle.std.proofs.Common.{◌≡◌, ℕ, suc, ◌+◌, ◌%◌, true, ℤ, pos, negsuc, ◌+ℤ◌, ◌-ℤ◌, neg_ℤ, nat_abs, ◌≤ℤ◌, refl, ap, arith, w32, to_z, of_z}
use lib.Signed.{le_z}
use Rattle.std.proofs.lemmas.Nat.{mod_below}
use Rattle.std.proofs.lemmas.Int.{ints}
use Rattle.std.proofs.lemmas.Bool.{leb-true, le-leb}
use Rattle.numbers.specs.Limits.{within}
use Rattle.numbers.specs.declared.variable.Variable.{Variable}

pub within_bounds : (k : ℕ) (z : ℤ) → within k z ≡ true → (neg_ℤ (pos k) ≤ℤ z) × (z ≤ℤ pos k)
within_bounds k (pos n) h = let le = leb-true n k h in (omega (arith, ints), omega (arith, ints))
within_bounds k (negsuc n) h = let le = leb-true (suc n) k h in (omega (arith, ints), omega (arith, ints))

pub within_from : (k : ℕ) (z : ℤ) → neg_ℤ (pos k) ≤ℤ z → z ≤ℤ pos k → within k z ≡ true
within_from k (pos n) p q = le-leb n k (omega (arith, ints))
within_from k (negsuc n) p q = le-leb (suc n) k (omega (arith, ints))

pub ordered : (a b : ℤ) → le_z a b ≡ true → a ≤ℤ b
ordered a b h = grind (arith, ints)

-- an absolute value that the order decides
abs_is : (z : ℤ) → pos 0 ≤ℤ z → pos (nat_abs z) ≡ z
abs_is (pos n) h = refl
abs_is (negsuc n) h = let no : ⊥ = omega (arith, ints) in absurd no

-- the value of a variable as the code computes it, in range
module _ (v : Variable) (place : ℕ) where
  top : (v.low +ℤ pos v.width) ≡ (v.high +ℤ pos 1)
  top =
      let o = ordered v.low v.high v.ordered in
      let e = abs_is (v.high -ℤ v.low) (omega (arith, ints)) in
      let w : pos v.width ≡ pos (nat_abs (v.high -ℤ v.low) + 1) = ap pos v.counted in
      omega (arith, ints)

  pub value_is : to_z w32 (of_z w32 (to_z w32 (of_z w32 v.low) +ℤ to_z w32 (place % v.width))) ≡ v.low +ℤ pos (place % v.width)
  value_is =
      let l = within_bounds 10000 v.low v.lower in
      let h = within_bounds 10000 v.high v.upper in
      let m = mod_below place v.width v.some in
      omega (arith, ints)

  pub value_within : within 10000 (v.low +ℤ pos (place % v.width)) ≡ true
  value_within =
      let l = within_bounds 10000 v.low v.lower in
      let h = within_bounds 10000 v.high v.upper in
      let m = mod_below place v.width v.some in
      let t = top in
      within_from 10000 (v.low +ℤ pos (place % v.width)) (omega (arith, ints)) (omega (arith, ints))

-- a bound as it is passed
pub passed : (z : ℤ) → within 10000 z ≡ true → to_z w32 (of_z w32 z) ≡ z
passed z h = let b = within_bounds 10000 z h in omega (arith, ints)
