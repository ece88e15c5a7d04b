-- A product of signed numbers stays within the product of their bounds.
use Rattle.std.proofs.Common.{◌≡◌, suc, true, ℤ, pos, negsuc, ◌*ℤ◌, ◌≤ℤ◌, arith, w32, SFits, to_z, of_z}
use lib.IntN.{pos-*ℤ-pos, pos-*ℤ-negsuc, negsuc-*ℤ-pos, negsuc-*ℤ-negsuc}
use Rattle.std.proofs.lemmas.Nat.{mul-le}
use Rattle.std.proofs.lemmas.Int.{ints, to_z-of_z}
use Rattle.numbers.specs.Limits.{within}
use Rattle.numbers.proofs.Bounds.{within_bounds}

product_bounds : (a b : ℤ) → negsuc 999 ≤ℤ a → a ≤ℤ pos 1000 → negsuc 9999 ≤ℤ b → b ≤ℤ pos 10000
    → (negsuc 9999999 ≤ℤ (a *ℤ b)) × ((a *ℤ b) ≤ℤ pos 10000000)
product_bounds (pos m) (pos n) p q r s =
    let le = mul-le m n 1000 10000 (omega (arith, ints)) (omega (arith, ints)) in
    rw (pos-*ℤ-pos m n) (omega (arith, ints), omega (arith, ints))
product_bounds (pos m) (negsuc n) p q r s =
    let le = mul-le m (suc n) 1000 10000 (omega (arith, ints)) (omega (arith, ints)) in
    rw (pos-*ℤ-negsuc m n) (omega (arith, ints), omega (arith, ints))
product_bounds (negsuc m) (pos n) p q r s =
    let le = mul-le (suc m) n 1000 10000 (omega (arith, ints)) (omega (arith, ints)) in
    rw (negsuc-*ℤ-pos m n) (omega (arith, ints), omega (arith, ints))
product_bounds (negsuc m) (negsuc n) p q r s =
    let le = mul-le (suc m) (suc n) 1000 10000 (omega (arith, ints)) (omega (arith, ints)) in
    rw (negsuc-*ℤ-negsuc m n) (omega (arith, ints), omega (arith, ints))

-- a coefficient times a value
module _ (a b : ℤ) (small : within 1000 a ≡ true) (bounded : within 10000 b ≡ true) where
  pub product_within : (negsuc 9999999 ≤ℤ (a *ℤ b)) × ((a *ℤ b) ≤ℤ pos 10000000)
  product_within =
      let p = within_bounds 1000 a small in
      let q = within_bounds 10000 b bounded in
      product_bounds a b p.0 p.1 q.0 q.1

  -- the product as the code computes it
  pub product_is : to_z w32 (of_z w32 (to_z w32 (of_z w32 a) *ℤ to_z w32 (of_z w32 b))) ≡ a *ℤ b
  product_is =
      let p = within_bounds 1000 a small in
      let q = within_bounds 10000 b bounded in
      let r = product_within in
      let fa : SFits w32 a = grind (arith, ints) in
      let fb : SFits w32 b = grind (arith, ints) in
      let fab : SFits w32 (a *ℤ b) = grind (arith, ints) in
      rw (to_z-of_z w32 a fa, to_z-of_z w32 b fb, to_z-of_z w32 (a *ℤ b) fab)
