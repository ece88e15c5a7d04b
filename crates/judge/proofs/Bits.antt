-- What the bits of a mask mark.
use Rattle.std.proofs.Common.{◌≡◌, ℕ, ◌+◌, ◌-◌, ◌/◌, ◌%◌, ◌^◌, ◌<◌, max, true, false, eqb, sym, ap, ◌∙◌, ⊎_elim, one-mul, arith}
use native.Mathlib.Nat.{div-eq_of_lt, zero-div}
use lib.Bits.{bit_or, or_step, or_shr}
use Rattle.std.proofs.lemmas.Nat.{pow-add, shl-shr, pow_below, mod-mul-add}
use Rattle.std.proofs.lemmas.Bool.{cases_order, eq-eqb}
use Rattle.judge.specs.Marks.{marked}

or_at_bit : (a b i : ℕ) → bit_or a b / 2 ^ i % 2 ≡ max (a / 2 ^ i % 2) (b / 2 ^ i % 2)
or_at_bit a b i =
    ap (λ (x : ℕ). x % 2) (or_shr a b i ∙ or_step (a / 2 ^ i) (b / 2 ^ i))
    ∙ mod-mul-add (bit_or (a / 2 ^ i / 2) (b / 2 ^ i / 2)) 2 (max (a / 2 ^ i % 2) (b / 2 ^ i % 2)) (omega arith)

power_here : (k : ℕ) → 2 ^ k / 2 ^ k % 2 ≡ 1
power_here k = ap (λ (x : ℕ). x / 2 ^ k % 2) (sym (one-mul (2 ^ k))) ∙ ap (λ (x : ℕ). x % 2) (shl-shr 1 k)

power_above : (j i : ℕ) → 2 ^ (j + 1 + i) / 2 ^ i % 2 ≡ 0
power_above j i =
    ap (λ (x : ℕ). x / 2 ^ i % 2) (pow-add 2 (j + 1) i)
    ∙ ap (λ (x : ℕ). x % 2) (shl-shr (2 ^ (j + 1)) i ∙ pow-add 2 j 1)
    ∙ omega arith

power_elsewhere : (k i : ℕ) → (i ≡ k → ⊥) → 2 ^ k / 2 ^ i % 2 ≡ 0
power_elsewhere k i ne =
    ⊎_elim
    (λ e. absurd (ne e))
    (⊎_elim
    (λ (lt : i < k).
    let e : k ≡ k - i - 1 + 1 + i = omega arith in
    ap (λ (x : ℕ). 2 ^ x / 2 ^ i % 2) e ∙ power_above (k - i - 1) i)
    (λ (gt : k < i). ap (λ (x : ℕ). x % 2) (div-eq_of_lt (pow_below k i gt))))
    (cases_order i k)

-- the number that was added is marked
pub marked_new : (mask k : ℕ) → marked (bit_or mask (2 ^ k)) k ≡ true
marked_new mask k = eq-eqb _ _ (omega (arith, or_at_bit mask (2 ^ k) k, power_here k))

-- every other number is marked as before
pub marked_other : (mask k i : ℕ) → (i ≡ k → ⊥) → marked (bit_or mask (2 ^ k)) i ≡ marked mask i
marked_other mask k i ne =
    let e : bit_or mask (2 ^ k) / 2 ^ i % 2 ≡ mask / 2 ^ i % 2 = omega (arith, or_at_bit mask (2 ^ k) i, power_elsewhere k i ne) in
    ap (λ (x : ℕ). eqb x 1) e

-- the empty mask marks nothing
pub marked_none : (i : ℕ) → marked 0 i ≡ false
marked_none i = ap (λ (x : ℕ). eqb (x % 2) 1) (zero-div (2 ^ i))
