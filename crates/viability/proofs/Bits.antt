-- What the bits of a label say.
use Rattle.std.proofs.Common.{◌≡◌, ℕ, zero, suc, ◌/◌, ◌%◌, ◌^◌, ◌<◌, ◌≤◌, Bool, cond, ◌⊎◌, ◌↔◌, List, [], ◌∷◌, Decides, sym, refl, ap, ◌∙◌, subst, inl, inr, ⊎_elim, lt_of_lt_of_le, mod-eq_of_lt, arith, pow_mono}
use mathlib.Core.Path.{subst⁻¹}
use native.Mathlib.Nat.{div-eq_of_lt}
use lib.Bits.{bit_or, bit_xor, xor_shr, xor_mod}
use Rattle.std.proofs.lemmas.Nat.{pow_pos}
use Rattle.std.proofs.lemmas.Bool.{cases_lt, eqb-true, eq-eqb}
use Rattle.judge.specs.Formulas.{Among}
use Rattle.masks.specs.Masks.{has, excluding, within}
use Rattle.tableau.specs.Labels.{◌∈◌}
use Rattle.tableau.proofs.Masks.{zero_has, bit_has, or_has, same_members, has?}
use Rattle.viability.specs.Offers.{Inside, Without, label_of}

-- the tests of the masks decide what they test
pub decides_has : (L k : ℕ) (r : Bool) → r ≡ has L k → Decides r (k ∈ L)
unfolding ◌∈◌
decides_has L k r e = ((λ t. eqb-true _ _ (sym e ∙ t)), (λ h. e ∙ eq-eqb _ _ h))

-- a label below 2 ^ n has no number from n on
pub in_below : (L n i : ℕ) → L < 2 ^ n → i ∈ L → i < n
unfolding ◌∈◌
in_below L n i lt h =
    ⊎_elim
    (λ l. l)
    (λ (ge : n ≤ i).
    let up : L < 2 ^ i = lt_of_lt_of_le lt (pow_mono ge) in
    let z : L / 2 ^ i ≡ 0 = div-eq_of_lt up in
    absurd (omega (arith, h, z)))
    (cases_lt i n)

pub in_or : (a c i : ℕ) → i ∈ bit_or a c → (i ∈ a) ⊎ (i ∈ c)
in_or a c i = (or_has i a c).0

pub in_or_left : (a c i : ℕ) → i ∈ a → i ∈ bit_or a c
in_or_left a c i h = (or_has i a c).1 (inl h)

pub in_or_right : (a c i : ℕ) → i ∈ c → i ∈ bit_or a c
in_or_right a c i h = (or_has i a c).1 (inr h)

pub in_with : (L k i : ℕ) → i ∈ bit_or L (2 ^ k) → (i ∈ L) ⊎ (i ≡ k)
in_with L k i h = ⊎_elim inl (λ o. inr ((bit_has i k).0 o)) (in_or L (2 ^ k) i h)

pub with_has : (L k : ℕ) → k ∈ bit_or L (2 ^ k)
with_has L k = in_or_right L (2 ^ k) k ((bit_has k k).1 refl)

pub inside_or : (a c : ℕ) → (bit_or a c ≡ c) ↔ Inside a c
inside_or a c = (
  (λ e f m. subst (λ (x : ℕ). f ∈ x) e (in_or_left a c f m)),
  (λ h. same_members (bit_or a c) c (λ f. ((λ m. ⊎_elim (h f) (λ x. x) (in_or a c f m)), in_or_right a c f))),
)

pub label_has : (f : ℕ) (gs : List ℕ) → (f ∈ label_of gs) ↔ Among f gs
label_has f [] = ((λ m. absurd (zero_has f m)), (λ z. absurd z))
label_has f (g ∷ gs) = (
  (λ m. elim (in_with (label_of gs) g f m) [ inl x ↦ inr ((label_has f gs).0 x) | inr e ↦ inl e ]),
  elim [
    | inl e ↦ subst⁻¹ (λ (x : ℕ). x ∈ bit_or (label_of gs) (2 ^ g)) e (with_has (label_of gs) g)
    | inr a ↦ in_or_left (label_of gs) (2 ^ g) f ((label_has f gs).1 a)
  ],
)

pub decides_inside : (a c : ℕ) (r : Bool) → r ≡ within a c → Decides r (Inside a c)
decides_inside a c r e = ((λ t. (inside_or a c).0 (eqb-true _ _ (sym e ∙ t))), (λ h. e ∙ eq-eqb _ _ ((inside_or a c).1 h)))

-- a label's members are in V exactly if the formulas it was made of are
pub inside_parts : (ps : List ℕ) (m V : ℕ) → m ≡ label_of ps → Inside m V ↔ ((g : ℕ) → Among g ps → g ∈ V)
inside_parts ps m V e = (
  (λ h g a. h g (subst⁻¹ (λ (x : ℕ). g ∈ x) e ((label_has g ps).1 a))),
  (λ h f x. h f ((label_has f ps).0 (subst (λ (y : ℕ). f ∈ y) e x))),
)

xor_bits : (x y : ℕ) → x < 2 → y < 2 → (bit_xor x y ≡ 1) ↔ (((x ≡ 1) × (y ≡ 0)) ⊎ ((x ≡ 0) × (y ≡ 1)))
xor_bits zero zero h k = ((λ e. absurd (omega arith)), elim [ inl e ↦ absurd (omega (arith, e.0)) | inr e ↦ absurd (omega (arith, e.1)) ])
xor_bits zero (suc zero) h k = ((λ e. inr (refl, refl)), (λ e. refl))
xor_bits (suc zero) zero h k = ((λ e. inl (refl, refl)), (λ e. refl))
xor_bits (suc zero) (suc zero) h k = ((λ e. absurd (omega arith)), elim [ inl e ↦ absurd (omega (arith, e.1)) | inr e ↦ absurd (omega (arith, e.0)) ])
xor_bits zero (suc (suc y)) h k = absurd (omega arith)
xor_bits (suc zero) (suc (suc y)) h k = absurd (omega arith)
xor_bits (suc (suc x)) y h k = absurd (omega arith)

bit_cases : (n i : ℕ) → (n / 2 ^ i % 2 ≡ 0) ⊎ (n / 2 ^ i % 2 ≡ 1)
bit_cases n i = grind arith

pub without_xor : (S k : ℕ) → k ∈ S → Without S k (bit_xor S (2 ^ k))
unfolding ◌∈◌
without_xor S k top f =
    let e : bit_xor S (2 ^ k) / 2 ^ f % 2 ≡ bit_xor (S / 2 ^ f % 2) (2 ^ k / 2 ^ f % 2) =
    ap (λ (x : ℕ). x % 2) (xor_shr S (2 ^ k) f) ∙ xor_mod (S / 2 ^ f) (2 ^ k / 2 ^ f) 1 in
    let o = xor_bits (S / 2 ^ f % 2) (2 ^ k / 2 ^ f % 2) (omega arith) (omega arith) in (
      (λ m. elim (o.0 (sym e ∙ m)) [
        | inl p ↦ (p.0, λ z. absurd (omega (arith, p.1, (bit_has f k).1 z)))
        | inr p ↦ absurd (omega (arith, p.0, subst⁻¹ (λ (x : ℕ). x ∈ S) ((bit_has f k).0 p.1) top))
      ]),
      (λ p. e ∙ o.1 (inl (p.0, ⊎_elim (λ z. z) (λ (m : 2 ^ k / 2 ^ f % 2 ≡ 1). absurd (p.1 ((bit_has f k).0 m))) (bit_cases (2 ^ k) f)))),
    )

-- taking off what is not there
pub without_none : (S k : ℕ) → (k ∈ S → ⊥) → Without S k S
without_none S k out f = ((λ m. (m, λ z. out (subst (λ (x : ℕ). x ∈ S) z m))), (λ p. p.0))

pub excluding_is : (S k R : ℕ) → R ≡ excluding S k → Without S k R
excluding_is S k R e = subst⁻¹ (Without S k) e (elim (has? S k) [
  | inl p ↦ subst⁻¹ (λ (b : Bool). Without S k (cond b (bit_xor S (2 ^ k)) S)) p.0 (without_xor S k p.1)
  | inr p ↦ subst⁻¹ (λ (b : Bool). Without S k (cond b (bit_xor S (2 ^ k)) S)) p.0 (without_none S k p.1)
])

-- the members of L % 2 ^ n are those of L below n
pub in_low : (L n f : ℕ) → f ∈ (L % 2 ^ n) → f < n
in_low L n f m = (let p : 0 < 2 ^ n = pow_pos n in in_below (L % 2 ^ n) n f (omega (arith, p)) m)

-- a label of at most n formulas is its own part below n
pub low_all : (L k n : ℕ) → L < 2 ^ k → k ≤ n → L ≡ L % 2 ^ n
low_all L k n lt le = sym (mod-eq_of_lt (lt_of_lt_of_le lt (pow_mono le)))
