-- The label of the rules, rule by rule.
use Rattle.std.proofs.Common.{◌≡◌, ℕ, zero, suc, ◌+◌, ◌^◌, ◌<◌, ◌≤◌, ◌↔◌, List, [], ◌∷◌, length, get_or, sym, ap, ◌∙◌, subst, inl, inr, arith}
use lib.Bits.{bit_or}
use Rattle.std.proofs.lemmas.Bool.{cases_eq}
use Rattle.judge.specs.Formulas.{Among}
use Rattle.tableau.specs.Labels.{◌∈◌}
use Rattle.tableau.proofs.Masks.{zero_has}
use Rattle.viability.proofs.Bits.{in_with, in_or_left, with_has}

-- the label has the first k rules
abbrev pub HasFirst : (rules : List ℕ) (label k : ℕ) → Type 0
HasFirst rules label k = (f : ℕ) → (f ∈ label) ↔ ((i : ℕ) × (i < k) × (get_or rules i 0 ≡ f))

module _ (rules : List ℕ) where
  pub first_none : HasFirst rules 0 0
  first_none f = ((λ i. absurd (zero_has f i)), (λ h. absurd (omega (arith, h.1))))

  pub first_more : (label k rule more : ℕ) → HasFirst rules label k → rule ≡ get_or rules k 0 → more ≡ bit_or label (2 ^ rule) → HasFirst rules more (k + 1)
  first_more label k rule more s is e =
      subst (λ (x : ℕ). HasFirst rules x (k + 1)) (sym e) (λ f. (
        (λ i. elim (in_with label rule f i) [
          | inl old ↦ (let h = (s f).0 old in (h.0, omega (arith, h.1), h.2))
          | inr here ↦ (k, omega arith, sym is ∙ sym here)
        ]),
        (λ h.
            elim (cases_eq h.0 k) [
              | inl here ↦
                  subst (λ (x : ℕ). x ∈ bit_or label (2 ^ rule)) (is ∙ ap (λ (i : ℕ). get_or rules i 0) (sym here) ∙ h.2) (with_has label rule)
              | inr not-here ↦ in_or_left label (2 ^ rule) f ((s f).1 (h.0, omega (arith, h.1, not-here), h.2))
            ]),
      ))

among_at : (rules : List ℕ) (f : ℕ) → Among f rules → (i : ℕ) × (i < length rules) × (get_or rules i 0 ≡ f)
among_at [] f a = absurd a
among_at (g ∷ gs) f (inl e) = (0, omega arith, sym e)
among_at (g ∷ gs) f (inr a) = let r = among_at gs f a in (suc r.0, omega (arith, r.1), r.2)

at_among : (rules : List ℕ) (f i : ℕ) → i < length rules → get_or rules i 0 ≡ f → Among f rules
at_among [] f i lt e = absurd (omega arith)
at_among (g ∷ gs) f zero lt e = inl (sym e)
at_among (g ∷ gs) f (suc i) lt e = inr (at_among gs f i (omega arith) e)

pub first_all : (rules : List ℕ) (label k : ℕ) → length rules ≤ k → k ≤ length rules → HasFirst rules label k → (f : ℕ) → (f ∈ label) ↔ Among f rules
first_all rules label k hi lo s f = (
  (λ i. let h = (s f).0 i in at_among rules f h.0 (omega (arith, h.1)) h.2),
  (λ a. let h = among_at rules f a in (s f).1 (h.0, omega (arith, h.1), h.2)),
)
