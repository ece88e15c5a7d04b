-- The mask of the atoms that hold.
use Rattle.std.specs.Prelude.{Option}
use Rattle.std.proofs.Common.{◌≡◌, ℕ, ◌+◌, ◌^◌, ◌<◌, Bool, true, false, cond, Result, sym, refl, ap, ◌∙◌, subst, inl, inr, arith}
use lib.Bits.{bit_or}
use Rattle.std.proofs.lemmas.Bool.{cases_eq, both_ways, cond-true, and_from, lt-ltb}
use Rattle.std.specs.Result.{result_unwrap_or}
use Rattle.masks.specs.Masks.{including}
use Rattle.masks.proofs.Bits.{including_is}
use Rattle.refusal.specs.declared.Refusal.{Refusal}
use Rattle.theory.specs.Meaning.{Meaning, next_exists, unless_refused, answer}
use Rattle.judge.specs.Marks.{is_last}
use Rattle.tableau.specs.Labels.{◌∈◌, has}
use Rattle.tableau.proofs.Masks.{zero_has, has?}
use Rattle.viability.proofs.Bits.{in_with, in_or_left, with_has}
use Rattle.viability.specs.Moments.{Shows}
use Rattle.search.specs.Questions.{Shown, facts_at}

-- what is read of an atom that exists, at a code and before a next that do
pub fact_read : (m : Meaning) (a c : ℕ) (n : Option ℕ) → a < m.atoms → c < m.codes → next_exists m.codes n ≡ true
    → result_unwrap_or (answer m a c n) false ≡ m.fact a c n
fact_read m a c n atom code next =
    ap (λ (r : Result (Unit {0}) Refusal). result_unwrap_or (unless_refused r (m.fact a c n)) false)
    (cond-true _ _ _ (lt-ltb a m.atoms atom) ∙ cond-true _ _ _ (and_from _ _ (lt-ltb c m.codes code) next))

module _ (m : Meaning) (c : ℕ) (n : Option ℕ) where
  pub shown_none : Shown m c n 0 0
  shown_none a = ((λ i. absurd (zero_has a i)), (λ h. let less = h.0 in absurd (omega arith)))

  pub shown_with : (mask k more : ℕ) → Shown m c n mask k → m.fact k c n ≡ true → more ≡ bit_or mask (2 ^ k) → Shown m c n more (k + 1)
  shown_with mask k more s f e =
      subst (λ (x : ℕ). Shown m c n x (k + 1)) (sym e) (λ a. (
        (λ i. elim (in_with mask k a i) [
          | inl old ↦ (let h = (s a).0 old in let less = h.0 in (omega arith, h.1))
          | inr here ↦ (omega arith, ap (λ (x : ℕ). m.fact x c n) here ∙ f)
        ]),
        (λ h.
            let less = h.0 in
            elim (cases_eq a k) [
              | inl here ↦ subst (λ (x : ℕ). x ∈ bit_or mask (2 ^ k)) (sym here) (with_has mask k)
              | inr not-here ↦ in_or_left mask (2 ^ k) a ((s a).1 (omega arith, h.1))
            ]),
      ))

  pub shown_without : (mask k : ℕ) → Shown m c n mask k → m.fact k c n ≡ false → Shown m c n mask (k + 1)
  shown_without mask k s f a = (
    (λ i. let h = (s a).0 i in let less = h.0 in (omega arith, h.1)),
    (λ h.
        let less = h.0 in
        elim (cases_eq a k) [
          | inl here ↦ absurd (both_ways (m.fact k c n) f (ap (λ (x : ℕ). m.fact x c n) (sym here) ∙ h.1))
          | inr not-here ↦ (s a).1 (omega arith, h.1)
        ]),
  )

  -- the mask with one more atom, where it holds
  pub shown_next : (held : Bool) (mask k more : ℕ) → k < 64 → Shown m c n mask k → held ≡ m.fact k c n → more ≡ cond held (including mask k) mask
      → Shown m c n more (k + 1)
  shown_next true mask k more lt s f e = shown_with mask k more s (sym f) (e ∙ including_is mask k lt)
  shown_next false mask k more lt s f e = subst (λ (x : ℕ). Shown m c n x (k + 1)) (sym e) (shown_without mask k s (sym f))

  same_truth : (b t : Bool) → (b ≡ true → t ≡ true) → (t ≡ true → b ≡ true) → b ≡ t
  same_truth true t to from = sym (to refl)
  same_truth false true to from = from refl
  same_truth false false to from = refl

  -- the mask shows the facts
  pub shows : (mask k : ℕ) → Shown m c n mask k → Shows (facts_at m c n) k mask (is_last n)
  shows mask k s = record {
    facts = λ a lt.
        same_truth (m.fact a c n) (has mask a)
        (λ f. elim (has? mask a) [ inl p ↦ p.0 | inr p ↦ absurd (p.1 ((s a).1 (lt, f))) ])
        (λ h. elim (has? mask a) [ inl p ↦ ((s a).0 p.1).1 | inr p ↦ absurd (both_ways (has mask a) p.0 h) ]);
    end = refl;
  }
