-- Until and release from one visit to the next.
use Rattle.std.proofs.Common.{◌≡◌, ℕ, suc, ◌<◌, ◌≤◌, ◌⊎◌, List, length, sym, subst, inl, inr, le_refl, eq-or-lt_of_le, arith}
use Rattle.theory.specs.Meaning.{Meaning}
use Rattle.judge.specs.Formulas.{Formula, until, release}
use Rattle.judge.specs.Holding.{Holds}

module _ (m : Meaning) (σ : List ℕ) (α β : Formula) where
  pub until_now : (i : ℕ) → i < length σ → Holds m σ i β → Holds m σ i (until α β)
  until_now i h hb = (i, le_refl i, h, hb, λ k p r. absurd (omega arith))

  pub until_later : (i : ℕ) → Holds m σ i α → Holds m σ (suc i) (until α β) → Holds m σ i (until α β)
  until_later i ha u = (u.0, omega (arith, u.1), u.2, u.3, from)
    where
      from : (k : ℕ) → i ≤ k → k < u.0 → Holds m σ k α
      from k p r = elim (eq-or-lt_of_le p) [ inl e ↦ subst (λ (n : ℕ). Holds m σ n α) e ha | inr q ↦ u.4 k q r ]

  pub until_split : (i : ℕ) → Holds m σ i (until α β) → Holds m σ i β ⊎ (Holds m σ i α × ((suc i < length σ) × Holds m σ (suc i) (until α β)))
  until_split i u = elim (eq-or-lt_of_le u.1) [
    | inl e ↦ inl (subst (λ (n : ℕ). Holds m σ n β) (sym e) u.3)
    | inr q ↦ inr (u.4 i (le_refl i) q, (omega (arith, u.2), (u.0, q, u.2, u.3, λ k p r. u.4 k (omega arith) r)))
  ]

  pub release_now : (i : ℕ) → i < length σ → Holds m σ i α → Holds m σ i β → Holds m σ i (release α β)
  release_now i h ha hb = inr (i, le_refl i, h, ha, λ j p r. let e : i ≡ j = omega arith in subst (λ (n : ℕ). Holds m σ n β) e hb)

  pub release_later : (i : ℕ) → Holds m σ i β → (suc i ≡ length σ) ⊎ Holds m σ (suc i) (release α β) → Holds m σ i (release α β)
  release_later i hb (inl e) = inl (λ k p r. let e' : i ≡ k = omega arith in subst (λ (n : ℕ). Holds m σ n β) e' hb)
  release_later i hb (inr (inl f)) = inl from
    where
      from : (k : ℕ) → i ≤ k → k < length σ → Holds m σ k β
      from k p r = elim (eq-or-lt_of_le p) [ inl e ↦ subst (λ (n : ℕ). Holds m σ n β) e hb | inr q ↦ f k q r ]
  release_later i hb (inr (inr u)) = inr (u.0, omega (arith, u.1), u.2, u.3, from)
    where
      from : (j : ℕ) → i ≤ j → j ≤ u.0 → Holds m σ j β
      from j p r = elim (eq-or-lt_of_le p) [ inl e ↦ subst (λ (n : ℕ). Holds m σ n β) e hb | inr q ↦ u.4 j q r ]

  pub release_holds : (i : ℕ) → i < length σ → Holds m σ i (release α β) → Holds m σ i β
  release_holds i h (inl f) = f i (le_refl i) h
  release_holds i h (inr u) = u.4 i (le_refl i) u.1

  pub release_split : (i : ℕ) → Holds m σ i (release α β) → Holds m σ i α ⊎ Holds m σ (suc i) (release α β)
  release_split i (inl f) = inr (inl (λ k p r. f k (omega arith) r))
  release_split i (inr u) = elim (eq-or-lt_of_le u.1) [
    | inl e ↦ inl (subst (λ (n : ℕ). Holds m σ n α) (sym e) u.3)
    | inr q ↦ inr (inr (u.0, q, u.2, u.3, λ j p r. u.4 j (omega arith) r))
  ]
