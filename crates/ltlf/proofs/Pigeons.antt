-- Different numbers below n are at most n.
use Rattle.std.proofs.Common.{◌≡◌, ℕ, zero, suc, ◌<◌, ◌≤◌, cond, eqb, sym, ◌∙◌, inl, inr, arith}
use Rattle.std.proofs.lemmas.Bool.{cases_eq, cond-true, cond-false, eq-eqb, ne_eqb}

-- the first m values of f differ
abbrev pub Differ : (m : ℕ) → (ℕ → ℕ) → Type 0
Differ m f = (i j : ℕ) → i < j → j < m → f i ≡ f j → ⊥

module _ (n m : ℕ) (f : ℕ → ℕ) (below : (i : ℕ) → i < suc m → f i < suc n) (differ : Differ (suc m) f) where
  -- f m takes the place of the value n
  moved : ℕ → ℕ
  moved i = cond (eqb (f i) n) (f m) (f i)

  moved_at : (i : ℕ) → f i ≡ n → moved i ≡ f m
  unfolding moved
  moved_at i e = cond-true _ _ _ (eq-eqb (f i) n e)

  moved_not : (i : ℕ) → (f i ≡ n → ⊥) → moved i ≡ f i
  unfolding moved
  moved_not i e = cond-false _ _ _ (ne_eqb (f i) n e)

  moved_below : (i : ℕ) → i < m → moved i < n
  moved_below i h = elim (cases_eq (f i) n) [
    | inl e ↦ (let ne : f m ≡ n → ⊥ = λ e'. differ i m h (omega arith) (e ∙ sym e') in omega (arith, below m (omega arith), moved_at i e, ne))
    | inr ne ↦ omega (arith, below i (omega arith), moved_not i ne, ne)
  ]

  moved_differ : Differ m moved
  moved_differ i j lt h e = elim (cases_eq (f i) n) [
    | inl p ↦ (elim (cases_eq (f j) n) [
      | inl q ↦ differ i j lt (omega arith) (p ∙ sym q)
      | inr q ↦ differ j m h (omega arith) (sym (moved_not j q) ∙ sym e ∙ moved_at i p)
    ])
    | inr p ↦ (elim (cases_eq (f j) n) [
      | inl q ↦ differ i m (omega arith) (omega arith) (sym (moved_not i p) ∙ e ∙ moved_at j q)
      | inr q ↦ differ i j lt (omega arith) (sym (moved_not i p) ∙ e ∙ moved_not j q)
    ])
  ]

pub pigeons : (n m : ℕ) (f : ℕ → ℕ) → ((i : ℕ) → i < m → f i < n) → Differ m f → m ≤ n
pigeons n zero f below differ = omega arith
pigeons zero (suc m) f below differ = absurd (omega (arith, below 0 (omega arith)))
pigeons (suc n) (suc m) f below differ =
    let fewer = pigeons n m (moved n m f below differ) (moved_below n m f below differ) (moved_differ n m f below differ) in omega arith
