-- A turn of the loop over the terms of a sum.
use Rattle.std.proofs.Common.{◌≡◌, ℕ, suc, ◌+◌, ◌-◌, ◌<◌, List, [], ◌∷◌, ◌++◌, length, Some, None, Option, sym, refl, ap, ◌∙◌, arith}
use Rattle.std.proofs.lemmas.List.{append_assoc}
use Rattle.items.specs.Lines.{behind}
use Rattle.numbers.specs.declared.term.Term.{Term}
use Rattle.numbers.specs.Values.{VariableModel}
use Rattle.number_text.specs.Sums.{TermReading, TermsReading, term_read, terms_read, term_before, after_plus, and_more}

-- terms in front of others
abbrev pub joined : List Term → TermsReading → TermsReading
joined ts None = None
joined ts (Some r) = Some (ts ++ r.0, r.1)

-- one term more in front
shifted : (ts : List Term) (t : Term) (r : TermsReading) → joined ts (term_before t r) ≡ joined (ts ++ t ∷ []) r
shifted ts t None = refl
shifted ts t (Some r) = ap (λ l. Some (l, r.1)) (sym (append_assoc ts (t ∷ []) r.0))

module _ (vs : List VariableModel) (terms : List Term) (rest : List ℕ) (goal : TermsReading) (so : joined terms (terms_read vs (4 - length terms) rest) ≡ goal) (room : length terms < 4) where
  opened : joined terms (and_more (term_read vs rest) (terms_read vs (4 - (length terms + 1)))) ≡ goal
  opened = let more : suc (4 - (length terms + 1)) ≡ 4 - length terms = omega arith in ap (λ n. joined terms (terms_read vs n rest)) more ∙ so

  pub no_term : None ≡ term_read vs rest → None ≡ goal
  no_term none = ap (λ (o : TermReading). joined terms (and_more o (terms_read vs (4 - (length terms + 1))))) none ∙ opened

  module _ (t : Term) (left : List ℕ) (some : Some (t, left) ≡ term_read vs rest) where
    with_term : joined terms (after_plus t left (behind (43 ∷ []) left) (terms_read vs (4 - (length terms + 1)))) ≡ goal
    with_term = ap (λ (o : TermReading). joined terms (and_more o (terms_read vs (4 - (length terms + 1))))) some ∙ opened

    pub last_term : None ≡ behind (43 ∷ []) left → Some (terms ++ t ∷ [], left) ≡ goal
    last_term none = ap (λ (o : Option (List ℕ)). joined terms (after_plus t left o (terms_read vs (4 - (length terms + 1))))) none ∙ with_term

    pub more_terms : (after : List ℕ) → Some after ≡ behind (43 ∷ []) left → joined (terms ++ t ∷ []) (terms_read vs (4 - (length terms + 1)) after) ≡ goal
    more_terms after plus =
        sym (shifted terms t (terms_read vs (4 - (length terms + 1)) after)) ∙ ap (λ (o : Option (List ℕ)). joined terms (after_plus t left o (terms_read vs (4 - (length terms + 1))))) plus ∙ with_term
