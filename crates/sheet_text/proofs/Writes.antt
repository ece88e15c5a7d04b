-- A turn of the loop that writes the codes of notes into the visit list: `lines` are left.
use Rattle.std.proofs.Common.{◌≡◌, ℕ, ◌+◌, ◌<◌, ◌≤◌, List, [], ◌∷◌, ◌++◌, map, length, get_or, take, drop, set, Option, sym, refl, ap, ◌∙◌, arith}
use Rattle.std.proofs.lemmas.List.{append_assoc, append-nil, set-get_or, take-append-drop, take_all, drop_all, take_more_set, drop-set-lt, drop_more}
use Rattle.sheet_text.specs.Notes.{code_or_zero, codes_of, over}

over_none : (codes : List ℕ) → over codes [] ≡ []
over_none [] = refl
over_none (c ∷ cs) = refl

-- the visit list, once the lines that are left are written from entry i on
abbrev pub written : (note : List ℕ → Option ℕ) (visits : List ℕ) (i : ℕ) (lines : List (ℕ × List ℕ)) → List ℕ
written note visits i lines = take i visits ++ over (codes_of note (map (λ p. p.1) lines)) (drop i visits)

module _ (note : List ℕ → Option ℕ) (visits goal : List ℕ) (i : ℕ) (lines : List (ℕ × List ℕ)) (so : written note visits i lines ≡ goal) where
  -- no line is left
  pub no_line : lines ≡ [] → set visits i (get_or visits i 0) ≡ goal
  no_line none = set-get_or visits i 0 ∙ sym (take-append-drop i visits) ∙ ap (written note visits i) (sym none) ∙ so

  -- no entry is left
  pub no_entry : length visits ≤ i → visits ≡ goal
  no_entry past =
      sym (take_all i visits past) ∙ sym (append-nil (take i visits))
      ∙ ap (λ l. take i visits ++ l) (sym (over_none (codes_of note (map (λ p. p.1) lines))))
      ∙ ap (λ l. take i visits ++ over (codes_of note (map (λ p. p.1) lines)) l) (sym (drop_all i visits past)) ∙ so

  pub one_written : (place : ℕ) (line : List ℕ) (left : List (ℕ × List ℕ)) (code : ℕ) → i < length visits → lines ≡ (place, line) ∷ left → code ≡ code_or_zero (note line)
      → written note (set visits i code) (i + 1) left ≡ goal
  one_written place line left code room cut is =
      let codes : List ℕ = codes_of note (map (λ p. p.1) left) in
      (λ k. take_more_set visits i code room k ++ over codes (drop-set-lt (i + 1) visits i code (omega arith) k)) ∙
      append_assoc (take i visits) (code ∷ []) (over codes (drop (i + 1) visits)) ∙
      ap (λ c. take i visits ++ (c ∷ over codes (drop (i + 1) visits))) is ∙
      ap (λ l. take i visits ++ over (code_or_zero (note line) ∷ codes) l) (sym (drop_more visits i 0 room)) ∙
      ap (written note visits i) (sym cut) ∙ so
