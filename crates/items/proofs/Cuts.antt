-- A text, cut into its first line and the rest.
use Rattle.std.proofs.Common.{◌≡◌, ℕ, suc, ◌+◌, ◌<◌, eqb, List, [], ◌∷◌, length, take, drop, sym, refl, ap, ◌∙◌, ⊎_elim, arith}
use Rattle.std.proofs.lemmas.Bool.{cond-true, cond-false, cases_Bool}
use Rattle.items.specs.Lines.{line_length, lines_of, onto}

-- a first byte that ends no line stands before the first line of the rest
onto_cut : (b : ℕ) (bs : List ℕ) → (0 < length bs → lines_of bs ≡ take (line_length bs) bs ∷ lines_of (drop (line_length bs + 1) bs)) → onto b (lines_of bs) ≡ (b ∷ take (line_length bs) bs) ∷ lines_of (drop (line_length bs + 1) bs)
onto_cut b [] cut = refl
onto_cut b (x ∷ bs) cut = ap (onto b) (cut (omega arith))

-- the lines of a text are its first line and the lines of the rest
pub lines_cut : (text : List ℕ) → 0 < length text → lines_of text ≡ take (line_length text) text ∷ lines_of (drop (line_length text + 1) text)
lines_cut [] some = absurd (omega arith)
lines_cut (b ∷ bs) some =
    let more = onto_cut b bs (lines_cut bs) in
    let step : suc (line_length bs) + 1 ≡ suc (line_length bs + 1) = omega arith in
    ⊎_elim
    (λ is. cond-true _ _ _ is ∙ ap (λ n. take n (b ∷ bs) ∷ lines_of (drop (n + 1) (b ∷ bs))) (sym (cond-true _ _ _ is)))
    (λ is. cond-false _ _ _ is ∙ more ∙ ap (λ k. (b ∷ take (line_length bs) bs) ∷ lines_of (drop k (b ∷ bs))) (sym step) ∙ ap (λ n. take n (b ∷ bs) ∷ lines_of (drop (n + 1) (b ∷ bs))) (sym (cond-false _ _ _ is)))
    (cases_Bool (eqb b 10))
