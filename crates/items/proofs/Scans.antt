-- Where lines end, and what follows a word.
use Rattle.std.proofs.Common.{◌≡◌, ◌≢◌, ℕ, zero, suc, ◌+◌, ◌<◌, cond, eqb, List, [], ◌∷◌, ◌++◌, length, get_or, Some, None, Option, sym, refl, ap, ◌∙◌, ⊎_elim, arith}
use Rattle.std.specs.Borrow.{Bor}
use Rattle.std.specs.Option.{MatchOption}
use Rattle.std.proofs.lemmas.Bool.{cond-true, cond-false, cases_Bool, eq-eqb, ne_eqb, eqb-true}
use Rattle.items.specs.Lines.{text_seen, behind, line_length, start_from}

-- the first line end, by its place
pub first_end : (text : List ℕ) (i : ℕ) → i < length text → get_or text i 0 ≡ 10 → ((k : ℕ) → k < i → get_or text k 0 ≢ 10) → line_length text ≡ i
first_end [] i inside here before = absurd (omega arith)
first_end (b ∷ bs) zero inside here before = cond-true _ _ _ (eq-eqb b 10 here)
first_end (b ∷ bs) (suc i) inside here before =
    cond-false _ _ _ (ne_eqb b 10 (before 0 (omega arith))) ∙ ap suc (first_end bs i (omega arith) here (λ k below. before (suc k) (omega arith)))

pub no_end : (text : List ℕ) → ((k : ℕ) → k < length text → get_or text k 0 ≢ 10) → line_length text ≡ length text
no_end [] none = refl
no_end (b ∷ bs) none = cond-false _ _ _ (ne_eqb b 10 (none 0 (omega arith))) ∙ ap suc (no_end bs (λ k below. none (suc k) (omega arith)))

-- the last line end, by its place
pub start_kept : (i s : ℕ) (text : List ℕ) → ((k : ℕ) → k < length text → get_or text k 0 ≢ 10) → start_from i s text ≡ s
start_kept i s [] none = refl
start_kept i s (b ∷ bs) none =
    ap (λ s. start_from (i + 1) s bs) (cond-false _ _ _ (ne_eqb b 10 (none 0 (omega arith)))) ∙ start_kept (i + 1) s bs (λ k below. none (suc k) (omega arith))

pub start_after : (i s : ℕ) (text : List ℕ) (end : ℕ) → end < length text → get_or text end 0 ≡ 10 → ((k : ℕ) → end < k → k < length text → get_or text k 0 ≢ 10) → start_from i s text ≡ i + end + 1
start_after i s [] end inside here after = absurd (omega arith)
start_after i s (b ∷ bs) zero inside here after =
    let kept = start_kept (i + 1) (cond (eqb b 10) (i + 1) s) bs (λ k below. after (suc k) (omega arith) (omega arith)) in
    let next = cond-true (eqb b 10) (i + 1) s (eq-eqb b 10 here) in
    omega (arith, kept, next)
start_after i s (b ∷ bs) (suc end) inside here after =
    let later = start_after (i + 1) (cond (eqb b 10) (i + 1) s) bs end (omega arith) here (λ k past below. after (suc k) (omega arith) (omega arith)) in
    omega (arith, later)

-- what follows a word, where the text begins with it
begun : (word rest : List ℕ) → behind word (word ++ rest) ≡ Some rest
begun [] rest = refl
begun (w ∷ ws) rest = cond-true _ _ _ (eq-eqb w w refl) ∙ begun ws rest

not_begun : (word text : List ℕ) → ((rest : List ℕ) → text ≢ word ++ rest) → None ≡ behind word text
not_begun [] text other = absurd (other text refl)
not_begun (w ∷ ws) [] other = refl
not_begun (w ∷ ws) (b ∷ bs) other =
    ⊎_elim
    (λ is. not_begun ws bs (λ rest e. other rest (λ i. eqb-true b w is i ∷ e i)) ∙ sym (cond-true _ _ _ is))
    (λ is. sym (cond-false _ _ _ is))
    (cases_Bool (eqb b w))

pub stripped : (word text : List ℕ) (r : Option (Bor (List ℕ))) → MatchOption r ((rest : List ℕ) → text ≢ word ++ rest) (λ x. text ≡ word ++ x.now) → text_seen r ≡ behind word text
stripped word text None other = not_begun word text other
stripped word text (Some rest) is = sym (ap (behind word) is ∙ begun word rest.now)
