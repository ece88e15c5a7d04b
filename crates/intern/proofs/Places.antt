-- The place of the first record that equals another.
use Rattle.std.proofs.Common.{◌≡◌, ℕ, zero, suc, ◌<◌, ◌≤◌, Bool, true, false, cond, List, [], ◌∷◌, map, length, get_or, take, Some, None, Option, refl, ap, ◌∙◌, ap₂, arith}
use Rattle.std.proofs.lemmas.List.{get_or-map, get_or-take, length-map, length-take-le}
use Rattle.std.proofs.lemmas.Bool.{cond-true, cond-false}
use Rattle.intern.specs.declared.cell.Cell.{Cell}
use Rattle.intern.specs.Index.{items, further, place}

module _ {R : Type 0} (alike : R → R → Bool) (r e : R) where
  pub place_at : (xs : List R) (k : ℕ) → k < length xs → alike (get_or xs k e) r ≡ true
      → ((j : ℕ) → j < k → alike (get_or xs j e) r ≡ false) → place alike r xs ≡ Some k
  place_at [] k lt here before = absurd (omega arith)
  place_at (x ∷ xs) zero lt here before = cond-true _ _ _ here
  place_at (x ∷ xs) (suc k) lt here before =
      cond-false _ _ _ (before 0 (omega arith))
      ∙ ap further (place_at xs k (omega arith) here (λ j below. before (suc j) (omega arith)))

  pub place_none : (xs : List R) → ((j : ℕ) → j < length xs → alike (get_or xs j e) r ≡ false) → place alike r xs ≡ None
  place_none [] no_item = refl
  place_none (x ∷ xs) no_item =
      cond-false _ _ _ (no_item 0 (omega arith)) ∙ ap further (place_none xs (λ j below. no_item (suc j) (omega arith)))

module _ {R : Type 0} (cells : List (Cell R)) (n : ℕ) (len : n ≤ length cells) where
  pub length_items : length (items cells n) ≡ n
  length_items = length-map (take n cells) (λ c. c.item) ∙ length-take-le n cells len

  pub items_at : (k : ℕ) (e : Cell R) → k < n → get_or (items cells n) k e.item ≡ (get_or cells k e).item
  items_at k e lt =
      get_or-map (λ c. c.item) (take n cells) k e e.item (omega (arith, length-take-le n cells len))
      ∙ ap (λ (c : Cell R). c.item) (get_or-take n cells k e lt)

-- the place among the values of a function that carries one test over to another
pub place_map : {R S : Type 0} (alike : R → R → Bool) (same : S → S → Bool) (f : R → S) → ((x y : R) → alike x y ≡ same (f x) (f y))
    → (r : R) (xs : List R) → place alike r xs ≡ place same (f r) (map f xs)
place_map alike same f carry r [] = refl
place_map alike same f carry r (x ∷ xs) =
    ap₂ (λ (b : Bool) (o : Option ℕ). cond b (Some 0) (further o)) (carry x r) (place_map alike same f carry r xs)
