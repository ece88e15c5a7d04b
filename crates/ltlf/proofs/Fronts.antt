-- The first entries of an array.
use Rattle.std.proofs.Common.{◌≡◌, ℕ, ◌<◌, ◌≤◌, true, false, cond, ltb, List, length, get_or, Ok, Err, sym, ap, ◌∙◌, arith}
use Rattle.intern.specs.Index.{items}
use Rattle.intern.specs.declared.cell.Cell.{Cell}
use Rattle.intern.proofs.Places.{length_items, items_at}
use Rattle.std.proofs.lemmas.List.{get_or_default}
use Rattle.std.proofs.lemmas.Bool.{cond-true}
use Rattle.std.proofs.lemmas.Bool.Decides.{nat_tests}

-- an item that was put, and one that was not
pub was_put : {X : Type 0} (cells : List (Cell X)) (n k : ℕ) → n ≤ length cells → k < n → ltb k (length (items cells n)) ≡ true
was_put cells n k fits h = let size = length_items cells n fits in grind (arith, nat_tests)

pub not_put : {X : Type 0} (cells : List (Cell X)) (n k : ℕ) → n ≤ length cells → n ≤ k → ltb k (length (items cells n)) ≡ false
not_put cells n k fits h = let size = length_items cells n fits in grind (arith, nat_tests)

pub item_at : {X : Type 0} (cells : List (Cell X)) (n k : ℕ) (e : Cell X) (d : X) → n ≤ length cells → k < n → get_or (items cells n) k d ≡ (get_or cells k e).item
item_at cells n k e d fits within =
    get_or_default (items cells n) k d e.item (omega (arith, length_items cells n fits)) ∙ items_at cells n fits k e within

-- the item that is read at a place among the first n
pub read_item : {X E : Type 0} (cells : List (Cell X)) (n k : ℕ) (c : Cell X) (d : X) (e : E) → n ≤ length cells → k < n
    → Ok (get_or cells k c).item ≡ cond (ltb k (length (items cells n))) (Ok (get_or (items cells n) k d)) (Err e)
read_item cells n k c d e fits within =
    ap (λ x. Ok x) (sym (item_at cells n k c d fits within)) ∙ sym (cond-true _ _ _ (was_put cells n k fits within))
