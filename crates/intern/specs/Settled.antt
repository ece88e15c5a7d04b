-- What finding a record or adding it does to indexed cells.
use Rattle.std.specs.Prelude.{◌≡◌, ℕ, ◌+◌, Bool, List, [], ◌∷◌, ◌++◌, length, drop, Some, None, Ok, Err, Option, Result}
use Rattle.intern.specs.declared.cell.Cell.{Cell}
use Rattle.intern.specs.declared.EntryError.{EntryError}
use Rattle.intern.specs.declared.Slot.{Slot}
use Rattle.intern.specs.declared.Slot.TheVariants.{Found, Added}
use Rattle.intern.specs.Entry.{new_slot}
use Rattle.intern.specs.Index.{Indexed, items, place}

-- the slot of a record by its place among the first n of len cells
abbrev pub slot_of : Option ℕ → (n len : ℕ) → Result Slot EntryError
slot_of (Some k) n len = Ok (Found k)
slot_of None n len = new_slot n len

-- how many cells are filled afterwards
abbrev pub count_after : Result Slot EntryError → ℕ → ℕ
count_after (Ok (Found k)) n = n
count_after (Ok (Added k)) n = n + 1
count_after (Err e) n = n

-- the items afterwards
abbrev pub items_after : {R : Type 0} → Result Slot EntryError → R → List R → List R
items_after (Ok (Found k)) r xs = xs
items_after (Ok (Added k)) r xs = xs ++ r ∷ []
items_after (Err e) r xs = xs

-- the cells are unchanged but for an added record
abbrev pub Kept : {R : Type 0} → Result Slot EntryError → (cells after : List (Cell R)) → Type 0
Kept (Ok (Found k)) cells after = after ≡ cells
Kept (Ok (Added k)) cells after = Unit {0}
Kept (Err e) cells after = after ≡ cells

-- Indexed cells stay indexed; the record's slot is the place of the first item that equals it, or a new one;
-- the items are as before but for a record added at the end, and so are the cells past the filled ones.
pub record Settled {R : Type 0} (alike : R → R → Bool) (turns : R → ℕ → Bool) (cells : List (Cell R)) (n : ℕ) (r : R) (s : Result Slot EntryError) (after : List (Cell R)) : Type 0 where
  pub slot_is : s ≡ slot_of (place alike r (items cells n)) n (length cells)
  pub items_are : items after (count_after s n) ≡ items_after s r (items cells n)
  pub indexed : Indexed alike turns after (count_after s n)
  pub same_length : length after ≡ length cells
  pub kept : Kept s cells after
  pub rest_kept : drop (count_after s n) after ≡ drop (count_after s n) cells
