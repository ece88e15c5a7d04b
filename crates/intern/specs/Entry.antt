-- What the calls answer, and what is in the cells afterwards, whatever the cells hold.
use Rattle.std.specs.Prelude.{ℕ, ◌^◌, Bool, cond, ◌&&◌, List, length, Ok, Err, Result, ◌==◌, nat_lt, slice_index_or, slice_set}
use Rattle.intern.specs.declared.cell.Cell.{Cell}
use Rattle.intern.specs.declared.descent.End.TheVariants as ends
use Rattle.intern.specs.declared.EntryError.{EntryError}
use Rattle.intern.specs.declared.EntryError.TheVariants.{Full}
use Rattle.intern.specs.declared.Slot.{Slot}
use Rattle.intern.specs.declared.Slot.TheVariants as slot
use Rattle.intern.specs.Links.{leaf, linked}
use Rattle.intern.specs.Walk.{Walked, reached}

-- there is a cell n, and its number fits a link
abbrev pub room : (n len : ℕ) → Bool
room n len = nat_lt n len && nat_lt n (2 ^ 32)

-- the slot of a new record
abbrev pub new_slot : (n len : ℕ) → Result Slot EntryError
new_slot n len = cond (room n len) (Ok (slot.Added n)) (Err Full)

-- r in the new cell n, linked from the cell where its walk ended
abbrev pub hung : {R : Type 0} → List (Cell R) → (n : ℕ) → R → (at : ℕ) → Bool → List (Cell R)
hung cells n r at side = slice_set (slice_set cells n (leaf r)) at (linked (slice_index_or cells at (leaf r)) side n)

-- r in the new cell n, with no link to it, where there is room
abbrev pub with_first : {R : Type 0} → List (Cell R) → (n : ℕ) → R → List (Cell R)
with_first cells n r = cond (room n (length cells)) (slice_set cells n (leaf r)) cells

-- r in the new cell n, linked from a cell, where there is room
abbrev pub with_hung : {R : Type 0} → List (Cell R) → (n : ℕ) → R → (at : ℕ) → Bool → List (Cell R)
with_hung cells n r at side = cond (room n (length cells)) (hung cells n r at side) cells

-- the slot by where the walk ended
abbrev pub slot_at : (n len : ℕ) → Walked → Result Slot EntryError
slot_at n len (Ok (ends.Here k)) = Ok (slot.Found k)
slot_at n len (Ok (ends.Gap at side)) = new_slot n len
slot_at n len (Err e) = Err e

-- the cells by where the walk ended
abbrev pub cells_at : {R : Type 0} → List (Cell R) → (n : ℕ) → R → Walked → List (Cell R)
cells_at cells n r (Ok (ends.Here k)) = cells
cells_at cells n r (Ok (ends.Gap at side)) = with_hung cells n r at side
cells_at cells n r (Err e) = cells

-- what `find_or_add` answers: the first record goes into cell 0 with no walk
abbrev pub slot_answer : {R : Type 0} → (R → R → Bool) → (R → ℕ → Bool) → List (Cell R) → (n : ℕ) → R → Result Slot EntryError
slot_answer alike turns cells n r =
    cond (n == 0) (new_slot n (length cells)) (slot_at n (length cells) (reached alike turns cells n r))

-- what `find_or_add` leaves in the cells
abbrev pub cells_after : {R : Type 0} → (R → R → Bool) → (R → ℕ → Bool) → List (Cell R) → (n : ℕ) → R → List (Cell R)
cells_after alike turns cells n r =
    cond (n == 0) (with_first cells n r) (cells_at cells n r (reached alike turns cells n r))
