-- The walk for a record, from cell to cell along the turns of its key.
use Rattle.std.specs.Prelude.{ℕ, zero, suc, Bool, cond, ◌&&◌, List, length, get_or, Some, None, Ok, Err, Option, Result, nat_le, nat_lt, slice_index_or}
use Rattle.intern.specs.declared.cell.Cell.{Cell}
use Rattle.intern.specs.declared.descent.End.{End}
use Rattle.intern.specs.declared.descent.End.TheVariants.{Here, Gap}
use Rattle.intern.specs.declared.EntryError.{EntryError}
use Rattle.intern.specs.declared.EntryError.TheVariants.{Broken}
use Rattle.intern.specs.Links.{leaf, child_of}

-- where a walk ends, or that it breaks off
abbrev pub Walked : Type 0
Walked = Result End EntryError

-- the walk goes on along a link to a later cell among the first n, ends at a missing link, and breaks off at any other
abbrev pub onward : (n at : ℕ) (side : Bool) → (ℕ → Walked) → Option ℕ → Walked
onward n at side rest (Some to) = cond (nat_lt at to && nat_lt to n) (rest to) (Err Broken)
onward n at side rest None = Ok (Gap at side)

-- the walk for r from a cell at a depth, over at most `fuel` cells: it ends where the item equals r
abbrev pub walk : {R : Type 0} → (R → R → Bool) → (R → ℕ → Bool) → List (Cell R) → (n : ℕ) → R → (fuel at depth : ℕ) → Walked
walk alike turns cells n r zero at depth = Err Broken
walk alike turns cells n r (suc fuel) at depth =
    cond (alike (get_or cells at (leaf r)).item r)
    (Ok (Here at))
    (onward n at (turns r depth) (λ to. walk alike turns cells n r fuel to (suc depth)) (child_of (slice_index_or cells at (leaf r)) (turns r depth)))

-- where the walk for r from cell 0 ends; it breaks off at once where n is past the cells
abbrev pub reached : {R : Type 0} → (R → R → Bool) → (R → ℕ → Bool) → List (Cell R) → (n : ℕ) → R → Walked
reached alike turns cells n r = cond (nat_le n (length cells)) (walk alike turns cells n r n 0 0) (Err Broken)

-- the cell where the record was found
abbrev pub found_at : End → Option ℕ
found_at (Here k) = Some k
found_at (Gap at side) = None

-- the cell where a walk found the record
abbrev pub walked_to : Walked → Option ℕ
walked_to (Ok e) = found_at e
walked_to (Err e) = None

-- the number of the cell where the walk finds r
abbrev pub lookup : {R : Type 0} → (R → R → Bool) → (R → ℕ → Bool) → List (Cell R) → (n : ℕ) → R → Option ℕ
lookup alike turns cells n r = walked_to (reached alike turns cells n r)
