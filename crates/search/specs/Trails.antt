-- The codes of the rows that led to a row.
use Rattle.std.specs.Prelude.{ℕ, zero, suc, ◌<◌, List, [], ◌∷◌, ◌++◌, length, slice_index_or}
use Rattle.intern.specs.declared.cell.Cell.{Cell}
use Rattle.intern.specs.Links.{leaf}
use Rattle.search.specs.declared.row.Row.{Row}

-- the row from which a step led to r
abbrev pub came_from : List (Cell Row) → Row → Row
came_from xs r = (slice_index_or xs r.from (leaf r)).item

-- the codes of the n rows that led to r one after another, and its own
abbrev pub trail : List (Cell Row) → (n : ℕ) → Row → List ℕ
trail xs zero r = r.code ∷ []
trail xs (suc n) r = trail xs n (came_from xs r) ++ r.code ∷ []

-- the n rows that led to r are there
abbrev pub Backed : List (Cell Row) → (n : ℕ) → Row → Type 0
Backed xs zero r = Unit {0}
Backed xs (suc n) r = (r.from < length xs) × Backed xs n (came_from xs r)
