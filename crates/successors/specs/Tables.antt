-- A table of states whose labels have all been entered.
use Rattle.std.specs.Prelude.{◌≡◌, ℕ, ◌<◌, ◌⊎◌, List, length, Some, None, Option, slice_index_or, slice_set}
use Rattle.ltlf.specs.Contents.{Contents}
use Rattle.intern.specs.declared.cell.Cell.{Cell}
use Rattle.tableau.specs.Labels.{Label}
use Rattle.tableau.specs.Positions.{In}
use Rattle.viability.specs.Moments.{Moment}
use Rattle.successors.specs.declared.label.NextLabel.{NextLabel}
use Rattle.successors.specs.declared.table.State.{State}
use Rattle.successors.specs.Cells.{labels}
use Rattle.successors.specs.Handing.{Hands}

-- a state stands in the table
abbrev pub Stands : List (Option State) → State → Type 0
Stands ts s = (j : ℕ) × (j < length ts) × ((d : Option State) → slice_index_or ts j d ≡ Some s)

-- it was put into the table at some place, or the table stays
abbrev pub Puts : (before after : List (Option State)) → State → Type 0
Puts ts us s = (us ≡ ts) ⊎ ((j : ℕ) × (us ≡ slice_set ts j (Some s)))

-- all that the state at a place hands on stands in the first n cells
abbrev pub Done : Moment → Contents → List (Cell NextLabel) → (n : ℕ) → Option State → Type 0
Done w b cells n (Some s) = (q : Label) → Hands w b s.members s.next q → In q (labels cells n)
Done w b cells n None = Unit {0}

-- every state in the table is done
abbrev pub Kept : Moment → Contents → List (Option State) → List (Cell NextLabel) → (n : ℕ) → Type 0
Kept w b ts cells n = (j : ℕ) (d : Option State) → j < length ts → Done w b cells n (slice_index_or ts j d)

-- the same, unless the cells are full
abbrev pub Keeps : Moment → Contents → List (Option State) → List (Cell NextLabel) → Option ℕ → Type 0
Keeps w b ts cells (Some m) = Kept w b ts cells m
Keeps w b ts cells None = Unit {0}
