-- The links of a cell.
use Rattle.std.specs.Prelude.{ℕ, Bool, true, false, Some, None, Option}
use Rattle.intern.specs.declared.cell.Cell.{Cell}

-- a cell with no links
abbrev pub leaf : {R : Type 0} → R → Cell R
leaf r = record { item = r; left = None; right = None }

-- the link on one side; `true` is the right side
abbrev pub child_of : {R : Type 0} → Cell R → Bool → Option ℕ
child_of c true = c.right
child_of c false = c.left

-- the cell with its link on one side set
abbrev pub linked : {R : Type 0} → Cell R → Bool → ℕ → Cell R
linked c true to = record { item = c.item; left = c.left; right = Some to }
linked c false to = record { item = c.item; left = Some to; right = c.right }
