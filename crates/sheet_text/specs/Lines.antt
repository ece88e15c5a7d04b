-- A section of a sheet, read line by line.
use Rattle.std.specs.Prelude.{ℕ, ◌+◌, List, [], ◌∷◌, length, drop, Some, None, Ok, Err, Option, Result}
use Rattle.std.specs.Borrow.{Bor}
use Rattle.items.specs.Lines.{lines_of}
use Rattle.sheet_text.specs.declared.lines.Lines.{Lines}

-- lines, the first of which stands at a place, each with its own place
abbrev pub placed : (place : ℕ) → List (List ℕ) → List (ℕ × List ℕ)
placed place [] = []
placed place (l ∷ ls) = (place, l) ∷ placed (place + length l + 1) ls

-- a line that is read, with its place
abbrev pub placed_line : ℕ × Bor (List ℕ) → ℕ × List ℕ
placed_line l = (l.0, l.1.now)

-- the lines that are left
abbrev pub lines_left : Lines → List (ℕ × List ℕ)
lines_left s = placed s.next (lines_of (drop s.next s.text.now))

-- a line that is right leads on; a wrong one ends the reading at its place
abbrev pub go_on : {S : Type 0} → (place : ℕ) → Option S → (S → Result S ℕ) → Result S ℕ
go_on place None f = Err place
go_on place (Some s) f = f s

-- placed lines are read one after the other: what the last leaves, or the place of the first wrong line
abbrev pub placed_read : {S : Type 0} → (read : S → List ℕ → Option S) → List (ℕ × List ℕ) → S → Result S ℕ
placed_read read [] s = Ok s
placed_read read (l ∷ ls) s = go_on l.0 (read s l.1) (λ s. placed_read read ls s)

-- Lines, the first of which stands at a place, are read one after the other:
-- what the last leaves, or the place of the first wrong line.
abbrev pub lines_read : {S : Type 0} → (read : S → List ℕ → Option S) → (place : ℕ) → List (List ℕ) → S → Result S ℕ
lines_read read place ls s = placed_read read (placed place ls) s

-- what a reader of lines gave, with what it left
abbrev pub section : {S : Type 0} → Result (Unit {0}) ℕ → S → Result S ℕ
section (Ok u) s = Ok s
section (Err place) s = Err place

-- what a line gave, with what it left
abbrev pub left_by : {S : Type 0} → Option (Unit {0}) → S → Option S
left_by (Some u) s = Some s
left_by None s = None
