-- The lines before the rules: the heading, the variables, the atoms.
use Rattle.std.specs.Prelude.{ℕ, List, [], ◌∷◌, length, Some, None, Ok, Err, Option, Result}
use Rattle.items.specs.Lines.{behind, lines_of}
use Rattle.items.specs.Reads.{whole}
use Rattle.sheet_text.specs.Held.{Held, heading_in, begun, variable_added, atom_added}
use Rattle.sheet_text.specs.Lines.{lines_read, section}
use Rattle.sheet_text.specs.declared.heading.Heading.{Heading}
use Rattle.sheet_text.specs.declared.heading.Heading.TheVariants.{Flags, Numbers}
use Rattle.sheet_text.specs.declared.opening.Stage.{Stage}
use Rattle.sheet_text.specs.declared.opening.Stage.TheVariants.{Start, Headed, Variables, Atoms}

-- how far the lines have come, and the theory so far
abbrev pub Opened : Type 0
Opened = Stage × Held

-- what a line gave, with the theory after it
abbrev pub opened : Option Stage → Held → Option Opened
opened (Some s) t = Some (s, t)
opened None t = None

-- a stage is reached with a theory, unless that was refused
abbrev pub reached : Stage → Option Held → Option Opened
reached s (Some t) = Some (s, t)
reached s None = None

-- the heading stands first
abbrev pub heading_stage : Stage → Option Stage
heading_stage Start = Some Headed
heading_stage Headed = None
heading_stage Variables = None
heading_stage Atoms = None

-- a variable follows the heading, and makes the theory, or another variable
abbrev pub variable_line : Stage → Held → (text : List ℕ) → Option Opened
variable_line Start t text = None
variable_line Headed t text = reached Variables (begun t text)
variable_line Variables t text = reached Variables (variable_added t text)
variable_line Atoms t text = None

-- an atom follows a variable or another atom
abbrev pub atom_line : Stage → Held → (text : List ℕ) → Option Opened
atom_line Start t text = None
atom_line Headed t text = None
atom_line Variables t text = reached Atoms (atom_added t text)
atom_line Atoms t text = reached Atoms (atom_added t text)

-- what follows a head, or else
abbrev pub by_head : {X : Type 0} → Option (List ℕ) → (List ℕ → Option X) → Option X → Option X
by_head (Some rest) f else = f rest
by_head None f else = else

-- the heading that a line is
abbrev pub heading_of : (line : List ℕ) → Option Heading
heading_of line =
    by_head (behind (102 ∷ 108 ∷ 97 ∷ 103 ∷ 115 ∷ []) line) (whole Flags)
    (by_head (behind (110 ∷ 117 ∷ 109 ∷ 98 ∷ 101 ∷ 114 ∷ 115 ∷ []) line) (whole Numbers) None)

-- the heading of the theory stands first
abbrev pub under : Heading → Option Heading → Stage → Option Stage
under Flags (Some Flags) s = heading_stage s
under Flags (Some Numbers) s = None
under Numbers (Some Flags) s = None
under Numbers (Some Numbers) s = heading_stage s
under h None s = None

-- a line before the rules: v VARIABLE, a ATOM or the heading
abbrev pub declaration_read : Opened → (line : List ℕ) → Option Opened
declaration_read s line =
    by_head (behind (118 ∷ 32 ∷ []) line) (variable_line s.0 s.1)
    (by_head (behind (97 ∷ 32 ∷ []) line) (atom_line s.0 s.1)
    (opened (under (heading_in s.1) (heading_of line) s.0) s.1))

-- at least one variable was named before the lines end; else the end is the wrong place
abbrev pub ended_at : (end : ℕ) → Stage → Result (Unit {0}) ℕ
ended_at end Start = Err end
ended_at end Headed = Err end
ended_at end Variables = Ok tt
ended_at end Atoms = Ok tt

-- the theory at the end of the lines
abbrev pub whole_opening : (end : ℕ) → Result Opened ℕ → Result Held ℕ
whole_opening end (Err place) = Err place
whole_opening end (Ok s) = section (ended_at end s.0) s.1

-- the lines of an opening, from place 0 on, that starts with some theory
abbrev pub opening_read : (opening : List ℕ) → Held → Result Held ℕ
opening_read bs t = whole_opening (length bs) (lines_read declaration_read 0 (lines_of bs) (Start, t))
