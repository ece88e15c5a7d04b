-- What an expansion looks at, and what it hands on and remembers there.
use Rattle.std.specs.Prelude.{ℕ, List, Option}
use Rattle.intern.specs.declared.cell.Cell.{Cell}
use Rattle.tableau.specs.Labels.{Label}
use Rattle.viability.specs.Visits.{moment_at, contents_at}
use Rattle.successors.specs.declared.expand.Sight.{Sight}
use Rattle.successors.specs.declared.label.NextLabel.{NextLabel}
use Rattle.successors.specs.declared.table.State.{State}
use Rattle.successors.specs.Guides.{Guided}
use Rattle.successors.specs.Handing.{Hands}
use Rattle.successors.specs.Tables.{Kept, Keeps}

-- the viable formulas and their guides are those of the visit
abbrev pub IsGuided : Sight → Type 0
IsGuided s = Guided (moment_at s.visit) (contents_at s.visit) s.able s.guides.now

-- q is handed on there from the members and the next label so far
abbrev pub HandsAt : Sight → (members next q : Label) → Type 0
HandsAt s S N q = Hands (moment_at s.visit) (contents_at s.visit) S N q

-- every state in the table is done there
abbrev pub KeptAt : Sight → List (Option State) → List (Cell NextLabel) → (n : ℕ) → Type 0
KeptAt s ts cells n = Kept (moment_at s.visit) (contents_at s.visit) ts cells n

-- the same, unless the cells are full
abbrev pub KeepsAt : Sight → List (Option State) → List (Cell NextLabel) → Option ℕ → Type 0
KeepsAt s ts cells r = Keeps (moment_at s.visit) (contents_at s.visit) ts cells r
