-- What is handed on from a state of the expansion: the members still open, and the next label so far.
use Rattle.std.specs.Prelude.{ℕ, ◌+◌, ◌^◌, ◌≤◌, Bool, ◌⊎◌, ◌↔◌, List, Option, ◌≢◌}
use Rattle.ltlf.specs.Contents.{Contents}
use Rattle.intern.specs.declared.cell.Cell.{Cell}
use Rattle.judge.specs.Formulas.{node_at, Among}
use Rattle.tableau.specs.Labels.{Label, ◌∈◌}
use Rattle.tableau.specs.Expansion.{Side, Choice, parts, handed_on, HandedOn}
use Rattle.viability.specs.Moments.{Moment, SoundAt, Shows, HandsOn}
use Rattle.viability.specs.Offers.{Under}
use Rattle.viability.specs.Viable.{known_part}
use Rattle.successors.specs.declared.label.NextLabel.{NextLabel}
use Rattle.successors.specs.Cells.{Lists}

-- some choice is sound on the open members, and q has exactly the formulas of the next label so far and those that it hands on
pub record Hands (w : Moment) (b : Contents) (members next q : Label) : Type 0 where
  pub choice : Choice
  pub sound : SoundAt w b choice members
  pub label_is : (g : ℕ) → (g ∈ q) ↔ ((g ∈ next) ⊎ HandedOn b choice members g)

-- member k is taken off on a side: its parts become members, and what it hands on goes into the next label
pub record Moves (b : Contents) (k : ℕ) (s : Side) (S N S' N' : Label) : Type 0 where
  pub opened : (f : ℕ) → (f ∈ S') ↔ (((f ∈ S) × (f ≢ k)) ⊎ Among f (parts (node_at b k) s))
  pub handed : (g : ℕ) → (g ∈ N') ↔ ((g ∈ N) ⊎ Among g (handed_on k (node_at b k) s))

-- k is the greatest member
pub record Top (S : Label) (k : ℕ) : Type 0 where
  pub within : k ∈ S
  pub under : Under S (k + 1)
  pub least : 2 ^ k ≤ S

-- At every moment that the mask shows, the cells list the next labels that the sound choices of the label hand on.
abbrev pub ListsNext : Contents → (truth : ℕ) → (last : Bool) → Label → (cells after : List (Cell NextLabel)) → Option ℕ → Type 0
ListsNext b truth last L cells after r =
    (w : Moment) → Shows w b.atoms truth last → Lists (HandsOn w b (known_part b L)) cells after r
