-- The guides of the viable formulas.
use Rattle.std.specs.Prelude.{ℕ, ◌<◌, List, length, None, slice_index_or}
use Rattle.ltlf.specs.Contents.{Contents, Proper}
use Rattle.tableau.specs.Labels.{Label}
use Rattle.tableau.specs.Expansion.{Side}
use Rattle.viability.specs.Moments.{Moment}
use Rattle.viability.specs.Viable.{Fits, Viable}
use Rattle.successors.specs.declared.guide.Guide.{Guide}
use Rattle.successors.specs.Ways.{WaysOn, Reaches, Musts}

-- a guide that hands on nothing
abbrev pub no_guide : Guide
no_guide = record {
  ways = record { first = record { parts = 0; handed = 0 }; second = None };
  span = record { reach = 0; must = 0 };
}

-- what a formula can hand on
abbrev pub reach_at : List Guide → (formula : ℕ) → Label
reach_at gs f = (slice_index_or gs f no_guide).span.reach

-- what it hands on whatever is chosen
abbrev pub must_at : List Guide → (formula : ℕ) → Label
must_at gs f = (slice_index_or gs f no_guide).span.must

-- below n, the guides of the formulas that some side fits are right
pub record GuidesBelow (w : Moment) (b : Contents) (V : Label) (guides : List Guide) (n : ℕ) : Type 0 where
  pub ways_are : (f : ℕ) → f < n → (s : Side) → Fits w b V f s → (d : Guide) → WaysOn w b V f (slice_index_or guides f d).ways
  pub reaches : Reaches w b V (reach_at guides) n
  pub musts : Musts w b V (must_at guides) n

-- what guides the expansion at a moment
pub record Guided (w : Moment) (b : Contents) (V : Label) (guides : List Guide) : Type 0 where
  pub proper : Proper b
  pub viable : Viable w b V
  pub guides_are : GuidesBelow w b V guides (length b.nodes)
