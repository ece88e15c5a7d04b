-- The formulas that have a sound expansion.
use Rattle.std.specs.Prelude.{ℕ, ◌%◌, ◌^◌, ◌<◌, Bool, ◌↔◌, length, Some, None, Option, Decides}
use Rattle.ltlf.specs.Contents.{Contents}
use Rattle.judge.specs.Formulas.{node_at, Among}
use Rattle.tableau.specs.Labels.{Label, ◌∈◌}
use Rattle.tableau.specs.Expansion.{Side, parts}
use Rattle.viability.specs.declared.offer.Offer.{Offer}
use Rattle.viability.specs.Moments.{Moment, Admits, SomeSound, Shows}
use Rattle.viability.specs.Offers.{Inside, Under, OffersSide}

-- a side of a formula fits: it is admitted, and its parts are in V
abbrev pub Fits : Moment → Contents → Label → (formula : ℕ) → Side → Type 0
Fits w b V f s = Admits w (node_at b f) s × ((g : ℕ) → Among g (parts (node_at b f) s) → g ∈ V)

-- the offer of a side that fits, and none where the side does not
abbrev pub FitOffered : Moment → Contents → Label → (formula : ℕ) → Side → Option Offer → Type 0
FitOffered w b V f s (Some o) = Fits w b V f s × OffersSide f (node_at b f) s o
FitOffered w b V f s None = ¬ (Fits w b V f s)

-- some side of a formula fits
abbrev pub FitsSomehow : Moment → Contents → Label → (formula : ℕ) → Type 0
FitsSomehow w b V f = (s : Side) × Fits w b V f s

-- V has the formulas below n that fit on some side
abbrev pub ViableBelow : Moment → Contents → Label → (n : ℕ) → Type 0
ViableBelow w b V n = (f : ℕ) → (f ∈ V) ↔ ((f < n) × FitsSomehow w b V f)

-- V has the formulas of the book that fit on some side
abbrev pub Viable : Moment → Contents → Label → Type 0
Viable w b V = ViableBelow w b V (length b.nodes)

-- the label's formulas that the book has
abbrev pub known_part : Contents → Label → Label
known_part b L = L % 2 ^ length b.nodes

-- At every moment that the mask shows, V has the formulas of the book that a sound choice can expand:
-- a label has a sound choice exactly when V has all its formulas that the book has.
pub record Tells (b : Contents) (truth : ℕ) (last : Bool) (V : Label) : Type 0 where
  pub known : Under V (length b.nodes)
  pub sound : (w : Moment) → Shows w b.atoms truth last → (L : Label) → SomeSound w b (known_part b L) ↔ Inside (known_part b L) V

-- At every moment that the mask shows, the answer says whether the label has a sound choice.
abbrev pub DecidesSound : Contents → (truth : ℕ) → (last : Bool) → Label → (answer : Bool) → Type 0
DecidesSound b truth last L r = (w : Moment) → Shows w b.atoms truth last → Decides r (SomeSound w b (known_part b L))
