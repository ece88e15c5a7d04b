-- What a member of an expansion asks and brings on one of its sides, as labels.
use Rattle.std.specs.Prelude.{◌≡◌, ℕ, ◌^◌, ◌<◌, ◌↔◌, List, [], ◌∷◌, Some, None, Option, ◌≢◌, bit_or}
use Rattle.ltlf.specs.declared.node.Node.{Node}
use Rattle.ltlf.specs.declared.node.Node.TheVariants.{True, False, Atom, NotAtom, And, Or, Tomorrow, WeakTomorrow, Until, Release}
use Rattle.tableau.specs.Labels.{Label, ◌∈◌}
use Rattle.tableau.specs.Expansion as tableau
use Rattle.viability.specs.declared.offer.Side.{Side}
use Rattle.viability.specs.declared.offer.Side.TheVariants.{One, Other}
use Rattle.viability.specs.declared.offer.Offer.{Offer}
use Rattle.viability.specs.Moments.{Moment, Admits}

-- the side of a choice that the code names
abbrev pub chosen : Side → tableau.Side
chosen One = tableau.one
chosen Other = tableau.other

-- the label of these formulas
abbrev pub label_of : List ℕ → Label
label_of [] = 0
label_of (f ∷ fs) = bit_or (label_of fs) (2 ^ f)

-- every member of the first label is one of the second
abbrev pub Inside : (label of : Label) → Type 0
Inside L K = (f : ℕ) → f ∈ L → f ∈ K

-- every member of the label is below n
abbrev pub Under : Label → (n : ℕ) → Type 0
Under L n = (f : ℕ) → f ∈ L → f < n

-- the second label is the first without one formula
abbrev pub Without : Label → (formula : ℕ) → Label → Type 0
Without L k K = (f : ℕ) → (f ∈ K) ↔ ((f ∈ L) × (f ≢ k))

-- the offer has the parts of a side, and what the side hands on
pub record OffersSide (number : ℕ) (node : Node) (s : tableau.Side) (o : Offer) : Type 0 where
  pub parts_are : o.parts ≡ label_of (tableau.parts node s)
  pub handed_are : o.handed ≡ label_of (tableau.handed_on number node s)

-- The offer of the formula with a number on a side: none exactly where it is not admitted, and otherwise its parts, and what it hands on.
abbrev pub Offered : Moment → (number : ℕ) → Node → tableau.Side → Option Offer → Type 0
Offered w number node s (Some o) = Admits w node s × OffersSide number node s o
Offered w number node s None = ¬ (Admits w node s)

-- there is an offer, and its parts are in V
abbrev pub BringsInside : Label → Option Offer → Type 0
BringsInside V (Some o) = Inside o.parts V
BringsInside V None = ⊥

-- the operands of a node are below n
abbrev pub OperandsBelow : (n : ℕ) → Node → Type 0
OperandsBelow n True = Unit {0}
OperandsBelow n False = Unit {0}
OperandsBelow n (Atom a) = Unit {0}
OperandsBelow n (NotAtom a) = Unit {0}
OperandsBelow n (And f g) = (f < n) × (g < n)
OperandsBelow n (Or f g) = (f < n) × (g < n)
OperandsBelow n (Tomorrow f) = f < n
OperandsBelow n (WeakTomorrow f) = f < n
OperandsBelow n (Until f g) = (f < n) × (g < n)
OperandsBelow n (Release f g) = (f < n) × (g < n)
