-- The ways on from each viable formula, what they can hand on, and what they hand on whatever is chosen.
use Rattle.std.specs.Prelude.{◌≡◌, ℕ, ◌<◌, ◌⊎◌, ◌↔◌, Some, None, Option}
use Rattle.ltlf.specs.Contents.{Contents}
use Rattle.judge.specs.Formulas.{node_at, Among}
use Rattle.tableau.specs.Labels.{Label, ◌∈◌}
use Rattle.tableau.specs.Expansion.{Side, parts, handed_on}
use Rattle.viability.specs.declared.offer.Offer.{Offer}
use Rattle.viability.specs.Moments.{Moment}
use Rattle.viability.specs.Offers.{label_of}
use Rattle.viability.specs.Viable.{Fits}
use Rattle.successors.specs.declared.ways.Ways.{Ways}

-- the offer has the parts of a side, and what the side hands on
abbrev pub LikeSide : Contents → (formula : ℕ) → Side → Offer → Type 0
LikeSide b k s o = (o.parts ≡ label_of (parts (node_at b k) s)) × (o.handed ≡ label_of (handed_on k (node_at b k) s))

-- the offer is that of a side that fits
abbrev pub WayOn : Moment → Contents → Label → (formula : ℕ) → Offer → Type 0
WayOn w b V k o = (s : Side) × (Fits w b V k s × LikeSide b k s o)

-- The ways on from a formula: the first is one, the second is another where they fork, and there is no third.
pub record WaysOn (w : Moment) (b : Contents) (V : Label) (k : ℕ) (ways : Ways) : Type 0 where
  pub first_is : WayOn w b V k ways.first
  pub second_is : (o : Offer) → ways.second ≡ Some o → WayOn w b V k o
  pub no_third : (s : Side) → Fits w b V k s → LikeSide b k s ways.first ⊎ ((o : Offer) × ((ways.second ≡ Some o) × LikeSide b k s o))

-- the ways on from a formula, and none where no side fits
abbrev pub WaysFound : Moment → Contents → Label → (formula : ℕ) → Option Ways → Type 0
WaysFound w b V k (Some ways) = WaysOn w b V k ways
WaysFound w b V k None = (s : Side) → ¬ (Fits w b V k s)

-- g comes from side s of formula f: it is handed on there, or stands in the mask of a part
abbrev pub From : Contents → (mask : ℕ → Label) → (formula : ℕ) → Side → ℕ → Type 0
From b m f s g = Among g (handed_on f (node_at b f) s) ⊎ ((h : ℕ) × (Among h (parts (node_at b f) s) × (g ∈ m h)))

-- below n, a formula's mask has all that comes from its sides that fit
abbrev pub Reaches : Moment → Contents → Label → (mask : ℕ → Label) → (n : ℕ) → Type 0
Reaches w b V m n = (f : ℕ) → f < n → (s : Side) → Fits w b V f s → (g : ℕ) → From b m f s g → g ∈ m f

-- below n, a formula's mask has only what comes from each of its sides that fit
abbrev pub Musts : Moment → Contents → Label → (mask : ℕ → Label) → (n : ℕ) → Type 0
Musts w b V m n = (f : ℕ) → f < n → (s : Side) → Fits w b V f s → (g : ℕ) → g ∈ m f → From b m f s g

-- r is the union of the masks of these members
abbrev pub Gathers : (mask : ℕ → Label) → (members r : Label) → Type 0
Gathers m S r = (g : ℕ) → (g ∈ r) ↔ ((f : ℕ) × ((f ∈ S) × (g ∈ m f)))

-- g comes from what is offered
abbrev pub Brought : (mask : ℕ → Label) → Offer → ℕ → Type 0
Brought m o g = (g ∈ o.handed) ⊎ ((h : ℕ) × ((h ∈ o.parts) × (g ∈ m h)))

-- r has exactly what comes from what is offered
abbrev pub Brings : (mask : ℕ → Label) → Offer → Label → Type 0
Brings m o r = (g : ℕ) → (g ∈ r) ↔ Brought m o g

-- r has all that comes from the ways on
pub record Covers (m : ℕ → Label) (ways : Ways) (r : Label) : Type 0 where
  pub first_in : (g : ℕ) → Brought m ways.first g → g ∈ r
  pub second_in : (o : Offer) → ways.second ≡ Some o → (g : ℕ) → Brought m o g → g ∈ r

-- r has only what comes from each of the ways on
pub record Shared (m : ℕ → Label) (ways : Ways) (r : Label) : Type 0 where
  pub first_has : (g : ℕ) → g ∈ r → Brought m ways.first g
  pub second_has : (o : Offer) → ways.second ≡ Some o → (g : ℕ) → g ∈ r → Brought m o g
