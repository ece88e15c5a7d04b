-- How a label unfolds at one visit: choices, expansions, what they ask of the visit, and what they hand on to the next.
use Rattle.std.specs.Prelude.{Option, Some, None, ◌≡◌, ℕ, true, false, ◌↔◌, List, [], ◌∷◌}
use Rattle.theory.specs.Meaning.{Meaning}
use Rattle.ltlf.specs.Contents.{Contents}
use Rattle.ltlf.specs.declared.node.Node.{Node}
use Rattle.ltlf.specs.declared.node.Node.TheVariants.{True, False, Atom, NotAtom, And, Or, Tomorrow, WeakTomorrow, Until, Release}
use Rattle.judge.specs.Formulas.{Among, node_at}
use Rattle.tableau.specs.Labels.{Label, ◌∈◌}

-- the two ways that an or, an until or a release can be met at a visit
pub data Side : Type 0 where
  one other : Side

-- A choice gives each formula a side; it matters for or, until and release alone.
abbrev pub Choice : Type 0
Choice = ℕ → Side

-- The parts of a member, which join it in the expansion: both operands of an and; the chosen operand of an or;
-- for α U β either β, or α with the U carried over; for α R β either α and β, or β with the R carried over.
abbrev pub parts : Node → Side → List ℕ
parts True s = []
parts False s = []
parts (Atom a) s = []
parts (NotAtom a) s = []
parts (And f g) s = f ∷ g ∷ []
parts (Or f g) one = f ∷ []
parts (Or f g) other = g ∷ []
parts (Tomorrow f) s = []
parts (WeakTomorrow f) s = []
parts (Until f g) one = g ∷ []
parts (Until f g) other = f ∷ []
parts (Release f g) one = f ∷ g ∷ []
parts (Release f g) other = g ∷ []

-- What a member with this number hands on to the next visit: the operand of an X or a W, or itself where it is carried over.
abbrev pub handed_on : (number : ℕ) → Node → Side → List ℕ
handed_on h True s = []
handed_on h False s = []
handed_on h (Atom a) s = []
handed_on h (NotAtom a) s = []
handed_on h (And f g) s = []
handed_on h (Or f g) s = []
handed_on h (Tomorrow f) s = f ∷ []
handed_on h (WeakTomorrow f) s = f ∷ []
handed_on h (Until f g) one = []
handed_on h (Until f g) other = h ∷ []
handed_on h (Release f g) one = []
handed_on h (Release f g) other = h ∷ []

-- The expansion of a label under a choice is the least set that holds the label and the parts of its members.
pub data Expansion (b : Contents) (κ : Choice) (L : Label) : ℕ → Type 0 where
  member : {f : ℕ} → f ∈ L → Expansion b κ L f
  part : {f g : ℕ} → Expansion b κ L f → Among g (parts (node_at b f) (κ f)) → Expansion b κ L g

-- a code comes next: the visit is not the last
abbrev pub GoesOn : Option ℕ → Type 0
GoesOn (Some c) = Unit {0}
GoesOn None = ⊥

-- What a member asks of a code and of what comes next: no false, its atom or negated atom holds there,
-- and an X or a carried U asks that a visit follows; a carried R does not, it is weak.
abbrev pub Admitted : Meaning → (code : ℕ) → Option ℕ → Node → Side → Type 0
Admitted m c n True s = Unit {0}
Admitted m c n False s = ⊥
Admitted m c n (Atom a) s = m.fact a c n ≡ true
Admitted m c n (NotAtom a) s = m.fact a c n ≡ false
Admitted m c n (And f g) s = Unit {0}
Admitted m c n (Or f g) s = Unit {0}
Admitted m c n (Tomorrow f) s = GoesOn n
Admitted m c n (WeakTomorrow f) s = Unit {0}
Admitted m c n (Until f g) one = Unit {0}
Admitted m c n (Until f g) other = GoesOn n
Admitted m c n (Release f g) s = Unit {0}

-- The choice's expansion is sound at a code and what comes next when each of its members is admitted there.
abbrev pub Sound : Meaning → Contents → Choice → Label → (code : ℕ) → Option ℕ → Type 0
Sound m b κ L c n = (f : ℕ) → Expansion b κ L f → Admitted m c n (node_at b f) (κ f)

-- some member of the expansion hands formula g on
abbrev pub HandedOn : Contents → Choice → Label → ℕ → Type 0
HandedOn b κ L g = (f : ℕ) × Expansion b κ L f × Among g (handed_on f (node_at b f) (κ f))

-- The next label holds exactly the formulas that are handed on.
abbrev pub IsNextLabel : Contents → Choice → (label next : Label) → Type 0
IsNextLabel b κ L L' = (g : ℕ) → (g ∈ L') ↔ HandedOn b κ L g
