-- How the judge computes: a mask marks the numbers of the formulas that hold at a visit, from those that hold at the visit after.
use Rattle.std.specs.Prelude.{Option, Some, None, ◌≡◌, ℕ, suc, ◌<◌, Bool, true, false, not, ◌&&◌, ◌||◌, List, length, Decides}
use Rattle.masks.specs.Masks.{has}
use Rattle.theory.specs.Meaning.{Meaning}
use Rattle.ltlf.specs.declared.node.Node.{Node}
use Rattle.ltlf.specs.declared.node.Node.TheVariants.{True, False, Atom, NotAtom, And, Or, Tomorrow, WeakTomorrow, Until, Release}
use Rattle.ltlf.specs.Contents.{Contents}
use Rattle.judge.specs.Formulas.{formula}
use Rattle.judge.specs.Histories.{visit, after}
use Rattle.judge.specs.Holding.{Holds}

-- whether the mask marks the number f: its bit f is 1
abbrev pub marked : (mask f : ℕ) → Bool
marked mask f = has mask f

-- whether nothing comes next
abbrev pub is_last : Option ℕ → Bool
is_last (Some c) = false
is_last None = true

-- whether the node of a number holds at a code, from what holds here and at the visit after
abbrev pub node_held : Meaning → (code : ℕ) → Option ℕ → (here later : ℕ) → (number : ℕ) → Node → Bool
node_held m c n here later f True = true
node_held m c n here later f False = false
node_held m c n here later f (Atom a) = m.fact a c n
node_held m c n here later f (NotAtom a) = not (m.fact a c n)
node_held m c n here later f (And g h) = marked here g && marked here h
node_held m c n here later f (Or g h) = marked here g || marked here h
node_held m c n here later f (Tomorrow g) = not (is_last n) && marked later g
node_held m c n here later f (WeakTomorrow g) = is_last n || marked later g
node_held m c n here later f (Until g h) = marked here h || (marked here g && (not (is_last n) && marked later f))
node_held m c n here later f (Release g h) = marked here h && (marked here g || (is_last n || marked later f))

-- below the number n, the mask marks exactly the formulas that hold at visit i
abbrev pub MarksBelow : Meaning → Contents → (σ : List ℕ) → (i mask n : ℕ) → Type 0
MarksBelow m b σ i mask n = (f : ℕ) → f < n → Decides (marked mask f) (Holds m σ i (formula b f))

-- the mask marks exactly the formulas of the book that hold at visit i
abbrev pub Marks : Meaning → Contents → (σ : List ℕ) → (i mask : ℕ) → Type 0
Marks m b σ i mask = MarksBelow m b σ i mask (length b.nodes)

-- at a visit with that code and that next, the mask is right where the mask of the visit after is
abbrev pub Passed : Meaning → Contents → (code : ℕ) → Option ℕ → (later mask : ℕ) → Type 0
Passed m b c n later mask = (σ : List ℕ) (i : ℕ) → i < length σ → visit σ i ≡ c → after σ i ≡ n
    → (suc i < length σ → Marks m b σ (suc i) later) → Marks m b σ i mask
