-- One visit as an expansion sees it: which atoms hold there, and whether a visit follows.
use Rattle.std.specs.Prelude.{Option, Some, None, ◌≡◌, ℕ, ◌<◌, Bool, true, false}
use Rattle.theory.specs.Meaning.{Meaning}
use Rattle.ltlf.specs.Contents.{Contents}
use Rattle.ltlf.specs.declared.node.Node.{Node}
use Rattle.judge.specs.Marks.{is_last}
use Rattle.tableau.specs.Labels.{Label, has}
use Rattle.tableau.specs.Expansion.{Side, Choice, Admitted, Sound, IsNextLabel}

-- A moment: the facts of a theory at a code and what comes next.
pub record Moment : Type 0 where
  pub meaning : Meaning
  pub code : ℕ
  pub next : Option ℕ

-- the moment admits a member on a side
abbrev pub Admits : Moment → Node → Side → Type 0
Admits w node s = Admitted w.meaning w.code w.next node s

-- the choice's expansion is sound at the moment
abbrev pub SoundAt : Moment → Contents → Choice → Label → Type 0
SoundAt w b κ L = Sound w.meaning b κ L w.code w.next

-- some choice's expansion is sound at the moment
abbrev pub SomeSound : Moment → Contents → Label → Type 0
SomeSound w b L = (κ : Choice) × SoundAt w b κ L

-- some choice whose expansion is sound at the moment hands on the next label
abbrev pub HandsOn : Moment → Contents → (label next : Label) → Type 0
HandsOn w b L L' = (κ : Choice) × (SoundAt w b κ L × IsNextLabel b κ L L')

-- Of the first atoms, exactly those in the mask hold at the moment, and it is the last exactly if nothing comes next.
pub record Shows (w : Moment) (atoms truth : ℕ) (last : Bool) : Type 0 where
  pub facts : (a : ℕ) → a < atoms → w.meaning.fact a w.code w.next ≡ has truth a
  pub end : is_last w.next ≡ last

-- what comes next at a moment that is the last, or is not
abbrev pub coming : Bool → Option ℕ
coming true = None
coming false = Some 0

-- a moment that the mask shows, whatever the number of atoms
abbrev pub moment : (truth : ℕ) → (last : Bool) → Moment
moment truth last = record { meaning = record { codes = 1; atoms = 32; fact = λ a c n. has truth a }; code = 0; next = coming last }
