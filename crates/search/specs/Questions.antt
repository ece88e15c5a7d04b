-- The question of a theory, a book and kept visits, and where its steps lead.
use Rattle.std.specs.Prelude.{◌≡◌, ℕ, ◌^◌, ◌<◌, ◌≤◌, true, false, ◌⊎◌, ◌↔◌, List, length, Some, None, Option}
use Rattle.intern.specs.declared.cell.Cell.{Cell}
use Rattle.std.specs.declared.ops.Range.{Range}
use Rattle.theory.specs.Meaning.{Meaning}
use Rattle.ltlf.specs.Contents.{Contents}
use Rattle.judge.specs.Formulas.{Among}
use Rattle.tableau.specs.Labels.{Label, ◌∈◌}
use Rattle.tableau.specs.Positions.{Position, Question, In, Distinct, Visited}
use Rattle.tableau.specs.Continuations.{WellPosed}
use Rattle.viability.specs.Moments.{Moment, Shows, HandsOn}
use Rattle.viability.specs.Viable.{known_part}
use Rattle.successors.specs.declared.label.NextLabel.{NextLabel}
use Rattle.successors.specs.Cells.{labels}
use Rattle.search.specs.declared.row.Row.{Row}
use Rattle.search.specs.declared.labels.Pattern.{Pattern}

-- the question of a theory's meaning, a book's contents and kept visits
abbrev pub asked : Meaning → Contents → (kept : List ℕ) → Question
asked m b kept = record { meaning = m; book = b; kept = kept }

-- A question that can be searched: book and theory have the same atoms, at most 32, and places fit 16 bits.
pub record Ready (q : Question) : Type 0 where
  pub posed : WellPosed q
  pub atoms_same : q.book.atoms ≡ q.meaning.atoms
  pub few_atoms : q.book.atoms ≤ 32
  pub places_fit : length q.kept ≤ 65536

-- there are cells for as many labels as rows, and few enough to be linked
abbrev pub Room : List (Cell Row) → List (Cell NextLabel) → Type 0
Room rows cells = (length rows ≤ length cells) × (length cells ≤ 2 ^ 32)

-- a position by its parts
abbrev pub at_place : (place label code : ℕ) → Position
at_place p l c = record { place = p; label = l; code = c }

-- the facts at a code and what comes next
abbrev pub facts_at : Meaning → (code : ℕ) → Option ℕ → Moment
facts_at m c n = record { meaning = m; code = c; next = n }

-- of the first k atoms, the mask has those that hold
abbrev pub Shown : Meaning → (code : ℕ) → Option ℕ → (mask k : ℕ) → Type 0
Shown m c n mask k = (a : ℕ) → (a ∈ mask) ↔ ((a < k) × (m.fact a c n ≡ true))

-- the codes of the range are those that may stand at place p
abbrev pub Allowed : (codes : ℕ) → (kept : List ℕ) → (p : ℕ) → Range ℕ → Type 0
Allowed codes kept p v = (v.start ≤ v.end) × (v.end ≤ codes) × ((c : ℕ) → Visited codes kept p c ↔ ((v.start ≤ c) × (c < v.end)))

-- the label has exactly the rules
abbrev pub HasRules : Contents → Label → Type 0
HasRules b L = (f : ℕ) → (f ∈ L) ↔ Among f b.rules

-- the starting positions with a label, by code
abbrev pub StartsAt : (label : Label) → (code : ℕ) → Position → Type 0
StartsAt L c p = p ≡ at_place 0 L c

-- the positions at a place and with code n to which a choice of s leads that is sound where n comes next
abbrev pub StepsFrom : Meaning → Contents → Position → (place n : ℕ) → Position → Type 0
StepsFrom m b s place n e = (e.place ≡ place) × (e.code ≡ n) × HandsOn (facts_at m s.code (Some n)) b s.label e.label

-- the positions of a family with a number from a up to n
abbrev pub SomeOf : (Q : ℕ → Position → Type 0) (a n : ℕ) → Position → Type 0
SomeOf Q a n p = (k : ℕ) × (a ≤ k) × (k < n) × Q k p

-- one of the first n labels in the cells
abbrev pub Labelled : (place code : ℕ) → List (Cell NextLabel) → (n : ℕ) → Position → Type 0
Labelled place code cells n p = (p.place ≡ place) × (p.code ≡ code) × In p.label (labels cells n)

-- a label among the first n of the cells, or L
abbrev pub LabelledOr : (L : Label) (place code : ℕ) → List (Cell NextLabel) → (n : ℕ) → Position → Type 0
LabelledOr L place code cells n p = Labelled place code cells n p ⊎ (p ≡ at_place place L code)

-- at a moment that the mask shows before a next visit, the first n cells hold exactly the next labels
abbrev pub HoldsNext : Contents → Label → (truth : ℕ) → List (Cell NextLabel) → (n : ℕ) → Type 0
HoldsNext b L truth cells n =
    (w : Moment) → Shows w b.atoms truth false → (q : Label) → In q (labels cells n) ↔ HandsOn w b (known_part b L) q

-- what the pattern says of the cells
abbrev pub Known : Contents → Label → List (Cell NextLabel) → Option Pattern → Type 0
Known b L cells (Some p) = (p.count ≤ length cells) × HoldsNext b L p.truth cells p.count
Known b L cells None = Unit {0}

-- all cells hold next labels, each once, and there is another
pub record Overfull (b : Contents) (L : Label) (truth : ℕ) (cells : List (Cell NextLabel)) : Type 0 where
  pub apart : Distinct (labels cells (length cells))
  pub only : (w : Moment) → Shows w b.atoms truth false → (q : Label) → In q (labels cells (length cells)) → HandsOn w b (known_part b L) q
  pub another : (w : Moment) → Shows w b.atoms truth false → (q : Label) × HandsOn w b (known_part b L) q × (In q (labels cells (length cells)) → ⊥)

-- the cells hold the next labels for the mask, and the pattern says so; or there are too many
abbrev pub Patterned : Contents → Label → (truth : ℕ) → List (Cell NextLabel) → Option Pattern → Type 0
Patterned b L truth cells (Some p) = (p.truth ≡ truth) × Known b L cells (Some p)
Patterned b L truth cells None = Overfull b L truth cells
