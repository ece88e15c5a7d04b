-- The search layer by layer, as a computation: which answer a question has with a number of rows.
use Rattle.std.specs.Prelude.{Option, Some, None, ℕ, zero, suc, min, Bool, true, false, cond, not, ◌&&◌, ◌||◌, List, [], ◌∷◌, ◌++◌, length, ◌==◌, nat_lt}
use Rattle.theory.specs.Meaning.{Meaning}
use Rattle.ltlf.specs.Contents.{Contents}
use Rattle.ltlf.specs.declared.node.Node.{Node}
use Rattle.ltlf.specs.declared.node.Node.TheVariants.{True, False, Atom, NotAtom, And, Or, Tomorrow, WeakTomorrow, Until, Release}
use Rattle.judge.specs.Formulas.{node_at}
use Rattle.tableau.specs.Labels.{Label, has, adding}
use Rattle.tableau.specs.Expansion.{Side, one, other, parts, handed_on}
use Rattle.tableau.specs.Positions.{Position, Question, last_place}

-- whether a code comes next
abbrev pub goes_on : Option ℕ → Bool
goes_on (Some c) = true
goes_on None = false

-- whether a member is admitted at a code and what comes next
abbrev pub admitted : Meaning → (code : ℕ) → Option ℕ → Node → Side → Bool
admitted m c n True s = true
admitted m c n False s = false
admitted m c n (Atom a) s = m.fact a c n
admitted m c n (NotAtom a) s = not (m.fact a c n)
admitted m c n (And f g) s = true
admitted m c n (Or f g) s = true
admitted m c n (Tomorrow f) s = goes_on n
admitted m c n (WeakTomorrow f) s = true
admitted m c n (Until f g) one = true
admitted m c n (Until f g) other = goes_on n
admitted m c n (Release f g) s = true

-- the sides that a choice can give a formula, where they differ
abbrev pub sides : Node → List Side
sides True = one ∷ []
sides False = one ∷ []
sides (Atom a) = one ∷ []
sides (NotAtom a) = one ∷ []
sides (And f g) = one ∷ []
sides (Or f g) = one ∷ other ∷ []
sides (Tomorrow f) = one ∷ []
sides (WeakTomorrow f) = one ∷ []
sides (Until f g) = one ∷ other ∷ []
sides (Release f g) = one ∷ other ∷ []

-- whether some element passes
abbrev pub any : {X : Type 0} → (X → Bool) → List X → Bool
any p [] = false
any p (x ∷ xs) = p x || any p xs

-- the lists of all elements, one after another
abbrev pub gather : {X Y : Type 0} → (X → List Y) → List X → List Y
gather p [] = []
gather p (x ∷ xs) = p x ++ gather p xs

-- The next labels of the sound choices, where the members below k are still to be expanded, and `handed` is handed on so far.
-- It goes from the greatest number down, with two branches only at a member that is an or, an until or a release.
abbrev pub branches : Meaning → Contents → (code : ℕ) → Option ℕ → (k : ℕ) → (members handed : Label) → List Label
branches m b c n zero members handed = handed ∷ []
branches m b c n (suc k) members handed =
    cond (has members k)
    (gather
    (λ s. cond (admitted m c n (node_at b k) s)
    (branches m b c n k (adding (parts (node_at b k) s) members) (adding (handed_on k (node_at b k) s) handed))
    [])
    (sides (node_at b k)))
    (branches m b c n k members handed)

-- the next labels of a label's sound choices at a code and what comes next
abbrev pub next_labels : Meaning → Contents → Label → (code : ℕ) → Option ℕ → List Label
next_labels m b L c n = branches m b c n (length b.nodes) L 0

-- the numbers below n
abbrev pub below : ℕ → List ℕ
below zero = []
below (suc n) = below n ++ n ∷ []

-- the codes that visit p may have
abbrev pub visits_at : (codes : ℕ) → (kept : List ℕ) → (p : ℕ) → List ℕ
visits_at codes [] p = below codes
visits_at codes (v ∷ vs) zero = v ∷ []
visits_at codes (v ∷ vs) (suc p) = visits_at codes vs p

-- whether the list is not empty
abbrev pub some : {X : Type 0} → List X → Bool
some [] = false
some (x ∷ xs) = true

-- whether a position ends
abbrev pub ends : Question → Position → Bool
ends q s = s.place == last_place q && some (next_labels q.meaning q.book s.label s.code None)

-- the positions one step on
abbrev pub steps : Question → Position → List Position
steps q s =
    gather
    (λ c. gather (λ L. record { place = min (suc s.place) (last_place q); label = L; code = c } ∷ [])
    (next_labels q.meaning q.book s.label s.code (Some c)))
    (visits_at q.meaning.codes q.kept (suc s.place))

-- the starting positions
abbrev pub starts : Question → List Position
starts q =
    gather (λ c. record { place = 0; label = adding q.book.rules 0; code = c } ∷ []) (visits_at q.meaning.codes q.kept 0)

-- whether two positions are equal
abbrev pub alike : Position → Position → Bool
alike s e = s.place == e.place && (s.label == e.label && s.code == e.code)

-- those of the second list that are not in the first, each once
abbrev pub fresh : (seen : List Position) → List Position → List Position
fresh seen [] = []
fresh seen (s ∷ ss) = cond (any (alike s) seen) (fresh seen ss) (s ∷ fresh (s ∷ seen) ss)

-- the positions one step from a layer that were not seen before, each once
abbrev pub next_layer : Question → (seen layer : List Position) → List Position
next_layer q seen layer = fresh seen (gather (steps q) layer)

-- An answer: a shortest continuation's number of visits, or that there is none, each with the number of counted positions;
-- or that there were too few rows, with their number.
pub data Answer : Type 0 where
  can : (visits rows : ℕ) → Answer
  cannot : (rows : ℕ) → Answer
  short : (rows : ℕ) → Answer

-- The layers from distance d on: `seen` are all positions up to that distance, `layer` those at it.
-- Each layer but the last adds a position, so that as many layers as rows and one are enough.
abbrev pub layers : (fuel : ℕ) → Question → (rows d : ℕ) → (seen layer : List Position) → Answer
layers zero q rows d seen layer = short rows
layers (suc k) q rows d seen [] = cond (nat_lt rows (length seen)) (short rows) (cannot (length seen))
layers (suc k) q rows d seen (s ∷ ss) =
    cond (nat_lt rows (length seen)) (short rows)
    (cond (any (ends q) (s ∷ ss)) (can (suc d) (length seen))
    (layers k q rows (suc d) (next_layer q seen (s ∷ ss) ++ seen) (next_layer q seen (s ∷ ss))))

-- THE ANSWER to a question with a number of rows: the layers from the starting positions on.
abbrev pub answer : Question → (rows : ℕ) → Answer
answer q rows = layers (suc rows) q rows 0 (fresh [] (starts q)) (fresh [] (starts q))
