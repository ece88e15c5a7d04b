-- The names of a roster, as a list of texts.
use Rattle.std.specs.Prelude.{ℕ, Bool, cond, not, ◌&&◌, List, [], ◌∷◌, ◌++◌, map, length, is_some, Some, None, Option}
use Rattle.std.specs.Str.{bytes_eq}
use Rattle.intern.specs.Entry.{room}
use Rattle.intern.specs.Index.{items, place}
use Rattle.names.specs.declared.roster.Roster.{Roster}
use Rattle.names.specs.Texts.{text_of}

-- the texts of the names, in their order
abbrev pub texts : {N : ℕ} → Roster N → List (List ℕ)
texts r = map text_of (items r.cells r.count)

-- a text may be added where it does not stand and there is room for one more among n
abbrev pub may_add : (n : ℕ) → List (List ℕ) → List ℕ → Bool
may_add n ts text = not (is_some (place bytes_eq text ts)) && room (length ts) n

-- the number of an added text
abbrev pub number_added : (n : ℕ) → List (List ℕ) → List ℕ → Option ℕ
number_added n ts text = cond (may_add n ts text) (Some (length ts)) None

-- an added text comes last
abbrev pub texts_added : (n : ℕ) → List (List ℕ) → List ℕ → List (List ℕ)
texts_added n ts text = cond (may_add n ts text) (ts ++ text ∷ []) ts
