-- A history is a list of codes, one for each visit; visits are counted from 0.
use Rattle.std.specs.Prelude.{Option, Some, None, ℕ, suc, List, [], ◌∷◌, drop, slice_index}

-- the code of visit i
abbrev pub visit : List ℕ → ℕ → ℕ
visit σ i = slice_index σ i

-- what a history begins with
abbrev pub first : List ℕ → Option ℕ
first [] = None
first (c ∷ σ) = Some c

-- what comes after visit i: the next visit's code, or nothing after the last visit
abbrev pub after : List ℕ → ℕ → Option ℕ
after σ i = first (drop (suc i) σ)
