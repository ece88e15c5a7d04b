-- The lines of a text, and what follows a word.
use Rattle.std.specs.Prelude.{◌≡◌, ℕ, suc, ◌+◌, ◌-◌, cond, List, [], ◌∷◌, length, take, drop, Some, None, Option, ◌==◌}
use Rattle.std.specs.Borrow.{Bor}
use Rattle.items.specs.declared.reads.Read.{Read}

-- the text that a reader left, if it read anything
abbrev pub text_seen : Option (Bor (List ℕ)) → Option (List ℕ)
text_seen (Some t) = Some t.now
text_seen None = None

-- what follows a word
abbrev pub behind : (word text : List ℕ) → Option (List ℕ)
behind [] bs = Some bs
behind (w ∷ ws) [] = None
behind (w ∷ ws) (b ∷ bs) = cond (b == w) (behind ws bs) None

-- how many bytes stand before the first line end, which is byte 10
abbrev pub line_length : List ℕ → ℕ
line_length [] = 0
line_length (b ∷ bs) = cond (b == 10) 0 (suc (line_length bs))

-- a text is cut into its first line, without the line end, and what follows that end
pub record Cut (text : List ℕ) (l : Read (Bor (List ℕ))) : Type 0 where
  pub bytes : l.value.now ≡ take (line_length text) text
  pub rest : l.rest.now ≡ drop (line_length text + 1) text

-- a byte that ends no line, put before the first line
abbrev pub onto : ℕ → List (List ℕ) → List (List ℕ)
onto b [] = (b ∷ []) ∷ []
onto b (l ∷ ls) = (b ∷ l) ∷ ls

-- the lines of a text, without their ends
abbrev pub lines_of : List ℕ → List (List ℕ)
lines_of [] = []
lines_of (b ∷ bs) = cond (b == 10) ([] ∷ lines_of bs) (onto b (lines_of bs))

-- where the last line starts, of a text from place i on in which the line before i starts at s
abbrev pub start_from : (i s : ℕ) → List ℕ → ℕ
start_from i s [] = s
start_from i s (b ∷ bs) = start_from (i + 1) (cond (b == 10) (i + 1) s) bs

-- where the last line starts, which the last byte ends
abbrev pub last_start : List ℕ → ℕ
last_start bs = start_from 0 0 (take (length bs - 1) bs)
