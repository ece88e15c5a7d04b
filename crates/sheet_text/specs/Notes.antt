-- The lines of notes.
use Rattle.std.specs.Prelude.{ℕ, zero, suc, ◌+◌, ◌*◌, ◌^◌, ◌<◌, min, cond, List, [], ◌∷◌, length, Some, None, Ok, Err, Option, Result, nat_lt}
use Rattle.items.specs.Lines.{behind, lines_of}
use Rattle.items.specs.Numbers.{natural_read}
use Rattle.items.specs.Reads.{and_text, and_read, whole}
use Rattle.numbers.specs.Values.{VariableModel}
use Rattle.number_text.specs.Values as number
use Rattle.sheet_text.specs.Lines.{lines_read}

-- a first bit, and the code of the flags after it
abbrev pub above : (bit : ℕ) → Option ℕ → Option ℕ
above bit (Some code) = Some (bit + 2 * code)
above bit None = None

-- a code of so many flags
abbrev pub code_below : (flags : ℕ) → Option ℕ → Type 0
code_below flags (Some code) = code < 2 ^ flags
code_below flags None = Unit {0}

-- a single value, 0 or 1
abbrev pub value_alone : List ℕ → Option ℕ
value_alone bs = and_read (natural_read 1 bs) (λ bit rest. whole bit rest)

-- the code that as many values as there are flags write, 0 or 1 each, the first the lowest bit
abbrev pub values_read : (flags : ℕ) → List ℕ → Option ℕ
values_read zero bs = None
values_read (suc zero) bs = value_alone bs
values_read (suc (suc n)) bs = and_read (natural_read 1 bs) (λ bit rest. and_text (behind (32 ∷ []) rest) (λ bs. above bit (values_read (suc n) bs)))

-- a line of a note of flags: n, a space and the values
abbrev pub note_read : (flags : ℕ) → (line : List ℕ) → Option ℕ
note_read flags line = and_text (behind (110 ∷ 32 ∷ []) line) (values_read flags)

-- a line of a note of numbers: n, and a space and a value for each variable
abbrev pub number_note_read : List VariableModel → (line : List ℕ) → Option ℕ
number_note_read vs line = and_text (behind (110 ∷ []) line) (number.values_read vs 0)

-- one more note, if there is room
abbrev pub one_more : (room count : ℕ) → Option ℕ → Option ℕ
one_more room count None = None
one_more room count (Some code) = cond (nat_lt count room) (Some (count + 1)) None

-- the number of notes after one more line
abbrev pub note_counted : (note : List ℕ → Option ℕ) → (room count : ℕ) → (line : List ℕ) → Option ℕ
note_counted note room count line = one_more room count (note line)

-- the code of a line that is a note
abbrev pub code_or_zero : Option ℕ → ℕ
code_or_zero None = 0
code_or_zero (Some code) = code

-- the codes of lines that are notes
abbrev pub codes_of : (note : List ℕ → Option ℕ) → List (List ℕ) → List ℕ
codes_of note [] = []
codes_of note (l ∷ ls) = code_or_zero (note l) ∷ codes_of note ls

-- codes in the first entries of a list, whose other entries stay
abbrev pub over : (codes visits : List ℕ) → List ℕ
over [] vs = vs
over (c ∷ cs) [] = []
over (c ∷ cs) (v ∷ vs) = c ∷ over cs vs

-- the number of notes, or the place of the first wrong line; and the visit list, which stays where a line is wrong
abbrev pub Noted : Type 0
Noted = Result ℕ ℕ × List ℕ

-- what a call gave, with the visit list after it
abbrev pub noted : Result ℕ ℕ → List ℕ → Noted
noted r visits = (r, visits)

-- the codes are written only where every line is right
abbrev pub if_right : (note : List ℕ → Option ℕ) → Result ℕ ℕ → List (List ℕ) → (visits : List ℕ) → Noted
if_right note (Ok count) ls visits = (Ok count, over (codes_of note ls) visits)
if_right note (Err place) ls visits = (Err place, visits)

-- notes from a place on, at most as many as the visit list has entries, and at most 1,024
abbrev pub notes_read : (note : List ℕ → Option ℕ) → (place : ℕ) → (notes : List ℕ) → (visits : List ℕ) → Noted
notes_read note place bs visits =
    if_right note (lines_read (note_counted note (min (length visits) 1024)) place (lines_of bs) 0) (lines_of bs) visits
