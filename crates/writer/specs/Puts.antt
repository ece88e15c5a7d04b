-- What writing into a buffer answers and leaves.
use Rattle.std.specs.Prelude.{ℕ, ◌+◌, Bool, cond, List, ◌++◌, length, take, drop, Some, None, Option, nat_le}

-- the bytes with a text written over them from a place on
abbrev pub put_at : (bytes : List ℕ) (at : ℕ) (text : List ℕ) → List ℕ
put_at bytes at text = take at bytes ++ (text ++ drop (at + length text) bytes)

-- a text fits between a place and the end of the bytes
abbrev pub fits : (room at : ℕ) (text : List ℕ) → Bool
fits room at text = nat_le (at + length text) room

-- the place after the text, where it fits
abbrev pub put_answer : (room at : ℕ) (text : List ℕ) → Option ℕ
put_answer room at text = cond (fits room at text) (Some (at + length text)) None

-- the bytes afterwards: as they were where the text does not fit
abbrev pub put_leaves : (bytes : List ℕ) (at : ℕ) (text : List ℕ) → List ℕ
put_leaves bytes at text = cond (fits (length bytes) at text) (put_at bytes at text) bytes
