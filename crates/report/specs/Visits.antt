-- The line of a visit, and what writing it answers and leaves.
use Rattle.std.specs.Prelude.{ℕ, cond, List, [], ◌∷◌, ◌++◌, length, drop, ℤ, Ok, Err, codes, Result, nat_lt}
use Rattle.refusal.specs.declared.Refusal.{Refusal}
use Rattle.refusal.specs.declared.Refusal.TheVariants.{NoSuchCode, BadBuffer}
use Rattle.theory.specs.Print.{spaced}

-- the values of a visit, as in a note of a sheet
abbrev pub visit_text : List ℤ → List ℕ
visit_text values = codes "n " ++ (spaced values ++ 10 ∷ [])

-- the length of the line; 4 for a code that does not exist comes before 9 for fewer than 67 bytes, 3 more than the values take at most
abbrev pub visit_answer : (count code room : ℕ) (line : List ℕ) → Result ℕ Refusal
visit_answer count code room line = cond (nat_lt code count) (cond (nat_lt room 67) (Err BadBuffer) (Ok (length line))) (Err NoSuchCode)

-- the line stands at the front, and the bytes past it stay; a refused call leaves all bytes as they were
abbrev pub visit_leaves : (count code : ℕ) (bytes line : List ℕ) → List ℕ
visit_leaves count code bytes line = cond (nat_lt code count) (cond (nat_lt (length bytes) 67) bytes (line ++ drop (length line) bytes)) bytes
