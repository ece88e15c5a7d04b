-- What printing a code answers and writes.
use Rattle.std.specs.Prelude.{ℕ, cond, List, [], ◌∷◌, ◌++◌, length, ℤ, Ok, Err, fold, Result, ◌==◌, nat_lt}
use Rattle.std.specs.Fmt.{signed_decimal}
use Rattle.refusal.specs.declared.Refusal.{Refusal}
use Rattle.refusal.specs.declared.Refusal.TheVariants.{NoSuchCode, BadBuffer}
use Rattle.writer.specs.Puts.{put_at}

-- a value in decimal, after a space unless it begins the text
abbrev pub item : (at : ℕ) → ℤ → List ℕ
item at z = cond (at == 0) (signed_decimal z) (32 ∷ signed_decimal z)

-- values in decimal, separated by one space
abbrev pub spaced : List ℤ → List ℕ
spaced zs = fold (λ text z. text ++ item (length text) z) [] zs

-- the length of the text; 4 for a code that does not exist comes before 9 for a buffer under 64 bytes
abbrev pub print_answer : (codes code room : ℕ) (text : List ℕ) → Result ℕ Refusal
print_answer codes code room text = cond (nat_lt code codes) (cond (nat_lt room 64) (Err BadBuffer) (Ok (length text))) (Err NoSuchCode)

-- the text over the first bytes; a refused call leaves all bytes as they were
abbrev pub print_leaves : (codes code : ℕ) (bytes text : List ℕ) → List ℕ
print_leaves codes code bytes text = cond (nat_lt code codes) (cond (nat_lt (length bytes) 64) bytes (put_at bytes 0 text)) bytes

-- the same where the text may be over 64 bytes: 9 for such a text too
abbrev pub values_answer : (codes code room : ℕ) (text : List ℕ) → Result ℕ Refusal
values_answer codes code room text = print_answer codes code (cond (nat_lt 64 (length text)) 0 room) text

abbrev pub values_leave : (codes code : ℕ) (bytes text : List ℕ) → List ℕ
values_leave codes code bytes text = cond (nat_lt 64 (length text)) bytes (print_leaves codes code bytes text)
