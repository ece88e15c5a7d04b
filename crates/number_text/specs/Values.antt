-- The values of a note.
use Rattle.std.specs.Prelude.{ℕ, ◌+◌, ◌*◌, ◌<◌, cond, ◌&&◌, List, [], ◌∷◌, ℤ, ◌-ℤ◌, Some, None, Option, int_le, unsigned_abs}
use Rattle.items.specs.Lines.{behind}
use Rattle.items.specs.declared.reads.Read.{Read}
use Rattle.items.specs.Numbers.{Reading, integer_read}
use Rattle.items.specs.Reads.{and_read, and_text, whole}
use Rattle.numbers.specs.Limits.{value_count}
use Rattle.numbers.specs.Values.{VariableModel}
use Rattle.number_text.specs.Chains.{and_found}

-- the code with one more value, if it lies from low to high: the values of a variable count on behind the code of those before it
abbrev pub counted_on : (low high : ℤ) → (before : ℕ) → (value : ℤ) → Option ℕ
counted_on low high before value = cond (int_le low value && int_le value high) (Some (before * value_count low high + unsigned_abs (value -ℤ low))) None

-- a code counts no further than one more code before it would begin
abbrev pub counts_below : (low high : ℤ) → (before : ℕ) → Option ℕ → Type 0
counts_below low high before (Some code) = code < (before + 1) * value_count low high
counts_below low high before None = Unit {0}

-- the same of a code that was read
abbrev pub reads_below : (low high : ℤ) → (before : ℕ) → Option (Read ℕ) → Type 0
reads_below low high before (Some n) = n.value < (before + 1) * value_count low high
reads_below low high before None = Unit {0}

-- a space and the value of a variable from low to high
abbrev pub value_read : (low high : ℤ) → (before : ℕ) → (text : List ℕ) → Reading
value_read low high before text =
    and_text (behind (32 ∷ []) text) (λ bs. and_read (integer_read 10000 bs) (λ value bs. and_found (counted_on low high before value) (λ code. Some (code, bs))))

-- a space and a value for each variable, and nothing after them: the code, the last variable moving fastest
abbrev pub values_read : List VariableModel → (before : ℕ) → (text : List ℕ) → Option ℕ
values_read [] before text = whole before text
values_read (v ∷ vs) before text = and_read (value_read v.low v.high before text) (values_read vs)
