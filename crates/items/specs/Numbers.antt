-- How a whole number is read from the front of a text.
use Rattle.std.specs.Prelude.{◌≡◌, ℕ, zero, suc, ◌+◌, ◌-◌, ◌*◌, ◌^◌, ◌<◌, ◌≤◌, Bool, false, cond, List, [], ◌∷◌, ◌++◌, ℤ, pos, negsuc, Some, None, decimal, Option, ◌==◌, nat_le}
use Rattle.std.specs.Char.{is_ascii_digit}
use Rattle.items.specs.declared.reads.Read.{Read}

-- a number, and the text after it
abbrev pub Reading : Type 0
Reading = Option (ℕ × List ℕ)

abbrev pub at_most : ℕ → Option (Read ℕ) → Type 0
at_most limit (Some n) = n.value ≤ limit
at_most limit None = Unit {0}

abbrev pub begins_with_digit : List ℕ → Bool
begins_with_digit [] = false
begins_with_digit (b ∷ bs) = is_ascii_digit b

-- a reading is kept if its number is at most `limit`
abbrev pub if_at_most : ℕ → ℕ × List ℕ → Reading
if_at_most limit r = cond (nat_le r.0 limit) (Some r) None

-- the digits in front, put behind those that wrote n
abbrev pub digits_after : ℕ → List ℕ → ℕ × List ℕ
digits_after n [] = (n, [])
digits_after n (b ∷ bs) = cond (is_ascii_digit b) (digits_after (n * 10 + (b - 48)) bs) (n, b ∷ bs)

abbrev pub digits_read : ℕ → List ℕ → Reading
digits_read limit bs = if_at_most limit (digits_after 0 bs)

-- zero alone, or digits that begin with another
abbrev pub natural_read : ℕ → List ℕ → Reading
natural_read limit [] = None
natural_read limit (b ∷ bs) =
    cond (b == 48) (cond (begins_with_digit bs) None (Some (0, bs))) (cond (is_ascii_digit b) (digits_read limit (b ∷ bs)) None)

-- bs writes n, at most `limit`, and then rest, where no digit follows
pub record Writes (limit : ℕ) (bs : List ℕ) (n : ℕ) (rest : List ℕ) : Type 0 where
  pub text : bs ≡ decimal n ++ rest
  pub within : n ≤ limit
  pub ends : begins_with_digit rest ≡ false

-- a number is read exactly where one is written
abbrev pub NaturalLaw : Type 0
NaturalLaw = (limit : ℕ) → limit < 2 ^ 64 → (bs : List ℕ) (n : ℕ) (rest : List ℕ) → (natural_read limit bs ≡ Some (n, rest) → Writes limit bs n rest) × (Writes limit bs n rest → natural_read limit bs ≡ Some (n, rest))

-- a number with its sign, and the text after it
abbrev pub SignedReading : Type 0
SignedReading = Option (ℤ × List ℕ)

abbrev pub as_signed : Reading → SignedReading
as_signed None = None
as_signed (Some r) = Some (pos r.0, r.1)

-- below zero, which has no minus
abbrev pub below : ℕ → List ℕ → SignedReading
below zero rest = None
below (suc n) rest = Some (negsuc n, rest)

abbrev pub minus : Reading → SignedReading
minus None = None
minus (Some r) = below r.0 r.1

abbrev pub integer_read : ℕ → List ℕ → SignedReading
integer_read limit [] = None
integer_read limit (b ∷ bs) = cond (b == 45) (minus (natural_read limit bs)) (as_signed (natural_read limit (b ∷ bs)))
