-- Labels: sets of formulas as numbers.
use Rattle.std.specs.Prelude.{◌≡◌, ℕ, ◌/◌, ◌%◌, ◌^◌, Bool, List, [], ◌∷◌, ◌==◌, bit_or}

-- A label is a set of formulas, as a number whose bit f says whether formula f is in it.
abbrev pub Label : Type 0
Label = ℕ

infix 4 ◌∈◌
-- formula f is in the label
unfoldable pub ◌∈◌ : ℕ → Label → Type 0
f ∈ L = L / 2 ^ f % 2 ≡ 1

-- whether formula f is in the label
abbrev pub has : Label → ℕ → Bool
has L f = L / 2 ^ f % 2 == 1

-- the label with these formulas too
abbrev pub adding : List ℕ → Label → Label
adding [] L = L
adding (f ∷ fs) L = bit_or (adding fs L) (2 ^ f)
