-- How many value combinations the kept variables have.
use Rattle.std.specs.Prelude.{ℕ, ◌*◌, Bool, true, ◌&&◌, List, [], ◌∷◌, ◌==◌}
use Rattle.numbers.specs.declared.variable.Spanned.{Spanned}

-- the product of the widths
abbrev pub product : List Spanned → ℕ
product [] = 1
product (v ∷ vs) = v.variable.width * product vs

-- the span of each is the product of the later widths
abbrev pub spans_stand : List Spanned → Bool
spans_stand [] = true
spans_stand (v ∷ vs) = v.span == product vs && spans_stand vs

-- a variable before one more with this width
abbrev pub widened : Spanned → (by : ℕ) → Spanned
widened v by = record { variable = v.variable; span = v.span * by }
