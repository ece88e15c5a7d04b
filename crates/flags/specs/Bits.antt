-- The bits of a code, and the code of bits.
use Rattle.std.specs.Prelude.{◌≡◌, ℕ, ◌+◌, ◌*◌, ◌/◌, ◌%◌, ◌^◌, ◌<◌, List, [], ◌∷◌, map, ℤ, pos, unsigned_abs}
use Rattle.std.specs.List.{range_with_len}

-- the first n bits of a code, bit 0 first
abbrev pub bits_below : (n code : ℕ) → List ℤ
bits_below n code = map (λ i. pos (code / 2 ^ i % 2)) (range_with_len 0 n)

-- the code of bits, bit 0 first
abbrev pub code_of : List ℤ → ℕ
code_of [] = 0
code_of (z ∷ zs) = unsigned_abs z + 2 * code_of zs

-- the bits of a code tell the code
abbrev pub BitsTellCodes : Type 0
BitsTellCodes = (n code : ℕ) → code < 2 ^ n → code_of (bits_below n code) ≡ code
