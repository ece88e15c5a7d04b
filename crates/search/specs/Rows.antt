-- The rows of a search: a position each, with the row from which a step led to it.
use Rattle.std.specs.Prelude.{ℕ, ◌+◌, ◌-◌, ◌*◌, ◌/◌, ◌%◌, ◌^◌, Bool, ◌&&◌, ◌==◌}
use Rattle.tableau.specs.Positions.{Position}
use Rattle.search.specs.declared.row.Row.{Row}

-- the position that a row holds
abbrev pub position : Row → Position
position r = record { place = r.place; label = r.label; code = r.code }

-- whether two rows hold one position
abbrev pub same_position : Row → Row → Bool
same_position x y = x.place == y.place && (x.label == y.label && x.code == y.code)

-- the key of a row: label, code and place mixed into 64 bits
abbrev pub mixed : Row → ℕ
mixed r =
    (r.label * 0x9E37_79B9_7F4A_7C15 % 2 ^ 64 + (r.code + 65536 * r.place) * 0xD6E8_FEB8_6659_FD93 % 2 ^ 64) % 2 ^ 64

-- the bit of a row's key at a depth of the walk, from the top bit down
abbrev pub row_turn : Row → ℕ → Bool
row_turn r d = mixed r / 2 ^ (63 - d % 64) % 2 == 1
