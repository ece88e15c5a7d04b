-- The trailer of a sheet.
use Rattle.std.specs.Prelude.{ℕ, ◌-◌, Bool, cond, ◌&&◌, List, [], ◌∷◌, length, take, drop, Some, None, Option, ◌==◌, nat_le, slice_index}
use Rattle.items.specs.Reads.{and_read, and_text, whole}
use Rattle.items.specs.Numbers.{natural_read}
use Rattle.items.specs.Lines.{behind, last_start}
use Rattle.items.specs.declared.trailers.Trailer.{Trailer}

-- where the rules and the notes begin, if there is a trailer
abbrev pub trailer_seen : Option Trailer → Option (ℕ × ℕ)
trailer_seen (Some t) = Some (t.rules, t.notes)
trailer_seen None = None

-- the line `end R N`, with the places R and N
abbrev pub trailer_read : List ℕ → Option (ℕ × ℕ)
trailer_read line =
    and_text (behind (101 ∷ 110 ∷ 100 ∷ 32 ∷ []) line) (λ bs. and_read (natural_read 65536 bs) (λ r bs. and_text (behind (32 ∷ []) bs) (λ bs. and_read (natural_read 65536 bs) (λ n bs. whole (r, n) bs))))

-- whether a line starts at place p, past the first
abbrev pub starts_line : List ℕ → ℕ → Bool
starts_line text p = slice_index text (p - 1) == 10

-- 0 < R ≤ N ≤ own place, each at a line's start
abbrev pub points_back : List ℕ → (own r n : ℕ) → Bool
points_back text own r n = nat_le 1 r && (nat_le r n && (nat_le n own && (starts_line text r && starts_line text n)))

-- a trailer, if it points back
abbrev pub checked : List ℕ → (own : ℕ) → Option (ℕ × ℕ) → Option (ℕ × ℕ)
checked text own None = None
checked text own (Some t) = cond (points_back text own t.0 t.1) (Some t) None

-- the trailer that stands at its own place, up to the last byte
abbrev pub trailer_at : List ℕ → (own : ℕ) → Option (ℕ × ℕ)
trailer_at text own = checked text own (trailer_read (take (length text - 1 - own) (drop own text)))

-- the trailer of a sheet, which is its last line
abbrev pub trailer_in : List ℕ → Option (ℕ × ℕ)
trailer_in text = trailer_at text (last_start text)
