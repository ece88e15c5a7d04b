-- Which texts are names.
use Rattle.std.specs.Prelude.{ℕ, Bool, ◌&&◌, List, length, nat_le, nat_lt}
use Rattle.std.specs.List.{list_all}

-- a byte is a letter a to z
abbrev pub is_letter : ℕ → Bool
is_letter b = nat_le 97 b && nat_le b 122

-- each byte of a text is a letter
abbrev pub all_letters : List ℕ → Bool
all_letters text = list_all is_letter text

-- a name is 1 to 8 letters
abbrev pub is_name : List ℕ → Bool
is_name text = nat_lt 0 (length text) && (nat_le (length text) 8 && all_letters text)
