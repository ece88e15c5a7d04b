-- The text of a name.
use Rattle.std.specs.Prelude.{ℕ, ◌/◌, ◌%◌, ◌^◌, Bool, cond, List, take, Some, None, Option, ◌==◌, slice_index}
use Rattle.std.specs.Str.{bytes_eq}
use Rattle.names.specs.declared.name.Name.{Name}
use Rattle.names.specs.Letters.{is_name}

-- the text that a name stands for
abbrev pub text_of : Name → List ℕ
text_of n = take n.len n.letters

-- the text of a name that may be missing
abbrev pub seen : Option Name → Option (List ℕ)
seen (Some n) = Some (text_of n)
seen None = None

-- a text, where it is a name
abbrev pub named : List ℕ → Option (List ℕ)
named text = cond (is_name text) (Some text) None

-- two names have the same text
abbrev pub same_text : Name → Name → Bool
same_text x y = bytes_eq (text_of x) (text_of y)

-- the bits that steer a walk: five of each letter, the lowest first
abbrev pub name_turn : Name → ℕ → Bool
name_turn n depth = slice_index (text_of n) (depth / 5 % 8) / 2 ^ (depth % 5) % 2 == 1
