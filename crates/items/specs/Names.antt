-- How a name is read from the front of a text.
use Rattle.std.specs.Prelude.{◌≡◌, ℕ, suc, ◌≤◌, Bool, true, false, cond, ◌&&◌, List, [], ◌∷◌, ◌++◌, length, take, drop, Some, None, Option, nat_le}
use Rattle.std.specs.Char.{is_ascii_lowercase}
use Rattle.std.specs.Borrow.{Bor}
use Rattle.items.specs.declared.reads.Read.{Read}

-- how many small letters stand in front
abbrev pub letters_in : List ℕ → ℕ
letters_in [] = 0
letters_in (b ∷ bs) = cond (is_ascii_lowercase b) (suc (letters_in bs)) 0

abbrev pub Naming : Type 0
Naming = Option (List ℕ × List ℕ)

abbrev pub name_seen : Option (Read (Bor (List ℕ))) → Naming
name_seen (Some n) = Some (n.value.now, n.rest.now)
name_seen None = None

-- n letters in front, if they make a name
abbrev pub named : ℕ → List ℕ → Naming
named n bs = cond (nat_le 1 n && nat_le n 8) (Some (take n bs, drop n bs)) None

abbrev pub name_read : List ℕ → Naming
name_read bs = named (letters_in bs) bs

abbrev pub begins_with_letter : List ℕ → Bool
begins_with_letter [] = false
begins_with_letter (b ∷ bs) = is_ascii_lowercase b

abbrev pub all_letters : List ℕ → Bool
all_letters [] = true
all_letters (b ∷ bs) = is_ascii_lowercase b && all_letters bs

-- bs is a name of 1 to 8 letters and then rest, where no letter follows
pub record Names (bs name rest : List ℕ) : Type 0 where
  pub text : bs ≡ name ++ rest
  pub letters : all_letters name ≡ true
  pub some : 1 ≤ length name
  pub few : length name ≤ 8
  pub ends : begins_with_letter rest ≡ false

abbrev pub NameLaw : Type 0
NameLaw = (bs name rest : List ℕ) → (name_read bs ≡ Some (name, rest) → Names bs name rest) × (Names bs name rest → name_read bs ≡ Some (name, rest))
