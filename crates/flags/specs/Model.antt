-- What a flags theory holds.
use Rattle.std.specs.Prelude.{◌≡◌, ℕ, ◌<◌, ◌≤◌, true, List, [], length, slice_index, slice_index_or}
use Rattle.names.specs.Letters.{is_name}
use Rattle.names.specs.Rosters.{texts}
use Rattle.flags.specs.declared.flags.Flags.{Flags}

-- The names of the flags, flag 0 first, and for each atom the number of the flag that it names.
pub record FlagsModel : Type 0 where
  pub names : List (List ℕ)
  pub atoms : List ℕ

-- the names and atoms that are filled in
abbrev pub flags_of : Flags → FlagsModel
flags_of t = record { names = texts t.names; atoms = t.atoms.items }

-- The limits: 1 to 12 flags with different names of 1 to 8 letters, and at most 32 atoms, each naming a flag.
pub record Within (m : FlagsModel) : Type 0 where
  pub some_flag : 1 ≤ length m.names
  pub few_flags : length m.names ≤ 12
  pub names_fit : (k : ℕ) → k < length m.names → is_name (slice_index_or m.names k []) ≡ true
  pub names_differ : (j k : ℕ) → j < length m.names → k < length m.names → slice_index_or m.names j [] ≡ slice_index_or m.names k [] → j ≡ k
  pub few_atoms : length m.atoms ≤ 32
  pub atoms_fit : (k : ℕ) → k < length m.atoms → slice_index m.atoms k < length m.names
