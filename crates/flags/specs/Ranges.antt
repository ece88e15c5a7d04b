-- The counts of a flags theory are in range.
use Rattle.std.specs.Prelude.{◌≡◌, length, refl}
use Rattle.std.proofs.Common.{pow_pos, pow_mono, arith}
use Rattle.names.proofs.Rosters.{texts_length, texts_few}
use Rattle.theory.specs.Meaning.{InRange}
use Rattle.flags.specs.declared.flags.Flags.{Flags}
use Rattle.flags.specs.Meaning.{flags_meaning}
use Rattle.flags.specs.Model.{flags_of}

-- there are as many names as the roster counts
pub count_names : (t : Flags) → length (flags_of t).names ≡ t.names.count
count_names t = texts_length t.names

-- there are as many atoms as the vector has
pub count_atoms : (t : Flags) → length (flags_of t).atoms ≡ length t.atoms.items
count_atoms t = refl

-- 1 to 2 ^ 12 codes, and at most 32 atoms
pub flags_ranges : (t : Flags) → InRange (flags_meaning (flags_of t))
flags_ranges t = record {
  some_code = pow_pos (length (flags_of t).names);
  few_codes = omega (arith, pow_mono (texts_few t.names));
  few_atoms = omega (arith, t.few);
}
