-- The meaning of a flags theory.
use Rattle.std.specs.Prelude.{ℕ, ◌/◌, ◌%◌, ◌^◌, Bool, length, ◌==◌, slice_index}
use Rattle.theory.specs.Meaning.{Meaning}
use Rattle.flags.specs.Model.{FlagsModel}

-- bit i of a code, bit 0 the lowest
abbrev pub bit : (code i : ℕ) → Bool
bit code i = code / 2 ^ i % 2 == 1

-- an atom holds at the codes where the bit of its flag is 1, whatever comes next
abbrev pub flags_meaning : FlagsModel → Meaning
flags_meaning m = record {
  codes = 2 ^ length m.names;
  atoms = length m.atoms;
  fact = λ atom code next. bit code (slice_index m.atoms atom);
}
