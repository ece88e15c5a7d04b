-- Every flags theory is within the limits.
use Rattle.names.proofs.Rosters.{texts_few, texts_fit, texts_differ}
use Rattle.flags.specs.declared.flags.Flags.{Flags}
use Rattle.flags.specs.Model.{flags_of, Within}

pub within : (t : Flags) → Within (flags_of t)
within t = record {
  some_flag = t.some;
  few_flags = texts_few t.names;
  names_fit = texts_fit t.names;
  names_differ = texts_differ t.names;
  few_atoms = t.few;
  atoms_fit = t.named;
}
