-- What filling answers and leaves.
use Rattle.std.specs.Prelude.{ℕ, Bool, cond, not, ◌&&◌, List, [], ◌∷◌, ◌++◌, length, is_some, Some, None, Ok, Err, Option, Result, nat_lt}
use Rattle.std.specs.Str.{bytes_eq}
use Rattle.intern.specs.Index.{place}
use Rattle.names.specs.Letters.{is_name}
use Rattle.refusal.specs.declared.FillRefusal.{FillRefusal}
use Rattle.refusal.specs.declared.FillRefusal.TheVariants.{Variable, Atom}
use Rattle.flags.specs.declared.flags.Flags.{Flags}
use Rattle.flags.specs.Model.{FlagsModel, flags_of}

-- the number of the flag with a name
abbrev pub flag_number : List ℕ → List (List ℕ) → Option ℕ
flag_number name names = place bytes_eq name names

-- one flag, and no atom
abbrev pub one_flag : List ℕ → FlagsModel
one_flag name = record { names = name ∷ []; atoms = [] }

-- one flag named `a`, and no atom
abbrev pub fresh_flags : FlagsModel
fresh_flags = one_flag (97 ∷ [])

-- what a theory that may be refused holds
abbrev pub seen_flags : Result Flags FillRefusal → Result FlagsModel FillRefusal
seen_flags (Ok t) = Ok (flags_of t)
seen_flags (Err e) = Err e

-- starting with one flag: refused where the text is no name
abbrev pub started : List ℕ → Result FlagsModel FillRefusal
started name = cond (is_name name) (Ok (one_flag name)) (Err Variable)

-- a flag may be added where the text is a name, no flag has it, and fewer than 12 flags stand
abbrev pub may_add_flag : FlagsModel → List ℕ → Bool
may_add_flag m name = is_name name && (not (is_some (flag_number name m.names)) && nat_lt (length m.names) 12)

abbrev pub flag_answer : FlagsModel → List ℕ → Result (Unit {0}) FillRefusal
flag_answer m name = cond (may_add_flag m name) (Ok tt) (Err Variable)

-- an added flag comes last, and a refusal changes nothing
abbrev pub flag_leaves : FlagsModel → List ℕ → FlagsModel
flag_leaves m name = cond (may_add_flag m name) (record { names = m.names ++ name ∷ []; atoms = m.atoms }) m

-- an atom of a flag may be added where the flag was found and fewer than 32 atoms stand
abbrev pub may_add_atom : FlagsModel → List ℕ → Bool
may_add_atom m name = is_some (flag_number name m.names) && nat_lt (length m.atoms) 32

abbrev pub atom_answer : FlagsModel → List ℕ → Result (Unit {0}) FillRefusal
atom_answer m name = cond (may_add_atom m name) (Ok tt) (Err Atom)

-- the atoms with one more, of the flag that was found
abbrev pub with_atom : List ℕ → Option ℕ → List ℕ
with_atom atoms (Some flag) = atoms ++ flag ∷ []
with_atom atoms None = atoms

-- an added atom comes last, and a refusal changes nothing
abbrev pub atom_leaves : FlagsModel → List ℕ → FlagsModel
atom_leaves m name =
    cond (may_add_atom m name) (record { names = m.names; atoms = with_atom m.atoms (flag_number name m.names) }) m
