-- What a numbers theory holds, and what it means.
use Rattle.std.specs.Prelude.{◌≡◌, ℕ, ◌<◌, ◌≤◌, Bool, true, false, ◌&&◌, List, [], ◌∷◌, map, length, ℤ, int_le, slice_index_or}
use Rattle.std.proofs.Common.{arith}
use Rattle.std.proofs.lemmas.List.{length-map}
use Rattle.names.specs.Letters.{is_name}
use Rattle.theory.specs.Meaning.{Meaning, InRange}
use Rattle.numbers.specs.declared.numbers.Numbers.{Numbers}
use Rattle.numbers.specs.Kept.{atom_of, named, sums_stand}
use Rattle.numbers.specs.Limits.{within}
use Rattle.numbers.specs.Values.{VariableModel, AtomModel, combinations, atom_holds}
use Rattle.numbers.specs.Variables.{variables_of}

-- The variables in their order, and the atoms by number.
pub record NumbersModel : Type 0 where
  pub variables : List VariableModel
  pub atoms : List AtomModel

-- the variables and atoms that are filled in
abbrev pub numbers_of : Numbers → NumbersModel
numbers_of t = record { variables = variables_of t.names t.grid; atoms = map atom_of t.atoms.items }

-- codes count the value combinations, and an atom holds where its comparison does
abbrev pub numbers_meaning : NumbersModel → Meaning
numbers_meaning m = record {
  codes = combinations m.variables;
  atoms = length m.atoms;
  fact = λ atom code next. slice_index_or (map (atom_holds m.variables code next) m.atoms) atom false;
}

-- there are as many atoms as are kept
pub count_atoms : (t : Numbers) → length (numbers_of t).atoms ≡ length t.atoms.items
count_atoms t = length-map t.atoms.items atom_of

-- 1 to 4,096 codes, and at most 32 atoms
pub numbers_ranges : (t : Numbers) → InRange (numbers_meaning (numbers_of t))
numbers_ranges t = record {
  some_code = omega (arith, t.counted, t.grid.coded);
  few_codes = omega (arith, t.counted, t.grid.most);
  few_atoms = omega (arith, count_atoms t, t.few);
}

-- one variable with these bounds, and no atom
abbrev pub started_with : List ℕ → List (ℤ × ℤ) → NumbersModel
started_with name bounds = record { variables = named (name ∷ []) bounds; atoms = [] }

-- the names of the variables, in their order
abbrev pub names_of : List VariableModel → List (List ℕ)
names_of vs = map (λ v. v.name) vs

-- every variable's bounds lie within ±10,000, low ≤ high
abbrev pub bounds_stand : List VariableModel → Bool
bounds_stand [] = true
bounds_stand (v ∷ vs) = (within 10000 v.low && (within 10000 v.high && int_le v.low v.high)) && bounds_stand vs

-- The limits: 1 to 8 variables with different names of 1 to 8 letters, at most 4,096 codes, and at most 32 atoms.
pub record Within (m : NumbersModel) : Type 0 where
  pub some_variable : 1 ≤ length m.variables
  pub few_variables : length m.variables ≤ 8
  pub names_fit : (k : ℕ) → k < length (names_of m.variables) → is_name (slice_index_or (names_of m.variables) k []) ≡ true
  pub names_differ : (j k : ℕ) → j < length (names_of m.variables) → k < length (names_of m.variables)
      → slice_index_or (names_of m.variables) j [] ≡ slice_index_or (names_of m.variables) k [] → j ≡ k
  pub bounds_fit : bounds_stand m.variables ≡ true
  pub few_codes : combinations m.variables ≤ 4096
  pub few_atoms : length m.atoms ≤ 32
  pub atoms_fit : sums_stand (length m.variables) m.atoms ≡ true

-- every numbers theory is within the limits
abbrev pub NumbersAreWithin : Type 0
NumbersAreWithin = (t : Numbers) → Within (numbers_of t)
