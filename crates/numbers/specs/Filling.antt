-- What filling answers and leaves.
use Rattle.std.specs.Prelude.{ℕ, zero, suc, Bool, cond, not, ◌&&◌, List, [], ◌∷◌, ◌++◌, map, length, ℤ, pos, is_some, Some, None, Ok, Err, Option, Result, nat_lt}
use Rattle.std.specs.Str.{bytes_eq}
use Rattle.intern.specs.Index.{place}
use Rattle.names.specs.Letters.{is_name}
use Rattle.refusal.specs.declared.FillRefusal.{FillRefusal}
use Rattle.refusal.specs.declared.FillRefusal.TheVariants.{Variable, Atom}
use Rattle.numbers.specs.declared.numbers.Numbers.{Numbers}
use Rattle.numbers.specs.declared.term.Comparison.{Comparison}
use Rattle.numbers.specs.declared.term.Term.{Term}
use Rattle.numbers.specs.Kept.{as_atom}
use Rattle.numbers.specs.Limits.{bounds_fit, sum_fits}
use Rattle.numbers.specs.Model.{NumbersModel, numbers_of}
use Rattle.numbers.specs.Values.{VariableModel, combinations}

-- the number of the variable with a name
abbrev pub variable_number : List ℕ → List VariableModel → Option ℕ
variable_number name variables = place bytes_eq name (map (λ v. v.name) variables)

-- the bounds of a variable
abbrev pub bounds_at : List VariableModel → (number : ℕ) → Option (ℤ × ℤ)
bounds_at [] number = None
bounds_at (v ∷ vs) zero = Some (v.low, v.high)
bounds_at (v ∷ vs) (suc number) = bounds_at vs number

-- a variable with a name and bounds
abbrev pub as_variable : List ℕ → (low high : ℤ) → VariableModel
as_variable name low high = record { name = name; low = low; high = high }

-- one variable, and no atom
abbrev pub one_variable : List ℕ → (low high : ℤ) → NumbersModel
one_variable name low high = record { variables = as_variable name low high ∷ []; atoms = [] }

-- one variable named `a` from 0 to 0, and no atom
abbrev pub fresh_numbers : NumbersModel
fresh_numbers = one_variable (97 ∷ []) (pos 0) (pos 0)

-- what a theory that may be refused holds
abbrev pub seen_numbers : Result Numbers FillRefusal → Result NumbersModel FillRefusal
seen_numbers (Ok t) = Ok (numbers_of t)
seen_numbers (Err e) = Err e

-- starting with one variable: refused where the text is no name, or the bounds do not fit
abbrev pub started : List ℕ → (low high : ℤ) → Result NumbersModel FillRefusal
started name low high = cond (is_name name && bounds_fit 1 low high) (Ok (one_variable name low high)) (Err Variable)

-- a variable may be added where the text is a name, no variable has it, fewer than 8 variables stand, and the bounds fit beside the codes
abbrev pub may_add_variable : NumbersModel → List ℕ → (low high : ℤ) → Bool
may_add_variable m name low high =
    is_name name
    && (not (is_some (variable_number name m.variables)) && (nat_lt (length m.variables) 8 && bounds_fit (combinations m.variables) low high))

-- what adding a variable answers
abbrev pub variable_answer : NumbersModel → List ℕ → (low high : ℤ) → Result (Unit {0}) FillRefusal
variable_answer m name low high = cond (may_add_variable m name low high) (Ok tt) (Err Variable)

-- an added variable comes last, and a refusal changes nothing
abbrev pub variable_leaves : NumbersModel → List ℕ → (low high : ℤ) → NumbersModel
variable_leaves m name low high =
    cond (may_add_variable m name low high) (record { variables = m.variables ++ as_variable name low high ∷ []; atoms = m.atoms }) m

-- an atom may be added where its terms and its constant fit and fewer than 32 atoms stand
abbrev pub may_add_atom : NumbersModel → List Term → (constant : ℤ) → Bool
may_add_atom m terms constant = sum_fits (length m.variables) terms constant && nat_lt (length m.atoms) 32

-- what adding an atom answers
abbrev pub atom_answer : NumbersModel → List Term → (constant : ℤ) → Result (Unit {0}) FillRefusal
atom_answer m terms constant = cond (may_add_atom m terms constant) (Ok tt) (Err Atom)

-- an added atom comes last, and a refusal changes nothing
abbrev pub atom_leaves : NumbersModel → List Term → Comparison → (constant : ℤ) → NumbersModel
atom_leaves m terms comparison constant =
    cond (may_add_atom m terms constant) (record { variables = m.variables; atoms = m.atoms ++ as_atom terms comparison constant ∷ [] }) m
