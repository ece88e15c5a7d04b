-- What is kept for speed, and what is read off it.
use Rattle.std.specs.Prelude.{ℕ, zero, suc, ◌*◌, ◌/◌, ◌%◌, Bool, true, false, cond, ◌&&◌, List, [], ◌∷◌, map, length, ℤ, pos, ◌+ℤ◌, ◌*ℤ◌, Some, None, fold, Option, nat_le, nat_lt}
use Rattle.std.specs.List.{list_all}
use Rattle.numbers.specs.declared.term.Moment.{Moment}
use Rattle.numbers.specs.declared.term.Moment.TheVariants as moment
use Rattle.numbers.specs.declared.term.Comparison.{Comparison}
use Rattle.numbers.specs.declared.term.Term.{Term}
use Rattle.numbers.specs.declared.variable.Spanned.{Spanned}
use Rattle.numbers.specs.declared.variable.Variable.{Variable}
use Rattle.numbers.specs.declared.grid.Grid.{Grid}
use Rattle.numbers.specs.declared.atom.Atom.{Atom}
use Rattle.numbers.specs.Limits.{bounds_fit, sum_fits}
use Rattle.numbers.specs.Values.{VariableModel, AtomModel, compared}

-- the bounds of variables, in their order
abbrev pub bounds_of : List Spanned → List (ℤ × ℤ)
bounds_of vs = map (λ v. (v.variable.low, v.variable.high)) vs

-- the bounds of the variables of a grid
abbrev pub grid_bounds : Grid → List (ℤ × ℤ)
grid_bounds g = bounds_of g.variables.items

-- the bounds in a grid that may be missing
abbrev pub grid_seen : Option Grid → Option (List (ℤ × ℤ))
grid_seen (Some g) = Some (grid_bounds g)
grid_seen None = None

-- a variable's bounds, where they fit beside these codes
abbrev pub variable_made : (codes : ℕ) (low high : ℤ) → Option (ℤ × ℤ)
variable_made codes low high = cond (bounds_fit codes low high) (Some (low, high)) None

-- the bounds of a variable that may be missing
abbrev pub variable_seen : Option Variable → Option (ℤ × ℤ)
variable_seen (Some v) = Some (v.low, v.high)
variable_seen None = None

-- a variable makes at most 4,096 codes beside these
abbrev pub leaves_room : (codes : ℕ) → Option Variable → Bool
leaves_room codes (Some v) = nat_le (codes * v.width) 4096
leaves_room codes None = true

-- one variable, where its bounds fit
abbrev pub grid_single : (low high : ℤ) → Option (List (ℤ × ℤ))
grid_single low high = cond (bounds_fit 1 low high) (Some ((low, high) ∷ [])) None

-- the bounds of one more variable, where there is room and they fit
abbrev pub variable_fits : Grid → (low high : ℤ) → Option (ℤ × ℤ)
variable_fits g low high = cond (nat_lt (length g.variables.items) 8 && bounds_fit g.codes low high) (Some (low, high)) None

-- names and bounds together
abbrev pub named : List (List ℕ) → List (ℤ × ℤ) → List VariableModel
named [] bs = []
named (n ∷ ns) [] = []
named (n ∷ ns) (b ∷ bs) = record { name = n; low = b.0; high = b.1 } ∷ named ns bs

-- the atom that is kept
abbrev pub atom_of : Atom → AtomModel
atom_of a = record { terms = a.terms.items; comparison = a.comparison; constant = a.constant }

-- the atom that may be missing
abbrev pub atom_seen : Option Atom → Option AtomModel
atom_seen (Some a) = Some (atom_of a)
atom_seen None = None

-- a sum compared with a constant
abbrev pub as_atom : List Term → Comparison → (constant : ℤ) → AtomModel
as_atom terms comparison constant = record { terms = terms; comparison = comparison; constant = constant }

-- the atom, where its terms and its constant fit
abbrev pub atom_made : (variables : ℕ) → List Term → Comparison → (constant : ℤ) → Option AtomModel
atom_made variables terms comparison constant = cond (sum_fits variables terms constant) (Some (as_atom terms comparison constant)) None

-- every atom is a sum of 1 to 4 terms over the variables, with its constant in range
abbrev pub sums_stand : (variables : ℕ) → List AtomModel → Bool
sums_stand variables atoms = list_all (λ a. sum_fits variables a.terms a.constant) atoms

-- the value of variable i, read by its span
abbrev pub kept_value : List Spanned → (i code : ℕ) → ℤ
kept_value [] i code = pos 0
kept_value (v ∷ vs) zero code = v.variable.low +ℤ pos (code / v.span % v.variable.width)
kept_value (v ∷ vs) (suc i) code = kept_value vs i code

-- the value of variable i in a code, read by its kept span
abbrev pub grid_value : Grid → (i code : ℕ) → ℤ
grid_value g i code = kept_value g.variables.items i code

-- the code that a term reads, where a code comes next
abbrev pub read_at : Moment → (code next : ℕ) → ℕ
read_at moment.Now code n = code
read_at moment.Next code n = n
read_at moment.WeakNext code n = n

-- a term's number, where a code comes next
abbrev pub amount_of : Grid → (code next : ℕ) → Term → ℤ
amount_of g code n t = t.coefficient *ℤ grid_value g t.variable (read_at t.moment code n)

-- the sum of the terms, where a code comes next
abbrev pub kept_sum : Grid → (code next : ℕ) → List Term → ℤ
kept_sum g code n ts = fold (λ sum t. sum +ℤ amount_of g code n t) (pos 0) ts

-- an atom compares its sum where a code comes next
abbrev pub kept_compared : Grid → (code next : ℕ) → Atom → Bool
kept_compared g code n a = compared a.comparison (kept_sum g code n a.terms.items) a.constant

-- what an atom comes to where nothing comes next, by the strongest of its moments
abbrev pub at_last : Moment → (plain : Bool) → Bool
at_last moment.Now plain = plain
at_last moment.Next plain = false
at_last moment.WeakNext plain = true

-- whether a kept atom holds at a code, by what comes next
abbrev pub kept_holds : Grid → (code : ℕ) → Option ℕ → Atom → Bool
kept_holds g code (Some n) a = kept_compared g code n a
kept_holds g code None a = at_last a.strength (kept_compared g code code a)
