-- The values of variables, terms and sums, and when an atom holds.
use Rattle.std.specs.Prelude.{ℕ, zero, suc, ◌*◌, ◌/◌, ◌%◌, Bool, true, false, not, ◌&&◌, ◌||◌, List, [], ◌∷◌, ℤ, pos, ◌+ℤ◌, ◌*ℤ◌, Some, None, fold, Option, int_le, int_lt}
use Rattle.numbers.specs.declared.term.Moment.{Moment}
use Rattle.numbers.specs.declared.term.Moment.TheVariants as moment
use Rattle.numbers.specs.declared.term.Comparison.{Comparison}
use Rattle.numbers.specs.declared.term.Comparison.TheVariants.{Equal, Less, AtMost}
use Rattle.numbers.specs.declared.term.Term.{Term}
use Rattle.numbers.specs.Limits.{value_count}

-- A variable: its name, and the least and the greatest of its values.
pub record VariableModel : Type 0 where
  pub name : List ℕ
  pub low : ℤ
  pub high : ℤ

-- An atom: a sum of terms, compared with a constant.
pub record AtomModel : Type 0 where
  pub terms : List Term
  pub comparison : Comparison
  pub constant : ℤ

-- how many value combinations variables have
abbrev pub combinations : List VariableModel → ℕ
combinations [] = 1
combinations (v ∷ vs) = value_count v.low v.high * combinations vs

-- the value of variable i in a code: codes count the value combinations from 0, the last variable moving fastest
abbrev pub value : List VariableModel → (i code : ℕ) → ℤ
value [] i code = pos 0
value (v ∷ vs) zero code = v.low +ℤ pos (code / combinations vs % value_count v.low v.high)
value (v ∷ vs) (suc i) code = value vs i code

-- the code at a moment; none at the next moment where nothing comes next
abbrev pub code_at : Moment → (code : ℕ) → Option ℕ → Option ℕ
code_at moment.Now code n = Some code
code_at moment.Next code (Some n) = Some n
code_at moment.Next code None = None
code_at moment.WeakNext code (Some n) = Some n
code_at moment.WeakNext code None = None

-- a coefficient times the value of a variable at a code, where there is a code
abbrev pub times_value : List VariableModel → Term → Option ℕ → Option ℤ
times_value vs t (Some code) = Some (t.coefficient *ℤ value vs t.variable code)
times_value vs t None = None

-- the value of a term, which is defined unless a next is asked where nothing comes next
abbrev pub term_value : List VariableModel → (code : ℕ) → Option ℕ → Term → Option ℤ
term_value vs code n t = times_value vs t (code_at t.moment code n)

-- the sum of two values, where both are defined
abbrev pub plus : Option ℤ → Option ℤ → Option ℤ
plus None y = None
plus (Some a) None = None
plus (Some a) (Some b) = Some (a +ℤ b)

-- the sum of the terms, where all are defined
abbrev pub sum_value : List VariableModel → (code : ℕ) → Option ℕ → List Term → Option ℤ
sum_value vs code n ts = fold (λ sum t. plus sum (term_value vs code n t)) (Some (pos 0)) ts

-- whether a sum is equal to, less than or at most a constant
abbrev pub compared : Comparison → (sum constant : ℤ) → Bool
compared Equal a b = int_le a b && int_le b a
compared Less a b = int_lt a b
compared AtMost a b = int_le a b

-- a moment is a strong next
abbrev pub is_strong : Moment → Bool
is_strong moment.Now = false
is_strong moment.Next = true
is_strong moment.WeakNext = false

-- some term is at a strong next
abbrev pub some_strong : List Term → Bool
some_strong [] = false
some_strong (t ∷ ts) = is_strong t.moment || some_strong ts

-- an atom goes by its sum where all terms are defined; elsewhere it holds if none of its nexts is strong
abbrev pub judged : AtomModel → Option ℤ → Bool
judged a (Some sum) = compared a.comparison sum a.constant
judged a None = not (some_strong a.terms)

-- whether an atom holds at a code when a code, or nothing, comes next
abbrev pub atom_holds : List VariableModel → (code : ℕ) → Option ℕ → AtomModel → Bool
atom_holds vs code n a = judged a (sum_value vs code n a.terms)
