-- Formulas with negation at the atoms alone, and where they stand in a draft.
use Rattle.std.specs.Prelude.{◌≡◌, ℕ, zero, suc, Bool, true, false, cond, not, List, [], ◌∷◌, ◌++◌}
use Rattle.ltlf.specs.Contents.{Contents}
use Rattle.ltlf.specs.declared.node.Node.{Node}
use Rattle.formula_text.specs.Operators.{constant_node, atom_node, one_node, two_node}
use Rattle.formula_text.specs.Grammar.{Written, constant, atom, negation, single, finally, globally, pair, made, built}
use Rattle.formula_text.specs.declared.operator.One.{One}
use Rattle.formula_text.specs.declared.operator.One.TheVariants as one
use Rattle.formula_text.specs.declared.operator.Two.{Two}
use Rattle.formula_text.specs.declared.operator.Two.TheVariants as two

-- A formula whose negations stand at atoms alone.
pub data Tree : Type 0 where
  value : Bool → Tree
  literal : (negated : Bool) → (atom : ℕ) → Tree
  over : One → Tree → Tree
  both : Two → Tree → Tree → Tree

-- X and W are duals
abbrev pub dual_one : One → One
dual_one one.Tomorrow = one.WeakTomorrow
dual_one one.WeakTomorrow = one.Tomorrow

-- and and or, U and R are duals
abbrev pub dual_two : Two → Two
dual_two two.And = two.Or
dual_two two.Or = two.And
dual_two two.Until = two.Release
dual_two two.Release = two.Until

-- negation pushed down to the atoms, by the duals; F w is U T w, and G w is R L w
abbrev pub pushed : (negated : Bool) → Written → Tree
pushed negated (constant v) = value (cond negated (not v) v)
pushed negated (atom a) = literal negated a
pushed negated (negation w) = pushed (not negated) w
pushed negated (single op w) = over (cond negated (dual_one op) op) (pushed negated w)
pushed negated (finally w) = both (cond negated two.Release two.Until) (value (cond negated false true)) (pushed negated w)
pushed negated (globally w) = both (cond negated two.Until two.Release) (value (cond negated true false)) (pushed negated w)
pushed negated (pair op l r) = both (cond negated (dual_two op) op) (pushed negated l) (pushed negated r)

-- the formula with number k
abbrev pub At : List Node → ℕ → Node → Type 0
At [] k n = ⊥
At (x ∷ xs) zero n = x ≡ n
At (x ∷ xs) (suc k) n = At xs k n

-- number k stands for a tree
abbrev pub Stands : List Node → Tree → ℕ → Type 0
Stands ns (value v) k = At ns k (constant_node v false)
Stands ns (literal negated a) k = At ns k (atom_node negated a)
Stands ns (over op t) k = (j : ℕ) × At ns k (one_node op false j) × Stands ns t j
Stands ns (both op s t) k = (i : ℕ) × (j : ℕ) × At ns k (two_node op false i j) × Stands ns s i × Stands ns t j

-- formulas are added at the end, and nothing else changes
pub record Grown (b after : Contents) : Type 0 where
  pub codes : after.codes ≡ b.codes
  pub atoms : after.atoms ≡ b.atoms
  pub rules : after.rules ≡ b.rules
  pub added : List Node
  pub nodes : after.nodes ≡ b.nodes ++ added

-- A formula that was built stands in the draft with its negations pushed down, and what was there stays.
abbrev pub BuiltStands : Type 0
BuiltStands =
    (negated : Bool) (w : Written) (b after : Contents) (k : ℕ) → built negated w b ≡ made after k →
    Grown b after × Stands after.nodes (pushed negated w) k
