-- Formulas of LTL over finite traces as trees, and the formula that a number stands for.
use Rattle.std.specs.Prelude.{◌≡◌, ℕ, zero, suc, ◌⊎◌, List, [], ◌∷◌, slice_index_or}
use Rattle.ltlf.specs.Contents.{Contents}
use Rattle.ltlf.specs.declared.node.Node.{Node}
use Rattle.ltlf.specs.declared.node.Node.TheVariants.{True, False, Atom, NotAtom, And, Or, Tomorrow, WeakTomorrow, Until, Release}

-- A formula in negation normal form: only atoms are negated.
pub data Formula : Type 0 where
  truth falsity : Formula
  atom negated_atom : ℕ → Formula
  both either : Formula → Formula → Formula
  tomorrow weak_tomorrow : Formula → Formula
  until release : Formula → Formula → Formula

-- the formula of a node, from the formulas that its operands stand for
abbrev pub formed : (ℕ → Formula) → Node → Formula
formed at True = truth
formed at False = falsity
formed at (Atom a) = atom a
formed at (NotAtom a) = negated_atom a
formed at (And f g) = both (at f) (at g)
formed at (Or f g) = either (at f) (at g)
formed at (Tomorrow f) = tomorrow (at f)
formed at (WeakTomorrow f) = weak_tomorrow (at f)
formed at (Until f g) = until (at f) (at g)
formed at (Release f g) = release (at f) (at g)

-- the node of a number; a number that was not put counts as true
abbrev pub node_at : Contents → ℕ → Node
node_at b f = slice_index_or b.nodes f True

-- the formula of a number, unfolded down to a depth
unfoldable pub formula_to : (depth : ℕ) → Contents → ℕ → Formula
formula_to zero b f = truth
formula_to (suc d) b f = formed (formula_to d b) (node_at b f)

-- The formula that a number stands for: operands have smaller numbers, so that it is no deeper than its number
unfoldable pub formula : Contents → ℕ → Formula
formula b f = formula_to (suc f) b f

-- f stands in the list
abbrev pub Among : ℕ → List ℕ → Type 0
Among f [] = ⊥
Among f (g ∷ gs) = (f ≡ g) ⊎ Among f gs
