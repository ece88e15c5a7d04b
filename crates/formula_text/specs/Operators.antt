-- The operators of a formula's text, and the nodes that they make.
use Rattle.std.specs.Prelude.{ℕ, Bool, true, false, cond, ◌==◌}
use Rattle.ltlf.specs.declared.node.Node.{Node}
use Rattle.ltlf.specs.declared.node.Node.TheVariants as node
use Rattle.formula_text.specs.declared.operator.One.{One}
use Rattle.formula_text.specs.declared.operator.One.TheVariants as one
use Rattle.formula_text.specs.declared.operator.Two.{Two}
use Rattle.formula_text.specs.declared.operator.Two.TheVariants as two
use Rattle.formula_text.specs.declared.operator.Operator.{Operator}
use Rattle.formula_text.specs.declared.operator.Operator.TheVariants.{Constant, Not, Single, Fixed, Pair, Other}

-- what a byte says: T L ! X W F G & | U R, or no operator
abbrev pub operator_of : ℕ → Operator
operator_of b =
    cond (b == 84) (Constant true)
    (cond (b == 76) (Constant false)
    (cond (b == 33) Not
    (cond (b == 88) (Single one.Tomorrow)
    (cond (b == 87) (Single one.WeakTomorrow)
    (cond (b == 70) (Fixed true two.Until)
    (cond (b == 71) (Fixed false two.Release)
    (cond (b == 38) (Pair two.And)
    (cond (b == 124) (Pair two.Or)
    (cond (b == 85) (Pair two.Until)
    (cond (b == 82) (Pair two.Release) Other))))))))))

-- a constant, or its negation
abbrev pub constant_node : (value negated : Bool) → Node
constant_node true negated = cond negated node.False node.True
constant_node false negated = cond negated node.True node.False

-- an atom, or its negation
abbrev pub atom_node : (negated : Bool) → ℕ → Node
atom_node negated a = cond negated (node.NotAtom a) (node.Atom a)

-- the node of an operator with one operand, or of its dual
abbrev pub one_node : One → (negated : Bool) → ℕ → Node
one_node one.Tomorrow negated f = cond negated (node.WeakTomorrow f) (node.Tomorrow f)
one_node one.WeakTomorrow negated f = cond negated (node.Tomorrow f) (node.WeakTomorrow f)

-- the node of an operator with two operands, or of its dual
abbrev pub two_node : Two → (negated : Bool) → ℕ → ℕ → Node
two_node two.And negated l r = cond negated (node.Or l r) (node.And l r)
two_node two.Or negated l r = cond negated (node.And l r) (node.Or l r)
two_node two.Until negated l r = cond negated (node.Release l r) (node.Until l r)
two_node two.Release negated l r = cond negated (node.Until l r) (node.Release l r)
