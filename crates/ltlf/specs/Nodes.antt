-- Nodes: the operands that they name, and when two are equal.
use Rattle.std.specs.Prelude.{ℕ, ◌+◌, ◌*◌, ◌/◌, ◌%◌, ◌^◌, Bool, true, ◌&&◌, List, [], ◌∷◌, ◌==◌, nat_lt}
use Rattle.ltlf.specs.declared.node.Node.{Node}
use Rattle.ltlf.specs.declared.node.Node.TheVariants.{True, False, Atom, NotAtom, And, Or, Tomorrow, WeakTomorrow, Until, Release}

-- the formulas that a node names
abbrev pub operands : Node → List ℕ
operands True = []
operands False = []
operands (Atom a) = []
operands (NotAtom a) = []
operands (And f g) = f ∷ g ∷ []
operands (Or f g) = f ∷ g ∷ []
operands (Tomorrow f) = f ∷ []
operands (WeakTomorrow f) = f ∷ []
operands (Until f g) = f ∷ g ∷ []
operands (Release f g) = f ∷ g ∷ []

-- whether the atom that a node names is below `atoms`, and its operands are below `formulas`
abbrev pub known : (atoms formulas : ℕ) → Node → Bool
known atoms formulas True = true
known atoms formulas False = true
known atoms formulas (Atom a) = nat_lt a atoms
known atoms formulas (NotAtom a) = nat_lt a atoms
known atoms formulas (And f g) = nat_lt f formulas && nat_lt g formulas
known atoms formulas (Or f g) = nat_lt f formulas && nat_lt g formulas
known atoms formulas (Tomorrow f) = nat_lt f formulas
known atoms formulas (WeakTomorrow f) = nat_lt f formulas
known atoms formulas (Until f g) = nat_lt f formulas && nat_lt g formulas
known atoms formulas (Release f g) = nat_lt f formulas && nat_lt g formulas

-- a number for each kind of node
abbrev pub kind : Node → ℕ
kind True = 0
kind False = 1
kind (Atom a) = 2
kind (NotAtom a) = 3
kind (And f g) = 4
kind (Or f g) = 5
kind (Tomorrow f) = 6
kind (WeakTomorrow f) = 7
kind (Until f g) = 8
kind (Release f g) = 9

-- the first number that a node names
abbrev pub left : Node → ℕ
left True = 0
left False = 0
left (Atom a) = a
left (NotAtom a) = a
left (And f g) = f
left (Or f g) = f
left (Tomorrow f) = f
left (WeakTomorrow f) = f
left (Until f g) = f
left (Release f g) = f

-- the second number that a node names
abbrev pub right : Node → ℕ
right True = 0
right False = 0
right (Atom a) = 0
right (NotAtom a) = 0
right (And f g) = g
right (Or f g) = g
right (Tomorrow f) = 0
right (WeakTomorrow f) = 0
right (Until f g) = g
right (Release f g) = g

-- nodes are equal when they have one kind and name the same numbers
unfoldable pub same : Node → Node → Bool
same m n = kind m == kind n && (left m == left n && right m == right n)

-- kind and operands as one number: the operands are its two low bytes
abbrev pub key : Node → ℕ
key n = 65536 * kind n + left n + 256 * right n

-- the bits of the key, over again after twenty
abbrev pub node_turn : Node → (depth : ℕ) → Bool
node_turn n depth = key n / 2 ^ (depth % 20) % 2 == 1
