-- The derived equality of nodes is the one that the index of formulas goes by.
use Rattle.std.specs.Prelude.{◌≡◌, Bool, true, false, ◌&&◌, refl}
use Rattle.ltlf.specs.declared.node.Node.{Node}
use Rattle.ltlf.specs.declared.node.Node.TheVariants.{True, False, Atom, NotAtom, And, Or, Tomorrow, WeakTomorrow, Until, Release}
use Rattle.ltlf.specs.Nodes.{same}
use Rattle.ltlf.specs.contracts.node.NodePartialEq.TheImpl.{ghosts}

with_true : (b : Bool) → b ≡ (b && true)
with_true true = refl
with_true false = refl

pub derived_is_same : (m n : Node) → (ghosts).eq m n ≡ same m n
unfolding same
derived_is_same True True = refl
derived_is_same True _ = refl
derived_is_same False False = refl
derived_is_same False _ = refl
derived_is_same (Atom a) (Atom b) = with_true _
derived_is_same (Atom a) _ = refl
derived_is_same (NotAtom a) (NotAtom b) = with_true _
derived_is_same (NotAtom a) _ = refl
derived_is_same (And f g) (And h k) = refl
derived_is_same (And f g) _ = refl
derived_is_same (Or f g) (Or h k) = refl
derived_is_same (Or f g) _ = refl
derived_is_same (Tomorrow f) (Tomorrow h) = with_true _
derived_is_same (Tomorrow f) _ = refl
derived_is_same (WeakTomorrow f) (WeakTomorrow h) = with_true _
derived_is_same (WeakTomorrow f) _ = refl
derived_is_same (Until f g) (Until h k) = refl
derived_is_same (Until f g) _ = refl
derived_is_same (Release f g) (Release h k) = refl
derived_is_same (Release f g) _ = refl
