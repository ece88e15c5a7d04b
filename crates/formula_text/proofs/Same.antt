-- `same` tells equal formulas.
use Rattle.std.proofs.Common.{◌≡◌, ℕ, true, cond, ◌&&◌, eqb, sym, refl, ◌∙◌}
use Rattle.std.proofs.lemmas.Bool.{eqb-true, and_parts}
use Rattle.ltlf.specs.declared.node.Node.{Node}
use Rattle.ltlf.specs.declared.node.Node.TheVariants.{True, False, Atom, NotAtom, And, Or, Tomorrow, WeakTomorrow, Until, Release}
use Rattle.ltlf.specs.Nodes.{kind, left, right, same}

abbrev from_parts : ℕ → ℕ → ℕ → Node
from_parts k l r =
    cond (eqb k 0) True (cond (eqb k 1) False (cond (eqb k 2) (Atom l) (cond (eqb k 3) (NotAtom l) (cond (eqb k 4) (And l r) (cond (eqb k 5) (Or l r) (cond (eqb k 6) (Tomorrow l) (cond (eqb k 7) (WeakTomorrow l) (cond (eqb k 8) (Until l r) (Release l r)))))))))

rebuilt : (n : Node) → from_parts (kind n) (left n) (right n) ≡ n
rebuilt True = refl
rebuilt False = refl
rebuilt (Atom a) = refl
rebuilt (NotAtom a) = refl
rebuilt (And l r) = refl
rebuilt (Or l r) = refl
rebuilt (Tomorrow f) = refl
rebuilt (WeakTomorrow f) = refl
rebuilt (Until l r) = refl
rebuilt (Release l r) = refl

same_parts : (m n : Node) → same m n ≡ true → (kind m ≡ kind n) × (left m ≡ left n) × (right m ≡ right n)
unfolding same
same_parts m n e =
    let p = and_parts (eqb (kind m) (kind n)) (eqb (left m) (left n) && eqb (right m) (right n)) e in
    let q = and_parts (eqb (left m) (left n)) (eqb (right m) (right n)) p.1 in
    (eqb-true (kind m) (kind n) p.0, eqb-true (left m) (left n) q.0, eqb-true (right m) (right n) q.1)

pub same_equal : (m n : Node) → same m n ≡ true → m ≡ n
same_equal m n e =
    let p = same_parts m n e in
    sym (rebuilt m) ∙ (λ i. from_parts (p.0 i) (p.1 i) (p.2 i)) ∙ rebuilt n
