-- A rule with its negations pushed down holds where the rule does, and pushed down under a negation where it does not.
use Rattle.std.proofs.Common.{◌≡◌, ℕ, zero, suc, true, false, List, [], ◌∷◌, length, get_or, refl, ap, ◌∙◌, inl, inr}
use Rattle.std.proofs.lemmas.Bool.{cases_Bool, both_ways, false≢true}
use Rattle.theory.specs.Meaning.{Meaning}
use Rattle.ltlf.specs.Contents.{Contents, Proper}
use Rattle.ltlf.specs.declared.node.Node.{Node}
use Rattle.ltlf.specs.declared.node.Node.TheVariants as node
use Rattle.judge.specs.Formulas.{Formula, formed, node_at, formula}
use Rattle.judge.specs.Formulas as judge
use Rattle.judge.specs.Histories.{visit, after}
use Rattle.judge.specs.Holding.{Holds}
use Rattle.judge.proofs.Trees.{formula_of}
use Rattle.formula_text.specs.Grammar.{Written, constant, atom, negation, single, finally, globally, pair}
use Rattle.formula_text.specs.Trees.{Tree, value, literal, over, both, pushed, At, Stands}
use Rattle.formula_text.specs.declared.operator.One.TheVariants as one
use Rattle.formula_text.specs.declared.operator.Two.TheVariants as two
use Rattle.rule_meaning.specs.Written.{WrittenHolds}
use Rattle.rule_meaning.proofs.Moments as moments
use Rattle.rule_meaning.proofs.Moments.{Until, Release, Meant, reworded, negated}

-- the formula of a tree
abbrev pub tree_formula : Tree → Formula
tree_formula (value true) = judge.truth
tree_formula (value false) = judge.falsity
tree_formula (literal true a) = judge.negated_atom a
tree_formula (literal false a) = judge.atom a
tree_formula (over one.Tomorrow t) = judge.tomorrow (tree_formula t)
tree_formula (over one.WeakTomorrow t) = judge.weak_tomorrow (tree_formula t)
tree_formula (both two.And s t) = judge.both (tree_formula s) (tree_formula t)
tree_formula (both two.Or s t) = judge.either (tree_formula s) (tree_formula t)
tree_formula (both two.Until s t) = judge.until (tree_formula s) (tree_formula t)
tree_formula (both two.Release s t) = judge.release (tree_formula s) (tree_formula t)

at_node : (ns : List Node) (k : ℕ) (n : Node) → At ns k n → get_or ns k node.True ≡ n
at_node [] k n h = absurd h
at_node (x ∷ xs) zero n h = h
at_node (x ∷ xs) (suc k) n h = at_node xs k n h

-- a number that stands for a tree has the tree's formula
module _ (b : Contents) (pr : Proper b) where
  at_formula : (k : ℕ) (n : Node) → At b.nodes k n → formula b k ≡ formed (formula b) n
  at_formula k n h = formula_of b pr k n (at_node b.nodes k n h)

  pub stands_formula : (t : Tree) (k : ℕ) → Stands b.nodes t k → formula b k ≡ tree_formula t
  stands_formula (value true) k h = at_formula k node.True h
  stands_formula (value false) k h = at_formula k node.False h
  stands_formula (literal true a) k h = at_formula k (node.NotAtom a) h
  stands_formula (literal false a) k h = at_formula k (node.Atom a) h
  stands_formula (over one.Tomorrow t) k h = at_formula k (node.Tomorrow h.0) h.1 ∙ ap judge.tomorrow (stands_formula t h.0 h.2)
  stands_formula (over one.WeakTomorrow t) k h = at_formula k (node.WeakTomorrow h.0) h.1 ∙ ap judge.weak_tomorrow (stands_formula t h.0 h.2)
  stands_formula (both two.And s t) k h =
      at_formula k (node.And h.0 h.1) h.2 ∙ (λ i. judge.both (stands_formula s h.0 h.3 i) (stands_formula t h.1 h.4 i))
  stands_formula (both two.Or s t) k h =
      at_formula k (node.Or h.0 h.1) h.2 ∙ (λ i. judge.either (stands_formula s h.0 h.3 i) (stands_formula t h.1 h.4 i))
  stands_formula (both two.Until s t) k h =
      at_formula k (node.Until h.0 h.1) h.2 ∙ (λ i. judge.until (stands_formula s h.0 h.3 i) (stands_formula t h.1 h.4 i))
  stands_formula (both two.Release s t) k h =
      at_formula k (node.Release h.0 h.1) h.2 ∙ (λ i. judge.release (stands_formula s h.0 h.3 i) (stands_formula t h.1 h.4 i))

module _ (m : Meaning) (σ : List ℕ) where
  -- where a tree holds
  abbrev Here : Tree → ℕ → Type 0
  Here t i = Holds m σ i (tree_formula t)

  abbrev Rule : Written → ℕ → Type 0
  Rule w i = WrittenHolds m σ i w

  abbrev Right : Written → Type 0
  Right w = Meant (length σ) (Here (pushed false w)) (Here (pushed true w)) (Rule w)

  truth_right : Right (constant true)
  truth_right = record { to = λ i h p. refl; from = λ i h w. tt; apart = λ i h w d. d; one = λ i h. inl refl }

  falsity_right : Right (constant false)
  falsity_right = record { to = λ i h p. absurd p; from = λ i h w. false≢true w; apart = λ i h w d. false≢true w; one = λ i h. inr tt }

  atom_right : (a : ℕ) → Right (atom a)
  atom_right a = record {
    to = λ i h p. p;
    from = λ i h w. w;
    apart = λ i h w d. both_ways _ d w;
    one = λ i h. cases_Bool (m.fact a (visit σ i) (after σ i));
  }

  pub right : (w : Written) → Right w
  right (constant true) = truth_right
  right (constant false) = falsity_right
  right (atom a) = atom_right a
  right (negation w) = negated (length σ) (Here (pushed false w)) (Here (pushed true w)) (Rule w) (right w)
  right (single one.Tomorrow w) = moments.tomorrow (length σ) (Here (pushed false w)) (Here (pushed true w)) (Rule w) (right w)
  right (single one.WeakTomorrow w) = moments.weak_tomorrow (length σ) (Here (pushed false w)) (Here (pushed true w)) (Rule w) (right w)
  right (finally w) =
      reworded (length σ) _ _ _
      (moments.until (length σ) (Here (value true)) (Here (value false)) (Rule (constant true)) (Here (pushed false w)) (Here (pushed true w)) (Rule w) truth_right (right w))
      (Rule (finally w))
      (λ i u. (u.0, u.1, u.2, u.3))
      (λ i u. (u.0, u.1, u.2, u.3, λ k p r. refl))
  right (globally w) =
      reworded (length σ) _ _ _
      (moments.release (length σ) (Here (value false)) (Here (value true)) (Rule (constant false)) (Here (pushed false w)) (Here (pushed true w)) (Rule w) falsity_right (right w))
      (Rule (globally w))
      (λ i u. elim u [ inl all ↦ all | inr some ↦ absurd (false≢true some.3) ])
      (λ i all. inl all)
  right (pair two.And l r) =
      moments.both (length σ) (Here (pushed false l)) (Here (pushed true l)) (Rule l) (Here (pushed false r)) (Here (pushed true r)) (Rule r) (right l) (right r)
  right (pair two.Or l r) =
      moments.either (length σ) (Here (pushed false l)) (Here (pushed true l)) (Rule l) (Here (pushed false r)) (Here (pushed true r)) (Rule r) (right l) (right r)
  right (pair two.Until l r) =
      moments.until (length σ) (Here (pushed false l)) (Here (pushed true l)) (Rule l) (Here (pushed false r)) (Here (pushed true r)) (Rule r) (right l) (right r)
  right (pair two.Release l r) =
      moments.release (length σ) (Here (pushed false l)) (Here (pushed true l)) (Rule l) (Here (pushed false r)) (Here (pushed true r)) (Rule r) (right l) (right r)
