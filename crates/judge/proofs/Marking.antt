-- A node's mark is right where the marks of its operands are.
use Rattle.std.proofs.Common.{◌≡◌, ℕ, suc, ◌<◌, ◌≤◌, Bool, true, false, not, ◌&&◌, ◌||◌, ◌⊎◌, List, length, Decides, sym, refl, ap, subst, inl, inr, ⊎_elim, arith}
use Rattle.std.proofs.lemmas.Bool.{cases_lt, false≢true, both_ways, not-true, not_from_false}
use Rattle.std.proofs.lemmas.Bool.Decides.{Decides-and, Decides-or, Decides-not, Decides-like}
use Rattle.theory.specs.Meaning.{Meaning}
use Rattle.ltlf.specs.Nodes.{operands}
use Rattle.ltlf.specs.Contents.{Contents, Proper}
use Rattle.ltlf.specs.declared.node.Node.{Node}
use Rattle.ltlf.specs.declared.node.Node.TheVariants.{True, False, Atom, NotAtom, And, Or, Tomorrow, WeakTomorrow, Until, Release}
use Rattle.judge.specs.Formulas.{Formula, formed, node_at, formula, Among, release}
use Rattle.judge.specs.Histories.{visit, after}
use Rattle.judge.specs.Holding.{Holds}
use Rattle.judge.specs.Marks.{marked, is_last, node_held}
use Rattle.judge.proofs.Histories.{after_code, after_last}
use Rattle.judge.proofs.Trees.{operands_before, formula_is}
use Rattle.judge.proofs.Unfolding.{until_now, until_later, until_split, release_now, release_later, release_holds, release_split}

-- the second test is asked only where the first passed
decides_then : {P Q : Type 0} (x y : Bool) → Decides x P → (P → Decides y Q) → Decides (x && y) (P × Q)
decides_then true y p q = ((λ e. (p.0 refl, (q (p.0 refl)).0 e)), (λ w. (q w.0).1 w.1))
decides_then false y p q = ((λ e. absurd (false≢true e)), (λ w. absurd (false≢true (p.1 w.0))))

-- the second test is asked only where the first failed
decides_else : {P Q : Type 0} (x y : Bool) → Decides x P → ((P → ⊥) → Decides y Q) → Decides (x || y) (P ⊎ Q)
decides_else true y p q = ((λ e. inl (p.0 refl)), (λ w. refl))
decides_else false y p q =
    let none : _ → ⊥ = λ w. false≢true (p.1 w) in
    ((λ e. inr ((q none).0 e)), (λ w. ⊎_elim (λ a. absurd (none a)) (λ c. (q none).1 c) w))

module _ (σ : List ℕ) (i : ℕ) (within : i < length σ) where
  -- whether nothing comes after visit i
  decides_last : Decides (is_last (after σ i)) (suc i ≡ length σ)
  decides_last =
      ⊎_elim
      (λ (h : suc i < length σ).
      let e : is_last (after σ i) ≡ false = ap is_last (after_code σ i h) in
      ((λ t. absurd (both_ways _ e t)), (λ w. absurd (omega arith))))
      (λ (h : length σ ≤ suc i). ((λ t. omega arith), (λ w. ap is_last (after_last σ i (omega arith)))))
      (cases_lt (suc i) (length σ))

  decides_more : Decides (not (is_last (after σ i))) (suc i < length σ)
  decides_more = Decides-like _ (λ w. omega (arith, w)) (λ h w. omega arith) (Decides-not _ decides_last)

  module _ (m : Meaning) (b : Contents) (here later f : ℕ)
      (before : (g : ℕ) → g < f → Decides (marked here g) (Holds m σ i (formula b g)))
      (past : suc i < length σ → (g : ℕ) → g ≤ f → Decides (marked later g) (Holds m σ (suc i) (formula b g))) where
    node_decides : (n : Node) → formula b f ≡ formed (formula b) n → ((g : ℕ) → Among g (operands n) → g < f)
        → Decides (node_held m (visit σ i) (after σ i) here later f n) (Holds m σ i (formed (formula b) n))
    node_decides True is low = ((λ e. tt), (λ w. refl))
    node_decides False is low = ((λ e. absurd (false≢true e)), (λ w. absurd w))
    node_decides (Atom a) is low = ((λ e. e), (λ e. e))
    node_decides (NotAtom a) is low = ((λ e. not-true _ e), (λ e. not_from_false _ e))
    node_decides (And g h) is low = Decides-and _ _ (before g (low g (inl refl))) (before h (low h (inr (inl refl))))
    node_decides (Or g h) is low = Decides-or _ _ (before g (low g (inl refl))) (before h (low h (inr (inl refl))))
    node_decides (Tomorrow g) is low =
        decides_then _ _ decides_more (λ q. past q g (omega (arith, low g (inl refl))))
    node_decides (WeakTomorrow g) is low =
        decides_else _ _ decides_last (λ n. past (omega (arith, n)) g (omega (arith, low g (inl refl))))
    node_decides (Until g h) is low =
        let α : Formula = formula b g in
        let β : Formula = formula b h in
        Decides-like _
        (⊎_elim (until_now m σ α β i within) (λ w. until_later m σ α β i w.0 w.1.1))
        (until_split m σ α β i)
        (Decides-or _ _ (before h (low h (inr (inl refl))))
        (Decides-and _ _ (before g (low g (inl refl)))
        (decides_then _ _ decides_more
        (λ q. subst (λ (φ : Formula). Decides (marked later f) (Holds m σ (suc i) φ)) is (past q f (omega arith))))))
    node_decides (Release g h) is low =
        let α : Formula = formula b g in
        let β : Formula = formula b h in
        let more : (suc i ≡ length σ) ⊎ Holds m σ (suc i) (release α β) → Holds m σ i β → Holds m σ i (release α β) = λ w hb. release_later m σ α β i hb w in
        Decides-like _
        (λ w. ⊎_elim (λ ha. release_now m σ α β i within ha w.0) (λ l. more l w.0) w.1)
        (λ w. (release_holds m σ α β i within w, ⊎_elim (λ ha. inl ha) (λ l. inr (inr l)) (release_split m σ α β i w)))
        (Decides-and _ _ (before h (low h (inr (inl refl))))
        (Decides-or _ _ (before g (low g (inl refl)))
        (decides_else _ _ decides_last
        (λ n. subst (λ (φ : Formula). Decides (marked later f) (Holds m σ (suc i) φ)) is (past (omega (arith, n)) f (omega arith))))))

  -- the mark that a node's test gives its number is right, where the marks of smaller numbers are, and those at the visit after
  pub held_decides : (m : Meaning) (b : Contents) → Proper b → (here later f : ℕ)
      → ((g : ℕ) → g < f → Decides (marked here g) (Holds m σ i (formula b g)))
      → (suc i < length σ → (g : ℕ) → g ≤ f → Decides (marked later g) (Holds m σ (suc i) (formula b g)))
      → Decides (node_held m (visit σ i) (after σ i) here later f (node_at b f)) (Holds m σ i (formula b f))
  held_decides m b pr here later f before past =
      let is : formula b f ≡ formed (formula b) (node_at b f) = formula_is b pr f in
      subst (λ (φ : Formula). Decides (node_held m (visit σ i) (after σ i) here later f (node_at b f)) (Holds m σ i φ)) (sym is)
      (node_decides m b here later f before past (node_at b f) is (operands_before b pr f))
