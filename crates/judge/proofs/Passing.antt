-- One visit's pass over the formulas, in the order of their numbers.
use Rattle.std.specs.Prelude.{Option}
use Rattle.std.proofs.Common.{◌≡◌, ℕ, suc, ◌+◌, ◌^◌, ◌<◌, ◌≤◌, Bool, true, false, List, length, Decides, sym, refl, ap, ◌∙◌, subst, ⊎_elim, arith}
use lib.Bits.{bit_or}
use Rattle.std.proofs.lemmas.Bool.{cases_eq, false≢true, both_ways}
use Rattle.std.proofs.lemmas.Bool.Decides.{Decides-at}
use Rattle.theory.specs.Meaning.{Meaning}
use Rattle.ltlf.specs.Contents.{Contents, Proper}
use Rattle.ltlf.specs.declared.node.Node.{Node}
use Rattle.judge.specs.Formulas.{node_at, formula}
use Rattle.judge.specs.Histories.{visit, after}
use Rattle.judge.specs.Holding.{Holds}
use Rattle.judge.specs.Marks.{marked, node_held, MarksBelow, Marks}
use Rattle.judge.proofs.Bits.{marked_new, marked_other, marked_none}
use Rattle.judge.proofs.Marking.{held_decides}

-- the marks are right below the number n, and nothing is marked from n on
abbrev pub PassedTo : Meaning → Contents → List ℕ → (i here n : ℕ) → Type 0
PassedTo m b σ i here n = MarksBelow m b σ i here n × ((f : ℕ) → n ≤ f → marked here f ≡ false)

module _ (m : Meaning) (b : Contents) (σ : List ℕ) (i : ℕ) where
  pub passed_none : PassedTo m b σ i 0 0
  passed_none = ((λ f h. absurd (omega arith)), (λ f h. marked_none f))

  more : (here here' n : ℕ) → ((f : ℕ) → (f ≡ n → ⊥) → marked here' f ≡ marked here f)
      → Decides (marked here' n) (Holds m σ i (formula b n)) → PassedTo m b σ i here n → PassedTo m b σ i here' (n + 1)
  more here here' n same new (below, above) = (
    (λ f h.
        ⊎_elim
        (λ (e : f ≡ n). subst (λ (x : ℕ). Decides (marked here' x) (Holds m σ i (formula b x))) (sym e) new)
        (λ (ne : f ≡ n → ⊥). Decides-at _ _ (same f ne) (below f (omega (arith, ne))))
        (cases_eq f n)),
    (λ f h. same f (λ e. omega arith) ∙ above f (omega arith)),
  )

  module _ (pr : Proper b) (within : i < length σ) (here later n code : ℕ) (next : Option ℕ) (node : Node)
      (past : suc i < length σ → Marks m b σ (suc i) later)
      (is-code : visit σ i ≡ code) (is-next : after σ i ≡ next) (is-node : node ≡ node_at b n) (put : n < length b.nodes) (so_far : PassedTo m b σ i here n) where
    -- the test of the node of the number n decides whether its formula holds
    tested : (held : Bool) → held ≡ node_held m code next here later n node → Decides held (Holds m σ i (formula b n))
    tested held is_held_lem =
        let P : ℕ → Option ℕ → Node → Type 0 = λ c x y. held ≡ node_held m c x here later n y in
        let is : P (visit σ i) (after σ i) (node_at b n) =
        subst (λ c. P c (after σ i) (node_at b n)) (sym is-code) (subst (λ x. P code x (node_at b n)) (sym is-next) (subst (λ y. P code next y) is-node is_held_lem)) in
        Decides-at _ _ is
        (held_decides σ i within m b pr here later n so_far.0 (λ q g le. past q g (omega arith)))

    -- it passes, and n is marked
    pub passed_with : true ≡ node_held m code next here later n node → (here' : ℕ) → here' ≡ bit_or here (2 ^ n)
        → PassedTo m b σ i here' (n + 1)
    passed_with held here' is =
        let holds : Holds m σ i (formula b n) = (tested true held).0 refl in
        more here here' n
        (λ f ne. ap (λ (x : ℕ). marked x f) is ∙ marked_other here n f ne)
        ((λ e. holds), (λ w. ap (λ (x : ℕ). marked x n) is ∙ marked_new here n))
        so_far

    -- it does not pass, and n is not marked
    pub passed_without : false ≡ node_held m code next here later n node → PassedTo m b σ i here (n + 1)
    passed_without held =
        more here here n
        (λ f ne. refl)
        ((λ e. absurd (both_ways _ (so_far.1 n (omega arith)) e)), (λ w. absurd (false≢true ((tested false held).1 w))))
        so_far

-- at every visit with that code and that next, the marks are right below the number n
abbrev pub PassedAll : Meaning → Contents → (code : ℕ) → Option ℕ → (later here n : ℕ) → Type 0
PassedAll m b c next later here n = (σ : List ℕ) (i : ℕ) → i < length σ → visit σ i ≡ c → after σ i ≡ next
    → (suc i < length σ → Marks m b σ (suc i) later) → PassedTo m b σ i here n
