-- The branches of a label are the next labels of its sound choices.
use Rattle.std.specs.Prelude.{Option, Some, None}
use Rattle.std.proofs.Common.{◌≡◌, ℕ, zero, suc, ◌<◌, ◌≤◌, true, false, cond, ◌⊎◌, ◌↔◌, List, [], length, sym, refl, ◌∙◌, subst, inl, inr, eq-or-lt_of_le, arith}
use mathlib.Core.Path.{subst⁻¹}
use native.Mathlib.Decide.{dec_lt, ℕ_discrete}
use Rattle.theory.specs.Meaning.{Meaning}
use Rattle.ltlf.specs.Contents.{Contents, Proper}
use Rattle.ltlf.specs.declared.node.Node.{Node}
use Rattle.ltlf.specs.declared.node.Node.TheVariants.{True, False, Atom, NotAtom, And, Or, Tomorrow, WeakTomorrow, Until, Release}
use Rattle.judge.specs.Formulas.{node_at, Among}
use Rattle.tableau.specs.Labels.{Label, ◌∈◌, has, adding}
use Rattle.tableau.specs.Expansion.{Choice, Side, one, other, parts, handed_on, GoesOn, Admitted, Sound, IsNextLabel}
use Rattle.tableau.specs.Masks.{expanded_below, next_of}
use Rattle.tableau.specs.Positions.{In}
use Rattle.tableau.specs.Search.{goes_on, admitted, sides, gather, branches, next_labels}
use Rattle.tableau.specs.Theorems.{NextLabelsAreComputed}
use Rattle.tableau.proofs.Steps.{part_before}
use Rattle.tableau.proofs.Masks.{has?, adding_has, zero_has, same_members, expansion_computed, next_ok, past_node, handed_inside}
use Rattle.tableau.proofs.Tests.{no_way, true_or_not, not_ok, gather_ok, when_ok}

goes_on_ok : (n : Option ℕ) → (goes_on n ≡ true) ↔ GoesOn n
goes_on_ok (Some c) = ((λ e. tt), (λ e. refl))
goes_on_ok None = ((λ e. no_way e), (λ e. absurd e))

fine : (true ≡ true) ↔ Unit {0}
fine = ((λ e. tt), (λ e. refl))

pub admitted_ok : (t : Meaning) (c : ℕ) (n : Option ℕ) (m : Node) (s : Side) → (admitted t c n m s ≡ true) ↔ Admitted t c n m s
admitted_ok t c n True s = fine
admitted_ok t c n False s = ((λ e. no_way e), (λ e. absurd e))
admitted_ok t c n (Atom a) s = ((λ e. e), (λ e. e))
admitted_ok t c n (NotAtom a) s = not_ok (t.fact a c n)
admitted_ok t c n (And x y) s = fine
admitted_ok t c n (Or x y) s = fine
admitted_ok t c n (Tomorrow x) s = goes_on_ok n
admitted_ok t c n (WeakTomorrow x) s = fine
admitted_ok t c n (Until x y) one = fine
admitted_ok t c n (Until x y) other = goes_on_ok n
admitted_ok t c n (Release x y) s = fine

-- what a side does at a node, done by one of the node's sides
abbrev Does : Meaning → ℕ → Option ℕ → ℕ → Node → Side → Side → Type 0
Does t c n k m s s' =
    (parts m s ≡ parts m s') × (handed_on k m s ≡ handed_on k m s') × (admitted t c n m s ≡ admitted t c n m s')

a_side : (t : Meaning) (c : ℕ) (n : Option ℕ) (k : ℕ) (m : Node) (s : Side) → (s' : Side) × In s' (sides m) × Does t c n k m s s'
a_side t c n k True s = (one, inl refl, (refl, refl, refl))
a_side t c n k False s = (one, inl refl, (refl, refl, refl))
a_side t c n k (Atom a) s = (one, inl refl, (refl, refl, refl))
a_side t c n k (NotAtom a) s = (one, inl refl, (refl, refl, refl))
a_side t c n k (And f g) s = (one, inl refl, (refl, refl, refl))
a_side t c n k (Or f g) one = (one, inl refl, (refl, refl, refl))
a_side t c n k (Or f g) other = (other, inr (inl refl), (refl, refl, refl))
a_side t c n k (Tomorrow f) s = (one, inl refl, (refl, refl, refl))
a_side t c n k (WeakTomorrow f) s = (one, inl refl, (refl, refl, refl))
a_side t c n k (Until f g) one = (one, inl refl, (refl, refl, refl))
a_side t c n k (Until f g) other = (other, inr (inl refl), (refl, refl, refl))
a_side t c n k (Release f g) one = (one, inl refl, (refl, refl, refl))
a_side t c n k (Release f g) other = (other, inr (inl refl), (refl, refl, refl))

-- the choice with another side for one number
changed : Choice → ℕ → Side → Choice
changed κ n s f = elim (ℕ_discrete f n) [ yes e ↦ s | no e ↦ κ f ]

changed_at : (κ : Choice) (n : ℕ) (s : Side) → changed κ n s n ≡ s
unfolding changed
changed_at κ n s = go (ℕ_discrete n n)
  where
    go : (d : Dec (n ≡ n)) → (elim d as (λ x. Side) [ yes e ↦ s | no e ↦ κ n ]) ≡ s
    go (yes e) = refl
    go (no h) = absurd (h refl)

changed_not : (κ : Choice) (n : ℕ) (s : Side) (f : ℕ) → f < n → changed κ n s f ≡ κ f
unfolding changed
changed_not κ n s f h = go (ℕ_discrete f n)
  where
    go : (d : Dec (f ≡ n)) → (elim d as (λ x. Side) [ yes e ↦ s | no e ↦ κ f ]) ≡ κ f
    go (yes e) = absurd (omega arith)
    go (no h) = refl

module _ (t : Meaning) (b : Contents) (c : ℕ) (n : Option ℕ) where
  -- the pass along one choice from k down is sound, and hands on the last label
  data Along (κ : Choice) : ℕ → Label → Label → Label → Type 0 where
    done : {S N : Label} → Along κ zero S N N
    skip : {k : ℕ} {S N L : Label} → has S k ≡ false → Along κ k S N L → Along κ (suc k) S N L
    meet : {k : ℕ} {S N L : Label} → has S k ≡ true → admitted t c n (node_at b k) (κ k) ≡ true
        → Along κ k (adding (parts (node_at b k) (κ k)) S) (adding (handed_on k (node_at b k) (κ k)) N) L
        → Along κ (suc k) S N L

  same_below : (κ κ' : Choice) (k : ℕ) → ((f : ℕ) → f < k → κ' f ≡ κ f) → (S N L : Label) → Along κ k S N L → Along κ' k S N L
  same_below κ κ' zero ag S N L done = done
  same_below κ κ' (suc k) ag S N L (skip e a) = skip e (same_below κ κ' k (λ f h. ag f (omega arith)) S N L a)
  same_below κ κ' (suc k) ag S N L (meet e w a) =
      let r = same_below κ κ' k (λ f h. ag f (omega arith)) _ _ L a in
      let z : κ' k ≡ κ k = ag k (omega arith) in
      meet e (subst⁻¹ (λ (s : Side). admitted t c n (node_at b k) s ≡ true) z w)
      (subst⁻¹ (λ (s : Side). Along κ' k (adding (parts (node_at b k) s) S) (adding (handed_on k (node_at b k) s) N) L) z r)

  branches_along : (k : ℕ) (S N L : Label) → In L (branches t b c n k S N) → (κ : Choice) × Along κ k S N L
  branches_along zero S N L (inl e) = ((λ f. one), subst⁻¹ (λ (x : Label). Along (λ f. one) 0 S N x) e done)
  branches_along zero S N L (inr z) = absurd z
  branches_along (suc k) S N L h = elim (true_or_not (has S k)) [
    | inl e ↦ there (branches_along k) e (rw e at h)
    | inr e ↦ (let r = branches_along k S N L (rw e at h) in (r.0, skip e r.1))
  ]
    where
      node : Node
      node = node_at b k

      S' : Side → Label
      S' s = adding (parts node s) S

      N' : Side → Label
      N' s = adding (handed_on k node s) N

      there : ((S N L : Label) → In L (branches t b c n k S N) → (κ : Choice) × Along κ k S N L) → has S k ≡ true
          → In L (gather (λ (s : Side). cond (admitted t c n node s) (branches t b c n k (S' s) (N' s)) []) (sides node))
          → (κ : Choice) × Along κ (suc k) S N L
      there ih e i =
          let g = (gather_ok (λ (s : Side). cond (admitted t c n node s) (branches t b c n k (S' s) (N' s)) []) (sides node) L).0 i in
          let s = g.0 in
          let w = (when_ok (admitted t c n node s) (branches t b c n k (S' s) (N' s)) L).0 g.2 in
          let r = ih (S' s) (N' s) L w.1 in
          let κ' = changed r.0 k s in
          let a = same_below r.0 κ' k (changed_not r.0 k s) (S' s) (N' s) L r.1 in
          let z : κ' k ≡ s = changed_at r.0 k s in (
            κ',
            meet e (subst⁻¹ (λ (x : Side). admitted t c n node x ≡ true) z w.0)
                (subst⁻¹ (λ (x : Side). Along κ' k (S' x) (N' x) L) z a),
          )

  along_branches : (κ : Choice) (k : ℕ) (S N L : Label) → Along κ k S N L → In L (branches t b c n k S N)
  along_branches κ zero S N L done = inl refl
  along_branches κ (suc k) S N L (skip e a) = rw e (along_branches κ k S N L a)
  along_branches κ (suc k) S N L (meet e w a) = rw e (there (along_branches κ k _ _ L a))
    where
      node : Node
      node = node_at b k

      from : Side → List Label
      from s = cond (admitted t c n node s) (branches t b c n k (adding (parts node s) S) (adding (handed_on k node s) N)) []

      there : In L (branches t b c n k (adding (parts node (κ k)) S) (adding (handed_on k node (κ k)) N)) → In L (gather from (sides node))
      there i =
          let s = a_side t c n k node (κ k) in
          let i' = subst (λ (x : List ℕ). In L (branches t b c n k (adding (parts node (κ k)) S) (adding x N))) s.2.1 i in
          let i'' = subst (λ (x : List ℕ). In L (branches t b c n k (adding x S) (adding (handed_on k node s.0) N))) s.2.0 i' in
          (gather_ok from (sides node) L).1 (
            s.0,
            s.1,
            (when_ok (admitted t c n node s.0) (branches t b c n k (adding (parts node s.0) S) (adding (handed_on k node s.0) N)) L).1
                (sym s.2.2 ∙ w, i''),
          )

-- WHAT A PASS SAYS OF THE EXPANSION

module _ (b : Contents) (pr : Proper b) (κ : Choice) where
  -- the members from k on are there before the members below k are expanded
  above : (k : ℕ) (S : Label) (f : ℕ) → k ≤ f → (f ∈ expanded_below b κ k S) ↔ (f ∈ S)
  above zero S f h = ((λ m. m), (λ m. m))
  above (suc k) S f h = elim (true_or_not (has S k)) [
    | inl e ↦ rw e (let ih = above k (adding ps S) f (omega arith) in ((λ m. old (ih.0 m)), (λ m. ih.1 ((adding_has f ps S).1 (inr m)))))
    | inr e ↦ rw e (above k S f (omega arith))
  ]
    where
      ps : List ℕ
      ps = parts (node_at b k) (κ k)

      old : f ∈ adding ps S → f ∈ S
      old m = elim ((adding_has f ps S).0 m) [ inl a ↦ absurd (omega (arith, part_before b pr k (κ k) f a)) | inr y ↦ y ]

-- g is handed on by a member of X below k
abbrev From : Contents → Choice → Label → ℕ → ℕ → Type 0
From b κ X k g = (f : ℕ) × (f < k) × (f ∈ X) × Among g (handed_on f (node_at b f) (κ f))

from_more : (b : Contents) (κ : Choice) (X : Label) (k g : ℕ) → From b κ X k g → From b κ X (suc k) g
from_more b κ X k g p = (p.0, omega (arith, p.1), p.2, p.3)

module _ (t : Meaning) (b : Contents) (pr : Proper b) (c : ℕ) (n : Option ℕ) (κ : Choice) where
  abbrev AllAdmitted : ℕ → Label → Type 0
  AllAdmitted k X = (f : ℕ) → f < k → f ∈ X → Admitted t c n (node_at b f) (κ f)

  along_admits : (k : ℕ) (S N L : Label) → Along t b c n κ k S N L → AllAdmitted k (expanded_below b κ k S)
  along_admits zero S N L done = λ f h m. absurd (omega arith)
  along_admits (suc k) S N L (skip e a) = rw e (λ f h m. elim (eq-or-lt_of_le h) [
    | inl z ↦ (let z' : f ≡ k = omega arith in
        let i : k ∈ S = (above b pr κ k S k (omega arith)).0 (subst (λ (x : ℕ). x ∈ expanded_below b κ k S) z' m) in
        absurd (no_has e i))
    | inr l ↦ along_admits k S N L a f (omega arith) m
  ])
    where
      no_has : has S k ≡ false → k ∈ S → ⊥
      no_has e i = elim (has? S k) [ inl p ↦ no_way (sym e ∙ p.0) | inr p ↦ p.1 i ]
  along_admits (suc k) S N L (meet e w a) = rw e (λ f h m. elim (eq-or-lt_of_le h) [
    | inl z ↦ (let z' : k ≡ f = omega arith in
        subst (λ (x : ℕ). Admitted t c n (node_at b x) (κ x)) z' ((admitted_ok t c n (node_at b k) (κ k)).0 w))
    | inr l ↦ along_admits k _ _ L a f (omega arith) m
  ])

  along_hands : (k : ℕ) (S N L : Label) → Along t b c n κ k S N L
      → (g : ℕ) → (g ∈ L) ↔ ((g ∈ N) ⊎ From b κ (expanded_below b κ k S) k g)
  along_hands zero S N L done g = ((λ m. inl m), elim [ inl m ↦ m | inr p ↦ absurd (omega (arith, p.1)) ])
  along_hands (suc k) S N L (skip e a) g = rw e (there (along_hands k S N L a g))
    where
      X : Label
      X = expanded_below b κ k S

      no_has : k ∈ S → ⊥
      no_has i = elim (has? S k) [ inl p ↦ no_way (sym e ∙ p.0) | inr p ↦ p.1 i ]

      fewer : From b κ X (suc k) g → From b κ X k g
      fewer p = elim (eq-or-lt_of_le p.1) [
        | inl z ↦ (let z' : p.0 ≡ k = omega arith in
            absurd (no_has ((above b pr κ k S k (omega arith)).0 (subst (λ (x : ℕ). x ∈ X) z' p.2))))
        | inr l ↦ (p.0, omega arith, p.2, p.3)
      ]

      there : (g ∈ L) ↔ ((g ∈ N) ⊎ From b κ X k g) → (g ∈ L) ↔ ((g ∈ N) ⊎ From b κ X (suc k) g)
      there ih = (
        (λ m. elim (ih.0 m) [ inl x ↦ inl x | inr p ↦ inr (from_more b κ X k g p) ]),
        elim [ inl x ↦ ih.1 (inl x) | inr p ↦ ih.1 (inr (fewer p)) ],
      )
  along_hands (suc k) S N L (meet e w a) g = rw e (there (along_hands k _ _ L a g))
    where
      S' : Label
      S' = adding (parts (node_at b k) (κ k)) S

      X : Label
      X = expanded_below b κ k S'

      hs : List ℕ
      hs = handed_on k (node_at b k) (κ k)

      in_s : k ∈ S
      in_s = elim (has? S k) [ inl p ↦ p.1 | inr p ↦ no_way (sym p.0 ∙ e) ]

      in_x : k ∈ X
      in_x = (above b pr κ k S' k (omega arith)).1 ((adding_has k (parts (node_at b k) (κ k)) S).1 (inr in_s))

      fewer : From b κ X (suc k) g → Among g hs ⊎ From b κ X k g
      fewer p = elim (eq-or-lt_of_le p.1) [
        | inl z ↦ inl (let z' : p.0 ≡ k = omega arith in subst (λ (x : ℕ). Among g (handed_on x (node_at b x) (κ x))) z' p.3)
        | inr l ↦ inr (p.0, omega arith, p.2, p.3)
      ]

      there : (g ∈ L) ↔ ((g ∈ adding hs N) ⊎ From b κ X k g) → (g ∈ L) ↔ ((g ∈ N) ⊎ From b κ X (suc k) g)
      there ih = (
        (λ m. elim (ih.0 m) [
          | inl x ↦ elim ((adding_has g hs N).0 x) [ inl y ↦ inr (k, omega arith, in_x, y) | inr y ↦ inl y ]
          | inr p ↦ inr (from_more b κ X k g p)
        ]),
        elim [
          | inl x ↦ ih.1 (inl ((adding_has g hs N).1 (inr x)))
          | inr p ↦ elim (fewer p) [ inl y ↦ ih.1 (inl ((adding_has g hs N).1 (inl y))) | inr y ↦ ih.1 (inr y) ]
        ],
      )

  admits_along : (k : ℕ) (S N : Label) → AllAdmitted k (expanded_below b κ k S) → (L : Label) × Along t b c n κ k S N L
  admits_along zero S N h = (N, done)
  admits_along (suc k) S N h = go (true_or_not (has S k)) h (admits_along k)
    where
      ps : List ℕ
      ps = parts (node_at b k) (κ k)

      in_s : has S k ≡ true → k ∈ S
      in_s e = elim (has? S k) [ inl p ↦ p.1 | inr p ↦ no_way (sym p.0 ∙ e) ]

      go : (has S k ≡ true) ⊎ (has S k ≡ false) → AllAdmitted (suc k) (expanded_below b κ k (cond (has S k) (adding ps S) S))
          → ((S N : Label) → AllAdmitted k (expanded_below b κ k S) → (L : Label) × Along t b c n κ k S N L)
          → (L : Label) × Along t b c n κ (suc k) S N L
      go (inl e) h' ih =
          let h'' : AllAdmitted (suc k) (expanded_below b κ k (adding ps S)) = rw e at h' in
          let r = ih (adding ps S) (adding (handed_on k (node_at b k) (κ k)) N) (λ f l m. h'' f (omega arith) m) in
          let i = (above b pr κ k (adding ps S) k (omega arith)).1 ((adding_has k ps S).1 (inr (in_s e))) in
          (r.0, meet e ((admitted_ok t c n (node_at b k) (κ k)).1 (h'' k (omega arith) i)) r.1)
      go (inr e) h' ih =
          let h'' : AllAdmitted (suc k) (expanded_below b κ k S) = rw e at h' in
          let r = ih S N (λ f l m. h'' f (omega arith) m) in
          (r.0, skip e r.1)

module _ (t : Meaning) (b : Contents) (pr : Proper b) (L : Label) (c : ℕ) (n : Option ℕ) where
  past_admitted : (f : ℕ) (s : Side) → length b.nodes ≤ f → Admitted t c n (node_at b f) s
  past_admitted f s h = subst⁻¹ (λ (m : Node). Admitted t c n m s) (past_node b.nodes f h) tt

  whole_sound : (κ : Choice) (L' : Label) → Along t b c n κ (length b.nodes) L 0 L' → Sound t b κ L c n
  whole_sound κ L' a f x = elim (dec_lt f (length b.nodes)) [
    | yes l ↦ along_admits t b pr c n κ (length b.nodes) L 0 L' a f l ((expansion_computed b pr κ L f).1 x)
    | no l ↦ past_admitted f (κ f) (omega arith)
  ]

  whole_next : (κ : Choice) (L' : Label) → Along t b c n κ (length b.nodes) L 0 L' → IsNextLabel b κ L L'
  whole_next κ L' a g =
      let h = along_hands t b pr c n κ (length b.nodes) L 0 L' a g in (
        (λ m. elim (h.0 m) [
          | inl z ↦ absurd (zero_has g z)
          | inr p ↦ (p.0, (expansion_computed b pr κ L p.0).0 p.2, p.3)
        ]),
        (λ p. h.1 (inr (p.0, (handed_inside b pr κ p.0 g p.2).0, (expansion_computed b pr κ L p.0).1 p.1, p.2))),
      )

  pub next_labels_ok : (L' : Label) → In L' (next_labels t b L c n) ↔ ((κ : Choice) × Sound t b κ L c n × IsNextLabel b κ L L')
  next_labels_ok L' = (
    (λ i.
        let r = branches_along t b c n (length b.nodes) L 0 L' i in
        (r.0, whole_sound r.0 L' r.1, whole_next r.0 L' r.1)),
    (λ p.
        let κ = p.0 in
        let r = admits_along t b pr c n κ (length b.nodes) L 0 (λ f l m. p.1 f ((expansion_computed b pr κ L f).0 m)) in
        let k = whole_next κ r.0 r.1 in
        let e : L' ≡ r.0 = same_members L' r.0 (λ f. ((λ m. (k f).1 ((p.2 f).0 m)), (λ m. (p.2 f).1 ((k f).0 m)))) in
        subst⁻¹ (λ (x : Label). In x (branches t b c n (length b.nodes) L 0)) e
        (along_branches t b c n κ (length b.nodes) L 0 r.0 r.1)),
  )

  -- some choice is sound exactly if there is a next label
  pub sound_choice_ok : ((L' : Label) × In L' (next_labels t b L c n)) ↔ ((κ : Choice) × Sound t b κ L c n)
  sound_choice_ok = (
    (λ i. let r = (next_labels_ok i.0).0 i.1 in (r.0, r.1)),
    (λ p. (next_of b p.0 L, (next_labels_ok (next_of b p.0 L)).1 (p.0, p.1, next_ok b pr p.0 L))),
  )

pub next_labels_computed : NextLabelsAreComputed
next_labels_computed t b pr L c n L' = next_labels_ok t b pr L c n L'
