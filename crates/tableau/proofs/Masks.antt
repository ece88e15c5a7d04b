-- Labels as numbers: their members, and that the computed expansion and next label have the members that they should.
use Rattle.std.proofs.Common.{◌≡◌, ℕ, zero, suc, ◌+◌, ◌/◌, ◌%◌, ◌^◌, ◌<◌, ◌≤◌, Bool, true, false, T, eqb, ◌⊎◌, ◌↔◌, List, [], ◌∷◌, length, get_or, sym, refl, ap, ◌∙◌, subst, inl, inr, eq-or-lt_of_le, one-add, arith, eqb→eq, shr-shr}
use mathlib.Core.Path.{subst⁻¹}
use native.Mathlib.Decide.{dec_lt}
use lib.Bits.{bit_or, or_shr, or_mod}
use lib.Dec.{eqb_refl}
use lib.Pow.{shr_le}
use Rattle.ltlf.specs.Nodes.{operands}
use Rattle.ltlf.specs.Contents.{Contents, Proper}
use Rattle.ltlf.specs.declared.node.Node.{Node}
use Rattle.ltlf.specs.declared.node.Node.TheVariants.{True, False, Atom, NotAtom, And, Or, Tomorrow, WeakTomorrow, Until, Release}
use Rattle.judge.specs.Formulas.{node_at, Among}
use Rattle.judge.proofs.Trees.{operands_before}
use Rattle.tableau.specs.Labels.{Label, ◌∈◌, has, adding}
use Rattle.tableau.specs.Expansion.{Choice, Side, one, other, parts, handed_on, Expansion, member, part, IsNextLabel}
use Rattle.tableau.specs.Masks.{expanded_below, expanded, handed_below, next_of}
use Rattle.tableau.specs.Theorems.{SameMembers, ExpansionIsComputed, NextIsComputed}
use Rattle.tableau.proofs.Steps.{part_before}

among_place : (xs : List ℕ) (f : ℕ) → Among f xs → (i : ℕ) × (i < length xs) × (get_or xs i 0 ≡ f)
among_place [] f a = absurd a
among_place (x ∷ xs) f (inl e) = (0, omega arith, sym e)
among_place (x ∷ xs) f (inr a) = let p = among_place xs f a in (suc p.0, omega (arith, p.1), p.2)

-- BITS

bit_suc : (L f : ℕ) → L / 2 ^ suc f % 2 ≡ L / 2 / 2 ^ f % 2
bit_suc L f = ap (λ (x : ℕ). x % 2) (rw (← one-add f) (sym (shr-shr L 1 f)))

pub zero_has : (f : ℕ) → f ∈ 0 → ⊥
unfolding ◌∈◌
zero_has f e = omega (arith, shr_le 0 f)

-- the only member of 2 ^ g is g
pub bit_has : (f g : ℕ) → (f ∈ 2 ^ g) ↔ (f ≡ g)
unfolding ◌∈◌
bit_has zero zero = (λ e. refl, λ e. omega arith)
bit_has zero (suc g) = (λ e. absurd (omega arith), λ e. absurd (omega arith))
bit_has (suc f) zero = (λ e. absurd (zero_has f (sym (bit_suc 1 f) ∙ e)), λ e. absurd (omega arith))
bit_has (suc f) (suc g) =
    let half : 2 ^ suc g / 2 ≡ 2 ^ g = omega arith in
    let rest = bit_has f g in (
      (λ e. ap suc (rest.0 (rw half at (sym (bit_suc (2 ^ suc g) f) ∙ e)))),
      (λ e. bit_suc (2 ^ suc g) f ∙ rw half (rest.1 (omega arith))),
    )

or_bits : (x y : ℕ) → x < 2 → y < 2 → (bit_or x y ≡ 1) ↔ ((x ≡ 1) ⊎ (y ≡ 1))
or_bits zero zero h k = (λ e. absurd (omega arith), elim [ inl e ↦ absurd (omega arith) | inr e ↦ absurd (omega arith) ])
or_bits zero (suc zero) h k = (λ e. inr refl, λ e. refl)
or_bits (suc zero) zero h k = (λ e. inl refl, λ e. refl)
or_bits (suc zero) (suc zero) h k = (λ e. inl refl, λ e. refl)
or_bits zero (suc (suc y)) h k = absurd (omega arith)
or_bits (suc zero) (suc (suc y)) h k = absurd (omega arith)
or_bits (suc (suc x)) y h k = absurd (omega arith)

pub or_has : (f a b : ℕ) → (f ∈ bit_or a b) ↔ ((f ∈ a) ⊎ (f ∈ b))
unfolding ◌∈◌
or_has f a b =
    let e : bit_or a b / 2 ^ f % 2 ≡ bit_or (a / 2 ^ f % 2) (b / 2 ^ f % 2) =
    ap (λ (x : ℕ). x % 2) (or_shr a b f) ∙ or_mod (a / 2 ^ f) (b / 2 ^ f) 1 in
    let o = or_bits (a / 2 ^ f % 2) (b / 2 ^ f % 2) (omega arith) (omega arith) in
    ((λ h. o.0 (sym e ∙ h)), (λ h. e ∙ o.1 h))

-- labels with the same members are one number
same : (k L L' : ℕ) → L ≤ k → L' ≤ k → ((f : ℕ) → (f ∈ L) ↔ (f ∈ L')) → L ≡ L'
unfolding ◌∈◌
same zero L L' h h' e = omega arith
same (suc k) L L' h h' e =
    let low : L % 2 ≡ L' % 2 = lows (L % 2) (L' % 2) (omega arith) (omega arith) (λ x. let z = (e 0).0 (omega arith) in omega arith) (λ x. let z = (e 0).1 (omega arith) in omega arith) in
    let high : L / 2 ≡ L' / 2 =
    same k (L / 2) (L' / 2) (omega arith) (omega arith)
    (λ f. ((λ x. sym (bit_suc L' f) ∙ (e (suc f)).0 (bit_suc L f ∙ x)), (λ x. sym (bit_suc L f) ∙ (e (suc f)).1 (bit_suc L' f ∙ x)))) in
    omega arith
  where
    lows : (x y : ℕ) → x < 2 → y < 2 → (x ≡ 1 → y ≡ 1) → (y ≡ 1 → x ≡ 1) → x ≡ y
    lows zero zero p r g h = refl
    lows zero (suc y) p r g h = absurd (omega (arith, h (omega arith)))
    lows (suc x) zero p r g h = absurd (omega (arith, g (omega arith)))
    lows (suc x) (suc y) p r g h = omega arith

pub same_members : SameMembers
same_members L L' e = same (L + L') L L' (omega arith) (omega arith) e

-- a label whose members are below n is below 2 ^ n
pub small : (n : ℕ) (L : Label) → ((f : ℕ) → f ∈ L → f < n) → L < 2 ^ n
unfolding ◌∈◌
small zero L h = let z : L ≡ 0 = same_members L 0 (λ f. ((λ m. absurd (omega (arith, h f m))), (λ m. absurd (zero_has f m)))) in omega arith
small (suc n) L h = let r : L / 2 < 2 ^ n = small n (L / 2) (λ f m. omega (arith, h (suc f) (bit_suc L f ∙ m))) in omega arith

-- THE COMPUTED TEST

pub has? : (L : Label) (f : ℕ) → ((has L f ≡ true) × (f ∈ L)) ⊎ ((has L f ≡ false) × (¬ (f ∈ L)))
unfolding ◌∈◌
has? L f = go (eqb (L / 2 ^ f % 2) 1) refl
  where
    go : (v : Bool) → eqb (L / 2 ^ f % 2) 1 ≡ v → ((v ≡ true) × (L / 2 ^ f % 2 ≡ 1)) ⊎ ((v ≡ false) × (¬ (L / 2 ^ f % 2 ≡ 1)))
    go true e = inl (refl, eqb→eq (L / 2 ^ f % 2) 1 (subst⁻¹ T e tt))
    go false e = inr (refl, λ h. subst T e (subst⁻¹ (λ (x : ℕ). T (eqb x 1)) h (eqb_refl 1)))

pub member? : (f : ℕ) (L : Label) → Dec (f ∈ L)
member? f L = elim (has? L f) [ inl p ↦ yes p.1 | inr p ↦ no p.1 ]

pub adding_has : (f : ℕ) (gs : List ℕ) (L : Label) → (f ∈ adding gs L) ↔ (Among f gs ⊎ (f ∈ L))
adding_has f [] L = ((λ m. inr m), elim [ inl z ↦ absurd z | inr m ↦ m ])
adding_has f (g ∷ gs) L = (
  (λ m. elim ((or_has f (adding gs L) (2 ^ g)).0 m) [
    | inl x ↦ elim ((adding_has f gs L).0 x) [ inl a ↦ inl (inr a) | inr y ↦ inr y ]
    | inr x ↦ inl (inl ((bit_has f g).0 x))
  ]),
  back (adding_has f gs L).1,
)
  where
    back : (Among f gs ⊎ (f ∈ L) → f ∈ adding gs L) → Among f (g ∷ gs) ⊎ (f ∈ L) → f ∈ bit_or (adding gs L) (2 ^ g)
    back ih (inl (inl e)) = (or_has f (adding gs L) (2 ^ g)).1 (inr ((bit_has f g).1 e))
    back ih (inl (inr a)) = (or_has f (adding gs L) (2 ^ g)).1 (inl (ih (inl a)))
    back ih (inr m) = (or_has f (adding gs L) (2 ^ g)).1 (inl (ih (inr m)))

-- THE EXPANSION

module _ (b : Contents) (pr : Proper b) (κ : Choice) (L : Label) where
  all : (S : Label) → ((f : ℕ) → f ∈ L → f ∈ S) → ((f g : ℕ) → 0 ≤ f → f ∈ S → Among g (parts (node_at b f) (κ f)) → g ∈ S)
      → (f : ℕ) → Expansion b κ L f → f ∈ S
  all S base closed f (member m) = base f m
  all S base closed f (part {f = y} s a) = closed y f (omega arith) (all S base closed y s) a

  -- a set that is closed from k on is made closed from 0 on
  expanded_ok : (k : ℕ) (S : Label) → ((f : ℕ) → f ∈ S → Expansion b κ L f) → ((f : ℕ) → f ∈ L → f ∈ S)
      → ((f g : ℕ) → k ≤ f → f ∈ S → Among g (parts (node_at b f) (κ f)) → g ∈ S)
      → (f : ℕ) → (f ∈ expanded_below b κ k S) ↔ Expansion b κ L f
  expanded_ok zero S sub base closed f = (sub f, all S base closed f)
  expanded_ok (suc k) S sub base closed f = elim (has? S k) [
    | inl p ↦ let e = p.0 in rw e (expanded_ok k S' (sub' p.1) (λ x m. (adding_has x ps S).1 (inr (base x m))) (closed' p.1) f)
    | inr p ↦ let e = p.0 in rw e (expanded_ok k S sub base (absent p.1) f)
  ]
    where
      ps : List ℕ
      ps = parts (node_at b k) (κ k)

      S' : Label
      S' = adding ps S

      sub' : k ∈ S → (x : ℕ) → x ∈ S' → Expansion b κ L x
      sub' in_s x m = elim ((adding_has x ps S).0 m) [ inl a ↦ part (sub k in_s) a | inr y ↦ sub x y ]

      old : (x : ℕ) → k ≤ x → x ∈ S' → x ∈ S
      old x h m = elim ((adding_has x ps S).0 m) [ inl a ↦ absurd (omega (arith, part_before b pr k (κ k) x a)) | inr y ↦ y ]

      closed' : k ∈ S → (x y : ℕ) → k ≤ x → x ∈ S' → Among y (parts (node_at b x) (κ x)) → y ∈ S'
      closed' in_s x y h m a = (adding_has y ps S).1 (elim (eq-or-lt_of_le h) [
        | inl e ↦ inl (subst⁻¹ (λ (z : ℕ). Among y (parts (node_at b z) (κ z))) e a)
        | inr l ↦ inr (closed x y l (old x h m) a)
      ])

      absent : ¬ (k ∈ S) → (x y : ℕ) → k ≤ x → x ∈ S → Among y (parts (node_at b x) (κ x)) → y ∈ S
      absent out x y h m a = elim (eq-or-lt_of_le h) [
        | inl e ↦ absurd (out (subst⁻¹ (λ (z : ℕ). z ∈ S) e m))
        | inr l ↦ closed x y l m a
      ]

-- past the book's numbers there is no node with parts
pub past_node : (l : List Node) (f : ℕ) → length l ≤ f → get_or l f True ≡ True
past_node [] f h = refl
past_node (m ∷ l) zero h = absurd (omega arith)
past_node (m ∷ l) (suc f) h = past_node l f (omega arith)

pub expansion_computed : ExpansionIsComputed
expansion_computed b pr κ L =
    expanded_ok b pr κ L (length b.nodes) L (λ f m. member m) (λ f m. m)
    (λ f g h m a. absurd (subst (λ (x : Node). Among g (parts x (κ f))) (past_node b.nodes f h) a))

-- THE NEXT LABEL

handed_bound : (f : ℕ) (m : Node) (s : Side) (g : ℕ) → ((x : ℕ) → Among x (operands m) → x < f) → Among g (handed_on f m s) → g < suc f
handed_bound f True s g o k = absurd k
handed_bound f False s g o k = absurd k
handed_bound f (Atom a) s g o k = absurd k
handed_bound f (NotAtom a) s g o k = absurd k
handed_bound f (And x y) s g o k = absurd k
handed_bound f (Or x y) s g o k = absurd k
handed_bound f (Tomorrow x) s g o k = let l : g < f = o g k in omega arith
handed_bound f (WeakTomorrow x) s g o k = let l : g < f = o g k in omega arith
handed_bound f (Until x y) one g o k = absurd k
handed_bound f (Until x y) other g o (inl e) = omega arith
handed_bound f (Until x y) other g o (inr z) = absurd z
handed_bound f (Release x y) one g o k = absurd k
handed_bound f (Release x y) other g o (inl e) = omega arith
handed_bound f (Release x y) other g o (inr z) = absurd z

pub handed_inside : (b : Contents) → Proper b → (κ : Choice) (f g : ℕ) → Among g (handed_on f (node_at b f) (κ f))
    → (f < length b.nodes) × (g < length b.nodes)
handed_inside b pr κ f g a = elim (dec_lt f (length b.nodes)) [
  | yes h ↦ (h, omega (arith, handed_bound f (node_at b f) (κ f) g (operands_before b pr f) a))
  | no h ↦ absurd (subst (λ (x : Node). Among g (handed_on f x (κ f))) (past_node b.nodes f (omega arith)) a)
]

module _ (b : Contents) (κ : Choice) (S : Label) (g : ℕ) where
  abbrev From : ℕ → Type 0
  From k = (f : ℕ) × (f < k) × (f ∈ S) × Among g (handed_on f (node_at b f) (κ f))

  handed_ok : (k : ℕ) → (g ∈ handed_below b κ k S) ↔ From k
  handed_ok zero = ((λ m. absurd (zero_has g m)), (λ p. absurd (omega (arith, p.1))))
  handed_ok (suc k) = elim (has? S k) [
    | inl p ↦ let e = p.0 in rw e (there (handed_ok k) p.1, back (handed_ok k))
    | inr p ↦ let e = p.0 in rw e ((λ m. let r = (handed_ok k).0 m in (r.0, omega (arith, r.1), r.2, r.3)), out (handed_ok k) p.1)
  ]
    where
      ls : List ℕ
      ls = handed_on k (node_at b k) (κ k)

      there : (g ∈ handed_below b κ k S) ↔ From k → k ∈ S → g ∈ adding ls (handed_below b κ k S) → From (suc k)
      there ih in_s m = elim ((adding_has g ls (handed_below b κ k S)).0 m) [
        | inl a ↦ (k, omega arith, in_s, a)
        | inr y ↦ (let r = ih.0 y in (r.0, omega (arith, r.1), r.2, r.3))
      ]

      back : (g ∈ handed_below b κ k S) ↔ From k → From (suc k) → g ∈ adding ls (handed_below b κ k S)
      back ih p = (adding_has g ls (handed_below b κ k S)).1 (elim (eq-or-lt_of_le p.1) [
        | inl e ↦ inl (let e' : p.0 ≡ k = omega arith in subst (λ (z : ℕ). Among g (handed_on z (node_at b z) (κ z))) e' p.3)
        | inr l ↦ inr (ih.1 (p.0, omega arith, p.2, p.3))
      ])

      out : (g ∈ handed_below b κ k S) ↔ From k → ¬ (k ∈ S) → From (suc k) → g ∈ handed_below b κ k S
      out ih no-S p = elim (eq-or-lt_of_le p.1) [
        | inl e ↦ absurd (no-S (let e' : p.0 ≡ k = omega arith in subst (λ (z : ℕ). z ∈ S) e' p.2))
        | inr l ↦ ih.1 (p.0, omega arith, p.2, p.3)
      ]

pub next_ok : (b : Contents) → Proper b → (κ : Choice) (L : Label) → IsNextLabel b κ L (next_of b κ L)
next_ok b pr κ L g =
    let l = handed_ok b κ (expanded b κ L) g (length b.nodes) in (
      (λ m. let r = l.0 m in (r.0, (expansion_computed b pr κ L r.0).0 r.2, r.3)),
      (λ p. l.1 (p.0, (handed_inside b pr κ p.0 g p.2).0, (expansion_computed b pr κ L p.0).1 p.1, p.2)),
    )

pub next_computed : NextIsComputed
next_computed b pr κ L L' =
    let k = next_ok b pr κ L in (
      (λ h. same_members L' (next_of b κ L) (λ f. ((λ m. (k f).1 ((h f).0 m)), (λ m. (h f).1 ((k f).0 m))))),
      (λ e. subst⁻¹ (IsNextLabel b κ L) e k),
    )

-- the rules as a label
pub rules_label : (b : Contents) → (L : Label) × ((f : ℕ) → (f ∈ L) ↔ Among f b.rules)
rules_label b = (
  adding b.rules 0,
  λ f. (
    (λ m. elim ((adding_has f b.rules 0).0 m) [ inl a ↦ a | inr z ↦ absurd (zero_has f z) ]),
    (λ a. (adding_has f b.rules 0).1 (inl a)),
  ),
)

-- a rule was put
pub rule_inside : (b : Contents) → Proper b → (f : ℕ) → Among f b.rules → f < length b.nodes
rule_inside b pr f a = let p = among_place b.rules f a in let h = pr.were_put p.0 p.1 in omega (arith, h, p.2)
