-- One step of the tableau: what holds at a visit, and what a sound expansion asks of it.
use Rattle.std.proofs.Common.{◌≡◌, ℕ, zero, suc, ◌<◌, List, [], ◌∷◌, length, refl, subst, inl, inr, eq-or-lt_of_le, arith}
use mathlib.Core.Path.{subst⁻¹}
use Rattle.theory.specs.Meaning.{Meaning}
use Rattle.ltlf.specs.Nodes.{operands}
use Rattle.ltlf.specs.Contents.{Contents, Proper}
use Rattle.ltlf.specs.declared.node.Node.{Node}
use Rattle.ltlf.specs.declared.node.Node.TheVariants.{True, False, Atom, NotAtom, And, Or, Tomorrow, WeakTomorrow, Until, Release}
use Rattle.judge.specs.Formulas.{either, until, release, formed, formula, node_at, Among}
use Rattle.judge.specs.Histories.{visit, after}
use Rattle.judge.specs.Holding.{Holds}
use Rattle.judge.proofs.Unfolding.{until_now, until_later, until_split, release_now, release_later, release_holds, release_split}
use Rattle.judge.proofs.Deciding.{holds?}
use Rattle.judge.proofs.Trees.{operands_before, formula_is}
use Rattle.tableau.specs.Labels.{Label, ◌∈◌}
use Rattle.tableau.specs.Expansion.{Choice, Side, one, other, parts, handed_on, Expansion, member, part, GoesOn, Admitted, Sound, HandedOn}
use Rattle.tableau.specs.Theorems.{AllHold, StepIsSound, StepIsComplete, ExpansionIsLeast}

-- what comes after a visit is a code exactly if the visit is not the last
code_inside : (σ : List ℕ) (i : ℕ) → GoesOn (after σ i) → suc i < length σ
code_inside [] i h = absurd h
code_inside (c ∷ []) zero h = absurd h
code_inside (c ∷ d ∷ σ) zero h = omega arith
code_inside (c ∷ σ) (suc i) h = let k = code_inside σ i h in omega arith

pub inside_code : (σ : List ℕ) (i : ℕ) → suc i < length σ → GoesOn (after σ i)
inside_code [] i h = absurd (omega arith)
inside_code (c ∷ []) zero h = absurd (omega arith)
inside_code (c ∷ d ∷ σ) zero h = tt
inside_code (c ∷ σ) (suc i) h = inside_code σ i (omega arith)

-- SOUNDNESS

-- a node whose parts hold here, and what it hands on at the next visit
node_sound : (t : Meaning) (b : Contents) (σ : List ℕ) (i : ℕ) → i < length σ → (f : ℕ) (m : Node) (s : Side)
    → formula b f ≡ formed (formula b) m
    → Admitted t (visit σ i) (after σ i) m s
    → ((g : ℕ) → Among g (parts m s) → Holds t σ i (formula b g))
    → (suc i < length σ → (g : ℕ) → Among g (handed_on f m s) → Holds t σ (suc i) (formula b g))
    → Holds t σ i (formed (formula b) m)
node_sound t b σ i h f True s e r p l = tt
node_sound t b σ i h f False s e r p l = r
node_sound t b σ i h f (Atom a) s e r p l = r
node_sound t b σ i h f (NotAtom a) s e r p l = r
node_sound t b σ i h f (And x y) s e r p l = (p x (inl refl), p y (inr (inl refl)))
node_sound t b σ i h f (Or x y) one e r p l = inl (p x (inl refl))
node_sound t b σ i h f (Or x y) other e r p l = inr (p y (inl refl))
node_sound t b σ i h f (Tomorrow x) s e r p l = let k = code_inside σ i r in (k, l k x (inl refl))
node_sound t b σ i h f (WeakTomorrow x) s e r p l = elim (eq-or-lt_of_le h) [ inl z ↦ inl z | inr k ↦ inr (l k x (inl refl)) ]
node_sound t b σ i h f (Until x y) one e r p l = until_now t σ (formula b x) (formula b y) i h (p y (inl refl))
node_sound t b σ i h f (Until x y) other e r p l =
    until_later t σ (formula b x) (formula b y) i (p x (inl refl))
    (subst (Holds t σ (suc i)) e (l (code_inside σ i r) f (inl refl)))
node_sound t b σ i h f (Release x y) one e r p l =
    release_now t σ (formula b x) (formula b y) i h (p x (inl refl)) (p y (inr (inl refl)))
node_sound t b σ i h f (Release x y) other e r p l =
    release_later t σ (formula b x) (formula b y) i (p y (inl refl))
    (elim (eq-or-lt_of_le h) [ inl z ↦ inl z | inr k ↦ inr (subst (Holds t σ (suc i)) e (l k f (inl refl))) ])

parts_operands : (m : Node) (s : Side) (g : ℕ) → Among g (parts m s) → Among g (operands m)
parts_operands True s g h = h
parts_operands False s g h = h
parts_operands (Atom a) s g h = h
parts_operands (NotAtom a) s g h = h
parts_operands (And x y) s g h = h
parts_operands (Or x y) one g (inl e) = inl e
parts_operands (Or x y) one g (inr z) = absurd z
parts_operands (Or x y) other g h = inr h
parts_operands (Tomorrow x) s g h = absurd h
parts_operands (WeakTomorrow x) s g h = absurd h
parts_operands (Until x y) one g h = inr h
parts_operands (Until x y) other g (inl e) = inl e
parts_operands (Until x y) other g (inr z) = absurd z
parts_operands (Release x y) one g h = h
parts_operands (Release x y) other g h = inr h

pub part_before : (b : Contents) → Proper b → (f : ℕ) (s : Side) (g : ℕ) → Among g (parts (node_at b f) s) → g < f
part_before b pr f s g h = operands_before b pr f g (parts_operands (node_at b f) s g h)

module _ (t : Meaning) (b : Contents) (pr : Proper b) (σ : List ℕ) (i : ℕ) (h : i < length σ) (κ : Choice) (L : Label) where
  expansion_holds : Sound t b κ L (visit σ i) (after σ i) → (suc i < length σ → AllHold t b σ (suc i) (HandedOn b κ L))
      → (d f : ℕ) → f < d → Expansion b κ L f → Holds t σ i (formula b f)
  expansion_holds so la zero f l s = absurd (omega arith)
  expansion_holds so la (suc d) f l s =
      subst⁻¹ (Holds t σ i) (formula_is b pr f)
      (node_sound t b σ i h f (node_at b f) (κ f) (formula_is b pr f) (so f s)
      (λ g m. let k : g < f = part_before b pr f (κ f) g m in expansion_holds so la d g (omega arith) (part s m))
      (λ k g m. la k g (f, s, m)))

pub step_sound : StepIsSound
step_sound t b pr σ i h κ L so la f m = expansion_holds t b pr σ i h κ L so la (suc f) f (omega arith) (member m)

-- COMPLETENESS

abbrev pub side : {A : Type 0} → Dec A → Side
side (yes a) = one
side (no h) = other

-- the choice that goes by what holds at visit i
abbrev pub pick : Meaning → Contents → List ℕ → ℕ → Node → Side
pick t b σ i True = one
pick t b σ i False = one
pick t b σ i (Atom a) = one
pick t b σ i (NotAtom a) = one
pick t b σ i (And x y) = one
pick t b σ i (Or x y) = side (holds? t σ (formula b x) i)
pick t b σ i (Tomorrow x) = one
pick t b σ i (WeakTomorrow x) = one
pick t b σ i (Until x y) = side (holds? t σ (formula b y) i)
pick t b σ i (Release x y) = side (holds? t σ (formula b x) i)

module _ (t : Meaning) (b : Contents) (σ : List ℕ) (i : ℕ) (h : i < length σ) where
  only_holds : (x g : ℕ) → Holds t σ i (formula b x) → Among g (x ∷ []) → Holds t σ i (formula b g)
  only_holds x g a (inl e) = subst⁻¹ (λ (n : ℕ). Holds t σ i (formula b n)) e a
  only_holds x g a (inr z) = absurd z

  both_hold : (x y g : ℕ) → Holds t σ i (formula b x) → Holds t σ i (formula b y) → Among g (x ∷ y ∷ []) → Holds t σ i (formula b g)
  both_hold x y g a c (inl e) = subst⁻¹ (λ (n : ℕ). Holds t σ i (formula b n)) e a
  both_hold x y g a c (inr k) = only_holds y g c k

  or_parts : (x y g : ℕ) (d : Dec (Holds t σ i (formula b x))) → Holds t σ i (either (formula b x) (formula b y))
      → Among g (parts (Or x y) (side d)) → Holds t σ i (formula b g)
  or_parts x y g (yes a) v k = only_holds x g a k
  or_parts x y g (no n) (inl a) k = absurd (n a)
  or_parts x y g (no n) (inr c) k = only_holds y g c k

  until_parts : (x y g : ℕ) (d : Dec (Holds t σ i (formula b y))) → Holds t σ i (until (formula b x) (formula b y))
      → Among g (parts (Until x y) (side d)) → Holds t σ i (formula b g)
  until_parts x y g (yes c) v k = only_holds y g c k
  until_parts x y g (no n) v k = elim (until_split t σ (formula b x) (formula b y) i v) [ inl c ↦ absurd (n c) | inr p ↦ only_holds x g p.0 k ]

  release_parts : (x y g : ℕ) (d : Dec (Holds t σ i (formula b x))) → Holds t σ i (release (formula b x) (formula b y))
      → Among g (parts (Release x y) (side d)) → Holds t σ i (formula b g)
  release_parts x y g (yes a) v k = both_hold x y g a (release_holds t σ (formula b x) (formula b y) i h v) k
  release_parts x y g (no n) v k = only_holds y g (release_holds t σ (formula b x) (formula b y) i h v) k

  parts_hold : (m : Node) → Holds t σ i (formed (formula b) m) → (g : ℕ) → Among g (parts m (pick t b σ i m)) → Holds t σ i (formula b g)
  parts_hold True v g k = absurd k
  parts_hold False v g k = absurd k
  parts_hold (Atom a) v g k = absurd k
  parts_hold (NotAtom a) v g k = absurd k
  parts_hold (And x y) v g k = both_hold x y g v.0 v.1 k
  parts_hold (Or x y) v g k = or_parts x y g (holds? t σ (formula b x) i) v k
  parts_hold (Tomorrow x) v g k = absurd k
  parts_hold (WeakTomorrow x) v g k = absurd k
  parts_hold (Until x y) v g k = until_parts x y g (holds? t σ (formula b y) i) v k
  parts_hold (Release x y) v g k = release_parts x y g (holds? t σ (formula b x) i) v k

  until_admitted : (x y : ℕ) (d : Dec (Holds t σ i (formula b y))) → Holds t σ i (until (formula b x) (formula b y))
      → Admitted t (visit σ i) (after σ i) (Until x y) (side d)
  until_admitted x y (yes c) v = tt
  until_admitted x y (no n) v = elim (until_split t σ (formula b x) (formula b y) i v) [ inl c ↦ absurd (n c) | inr p ↦ inside_code σ i p.1.0 ]

  admitted : (m : Node) → Holds t σ i (formed (formula b) m) → Admitted t (visit σ i) (after σ i) m (pick t b σ i m)
  admitted True v = tt
  admitted False v = v
  admitted (Atom a) v = v
  admitted (NotAtom a) v = v
  admitted (And x y) v = tt
  admitted (Or x y) v = tt
  admitted (Tomorrow x) v = inside_code σ i v.0
  admitted (WeakTomorrow x) v = tt
  admitted (Until x y) v = until_admitted x y (holds? t σ (formula b y) i) v
  admitted (Release x y) v = tt

  only_next : (x g : ℕ) → Holds t σ (suc i) (formula b x) → Among g (x ∷ []) → Holds t σ (suc i) (formula b g)
  only_next x g a (inl e) = subst⁻¹ (λ (n : ℕ). Holds t σ (suc i) (formula b n)) e a
  only_next x g a (inr z) = absurd z

  until_next : (f x y g : ℕ) (d : Dec (Holds t σ i (formula b y))) → formula b f ≡ until (formula b x) (formula b y)
      → Holds t σ i (until (formula b x) (formula b y)) → Among g (handed_on f (Until x y) (side d)) → Holds t σ (suc i) (formula b g)
  until_next f x y g (yes c) e v k = absurd k
  until_next f x y g (no n) e v k =
      elim (until_split t σ (formula b x) (formula b y) i v) [
        | inl c ↦ absurd (n c)
        | inr p ↦ only_next f g (subst⁻¹ (Holds t σ (suc i)) e p.1.1) k
      ]

  release_next : (f x y g : ℕ) (d : Dec (Holds t σ i (formula b x))) → formula b f ≡ release (formula b x) (formula b y)
      → Holds t σ i (release (formula b x) (formula b y)) → Among g (handed_on f (Release x y) (side d)) → Holds t σ (suc i) (formula b g)
  release_next f x y g (yes c) e v k = absurd k
  release_next f x y g (no n) e v k =
      elim (release_split t σ (formula b x) (formula b y) i v) [
        | inl c ↦ absurd (n c)
        | inr u ↦ only_next f g (subst⁻¹ (Holds t σ (suc i)) e u) k
      ]

  next_holds : (f : ℕ) (m : Node) → formula b f ≡ formed (formula b) m → Holds t σ i (formed (formula b) m) → suc i < length σ
      → (g : ℕ) → Among g (handed_on f m (pick t b σ i m)) → Holds t σ (suc i) (formula b g)
  next_holds f True e v l g k = absurd k
  next_holds f False e v l g k = absurd k
  next_holds f (Atom a) e v l g k = absurd k
  next_holds f (NotAtom a) e v l g k = absurd k
  next_holds f (And x y) e v l g k = absurd k
  next_holds f (Or x y) e v l g k = absurd k
  next_holds f (Tomorrow x) e v l g k = only_next x g v.1 k
  next_holds f (WeakTomorrow x) e (inl z) l g k = absurd (omega arith)
  next_holds f (WeakTomorrow x) e (inr v) l g k = only_next x g v k
  next_holds f (Until x y) e v l g k = until_next f x y g (holds? t σ (formula b y) i) e v k
  next_holds f (Release x y) e v l g k = release_next f x y g (holds? t σ (formula b x) i) e v k

module _ (t : Meaning) (b : Contents) (pr : Proper b) (σ : List ℕ) (i : ℕ) (h : i < length σ) (L : Label) where
  true_expansion : AllHold t b σ i (λ f. f ∈ L) → (f : ℕ) → Expansion b (λ x. pick t b σ i (node_at b x)) L f → Holds t σ i (formula b f)
  true_expansion al f (member m) = al f m
  true_expansion al g (part {f = f} s k) =
      parts_hold t b σ i h (node_at b f) (subst (Holds t σ i) (formula_is b pr f) (true_expansion al f s)) g k

pub step_complete : StepIsComplete
step_complete t b pr σ i h L al = (
  (λ f. pick t b σ i (node_at b f)),
  (λ f s. admitted t b σ i h (node_at b f) (subst (Holds t σ i) (formula_is b pr f) (true_expansion t b pr σ i h L al f s))),
  (λ l g k. next_holds t b σ i h k.0 (node_at b k.0) (formula_is b pr k.0)
      (subst (Holds t σ i) (formula_is b pr k.0) (true_expansion t b pr σ i h L al k.0 k.1)) l g k.2),
)

pub expansion_least : ExpansionIsLeast
expansion_least b κ L p base closed f (member m) = base f m
expansion_least b κ L p base closed g (part {f = f} x a) = closed f g (expansion_least b κ L p base closed f x) a
