-- The formula of a number, from the formulas of its operands.
use Rattle.std.proofs.Common.{◌≡◌, ℕ, zero, suc, ◌<◌, ◌≤◌, true, ◌&&◌, ltb, [], ◌∷◌, length, refl, ap, ◌∙◌, subst, inl, inr, ⊎_elim, arith}
use Rattle.std.proofs.lemmas.List.{get_or_past}
use Rattle.std.proofs.lemmas.Bool.{cases_lt, ltb-true, and_parts}
use Rattle.ltlf.specs.Nodes.{operands, known}
use Rattle.ltlf.specs.Contents.{Contents, Proper}
use Rattle.ltlf.specs.declared.node.Node.{Node}
use Rattle.ltlf.specs.declared.node.Node.TheVariants.{True, False, Atom, NotAtom, And, Or, Tomorrow, WeakTomorrow, Until, Release}
use Rattle.judge.specs.Formulas.{Formula, formed, node_at, formula_to, formula, Among}

one_before : (n p g : ℕ) → ltb p n ≡ true → Among g (p ∷ []) → g < n
one_before n p g e (inl is) = omega (arith, ltb-true p n e)
one_before n p g e (inr none) = absurd none

two_before : (n p q g : ℕ) → (ltb p n && ltb q n) ≡ true → Among g (p ∷ q ∷ []) → g < n
two_before n p q g e (inl is) = omega (arith, ltb-true p n (and_parts (ltb p n) (ltb q n) e).0)
two_before n p q g e (inr rest) = one_before n q g (and_parts (ltb p n) (ltb q n) e).1 rest

-- the operands of a known node are below the number of formulas
pub known_before : (atoms n : ℕ) (m : Node) → known atoms n m ≡ true → (g : ℕ) → Among g (operands m) → g < n
known_before atoms n True e g w = absurd w
known_before atoms n False e g w = absurd w
known_before atoms n (Atom a) e g w = absurd w
known_before atoms n (NotAtom a) e g w = absurd w
known_before atoms n (And p q) e g w = two_before n p q g e w
known_before atoms n (Or p q) e g w = two_before n p q g e w
known_before atoms n (Tomorrow p) e g w = one_before n p g e w
known_before atoms n (WeakTomorrow p) e g w = one_before n p g e w
known_before atoms n (Until p q) e g w = two_before n p q g e w
known_before atoms n (Release p q) e g w = two_before n p q g e w

formed_same : (p q : ℕ → Formula) (m : Node) → ((g : ℕ) → Among g (operands m) → p g ≡ q g) → formed p m ≡ formed q m
formed_same p q True h = refl
formed_same p q False h = refl
formed_same p q (Atom a) h = refl
formed_same p q (NotAtom a) h = refl
formed_same p q (And f g) h = cc (h f (inl refl), h g (inr (inl refl)))
formed_same p q (Or f g) h = cc (h f (inl refl), h g (inr (inl refl)))
formed_same p q (Tomorrow f) h = cc (h f (inl refl))
formed_same p q (WeakTomorrow f) h = cc (h f (inl refl))
formed_same p q (Until f g) h = cc (h f (inl refl), h g (inr (inl refl)))
formed_same p q (Release f g) h = cc (h f (inl refl), h g (inr (inl refl)))

module _ (b : Contents) (pr : Proper b) where
  -- operands have smaller numbers
  pub operands_before : (f g : ℕ) → Among g (operands (node_at b f)) → g < f
  operands_before f g w =
      ⊎_elim
      (λ (h : f < length b.nodes). known_before b.atoms f (node_at b f) (pr.before f h) g w)
      (λ (h : length b.nodes ≤ f). absurd (subst (λ (m : Node). Among g (operands m)) (get_or_past b.nodes f True h) w))
      (cases_lt f (length b.nodes))

  deep_enough : (d d' f : ℕ) → f < d → f < d' → formula_to d b f ≡ formula_to d' b f
  unfolding formula_to
  deep_enough zero d' f h k = absurd (omega arith)
  deep_enough (suc d) zero f h k = absurd (omega arith)
  deep_enough (suc d) (suc d') f h k =
      formed_same (formula_to d b) (formula_to d' b) (node_at b f)
      (λ g w. let l : g < f = operands_before f g w in deep_enough d d' g (omega arith) (omega arith))

  -- the formula of a number is that of its node
  pub formula_is : (f : ℕ) → formula b f ≡ formed (formula b) (node_at b f)
  unfolding formula formula_to
  formula_is f =
      formed_same (formula_to f b) (formula b) (node_at b f)
      (λ g w. let l : g < f = operands_before f g w in deep_enough f (suc g) g l (omega arith))

  pub formula_of : (f : ℕ) (m : Node) → node_at b f ≡ m → formula b f ≡ formed (formula b) m
  formula_of f m e = formula_is f ∙ ap (formed (formula b)) e
