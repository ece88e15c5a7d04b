-- Computed tests and lists: what they say.
use Rattle.std.proofs.Common.{◌≡◌, ℕ, zero, suc, ◌<◌, Bool, true, false, cond, not, ◌&&◌, ◌||◌, eqb, ◌⊎◌, ◌↔◌, List, [], ◌∷◌, ◌++◌, sym, refl, subst, inl, inr, eq-or-lt_of_le, arith, eq-eqb, eqb-true}
use Rattle.tableau.specs.Positions.{In}
use Rattle.tableau.specs.Search.{any, gather, below, some}

pub no_way : {X : Type 0} → false ≡ true → X
no_way e = let z : ◌≡◌ {A = ℕ} 0 1 = cc in absurd (omega arith)

pub true_or_not : (b : Bool) → (b ≡ true) ⊎ (b ≡ false)
true_or_not true = inl refl
true_or_not false = inr refl

pub and_ok : (a b : Bool) → (a && b ≡ true) ↔ ((a ≡ true) × (b ≡ true))
and_ok true b = ((λ e. (refl, e)), (λ p. p.1))
and_ok false b = ((λ e. no_way e), (λ p. no_way p.0))

pub or_ok : (a b : Bool) → (a || b ≡ true) ↔ ((a ≡ true) ⊎ (b ≡ true))
or_ok true b = ((λ e. inl refl), (λ p. refl))
or_ok false b = ((λ e. inr e), elim [ inl e ↦ no_way e | inr e ↦ e ])

pub not_ok : (b : Bool) → (not b ≡ true) ↔ (b ≡ false)
not_ok true = ((λ e. no_way e), (λ e. no_way (sym e)))
not_ok false = ((λ e. refl), (λ e. refl))

pub eqb_ok : (a b : ℕ) → (eqb a b ≡ true) ↔ (a ≡ b)
eqb_ok a b = (eqb-true a b, eq-eqb a b)

-- LISTS

pub in_append : {X : Type 0} (e : X) (xs ys : List X) → In e (xs ++ ys) ↔ (In e xs ⊎ In e ys)
in_append e [] ys = ((λ h. inr h), elim [ inl z ↦ absurd z | inr h ↦ h ])
in_append e (x ∷ xs) ys = (there (in_append e xs ys).0, back (in_append e xs ys).1)
  where
    there : (In e (xs ++ ys) → In e xs ⊎ In e ys) → (e ≡ x) ⊎ In e (xs ++ ys) → ((e ≡ x) ⊎ In e xs) ⊎ In e ys
    there ih (inl z) = inl (inl z)
    there ih (inr h) = elim (ih h) [ inl a ↦ inl (inr a) | inr c ↦ inr c ]

    back : (In e xs ⊎ In e ys → In e (xs ++ ys)) → ((e ≡ x) ⊎ In e xs) ⊎ In e ys → (e ≡ x) ⊎ In e (xs ++ ys)
    back ih (inl (inl z)) = inl z
    back ih (inl (inr a)) = inr (ih (inl a))
    back ih (inr c) = inr (ih (inr c))

pub in_below : (f n : ℕ) → In f (below n) ↔ (f < n)
in_below f zero = ((λ h. absurd h), (λ h. absurd (omega arith)))
in_below f (suc n) = (
  (λ h. elim ((in_append f (below n) (n ∷ [])).0 h) [
    | inl a ↦ (let l = (in_below f n).0 a in omega arith)
    | inr c ↦ elim c [ inl e ↦ omega arith | inr z ↦ absurd z ]
  ]),
  (λ h. (in_append f (below n) (n ∷ [])).1 (elim (eq-or-lt_of_le h) [
    | inl e ↦ inr (inl (omega arith))
    | inr l ↦ inl ((in_below f n).1 (omega arith))
  ])),
)

pub any_ok : {X : Type 0} (p : X → Bool) (xs : List X) → (any p xs ≡ true) ↔ ((x : X) × In x xs × (p x ≡ true))
any_ok p [] = ((λ e. no_way e), (λ h. absurd h.1))
any_ok {X} p (x ∷ xs) = (
  (λ e. elim ((or_ok (p x) (any p xs)).0 e) [
    | inl z ↦ (x, inl refl, z)
    | inr z ↦ (let r = (any_ok p xs).0 z in (r.0, inr r.1, r.2))
  ]),
  (λ h. (or_ok (p x) (any p xs)).1 (elim h.1 [
    | inl z ↦ inl (subst (λ (y : X). p y ≡ true) z h.2)
    | inr a ↦ inr ((any_ok p xs).1 (h.0, a, h.2))
  ])),
)

pub gather_ok : {X Y : Type 0} (p : X → List Y) (xs : List X) (e : Y) → In e (gather p xs) ↔ ((x : X) × In x xs × In e (p x))
gather_ok p [] e = ((λ h. absurd h), (λ h. absurd h.1))
gather_ok {X} p (x ∷ xs) e = (
  (λ h. elim ((in_append e (p x) (gather p xs)).0 h) [
    | inl a ↦ (x, inl refl, a)
    | inr c ↦ (let r = (gather_ok p xs e).0 c in (r.0, inr r.1, r.2))
  ]),
  (λ h. (in_append e (p x) (gather p xs)).1 (elim h.1 [
    | inl z ↦ inl (subst (λ (y : X). In e (p y)) z h.2)
    | inr a ↦ inr ((gather_ok p xs e).1 (h.0, a, h.2))
  ])),
)

-- the list, if the test passes
pub when_ok : {X : Type 0} (b : Bool) (xs : List X) (e : X) → In e (cond b xs []) ↔ ((b ≡ true) × In e xs)
when_ok true xs e = ((λ h. (refl, h)), (λ p. p.1))
when_ok false xs e = ((λ z. absurd z), (λ p. no_way p.0))

pub some_ok : {X : Type 0} (xs : List X) → (some xs ≡ true) ↔ ((x : X) × In x xs)
some_ok [] = ((λ e. no_way e), (λ h. absurd h.1))
some_ok (x ∷ xs) = ((λ e. (x, inl refl)), (λ h. refl))
