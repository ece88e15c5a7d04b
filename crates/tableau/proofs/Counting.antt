-- A list without repetition is no longer than one that holds its elements.
use Rattle.std.proofs.Common.{◌≡◌, ℕ, zero, suc, ◌+◌, ◌*◌, ◌≤◌, ◌⊎◌, List, [], ◌∷◌, ◌++◌, length, sym, refl, ap, ◌∙◌, subst, ap₂, inl, inr, suc-mul, add_comm, zero-mul, arith, length-append}
use Rattle.tableau.specs.Positions.{Question, Position, Rows, In, Distinct}
use Rattle.tableau.specs.Search.{gather, below}
use Rattle.tableau.proofs.Tests.{in_append}

without : {X : Type 0} (x : X) (ys : List X) → In x ys
    → (zs : List X) × (length ys ≡ suc (length zs)) × ((e : X) → In e ys → (e ≡ x) ⊎ In e zs)
without x [] i = absurd i
without x (y ∷ ys) (inl z) = (ys, refl, λ e. elim [ inl w ↦ inl (w ∙ sym z) | inr i ↦ inr i ])
without x (y ∷ ys) (inr i) =
    let r = without x ys i in (
      y ∷ r.0,
      ap suc r.1,
      λ e. elim [ inl w ↦ inr (inl w) | inr j ↦ elim (r.2 e j) [ inl w ↦ inl w | inr k ↦ inr (inr k) ] ],
    )

pub no_longer : {X : Type 0} (xs ys : List X) → Distinct xs → ((e : X) → In e xs → In e ys) → length xs ≤ length ys
no_longer [] ys d sub = omega arith
no_longer {X} (x ∷ xs) ys d sub =
    let r = without x ys (sub x (inl refl)) in
    let h = no_longer xs r.0 d.1 (λ e i. elim (r.2 e (sub e (inr i))) [
      | inl w ↦ absurd (d.0 (subst (λ (y : X). In y xs) w i))
      | inr k ↦ k
    ]) in
    omega (arith, r.1)

pub distinct_append : {X : Type 0} (xs ys : List X) → Distinct xs → Distinct ys → ((e : X) → In e xs → ¬ In e ys) → Distinct (xs ++ ys)
distinct_append [] ys dx dy apart = dy
distinct_append (x ∷ xs) ys dx dy apart = (
  (λ h. elim ((in_append x xs ys).0 h) [ inl a ↦ dx.0 a | inr c ↦ apart x (inl refl) c ]),
  distinct_append xs ys dx.1 dy (λ e a c. apart e (inr a) c),
)

-- two lists of the counted positions have one length
pub same_count : (q : Question) (ps ps' : List Position) → Rows q ps → Rows q ps' → length ps ≡ length ps'
same_count q ps ps' r r' =
    let a = no_longer ps ps' r.apart (λ e i. (r'.all e).1 ((r.all e).0 i)) in
    let b = no_longer ps' ps r'.apart (λ e i. (r.all e).1 ((r'.all e).0 i)) in
    omega arith

-- LENGTHS

pub length_below : (n : ℕ) → length (below n) ≡ n
length_below zero = refl
length_below (suc n) = omega (arith, length-append (below n) (n ∷ []), length_below n)

pub length_gather : {X Y : Type 0} (p : X → List Y) (k : ℕ) → ((x : X) → length (p x) ≡ k) → (xs : List X)
    → length (gather p xs) ≡ length xs * k
length_gather p k each [] = sym (zero-mul k)
length_gather p k each (x ∷ xs) =
    length-append (p x) (gather p xs) ∙ ap₂ (λ m n. m + n) (each x) (length_gather p k each xs) ∙ add_comm k (length xs * k) ∙ sym (suc-mul (length xs) k)
