-- Whether a formula is among the rules, and one rule more.
use Rattle.std.proofs.Common.{◌≡◌, ℕ, zero, suc, ◌+◌, ◌<◌, Bool, true, false, cond, not, ◌&&◌, ◌||◌, eqb, List, [], ◌∷◌, ◌++◌, length, get_or, sym, refl, ap, ◌∙◌, inl, inr, length-append, arith}
use Rattle.std.specs.List.{list_any}
use Rattle.std.proofs.lemmas.List.{get_or_append_left, get_or_push}
use Rattle.std.proofs.lemmas.Bool.{cond-true, cond-false, eq-eqb, cases_eq, false≢true, cases_Bool, and_left, and_right, not_from_true}
use Rattle.ltlf.specs.Contents.{among}
use Rattle.ltlf.proofs.Pigeons.{pigeons}

-- what `contains` tests
among_step : (b y : Bool) → (b || y) ≡ cond b true y
among_step true y = refl
among_step false y = refl

pub among_is : (f : ℕ) (xs : List ℕ) → list_any (λ x. eqb x f) xs ≡ among f xs
among_is f [] = refl
among_is f (x ∷ xs) = among_step (eqb x f) _ ∙ ap (cond (eqb x f) true) (among_is f xs)

-- what is not among the entries differs from each
pub not_among : (f : ℕ) (xs : List ℕ) → among f xs ≡ false → (i : ℕ) → i < length xs → get_or xs i 0 ≡ f → ⊥
not_among f [] no_one i h e = absurd (omega arith)
not_among f (x ∷ xs) no_one zero h e = false≢true (sym no_one ∙ cond-true _ _ _ (eq-eqb x f e))
not_among f (x ∷ xs) no_one (suc i) h e = elim (cases_Bool (eqb x f)) [
  | inl is ↦ false≢true (sym no_one ∙ cond-true _ _ _ is)
  | inr isnt ↦ not_among f xs (sym (cond-false _ _ _ isnt) ∙ no_one) i (omega arith) e
]

-- one rule more, which was not named
module _ (rules : List ℕ) (f count : ℕ)
    (stood : (i : ℕ) → i < length rules → get_or rules i 0 < count) (apart : (i j : ℕ) → i < j → j < length rules → get_or rules i 0 ≡ get_or rules j 0 → ⊥)
    (new : f < count) (fresh : false ≡ among f rules) where
  abbrev more : List ℕ
  more = rules ++ f ∷ []

  size : length more ≡ length rules + 1
  size = length-append rules (f ∷ [])

  old : (i : ℕ) → i < length rules → get_or more i 0 ≡ get_or rules i 0
  old i h = get_or_append_left rules (f ∷ []) 0 i h

  last : (i : ℕ) → length rules ≡ i → get_or more i 0 ≡ f
  last i e = get_or_push rules f 0 i e

  pub stood_more : (i : ℕ) → i < length more → get_or more i 0 < count
  stood_more i h = elim (cases_eq i (length rules)) [
    | inl e ↦ omega (arith, last i (sym e))
    | inr ne ↦ (let lt : i < length rules = omega (arith, size) in omega (arith, old i lt, stood i lt))
  ]

  pub apart_more : (i j : ℕ) → i < j → j < length more → get_or more i 0 ≡ get_or more j 0 → ⊥
  apart_more i j lt h e =
      let lt' : i < length rules = omega (arith, size) in
      elim (cases_eq j (length rules)) [
        | inl q ↦ not_among f rules (sym fresh) i lt' (sym (old i lt') ∙ e ∙ last j (sym q))
        | inr nj ↦ (let h' : j < length rules = omega (arith, size) in apart i j lt h' (sym (old i lt') ∙ e ∙ old j h'))
      ]

  -- there is room for it
  pub room : length rules < count
  room = let some = pigeons count (length more) (λ i. get_or more i 0) stood_more apart_more in omega (arith, size)

  -- the list of rules, with one more
  pub rules_more : (put : Bool) → put ≡ true → more ≡ cond (put && not (among f rules)) more rules
  rules_more put is =
      sym (ap (λ b. cond (b && not (among f rules)) more rules) is ∙ ap (λ b. cond (true && not b) more rules) (sym fresh))

-- a formula that was not put is not named, and a rule is not named again
pub rules_unput : (put : Bool) (rules : List ℕ) (f : ℕ) → put ≡ false → rules ≡ cond (put && not (among f rules)) (rules ++ f ∷ []) rules
rules_unput put rules f e = sym (cond-false _ _ _ (and_left put (not (among f rules)) e))

pub rules_again : (put : Bool) (rules : List ℕ) (f : ℕ) → true ≡ among f rules → rules ≡ cond (put && not (among f rules)) (rules ++ f ∷ []) rules
rules_again put rules f e = sym (cond-false _ _ _ (and_right put (not (among f rules)) (not_from_true (among f rules) (sym e))))
