-- The plain record keeps codes alone.
use Rattle.std.proofs.Common.{◌≡◌, ℕ, ◌+◌, ◌-◌, Bool, true, false, cond, ◌&&◌, ◌||◌, ltb, leb, List, [], ◌∷◌, ◌++◌, length, take, drop, refl, ap, ◌∙◌}
use Rattle.std.proofs.lemmas.List.{take-append-drop}
use Rattle.std.proofs.lemmas.Bool.{lt-ltb, leb-false}
use Rattle.judge.specs.Judging.{all_codes}
use Rattle.household.specs.Plain.{Drawn, sync, strike, question, note, put, second_after, refused, accepted, kept_then}

both : (a b : Bool) → a ≡ true → b ≡ true → (a && b) ≡ true
both a b p q = ap (λ x. x && b) p ∙ q

left_of : (a b : Bool) → (a && b) ≡ true → a ≡ true
left_of true b e = refl
left_of false b e = e

right_of : (a b : Bool) → (a && b) ≡ true → b ≡ true
right_of true b e = e
right_of false true e = refl
right_of false false e = e

module _ (codes : ℕ) where
  below_append : (xs ys : List ℕ) → all_codes codes xs ≡ true → all_codes codes ys ≡ true → all_codes codes (xs ++ ys) ≡ true
  below_append [] ys p q = q
  below_append (x ∷ xs) ys p q = both (ltb x codes) _ (left_of (ltb x codes) _ p) (below_append xs ys (right_of (ltb x codes) _ p) q)

  below_front : (xs ys : List ℕ) → all_codes codes (xs ++ ys) ≡ true → all_codes codes xs ≡ true
  below_front [] ys p = refl
  below_front (x ∷ xs) ys p = both (ltb x codes) _ (left_of (ltb x codes) _ p) (below_front xs ys (right_of (ltb x codes) _ p))

  put_by : (second : List ℕ) (c : ℕ) (a b : Bool) → leb codes c ≡ a → all_codes codes second ≡ true → all_codes codes (put (cond a (refused 4) (cond b (refused 5) accepted)) second c) ≡ true
  put_by second c true b q h = h
  put_by second c false true q h = h
  put_by second c false false q h = below_append second (c ∷ []) h (both (ltb c codes) true (lt-ltb c codes (leb-false codes c q)) refl)

  second_sound : (entries : ℕ) (kept second notes : List ℕ) → all_codes codes second ≡ true → all_codes codes (second_after codes entries kept second notes) ≡ true
  second_sound entries kept second [] h = h
  second_sound entries kept second (c ∷ cs) h =
      second_sound entries kept (put (note codes entries kept second c) second c) cs
      (put_by second c (leb codes c) (leb entries (length kept + length second) || leb 1024 (length kept + length second)) refl h)

  pub kept_sound : {Q : Type 0} (entries : ℕ) (kept : List ℕ) (d : Drawn Q) → all_codes codes kept ≡ true → all_codes codes (kept_then codes entries kept d) ≡ true
  kept_sound entries kept (sync notes true) h = below_append kept _ h (second_sound entries kept [] notes refl)
  kept_sound entries kept (sync notes false) h = h
  kept_sound entries kept strike h =
      below_front (take (length kept - 1) kept) (drop (length kept - 1) kept) (ap (all_codes codes) (take-append-drop (length kept - 1) kept) ∙ h)
  kept_sound entries kept (question q) h = h
