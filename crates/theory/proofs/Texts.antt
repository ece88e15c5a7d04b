-- One value more of a printed text.
use Rattle.std.proofs.Common.{◌≡◌, ℕ, suc, ◌+◌, ◌-◌, ◌/◌, ◌%◌, ◌^◌, ◌<◌, ◌≤◌, Bool, true, false, cond, eqb, leb, List, [], ◌∷◌, ◌++◌, length, get_or, take, drop, fold, ℤ, pos, negsuc, nat_abs, ◌≤ℤ◌, ◌<ℤ◌, append_assoc, zero-add, Some, None, Err, inl, inr, take-append-drop, refl, sym, ap, ◌∙◌, ap₂, arith, length-append, w32, SFits, to_z, of_z}
use lib.Signed.{mag, lt_z}
use Rattle.std.proofs.lemmas.Fmt.{length_signed_le, decimal_digit, decimal_step}
use Rattle.std.proofs.lemmas.Int.{ints, to_z-of_z}
use Rattle.std.proofs.lemmas.List.{take_more, drop-take, drop-drop}
use Rattle.std.proofs.lemmas.List.Sums.{fold_push, fold-append}
use Rattle.std.specs.Fmt.{decimal, signed_decimal}
use Rattle.writer.proofs.Firsts.{room_for}
use Rattle.std.proofs.lemmas.Bool.{cond-true, cond-false, lt-ltb, le-ltb, leb-true, leb-false, both_ways, cases_Bool, eq-eqb, ne_eqb}
use Rattle.refusal.specs.declared.Refusal.TheVariants.{BadBuffer}
use Rattle.writer.proofs.Puts.{fit_answer, fit_leaves, put_put}
use Rattle.writer.specs.Puts.{put_at, put_answer, put_leaves}
use Rattle.theory.specs.Print.{item, spaced, print_answer, print_leaves, values_answer, values_leave}

-- a value takes at most its digits, a sign and a space
item_by : (first : Bool) (z : ℤ) (k : ℕ) → length (signed_decimal z) ≤ k → length (cond first (signed_decimal z) (32 ∷ signed_decimal z)) ≤ k + 1
item_by true z k h = omega arith
item_by false z k h = omega arith

pub item_short : (at : ℕ) (z : ℤ) (k : ℕ) → mag z + 1 < 10 ^ k → mag z < 2 ^ 63 → length (item at z) ≤ k + 2
item_short at z k small bounded = omega (arith, item_by (eqb at 0) z (k + 1) (length_signed_le k z small bounded))

-- a value of one digit, as the code passes it
one_digit : (z : ℤ) → pos 0 ≤ℤ z → z <ℤ pos 10 → (48 + nat_abs z) ∷ [] ≡ signed_decimal z
one_digit (pos n) low high = sym (decimal_digit n (omega (arith, ints)))
one_digit (negsuc n) low high = absurd (omega (arith, ints))

minus_digit : (z : ℤ) → negsuc 8 ≤ℤ z → z <ℤ pos 0 → 45 ∷ (48 + nat_abs z) ∷ [] ≡ signed_decimal z
minus_digit (pos n) low high = absurd (omega (arith, ints))
minus_digit (negsuc n) low high = ap (λ ds. 45 ∷ ds) (sym (decimal_digit (suc n) (omega (arith, ints))))

pub minus_text : (z : ℤ) → SFits w32 z → negsuc 8 ≤ℤ z → z <ℤ pos 0 → (magnitude : ℕ) → magnitude ≡ nat_abs (to_z w32 (of_z w32 z)) → 45 ∷ (48 + magnitude) ∷ [] ≡ signed_decimal z
minus_text z z-fits low high magnitude is =
    ap (λ n. 45 ∷ (48 + n) ∷ []) (is ∙ ap nat_abs (to_z-of_z w32 z z-fits)) ∙ minus_digit z low high

-- a value of two digits, as the code passes it
two_digits : (n : ℕ) → 10 ≤ n → n < 100 → (48 + n / 10) ∷ (48 + n % 10) ∷ [] ≡ decimal n
two_digits n low high = sym (decimal_step n low (omega arith) ∙ ap (λ ds. ds ++ (48 + n % 10) ∷ []) (decimal_digit (n / 10) (omega arith)))

two_plain : (z : ℤ) → 10 ≤ nat_abs z → nat_abs z < 100 → lt_z z (pos 0) ≡ false → (48 + nat_abs z / 10) ∷ (48 + nat_abs z % 10) ∷ [] ≡ signed_decimal z
two_plain (pos n) low high sign = two_digits n low high
two_plain (negsuc n) low high sign = absurd (both_ways true sign refl)

two_minus : (z : ℤ) → 10 ≤ nat_abs z → nat_abs z < 100 → lt_z z (pos 0) ≡ true → 45 ∷ (48 + nat_abs z / 10) ∷ (48 + nat_abs z % 10) ∷ [] ≡ signed_decimal z
two_minus (pos n) low high sign = absurd (omega (arith, ints))
two_minus (negsuc n) low high sign = ap (λ ds. 45 ∷ ds) (two_digits (suc n) low high)

module _ (z : ℤ) (z-fits : SFits w32 z) (magnitude : ℕ) (is : magnitude ≡ nat_abs (to_z w32 (of_z w32 z))) (low : 10 ≤ magnitude) (high : magnitude < 100) where
  is-abs : magnitude ≡ nat_abs z
  is-abs = is ∙ ap nat_abs (to_z-of_z w32 z z-fits)

  pub plain_two : lt_z (to_z w32 (of_z w32 z)) (pos 0) ≡ false → (48 + magnitude / 10) ∷ (48 + magnitude % 10) ∷ [] ≡ signed_decimal z
  plain_two sign =
      ap (λ n. (48 + n / 10) ∷ (48 + n % 10) ∷ []) is-abs
      ∙ two_plain z (omega (arith, is-abs)) (omega (arith, is-abs)) (ap (λ (x : ℤ). lt_z x (pos 0)) (sym (to_z-of_z w32 z z-fits)) ∙ sign)

  pub minus_two : lt_z (to_z w32 (of_z w32 z)) (pos 0) ≡ true → 45 ∷ (48 + magnitude / 10) ∷ (48 + magnitude % 10) ∷ [] ≡ signed_decimal z
  minus_two sign =
      ap (λ n. 45 ∷ (48 + n / 10) ∷ (48 + n % 10) ∷ []) is-abs
      ∙ two_minus z (omega (arith, is-abs)) (omega (arith, is-abs)) (ap (λ (x : ℤ). lt_z x (pos 0)) (sym (to_z-of_z w32 z z-fits)) ∙ sign)

-- an item: a space stands before a later one
pub first_item : (at : ℕ) (z : ℤ) (text : List ℕ) → at ≡ 0 → text ≡ signed_decimal z → text ≡ item at z
first_item at z text first is = is ∙ sym (cond-true _ _ _ (eq-eqb at 0 first))

pub later_item : (at : ℕ) (z : ℤ) (text : List ℕ) → (at ≡ 0 → ⊥) → text ≡ signed_decimal z → 32 ∷ text ≡ item at z
later_item at z text later is = ap (λ ds. 32 ∷ ds) is ∙ sym (cond-false _ _ _ (ne_eqb at 0 later))

module _ (at : ℕ) (z : ℤ) (z-fits : SFits w32 z) (low : pos 0 ≤ℤ z) (high : z <ℤ pos 10) where
  abbrev digit : ℕ
  digit = 48 + nat_abs (to_z w32 (of_z w32 z))

  digit_text : digit ∷ [] ≡ signed_decimal z
  digit_text = ap (λ (x : ℤ). (48 + nat_abs x) ∷ []) (to_z-of_z w32 z z-fits) ∙ one_digit z low high

  pub first_digit : at ≡ 0 → digit ∷ [] ≡ item at z
  first_digit first = first_item at z (digit ∷ []) first digit_text

  pub later_digit : (at ≡ 0 → ⊥) → 32 ∷ digit ∷ [] ≡ item at z
  later_digit later = later_item at z (digit ∷ []) later digit_text

pub spaced_push : (zs : List ℤ) (z : ℤ) → spaced (zs ++ z ∷ []) ≡ spaced zs ++ item (length (spaced zs)) z
spaced_push zs z = fold_push (λ text z. text ++ item (length text) z) [] zs z

-- the step of a loop that prints one value after another
pub print_more : (bytes : List ℕ) (zs : List ℤ) (z : ℤ) (at e : ℕ) (out after : List ℕ)
    → at ≡ length (spaced zs) → out ≡ put_at bytes 0 (spaced zs)
    → Some e ≡ put_answer (length out) at (item at z) → after ≡ put_leaves out at (item at z)
    → (e ≡ length (spaced (zs ++ z ∷ []))) × (after ≡ put_at bytes 0 (spaced (zs ++ z ∷ [])))
print_more bytes zs z at e out after is_at is-out some is-after =
    let text = spaced zs in
    let p = room_for (length out) at (item at z) e some in (
      p.1 ∙ ap (λ n. n + length (item n z)) is_at ∙ sym (length-append text (item (length text) z)) ∙ ap length (sym (spaced_push zs z)),
      is-after
          ∙ fit_leaves out at (item at z) p.0
          ∙ ap₂ (λ xs n. put_at xs n (item n z)) is-out is_at
          ∙ put_put bytes text (item (length text) z)
          ∙ ap (put_at bytes 0) (sym (spaced_push zs z)),
    )

-- a text put over the first bytes alone is put over all of them
pub put_front : (bytes text : List ℕ) (room : ℕ) → length text ≤ room → put_at (take room bytes) 0 text ++ drop room bytes ≡ put_at bytes 0 text
put_front bytes text room h =
    let n = length text in
    let m = room - n in
    let whole : n + m ≡ room = omega arith in
    let rest : drop n (take (n + m) bytes) ++ drop (n + m) bytes ≡ drop n bytes =
    ap₂ (λ xs ys. xs ++ ys) (drop-take n m bytes) (sym (drop-drop m n bytes)) ∙ take-append-drop m (drop n bytes) in
    ap (λ k. (text ++ drop k (take room bytes)) ++ drop room bytes) (zero-add n)
    ∙ append_assoc text (drop n (take room bytes)) (drop room bytes)
    ∙ ap (λ k. text ++ (drop n (take k bytes) ++ drop k bytes)) (sym whole)
    ∙ ap (λ r. text ++ r) rest
    ∙ ap (λ k. text ++ drop k bytes) (sym (zero-add n))

-- a text only grows with its values
grows_by : (ys : List ℤ) (text : List ℕ) → length text ≤ length (fold (λ text z. text ++ item (length text) z) text ys)
grows_by [] text = omega arith
grows_by (y ∷ ys) text = omega (arith, grows_by ys (text ++ item (length text) y), length-append text (item (length text) y))

-- so a value more fits where all of them do
pub step_fits : (values : List ℤ) (i : ℕ) → i < length values
    → length (spaced (take i values)) + length (item (length (spaced (take i values))) (get_or values i (pos 0))) ≤ length (spaced values)
step_fits values i h =
    let front = take i values in
    let z = get_or values i (pos 0) in
    let text = spaced front in
    let more : spaced (take (i + 1) values) ≡ text ++ item (length text) z = ap spaced (take_more values i (pos 0) h) ∙ spaced_push front z in
    let all : fold (λ text z. text ++ item (length text) z) (spaced (take (i + 1) values)) (drop (i + 1) values) ≡ spaced values =
    sym (fold-append (λ text z. text ++ item (length text) z) [] (take (i + 1) values) (drop (i + 1) values)) ∙ ap spaced (take-append-drop (i + 1) values) in
    omega (arith, grows_by (drop (i + 1) values) (spaced (take (i + 1) values)), ap length all, ap length more, length-append text (item (length text) z))

-- the step of a `print`: the value at a place, as the code passes it
module _ (bytes : List ℕ) (values : List ℤ) (i : ℕ) (x : ℤ) (at : ℕ) (out : List ℕ) (here : i < length values) (z-fits : SFits w32 x)
    (is : x ≡ get_or values i (pos 0)) (is_at : at ≡ length (spaced (take i values))) (is-out : out ≡ put_at bytes 0 (spaced (take i values))) where
  passed : to_z w32 (of_z w32 x) ≡ get_or values i (pos 0)
  passed = to_z-of_z w32 x z-fits ∙ is

  pub print_fits : length (spaced values) ≤ length out → at + length (item at (to_z w32 (of_z w32 x))) ≤ length out
  print_fits room =
      omega (arith, step_fits values i here, ap (λ z. length (item at z)) passed, ap (λ n. n + length (item n (get_or values i (pos 0)))) is_at)

  pub print_step : (e : ℕ) (after : List ℕ) → Some e ≡ put_answer (length out) at (item at (to_z w32 (of_z w32 x)))
      → after ≡ put_leaves out at (item at (to_z w32 (of_z w32 x)))
      → (e ≡ length (spaced (take (i + 1) values))) × (after ≡ put_at bytes 0 (spaced (take (i + 1) values)))
  print_step e after some is-after =
      let step = print_more bytes (take i values) (to_z w32 (of_z w32 x)) at e out after is_at is-out some is-after in
      let all : take i values ++ to_z w32 (of_z w32 x) ∷ [] ≡ take (i + 1) values =
      ap (λ (z : ℤ). take i values ++ z ∷ []) passed ∙ sym (take_more values i (pos 0) here) in (
        step.0 ∙ ap (λ (zs : List ℤ). length (spaced zs)) all,
        step.1 ∙ ap (λ (zs : List ℤ). put_at bytes 0 (spaced zs)) all,
      )

  -- a value that does not fit: all of them do not
  pub print_over : None ≡ put_answer (length out) at (item at (to_z w32 (of_z w32 x))) → length out < length (spaced values)
  print_over none = elim (cases_Bool (leb (length (spaced values)) (length out))) [
    | inl room ↦ (
        let e = none ∙ fit_answer out at (item at (to_z w32 (of_z w32 x))) (print_fits (leb-true _ _ room)) in
        let z : ◌≡◌ {A = ℕ} 0 1 = cc in absurd (omega arith)
        )
    | inr over ↦ leb-false _ _ over
  ]

-- a text of at most 64 bytes is printed, and a longer one refused
module _ (codes code : ℕ) (bytes text : List ℕ) where
  pub short_answer : length text ≤ 64 → values_answer codes code (length bytes) text ≡ print_answer codes code (length bytes) text
  short_answer h = ap (λ room. print_answer codes code room text) (cond-false _ _ _ (le-ltb 64 (length text) h))

  pub short_leaves : length text ≤ 64 → values_leave codes code bytes text ≡ print_leaves codes code bytes text
  short_leaves h = cond-false _ _ _ (le-ltb 64 (length text) h)

  pub long_answer : code < codes → 64 < length text → values_answer codes code (length bytes) text ≡ Err BadBuffer
  long_answer exists h = ap (λ room. print_answer codes code room text) (cond-true _ _ _ (lt-ltb 64 (length text) h)) ∙ cond-true _ _ _ (lt-ltb code codes exists)

  pub whole_leaves : code < codes → 64 ≤ length bytes → length text ≤ 64 → values_leave codes code bytes text ≡ put_at bytes 0 text
  whole_leaves exists room h = short_leaves h ∙ cond-true _ _ _ (lt-ltb code codes exists) ∙ cond-false _ _ _ (le-ltb (length bytes) 64 room)

  pub long_leaves : 64 < length text → values_leave codes code bytes text ≡ bytes
  long_leaves h = cond-true _ _ _ (lt-ltb 64 (length text) h)
