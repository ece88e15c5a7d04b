-- Values as they are printed, and the code that they tell.
use Rattle.std.proofs.Common.{◌≡◌, ℕ, zero, suc, ◌+◌, ◌*◌, ◌/◌, ◌%◌, ◌^◌, ◌<◌, ◌≤◌, true, List, [], ◌∷◌, ◌++◌, length, get_or, take, ℤ, pos, negsuc, ◌+ℤ◌, ◌-ℤ◌, nat_abs, sym, refl, ap, ◌∙◌, ap₂, le_of_suc-le-suc, mod-eq_of_lt, add-one, arith, length-append}
use lib.Arith.{mod-mul}
use lib.Signed.{mag}
use Rattle.std.proofs.lemmas.Nat.{mul-le}
use Rattle.std.proofs.lemmas.List.{take_more}
use Rattle.std.proofs.lemmas.Int.{ints}
use Rattle.theory.proofs.Texts.{item_short, spaced_push}
use Rattle.theory.specs.Print.{item, spaced}
use Rattle.numbers.specs.declared.numbers.Numbers.{Numbers}
use Rattle.numbers.specs.Codes.{all_values, code_of, ValuesTellCodes}
use Rattle.numbers.specs.Kept.{grid_value}
use Rattle.numbers.specs.Limits.{within, value_count}
use Rattle.numbers.specs.Model.{numbers_of}
use Rattle.numbers.specs.Values.{VariableModel, combinations, value}
use Rattle.names.specs.Rosters.{texts}
use Rattle.numbers.proofs.Bounds.{within_bounds}
use Rattle.numbers.proofs.Means.{value_is}
use Rattle.numbers.proofs.Readings.{count_variables}

some_combination : (vs : List VariableModel) → 0 < combinations vs
some_combination [] = omega arith
some_combination (v ∷ vs) =
    omega (arith, mul-le 1 1 (value_count v.low v.high) (combinations vs) (omega arith) (some_combination vs))

above_low : (low : ℤ) (d : ℕ) → nat_abs ((low +ℤ pos d) -ℤ low) ≡ d
above_low low d = let e : ((low +ℤ pos d) -ℤ low) ≡ pos d = omega (arith, ints) in ap nat_abs e

tell_rest : (vs : List VariableModel) (code : ℕ) → code_of vs (all_values vs code) ≡ code % combinations vs
tell_rest [] code = omega arith
tell_rest (v ∷ vs) code =
    let c = combinations vs in
    let w = value_count v.low v.high in
    ap₂ (λ a b. a * c + b) (above_low v.low (code / c % w)) (tell_rest vs code)
    ∙ sym (mod-mul code {m = w} {c = c} (omega arith) (some_combination vs))

pub tell : ValuesTellCodes
tell vs code h = tell_rest vs code ∙ mod-eq_of_lt h

values_length : (vs : List VariableModel) (code : ℕ) → length (all_values vs code) ≡ length vs
values_length [] code = refl
values_length (v ∷ vs) code = ap suc (values_length vs code)

values_at : (vs : List VariableModel) (i code : ℕ) → i < length vs → get_or (all_values vs code) i (pos 0) ≡ value vs i code
values_at [] i code h = let no : ⊥ = omega arith in absurd no
values_at (v ∷ vs) zero code h = refl
values_at (v ∷ vs) (suc i) code h = values_at vs i code (le_of_suc-le-suc h)

small : (z : ℤ) → within 10000 z ≡ true → mag z + 1 < 10 ^ 5
small (pos n) h = let b = within_bounds 10000 (pos n) h in omega (arith, ints)
small (negsuc n) h = let b = within_bounds 10000 (negsuc n) h in omega (arith, ints)

-- a value takes at most seven bytes
value_short : (at : ℕ) (z : ℤ) → within 10000 z ≡ true → length (item at z) ≤ 7
value_short at z h = let s = small z h in item_short at z 5 s (omega arith)

pub values_short : (zs : List ℤ) → ((k : ℕ) → k < length zs → within 10000 (get_or zs k (pos 0)) ≡ true)
    → (i : ℕ) → i ≤ length zs → length (spaced (take i zs)) ≤ 7 * i
values_short zs small zero h = omega arith
values_short zs small (suc i) h =
    let z = get_or zs i (pos 0) in
    let text = spaced (take i zs) in
    let more : take (suc i) zs ≡ take i zs ++ z ∷ [] = ap (λ n. take n zs) (sym (add-one i)) ∙ take_more zs i (pos 0) (omega arith) in
    omega (
      arith,
      values_short zs small i (omega arith),
      value_short (length text) z (small i (omega arith)),
      ap (λ (xs : List ℤ). length (spaced xs)) more,
      ap length (spaced_push (take i zs) z),
      length-append text (item (length text) z),
    )

-- one variable more
module _ (t : Numbers) (code : ℕ) where
  abbrev values : List ℤ
  values = all_values (numbers_of t).variables code

  pub values_count : length values ≡ length t.grid.variables.items
  values_count = values_length (numbers_of t).variables code ∙ count_variables t

  pub value_at : (i : ℕ) → i < length t.grid.variables.items → get_or values i (pos 0) ≡ grid_value t.grid i code
  value_at i h = values_at (numbers_of t).variables i code (omega (arith, count_variables t)) ∙ value_is (texts t.names) t.grid t.paired i code h

  pub more_values : (i : ℕ) → i < length t.grid.variables.items → take (i + 1) values ≡ take i values ++ grid_value t.grid i code ∷ []
  more_values i h = take_more values i (pos 0) (omega (arith, values_count)) ∙ ap (λ (z : ℤ). take i values ++ z ∷ []) (value_at i h)
