-- One variable more: the spans of the earlier ones grow by its width.
use Rattle.std.proofs.Common.{◌≡◌, ℕ, zero, suc, ◌+◌, ◌-◌, ◌*◌, ◌<◌, ◌≤◌, Bool, true, false, cond, ◌&&◌, leb, eqb, List, [], ◌∷◌, ◌++◌, map, length, get_or, take, drop, ℤ, Some, None, sym, refl, ap, ◌∙◌, ap₂, le_of_suc-le-suc, mul_assoc, arith}
use lib.Signed.{le_z}
use Rattle.std.proofs.lemmas.Nat.{mul-le}
use Rattle.std.proofs.lemmas.List.{length-map, length-take-le, get_or-append_right, get_or-drop, map_push, length_push}
use Rattle.std.proofs.lemmas.Bool.{cond-true, and_parts, leb-true, and_from, eq-eqb, eqb-true}
use Rattle.numbers.specs.declared.grid.Grid.{Grid}
use Rattle.numbers.specs.declared.variable.Spanned.{Spanned}
use Rattle.numbers.specs.declared.variable.Variable.{Variable}
use Rattle.numbers.specs.Kept.{bounds_of, grid_bounds, variable_made, grid_single}
use Rattle.numbers.specs.Limits.{within, value_count, bounds_fit}
use Rattle.numbers.specs.Spans.{product, spans_stand, widened}

-- what a variable has to show
pub record Made (low high : ℤ) (width : ℕ) : Type 0 where
  pub lower : within 10000 low ≡ true
  pub upper : within 10000 high ≡ true
  pub ordered : le_z low high ≡ true
  pub counted : width ≡ value_count low high
  pub some : 1 ≤ width
  pub few : width ≤ 4096

pub product_most : (codes : ℕ) (low high : ℤ) → bounds_fit codes low high ≡ true → codes * value_count low high ≤ 4096
product_most codes low high fit =
    let a = (and_parts (within 10000 low) (within 10000 high && (le_z low high && leb (codes * value_count low high) 4096)) fit).1 in
    let b = (and_parts (within 10000 high) (le_z low high && leb (codes * value_count low high) 4096) a).1 in
    leb-true (codes * value_count low high) 4096 (and_parts (le_z low high) (leb (codes * value_count low high) 4096) b).1

pub facts_made : (codes : ℕ) (low high : ℤ) (width : ℕ) → 1 ≤ codes → bounds_fit codes low high ≡ true → width ≡ value_count low high → Made low high width
facts_made codes low high width some fit is =
    let a = and_parts (within 10000 low) (within 10000 high && (le_z low high && leb (codes * value_count low high) 4096)) fit in
    let b = and_parts (within 10000 high) (le_z low high && leb (codes * value_count low high) 4096) a.1 in
    let c = and_parts (le_z low high) (leb (codes * value_count low high) 4096) b.1 in
    let most = product_most codes low high fit in
    let once = mul-le 1 (value_count low high) codes (value_count low high) some (omega arith) in
    record {
      lower = a.0;
      upper = b.0;
      ordered = c.0;
      counted = is;
      some = omega arith;
      few = omega arith;
    }

-- products of widths
pub product_some : (vs : List Spanned) → 1 ≤ product vs
product_some [] = omega arith
product_some (v ∷ vs) = omega (arith, mul-le 1 1 v.variable.width (product vs) v.variable.some (product_some vs))

pub product_push : (vs : List Spanned) (v : Spanned) → product (vs ++ v ∷ []) ≡ product vs * v.variable.width
product_push [] v = omega arith
product_push (u ∷ vs) v = ap (λ n. u.variable.width * n) (product_push vs v) ∙ sym (mul_assoc u.variable.width (product vs) v.variable.width)

-- widening keeps the product of the widths
pub product_widened : (vs : List Spanned) (by : ℕ) → product (map (λ v. widened v by) vs) ≡ product vs
product_widened [] by = refl
product_widened (v ∷ vs) by = ap (λ n. v.variable.width * n) (product_widened vs by)

-- the spans stand again once the earlier ones are widened
pub spans_push : (vs : List Spanned) (w : Spanned) → w.span ≡ 1 → spans_stand vs ≡ true
    → spans_stand (map (λ v. widened v w.variable.width) vs ++ w ∷ []) ≡ true
spans_push [] w last h = and_from (eqb w.span 1) true (eq-eqb w.span 1 last) refl
spans_push (v ∷ vs) w last h =
    let both = and_parts (eqb v.span (product vs)) (spans_stand vs) h in
    let more = map (λ u. widened u w.variable.width) vs ++ w ∷ [] in
    let grown : v.span * w.variable.width ≡ product more =
    ap (λ n. n * w.variable.width) (eqb-true v.span (product vs) both.0 ∙ sym (product_widened vs w.variable.width)) ∙ sym (product_push (map (λ u. widened u w.variable.width) vs) w) in
    and_from (eqb (v.span * w.variable.width) (product more)) (spans_stand more) (eq-eqb (v.span * w.variable.width) (product more) grown) (spans_push vs w last both.1)

-- a span is at least 1, and at most the product of the widths
pub span_ahead : (vs : List Spanned) (i : ℕ) (d : Spanned) → i < length vs → spans_stand vs ≡ true → 1 ≤ (get_or vs i d).span
span_ahead [] i d h stand = let no : ⊥ = omega arith in absurd no
span_ahead (v ∷ vs) zero d h stand =
    omega (arith, eqb-true v.span (product vs) (and_parts (eqb v.span (product vs)) (spans_stand vs) stand).0, product_some vs)
span_ahead (v ∷ vs) (suc i) d h stand = span_ahead vs i d (le_of_suc-le-suc h) (and_parts (eqb v.span (product vs)) (spans_stand vs) stand).1

pub span_most : (vs : List Spanned) (i : ℕ) (d : Spanned) → i < length vs → spans_stand vs ≡ true → (get_or vs i d).span ≤ product vs
span_most [] i d h stand = let no : ⊥ = omega arith in absurd no
span_most (v ∷ vs) zero d h stand =
    let once = mul-le 1 (product vs) v.variable.width (product vs) v.variable.some (omega arith) in
    omega (arith, eqb-true v.span (product vs) (and_parts (eqb v.span (product vs)) (spans_stand vs) stand).0)
span_most (v ∷ vs) (suc i) d h stand =
    let once = mul-le 1 (product vs) v.variable.width (product vs) v.variable.some (omega arith) in
    omega (arith, span_most vs i d (le_of_suc-le-suc h) (and_parts (eqb v.span (product vs)) (spans_stand vs) stand).1)

-- widening keeps the bounds
bounds_widened : (vs : List Spanned) (by : ℕ) → bounds_of (map (λ v. widened v by) vs) ≡ bounds_of vs
bounds_widened [] by = refl
bounds_widened (v ∷ vs) by = ap (λ bs. (v.variable.low, v.variable.high) ∷ bs) (bounds_widened vs by)

-- the next item of a list that is rewritten from the front is still as it was
pub next_is : {X : Type 0} (f : X → X) (xs ys : List X) (i : ℕ) (d : X) → i < length xs → ys ≡ map f (take i xs) ++ drop i xs → get_or ys i d ≡ get_or xs i d
next_is f xs ys i d h e =
    let front : length (map f (take i xs)) ≡ i = length-map (take i xs) f ∙ length-take-le i xs (omega arith) in
    let there : i + (i - i) ≡ i = omega arith in
    ap (λ zs. get_or zs i d) e
    ∙ get_or-append_right (map f (take i xs)) (drop i xs) i i d front (omega arith)
    ∙ get_or-drop i xs (i - i) d
    ∙ ap (λ j. get_or xs j d) there

-- what a grid has to show
pub record Grown (vs : List Spanned) (codes : ℕ) : Type 0 where
  pub some : 1 ≤ length vs
  pub few : length vs ≤ 8
  pub spanned : spans_stand vs ≡ true
  pub counted : codes ≡ product vs
  pub coded : 1 ≤ codes

-- one variable alone
pub single_facts : (v : Spanned) (vs : List Spanned) → v.span ≡ 1 → vs ≡ v ∷ [] → Grown vs v.variable.width
single_facts v vs last is = record {
  some = omega (arith, ap length is);
  few = omega (arith, ap length is);
  spanned = ap spans_stand is ∙ spans_push [] v last refl;
  counted = omega (arith, ap product is);
  coded = v.variable.some;
}

-- one variable more
module _ (g : Grid) (w : Spanned) (vs : List Spanned) (room : length g.variables.items < 8) (last : w.span ≡ 1)
    (is : vs ≡ map (λ v. widened v w.variable.width) g.variables.items ++ w ∷ []) where
  abbrev front : List Spanned
  front = map (λ v. widened v w.variable.width) g.variables.items

  pub grown : Grown vs (g.codes * w.variable.width)
  grown =
      let long = length-map g.variables.items (λ v. widened v w.variable.width) in
      let more = length_push front w in
      record {
        some = omega (arith, ap length is);
        few = omega (arith, ap length is);
        spanned = ap spans_stand is ∙ spans_push g.variables.items w last g.spanned;
        counted = ap (λ n. n * w.variable.width) (g.counted ∙ sym (product_widened g.variables.items w.variable.width)) ∙ sym (product_push front w) ∙ ap product (sym is);
        coded = omega (arith, mul-le 1 1 g.codes w.variable.width g.coded w.variable.some);
      }

  pub bounds_push : bounds_of vs ≡ grid_bounds g ++ (w.variable.low, w.variable.high) ∷ []
  bounds_push =
      ap bounds_of is
      ∙ map_push (λ (v : Spanned). (v.variable.low, v.variable.high)) front w
      ∙ ap (λ bs. bs ++ (w.variable.low, w.variable.high) ∷ []) (bounds_widened g.variables.items w.variable.width)

-- what was made where it fits
pub made_by : {X : Type 0} (fit : Bool) (x y : X) → Some x ≡ cond fit (Some y) None → (fit ≡ true) × (x ≡ y)
made_by true x y e = (refl, cc)
made_by false x y e = let no : ◌≡◌ {A = ℕ} 0 1 = cc in let no' : ⊥ = omega arith in absurd no'

pub not_made_by : {X : Type 0} (fit : Bool) (y : X) → None ≡ cond fit (Some y) None → fit ≡ false
not_made_by true y e = let no : ◌≡◌ {A = ℕ} 0 1 = cc in let no' : ⊥ = omega arith in absurd no'
not_made_by false y e = refl

-- bounds as they are passed
module _ (low high low' high' : ℤ) (el : low' ≡ low) (eh : high' ≡ high) where
  pub single_is : (v : Variable) → Some (v.low, v.high) ≡ variable_made 1 low' high' → Some ((v.low, v.high) ∷ []) ≡ grid_single low high
  single_is v is =
      let made = made_by (bounds_fit 1 low' high') (v.low, v.high) (low', high') is in
      ap (λ p. Some (p ∷ [])) made.1 ∙ sym (cond-true _ _ _ made.0) ∙ ap₂ grid_single el eh
