-- What is read off the kept variables and atoms is what they mean.
use Rattle.std.proofs.Common.{◌≡◌, ℕ, zero, suc, ◌*◌, ◌/◌, ◌%◌, ◌<◌, Bool, true, false, not, ltb, eqb, List, [], ◌∷◌, length, ℤ, pos, ◌+ℤ◌, ◌*ℤ◌, Some, None, fold, Option, sym, refl, ap, ◌∙◌, ap₂, le_of_suc-le-suc, arith}
use Rattle.std.proofs.lemmas.Bool.{and_parts, ltb-true, eqb-true}
use Rattle.numbers.specs.declared.atom.Atom.{Atom}
use Rattle.numbers.specs.declared.grid.Grid.{Grid}
use Rattle.numbers.specs.declared.term.Comparison.{Comparison}
use Rattle.numbers.specs.declared.term.Moment.{Moment}
use Rattle.numbers.specs.declared.term.Moment.TheVariants as moment
use Rattle.numbers.specs.declared.term.Term.{Term}
use Rattle.numbers.specs.declared.variable.Spanned.{Spanned}
use Rattle.numbers.specs.Kept.{bounds_of, grid_bounds, named, atom_of, kept_value, grid_value, read_at, amount_of, kept_sum, at_last, kept_holds}
use Rattle.numbers.specs.Limits.{within, term_fits, terms_fit}
use Rattle.numbers.specs.Spans.{product, spans_stand}
use Rattle.numbers.specs.Strength.{stronger}
use Rattle.numbers.specs.Values.{VariableModel, combinations, value, code_at, times_value, term_value, plus, compared, some_strong, judged, atom_holds}

pub combined : (ns : List (List ℕ)) (vs : List Spanned) → length ns ≡ length vs → combinations (named ns (bounds_of vs)) ≡ product vs
combined [] [] e = refl
combined [] (v ∷ vs) e = let no : ⊥ = omega arith in absurd no
combined (n ∷ ns) [] e = let no : ⊥ = omega arith in absurd no
combined (n ∷ ns) (v ∷ vs) e =
    let tail : length ns ≡ length vs = omega arith in
    ap₂ (λ a b. a * b) (sym v.variable.counted) (combined ns vs tail)

value_kept : (ns : List (List ℕ)) (vs : List Spanned) (i code : ℕ) → length ns ≡ length vs → i < length vs
    → spans_stand vs ≡ true → value (named ns (bounds_of vs)) i code ≡ kept_value vs i code
value_kept ns [] i code e h stand = let no : ⊥ = omega arith in absurd no
value_kept [] (v ∷ vs) i code e h stand = let no : ⊥ = omega arith in absurd no
value_kept (n ∷ ns) (v ∷ vs) zero code e h stand =
    let tail : length ns ≡ length vs = omega arith in
    let span = eqb-true v.span (product vs) (and_parts (eqb v.span (product vs)) (spans_stand vs) stand).0 in
    ap₂ (λ s w. v.variable.low +ℤ pos (code / s % w)) (combined ns vs tail ∙ sym span) (sym v.variable.counted)
value_kept (n ∷ ns) (v ∷ vs) (suc i) code e h stand =
    let tail : length ns ≡ length vs = omega arith in
    value_kept ns vs i code tail (le_of_suc-le-suc h) (and_parts (eqb v.span (product vs)) (spans_stand vs) stand).1

picked : (m : Moment) (code n : ℕ) → code_at m code (Some n) ≡ Some (read_at m code n)
picked moment.Now code n = refl
picked moment.Next code n = refl
picked moment.WeakNext code n = refl

-- what strong and weak nexts come to where nothing comes next
strong_stays : (ts : List Term) (plain : Bool) → at_last (fold (λ m t. stronger m t.moment) moment.Next ts) plain ≡ false
strong_stays [] plain = refl
strong_stays (t ∷ ts) plain = strong_stays ts plain

weak_step : (k : ℤ) (i : ℕ) (m : Moment) (ts : List Term) (plain : Bool)
    → not (some_strong ts) ≡ at_last (fold (λ m t. stronger m t.moment) moment.WeakNext ts) plain
    → not (some_strong (record { coefficient = k; variable = i; moment = m } ∷ ts)) ≡ at_last (fold (λ m t. stronger m t.moment) (stronger moment.WeakNext m) ts) plain
weak_step k i moment.Now ts plain e = e
weak_step k i moment.Next ts plain e = sym (strong_stays ts plain)
weak_step k i moment.WeakNext ts plain e = e

weak_stays : (ts : List Term) (plain : Bool) → not (some_strong ts) ≡ at_last (fold (λ m t. stronger m t.moment) moment.WeakNext ts) plain
weak_stays [] plain = refl
weak_stays (t ∷ ts) plain = weak_step t.coefficient t.variable t.moment ts plain (weak_stays ts plain)

module _ (ns : List (List ℕ)) (g : Grid) (same : length ns ≡ length g.variables.items) where
  abbrev model : List VariableModel
  model = named ns (grid_bounds g)

  abbrev variables : ℕ
  variables = length g.variables.items

  pub codes_are : g.codes ≡ combinations model
  codes_are = g.counted ∙ sym (combined ns g.variables.items same)

  pub value_is : (i code : ℕ) → i < variables → value model i code ≡ grid_value g i code
  value_is i code h = value_kept ns g.variables.items i code same h g.spanned

  known : (t : Term) → term_fits variables t ≡ true → t.variable < variables
  known t h = ltb-true t.variable variables (and_parts (ltb t.variable variables) (within 1000 t.coefficient) h).0

  -- where a code comes next, every term is defined
  term_is : (code n : ℕ) (t : Term) → term_fits variables t ≡ true → term_value model code (Some n) t ≡ Some (amount_of g code n t)
  term_is code n t h =
      ap (times_value model t) (picked t.moment code n)
      ∙ ap (λ z. Some (t.coefficient *ℤ z)) (value_is t.variable (read_at t.moment code n) (known t h))

  sum_from : (code n : ℕ) (ts : List Term) (a : ℤ) → terms_fit variables ts ≡ true
      → fold (λ sum t. plus sum (term_value model code (Some n) t)) (Some a) ts ≡ Some (fold (λ sum t. sum +ℤ amount_of g code n t) a ts)
  sum_from code n [] a h = refl
  sum_from code n (t ∷ ts) a h =
      let both = and_parts (term_fits variables t) (terms_fit variables ts) h in
      ap (λ o. fold (λ sum t. plus sum (term_value model code (Some n) t)) (plus (Some a) o) ts) (term_is code n t both.0)
      ∙ sum_from code n ts (a +ℤ amount_of g code n t) both.1

  none_stays : (code : ℕ) (n : Option ℕ) (ts : List Term) → fold (λ sum t. plus sum (term_value model code n t)) None ts ≡ None
  none_stays code n [] = refl
  none_stays code n (t ∷ ts) = none_stays code n ts

  -- where nothing comes next, what the sum from a on comes to
  module _ (comparison : Comparison) (constant : ℤ) (code : ℕ) where
    abbrev judged_so : List Term → Option ℤ → Bool
    judged_so ts (Some sum) = compared comparison sum constant
    judged_so ts None = not (some_strong ts)

    abbrev fold_last : Option ℤ → List Term → Option ℤ
    fold_last o ts = fold (λ sum t. plus sum (term_value model code None t)) o ts

    abbrev fold_sum : ℤ → List Term → ℤ
    fold_sum a ts = fold (λ sum t. sum +ℤ amount_of g code code t) a ts

    abbrev Ends : List Term → Moment → Option ℤ → ℤ → Type 0
    Ends ts m o a = judged_so ts (fold_last o ts) ≡ at_last (fold (λ m t. stronger m t.moment) m ts) (compared comparison (fold_sum a ts) constant)

    ends_step : (k : ℤ) (i : ℕ) (m : Moment) (ts : List Term) (a : ℤ) → i < variables
        → ((b : ℤ) → Ends ts moment.Now (Some b) b) → Ends (record { coefficient = k; variable = i; moment = m } ∷ ts) moment.Now (Some a) a
    ends_step k i moment.Now ts a h rest =
        ap (λ z. judged_so ts (fold_last (Some (a +ℤ (k *ℤ z))) ts)) (value_is i code h) ∙ rest (a +ℤ (k *ℤ grid_value g i code))
    ends_step k i moment.Next ts a h rest =
        let first : Term = record { coefficient = k; variable = i; moment = moment.Next } in
        ap (judged_so (first ∷ ts)) (none_stays code None ts) ∙ sym (strong_stays ts (compared comparison (fold_sum (a +ℤ amount_of g code code first) ts) constant))
    ends_step k i moment.WeakNext ts a h rest =
        let first : Term = record { coefficient = k; variable = i; moment = moment.WeakNext } in
        ap (judged_so (first ∷ ts)) (none_stays code None ts) ∙ weak_stays ts (compared comparison (fold_sum (a +ℤ amount_of g code code first) ts) constant)

    ends : (ts : List Term) → terms_fit variables ts ≡ true → (a : ℤ) → Ends ts moment.Now (Some a) a
    ends [] h a = refl
    ends (t ∷ ts) h a =
        let both = and_parts (term_fits variables t) (terms_fit variables ts) h in
        ends_step t.coefficient t.variable t.moment ts a (known t both.0) (ends ts both.1)

  -- an atom holds where it is read to hold
  pub holds_is : (a : Atom) → terms_fit variables a.terms.items ≡ true → (code : ℕ) (n : Option ℕ) → atom_holds model code n (atom_of a) ≡ kept_holds g code n a
  holds_is a fit code (Some n) =
      ap (judged (atom_of a)) (sum_from code n a.terms.items (pos 0) fit)
  holds_is a fit code None =
      ends a.comparison a.constant code a.terms.items fit (pos 0)
      ∙ ap (λ m. at_last m (compared a.comparison (kept_sum g code code a.terms.items) a.constant)) (sym a.marked)
