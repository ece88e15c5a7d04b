-- What filling answers and leaves.
use Rattle.std.proofs.Common.{◌≡◌, ℕ, ◌+◌, ◌<◌, ◌≤◌, Bool, true, false, cond, not, ◌&&◌, ltb, List, [], ◌∷◌, ◌++◌, map, length, ℤ, is_some, Some, None, IsOk, OnOk, OnErr, Ok, Err, Result, sym, refl, ap, ◌∙◌, subst, ap₂, arith}
use Rattle.std.proofs.lemmas.List.{length_push, map_push}
use Rattle.std.proofs.lemmas.Bool.{cond-true, cond-false, and_from, and_parts, and_left, lt-ltb, ltb-true}
use Rattle.std.specs.Str.{bytes_eq}
use Rattle.arrayvec.specs.ArrayVec.{ArrayVec}
use Rattle.intern.specs.Entry.{room}
use Rattle.intern.specs.Index.{place}
use Rattle.names.proofs.Rosters.{named_some, room_is}
use Rattle.names.specs.declared.roster.Roster.{Roster}
use Rattle.names.specs.Letters.{is_name}
use Rattle.names.specs.Rosters.{texts, may_add, number_added, texts_added}
use Rattle.names.specs.Texts as name
use Rattle.refusal.specs.declared.FillRefusal.{FillRefusal}
use Rattle.refusal.specs.declared.FillRefusal.TheVariants as refused
use Rattle.numbers.specs.declared.atom.Atom.{Atom}
use Rattle.numbers.specs.declared.grid.Grid.{Grid}
use Rattle.numbers.specs.declared.numbers.Numbers.{Numbers}
use Rattle.numbers.specs.declared.term.Comparison.{Comparison}
use Rattle.numbers.specs.declared.term.Term.{Term}
use Rattle.numbers.specs.Filling.{started, may_add_variable, variable_answer, variable_leaves, atom_answer}
use Rattle.numbers.specs.Kept.{grid_bounds, named, grid_single, variable_fits, as_atom, atom_made, atom_of, sums_stand}
use Rattle.numbers.specs.Limits.{bounds_fit, sum_fits, term_fits, terms_fit}
use Rattle.numbers.specs.Model.{NumbersModel, numbers_of, started_with, count_atoms}
use Rattle.numbers.specs.Values.{VariableModel, AtomModel, combinations}
use Rattle.numbers.specs.Variables.{variables_of}
use Rattle.numbers.proofs.Grids.{made_by, not_made_by}
use Rattle.numbers.proofs.Means.{codes_are}
use Rattle.numbers.proofs.Readings.{named_push, bounds_length, paired, count_variables, variable_names}

pub single_count : (g : Grid) (low high : ℤ) → Some (grid_bounds g) ≡ grid_single low high → length g.variables.items ≡ 1
single_count g low high is = sym (bounds_length g) ∙ ap length (made_by (bounds_fit 1 low high) (grid_bounds g) ((low, high) ∷ []) is).1

pub started_is : (g : Grid) (made text : List ℕ) (m : NumbersModel) (low high low' high' : ℤ) → low' ≡ low → high' ≡ high
    → Some made ≡ name.named text → Some (grid_bounds g) ≡ grid_single low' high' → m ≡ started_with made (grid_bounds g)
    → ◌≡◌ {A = Result NumbersModel FillRefusal} (Ok m) (started text low high)
started_is g made text m low high low' high' el eh is-name-of is e =
    let p = named_some text made is-name-of in
    let q = made_by (bounds_fit 1 low' high') (grid_bounds g) ((low', high') ∷ []) is in
    ap (λ (x : NumbersModel). Ok x) (e ∙ ap₂ started_with p.1 q.1)
    ∙ sym (cond-true _ _ _ (and_from _ _ p.0 q.0))
    ∙ ap₂ (started text) el eh

off_names : (p q r s : Bool) → (q && r) ≡ false → (p && (q && (r && s))) ≡ false
off_names false q r s e = refl
off_names true false r s e = refl
off_names true true r s e = and_left r s e

off_bounds : (p q r s : Bool) → (r && s) ≡ false → (p && (q && (r && s))) ≡ false
off_bounds false q r s e = refl
off_bounds true false r s e = refl
off_bounds true true r s e = e

-- more variables name no fewer terms
fit_more : (m n : ℕ) → m ≤ n → (ts : List Term) → terms_fit m ts ≡ true → terms_fit n ts ≡ true
fit_more m n le [] h = refl
fit_more m n le (t ∷ ts) h =
    let both = and_parts (term_fits m t) (terms_fit m ts) h in
    let one = and_parts (ltb t.variable m) _ both.0 in
    let lt = ltb-true t.variable m one.0 in
    and_from (term_fits n t) (terms_fit n ts) (and_from (ltb t.variable n) _ (lt-ltb t.variable n (omega arith)) one.1) (fit_more m n le ts both.1)

sums_more : (m n : ℕ) → m ≤ n → (xs : List AtomModel) → sums_stand m xs ≡ true → sums_stand n xs ≡ true
sums_more m n le [] h = refl
sums_more m n le (a ∷ xs) h =
    let both = and_parts (sum_fits m a.terms a.constant) (sums_stand m xs) h in
    let p = and_parts (ltb 0 (length a.terms)) _ both.0 in
    let q = and_parts _ _ p.1 in
    let r = and_parts (terms_fit m a.terms) _ q.1 in
    and_from (sum_fits n a.terms a.constant) (sums_stand n xs)
    (and_from (ltb 0 (length a.terms)) _ p.0 (and_from _ _ q.0 (and_from (terms_fit n a.terms) _ (fit_more m n le a.terms r.0) r.1)))
    (sums_more m n le xs both.1)

module _ (t : Numbers) (text : List ℕ) (low high : ℤ) where
  abbrev m : NumbersModel
  m = numbers_of t

  abbrev fresh_name : Bool
  fresh_name = not (is_some (place bytes_eq text (texts t.names)))

  abbrev room_left : Bool
  room_left = ltb (length t.grid.variables.items) 8

  abbrev fitting : Bool
  fitting = bounds_fit t.grid.codes low high

  -- when a variable may be added, in terms of what is kept
  may_is : may_add_variable m text low high ≡ (is_name text && (fresh_name && (room_left && fitting)))
  may_is =
      ap (λ (xs : List (List ℕ)). is_name text && (not (is_some (place bytes_eq text xs)) && (ltb (length m.variables) 8 && bounds_fit (combinations m.variables) low high))) (variable_names t)
      ∙ ap₂ (λ (n c : ℕ). is_name text && (fresh_name && (ltb n 8 && bounds_fit c low high))) (count_variables t) (sym t.counted)

  abbrev Refused : NumbersModel → Type 0
  Refused after = (◌≡◌ {A = Result (Unit {0}) FillRefusal} (Err refused.Variable) (variable_answer m text low high)) × (after ≡ variable_leaves m text low high)

  refuses : may_add_variable m text low high ≡ false → Refused m
  refuses e = (sym (cond-false _ _ _ e), sym (cond-false _ _ _ e))

  names_test : room (length (texts t.names)) 8 ≡ room_left
  names_test = room_is (length (texts t.names)) 8 (omega arith) ∙ ap (λ n. ltb n 8) t.paired

  pub refused_bounds : None ≡ variable_fits t.grid low high → Refused m
  refused_bounds is =
      refuses (may_is ∙ off_bounds (is_name text) fresh_name room_left fitting (not_made_by (room_left && fitting) (low, high) is))

  -- names to which no text was added
  module _ (r : Roster 8) (none : None ≡ number_added 8 (texts t.names) text) (is-r : texts r ≡ texts_added 8 (texts t.names) text) where
    off : may_add 8 (texts t.names) text ≡ false
    off = not_made_by (may_add 8 (texts t.names) text) (length (texts t.names)) none

    pub same_names : texts r ≡ texts t.names
    same_names = is-r ∙ cond-false _ _ _ off

    pub refused_name : Refused (record { variables = variables_of r t.grid; atoms = m.atoms })
    refused_name =
        let p = refuses (may_is ∙ off_names (is_name text) fresh_name room_left fitting (ap (λ b. fresh_name && b) (sym names_test) ∙ off)) in (
          p.0,
          ap (λ (ns : List (List ℕ)). record { variables = named ns (grid_bounds t.grid); atoms = m.atoms }) same_names ∙ p.1,
        )

  -- a name and a variable that were added
  module _ (r : Roster 8) (g : Grid) (k : ℕ) (bounds : ℤ × ℤ) (named-so : is_name text ≡ true) (some : Some k ≡ number_added 8 (texts t.names) text)
      (is-r : texts r ≡ texts_added 8 (texts t.names) text) (fit : Some bounds ≡ variable_fits t.grid low high) (is-g : grid_bounds g ≡ grid_bounds t.grid ++ bounds ∷ []) where
    may_name : may_add 8 (texts t.names) text ≡ true
    may_name = (made_by (may_add 8 (texts t.names) text) k (length (texts t.names)) some).0

    g_made : ((room_left && fitting) ≡ true) × (bounds ≡ (low, high))
    g_made = made_by (room_left && fitting) bounds (low, high) fit

    r_is : texts r ≡ texts t.names ++ text ∷ []
    r_is = is-r ∙ cond-true _ _ _ may_name

    g_count : length g.variables.items ≡ length t.grid.variables.items + 1
    g_count = sym (bounds_length g) ∙ ap length is-g ∙ length_push (grid_bounds t.grid) bounds ∙ ap (λ n. n + 1) (bounds_length t.grid)

    pub still_paired : length (texts r) ≡ length g.variables.items
    still_paired = ap length r_is ∙ length_push (texts t.names) text ∙ ap (λ n. n + 1) t.paired ∙ sym g_count

    pub still_counted : g.codes ≡ combinations (variables_of r g)
    still_counted = codes_are (texts r) g still_paired

    pub still_known : sums_stand (length g.variables.items) m.atoms ≡ true
    still_known = sums_more (length t.grid.variables.items) (length g.variables.items) (omega (arith, g_count)) m.atoms t.known

    may : may_add_variable m text low high ≡ true
    may = may_is ∙ and_from _ _ named-so (and_from _ _ (and_parts fresh_name (room (length (texts t.names)) 8) may_name).0 g_made.0)

    pub added : (◌≡◌ {A = Result (Unit {0}) FillRefusal} (Ok tt) (variable_answer m text low high))
        × (◌≡◌ {A = NumbersModel} (record { variables = variables_of r g; atoms = m.atoms }) (variable_leaves m text low high))
    added = (
      sym (cond-true _ _ _ may),
      ap (λ (vs : List VariableModel). record { variables = vs; atoms = m.atoms })
          (ap₂ named r_is (is-g ∙ ap (λ b. grid_bounds t.grid ++ b ∷ []) g_made.1) ∙ named_push (texts t.names) (grid_bounds t.grid) text (low, high) (paired t))
          ∙ sym (cond-true _ _ _ may),
    )

-- one more atom that stands
sums_push : (n : ℕ) (xs : List AtomModel) (a : AtomModel) → sums_stand n xs ≡ true → sum_fits n a.terms a.constant ≡ true → sums_stand n (xs ++ a ∷ []) ≡ true
sums_push n [] a h fit = and_from (sum_fits n a.terms a.constant) true fit refl
sums_push n (x ∷ xs) a h fit =
    let both = and_parts (sum_fits n x.terms x.constant) (sums_stand n xs) h in
    and_from (sum_fits n x.terms x.constant) (sums_stand n (xs ++ a ∷ [])) both.0 (sums_push n xs a both.1 fit)

-- an atom was pushed, or nothing was changed
pub pushed : {U E : Type 0} (r : Result U E) (n : ℕ) (a : Atom) (before after : ArrayVec Atom) → sum_fits n a.terms.items a.constant ≡ true
    → length before.items ≤ 32 → sums_stand n (map atom_of before.items) ≡ true
    → (IsOk r → length before.items < 32) → OnOk r (after.items ≡ before.items ++ a ∷ []) → OnErr r (after ≡ before)
    → (length after.items ≤ 32) × (sums_stand n (map atom_of after.items) ≡ true)
pushed (Ok u) n a before after fit few known room is kept =
    let space : length before.items < 32 = room refl in (
      omega (arith, ap length is, length_push before.items a),
      ap (λ xs. sums_stand n (map atom_of xs)) is ∙ ap (sums_stand n) (map_push atom_of before.items a) ∙ sums_push n (map atom_of before.items) (atom_of a) known fit,
    )
pushed (Err e) n a before after fit few known room is kept =
    subst (λ (v : ArrayVec Atom). (length v.items ≤ 32) × (sums_stand n (map atom_of v.items) ≡ true)) (sym kept) (few, known)

-- the terms and the constant of an atom that was made fit, and the atom is theirs
pub made_fits : (a : Atom) (n : ℕ) (terms : List Term) (comparison : Comparison) (constant given : ℤ) → given ≡ constant
    → Some (atom_of a) ≡ atom_made n terms comparison given → (sum_fits n terms constant ≡ true) × (atom_of a ≡ as_atom terms comparison constant)
made_fits a n terms comparison constant given e is =
    made_by (sum_fits n terms constant) (atom_of a) (as_atom terms comparison constant) (is ∙ ap (atom_made n terms comparison) e)

-- where its terms and its constant fit, an atom is added if there is room
pub atom_answered : (t : Numbers) (terms : List Term) (constant : ℤ) → sum_fits (length t.grid.variables.items) terms constant ≡ true
    → atom_answer (numbers_of t) terms constant ≡ cond (ltb (length t.atoms.items) 32) (Ok tt) (Err refused.Atom)
atom_answered t terms constant fit =
    ap₂ (λ (b : Bool) (k : ℕ). cond (b && ltb k 32) (Ok tt) (Err refused.Atom)) (ap (λ k. sum_fits k terms constant) (count_variables t) ∙ fit) (count_atoms t)
