-- What is read off a filled theory.
use Rattle.std.specs.Prelude.{Option}
use Rattle.std.proofs.Common.{◌≡◌, ℕ, zero, suc, ◌<◌, ◌≤◌, true, false, ◌&&◌, ltb, leb, List, [], ◌∷◌, ◌++◌, map, length, get_or, ℤ, Some, None, Ok, sym, refl, ap, ◌∙◌, le_of_suc-le-suc, arith}
use Rattle.std.proofs.lemmas.List.{length-map, get_or-map}
use Rattle.std.proofs.lemmas.Bool.{and_parts, ltb-true, leb-true}
use Rattle.std.proofs.lemmas.Bool.Decides.{nat_tests}
use Rattle.names.specs.Rosters.{texts}
use Rattle.theory.specs.Meaning.{within}
use Rattle.numbers.specs.declared.atom.Atom.{Atom}
use Rattle.numbers.specs.declared.grid.Grid.{Grid}
use Rattle.numbers.specs.declared.numbers.Numbers.{Numbers}
use Rattle.numbers.specs.declared.term.Term.{Term}
use Rattle.numbers.specs.declared.variable.Spanned.{Spanned}
use Rattle.numbers.specs.Filling.{bounds_at}
use Rattle.numbers.specs.Kept.{bounds_of, grid_bounds, named, atom_of, sums_stand, kept_holds}
use Rattle.numbers.specs.Limits.{within as within-limit, sum_fits, terms_fit}
use Rattle.numbers.specs.Model.{numbers_of, numbers_meaning}
use Rattle.numbers.specs.Values.{VariableModel, atom_holds}
use Rattle.numbers.proofs.Means.{holds_is}

-- a question that was not refused names an atom
pub atom_exists : (codes atoms atom code : ℕ) (next : Option ℕ) → within codes atoms atom code next ≡ Ok tt → atom < atoms
atom_exists codes atoms atom code (Some n) e = grind (arith, nat_tests)
atom_exists codes atoms atom code None e = grind (arith, nat_tests)

pub named_length : (ns : List (List ℕ)) (bs : List (ℤ × ℤ)) → length ns ≡ length bs → length (named ns bs) ≡ length ns
named_length [] bs e = refl
named_length (n ∷ ns) [] e = let no : ⊥ = omega arith in absurd no
named_length (n ∷ ns) (b ∷ bs) e = let tail : length ns ≡ length bs = omega arith in ap suc (named_length ns bs tail)

pub names_are : (ns : List (List ℕ)) (bs : List (ℤ × ℤ)) → length ns ≡ length bs → map (λ v. v.name) (named ns bs) ≡ ns
names_are [] bs e = refl
names_are (n ∷ ns) [] e = let no : ⊥ = omega arith in absurd no
names_are (n ∷ ns) (b ∷ bs) e = let tail : length ns ≡ length bs = omega arith in ap (λ xs. n ∷ xs) (names_are ns bs tail)

pub named_push : (ns : List (List ℕ)) (bs : List (ℤ × ℤ)) (n : List ℕ) (b : ℤ × ℤ) → length ns ≡ length bs
    → named (ns ++ n ∷ []) (bs ++ b ∷ []) ≡ named ns bs ++ record { name = n; low = b.0; high = b.1 } ∷ []
named_push [] [] n b e = refl
named_push [] (c ∷ bs) n b e = let no : ⊥ = omega arith in absurd no
named_push (m ∷ ns) [] n b e = let no : ⊥ = omega arith in absurd no
named_push (m ∷ ns) (c ∷ bs) n b e =
    let tail : length ns ≡ length bs = omega arith in
    let first : VariableModel = record { name = m; low = c.0; high = c.1 } in
    ap (λ xs. first ∷ xs) (named_push ns bs n b tail)

pub bounds_length : (g : Grid) → length (grid_bounds g) ≡ length g.variables.items
bounds_length g = length-map g.variables.items (λ v. (v.variable.low, v.variable.high))

bounds_past : (vs : List VariableModel) (k : ℕ) → length vs ≤ k → bounds_at vs k ≡ None
bounds_past [] k h = refl
bounds_past (v ∷ vs) zero h = let no : ⊥ = omega arith in absurd no
bounds_past (v ∷ vs) (suc k) h = bounds_past vs k (omega arith)

bounds_here : (ns : List (List ℕ)) (vs : List Spanned) (k : ℕ) (d : Spanned) → length ns ≡ length vs → k < length vs
    → bounds_at (named ns (bounds_of vs)) k ≡ Some ((get_or vs k d).variable.low, (get_or vs k d).variable.high)
bounds_here ns [] k d e h = let no : ⊥ = omega arith in absurd no
bounds_here [] (v ∷ vs) k d e h = let no : ⊥ = omega arith in absurd no
bounds_here (n ∷ ns) (v ∷ vs) zero d e h = refl
bounds_here (n ∷ ns) (v ∷ vs) (suc k) d e h = let tail : length ns ≡ length vs = omega arith in bounds_here ns vs k d tail (le_of_suc-le-suc h)

-- each atom of those that stand is a sum that fits
stand_at : (n : ℕ) (xs : List Atom) (i : ℕ) (d : Atom) → i < length xs → sums_stand n (map atom_of xs) ≡ true
    → sum_fits n (get_or xs i d).terms.items (get_or xs i d).constant ≡ true
stand_at n [] i d h e = let no : ⊥ = omega arith in absurd no
stand_at n (x ∷ xs) zero d h e = (and_parts (sum_fits n x.terms.items x.constant) (sums_stand n (map atom_of xs)) e).0
stand_at n (x ∷ xs) (suc i) d h e =
    stand_at n xs i d (le_of_suc-le-suc h) (and_parts (sum_fits n x.terms.items x.constant) (sums_stand n (map atom_of xs)) e).1

-- the parts of what it is to fit
pub sum_parts : (n : ℕ) (terms : List Term) (constant : ℤ) → sum_fits n terms constant ≡ true
    → (1 ≤ length terms) × (length terms ≤ 4) × (terms_fit n terms ≡ true) × (within-limit 40000000 constant ≡ true)
sum_parts n terms constant fit =
    let a = and_parts (ltb 0 (length terms)) (leb (length terms) 4 && (terms_fit n terms && within-limit 40000000 constant)) fit in
    let b = and_parts (leb (length terms) 4) (terms_fit n terms && within-limit 40000000 constant) a.1 in
    let c = and_parts (terms_fit n terms) (within-limit 40000000 constant) b.1 in
    (ltb-true 0 (length terms) a.0, leb-true (length terms) 4 b.0, c.0, c.1)

module _ (t : Numbers) where
  pub paired : length (texts t.names) ≡ length (grid_bounds t.grid)
  paired = t.paired ∙ sym (bounds_length t.grid)

  pub count_variables : length (numbers_of t).variables ≡ length t.grid.variables.items
  count_variables = named_length (texts t.names) (grid_bounds t.grid) paired ∙ t.paired

  pub variable_names : map (λ v. v.name) (numbers_of t).variables ≡ texts t.names
  variable_names = names_are (texts t.names) (grid_bounds t.grid) paired

  pub bounds_none : (k : ℕ) → length t.grid.variables.items ≤ k → None ≡ bounds_at (numbers_of t).variables k
  bounds_none k h = sym (bounds_past (numbers_of t).variables k (omega (arith, count_variables)))

  pub bounds_some : (k : ℕ) (d : Spanned) → k < length t.grid.variables.items
      → Some ((get_or t.grid.variables.items k d).variable.low, (get_or t.grid.variables.items k d).variable.high) ≡ bounds_at (numbers_of t).variables k
  bounds_some k d h = sym (bounds_here (texts t.names) t.grid.variables.items k d t.paired h)

  pub sum_at : (atom : ℕ) (d : Atom) → atom < length t.atoms.items
      → sum_fits (length t.grid.variables.items) (get_or t.atoms.items atom d).terms.items (get_or t.atoms.items atom d).constant ≡ true
  sum_at atom d h = stand_at (length t.grid.variables.items) t.atoms.items atom d h t.known

  pub fact_is : (atom code : ℕ) (next : Option ℕ) (d : Atom) → atom < length t.atoms.items
      → kept_holds t.grid code next (get_or t.atoms.items atom d) ≡ (numbers_meaning (numbers_of t)).fact atom code next
  fact_is atom code next d h =
      let n = length t.grid.variables.items in
      let a = get_or t.atoms.items atom d in
      let holds = atom_holds (numbers_of t).variables code next in
      sym (holds_is (texts t.names) t.grid t.paired a (sum_parts n a.terms.items a.constant (sum_at atom d h)).2 code next)
      ∙ ap holds (sym (get_or-map atom_of t.atoms.items atom d (atom_of d) h))
      ∙ sym (get_or-map holds (map atom_of t.atoms.items) atom (atom_of d) false (omega (arith, length-map t.atoms.items atom_of)))
