-- Every numbers theory is within the limits.
use Rattle.std.proofs.Common.{◌≡◌, ℕ, ◌<◌, true, ◌&&◌, List, [], ◌∷◌, length, get_or, sym, refl, subst, arith}
use lib.Signed.{le_z}
use Rattle.std.proofs.lemmas.Bool.{and_from}
use Rattle.names.proofs.Rosters.{texts_fit, texts_differ}
use Rattle.names.specs.Letters.{is_name}
use Rattle.names.specs.Rosters.{texts}
use Rattle.numbers.specs.declared.numbers.Numbers.{Numbers}
use Rattle.numbers.specs.declared.variable.Spanned.{Spanned}
use Rattle.numbers.specs.Kept.{bounds_of, named, sums_stand}
use Rattle.numbers.specs.Limits.{within}
use Rattle.numbers.specs.Model.{numbers_of, names_of, bounds_stand, Within, count_atoms}
use Rattle.numbers.proofs.Readings.{count_variables, variable_names}

bounds_good : (ns : List (List ℕ)) (vs : List Spanned) → bounds_stand (named ns (bounds_of vs)) ≡ true
bounds_good [] vs = refl
bounds_good (n ∷ ns) [] = refl
bounds_good (n ∷ ns) (v ∷ vs) =
    and_from (within 10000 v.variable.low && (within 10000 v.variable.high && le_z v.variable.low v.variable.high)) (bounds_stand (named ns (bounds_of vs)))
    (and_from (within 10000 v.variable.low) (within 10000 v.variable.high && le_z v.variable.low v.variable.high) v.variable.lower (and_from (within 10000 v.variable.high) (le_z v.variable.low v.variable.high) v.variable.upper v.variable.ordered))
    (bounds_good ns vs)

pub limited : (t : Numbers) → Within (numbers_of t)
limited t =
    let names : names_of (numbers_of t).variables ≡ texts t.names = variable_names t in
    record {
      some_variable = omega (arith, count_variables t, t.grid.some);
      few_variables = omega (arith, count_variables t, t.grid.few);
      names_fit = subst (λ (ns : List (List ℕ)). (k : ℕ) → k < length ns → is_name (get_or ns k []) ≡ true) (sym names) (texts_fit t.names);
      names_differ = subst (λ (ns : List (List ℕ)). (j k : ℕ) → j < length ns → k < length ns → get_or ns j [] ≡ get_or ns k [] → j ≡ k) (sym names) (texts_differ t.names);
      bounds_fit = bounds_good (texts t.names) t.grid.variables.items;
      few_codes = omega (arith, t.counted, t.grid.most);
      few_atoms = omega (arith, count_atoms t, t.few);
      atoms_fit = subst (λ (n : ℕ). sums_stand n (numbers_of t).atoms ≡ true) (sym (count_variables t)) t.known;
    }
