-- One more term of an atom's sum.
use Rattle.std.proofs.Common.{◌≡◌, ℕ, zero, suc, ◌+◌, ◌*◌, ◌/◌, ◌%◌, ◌<◌, true, List, [], ◌∷◌, length, get_or, take, ℤ, pos, negsuc, ◌+ℤ◌, neg_ℤ, ◌≤ℤ◌, sym, refl, ◌∙◌, ap₂, le_of_suc-le-suc, arith, w32, to_z, of_z}
use Rattle.std.proofs.lemmas.Int.{ints}
use Rattle.std.proofs.lemmas.List.Sums.{fold_more}
use Rattle.std.proofs.lemmas.Bool.{and_parts}
use Rattle.numbers.specs.declared.grid.Grid.{Grid}
use Rattle.numbers.specs.declared.term.Term.{Term}
use Rattle.numbers.specs.declared.variable.Spanned.{Spanned}
use Rattle.numbers.specs.Kept.{kept_value, amount_of, kept_sum}
use Rattle.numbers.specs.Limits.{term_fits, terms_fit}

-- each of fitting terms fits
pub term_at : (variables : ℕ) (ts : List Term) (i : ℕ) (d : Term) → i < length ts → terms_fit variables ts ≡ true → term_fits variables (get_or ts i d) ≡ true
term_at variables [] i d h e = let no : ⊥ = omega arith in absurd no
term_at variables (t ∷ ts) zero d h e = (and_parts (term_fits variables t) (terms_fit variables ts) e).0
term_at variables (t ∷ ts) (suc i) d h e = term_at variables ts i d (le_of_suc-le-suc h) (and_parts (term_fits variables t) (terms_fit variables ts) e).1

-- the value of the variable at a place
pub kept_at : (vs : List Spanned) (i code : ℕ) (d : Spanned) → i < length vs
    → kept_value vs i code ≡ (get_or vs i d).variable.low +ℤ pos (code / (get_or vs i d).span % (get_or vs i d).variable.width)
kept_at [] i code d h = let no : ⊥ = omega arith in absurd no
kept_at (v ∷ vs) zero code d h = refl
kept_at (v ∷ vs) (suc i) code d h = kept_at vs i code d (le_of_suc-le-suc h)

-- the sum as the code computes it
pub sum_is : (i : ℕ) (x : ℤ) {sum : ℤ} → i < 4
    → neg_ℤ (pos (10000000 * i)) ≤ℤ sum → sum ≤ℤ pos (10000000 * i) → negsuc 9999999 ≤ℤ x → x ≤ℤ pos 10000000
    → to_z w32 (of_z w32 (sum +ℤ to_z w32 (of_z w32 x))) ≡ sum +ℤ x
sum_is i x h p q r s = omega (arith, ints)

pub sum_more : (g : Grid) (code next : ℕ) (ts : List Term) (i : ℕ) (d : Term) {sum x : ℤ} → i < length ts
    → sum ≡ kept_sum g code next (take i ts) → x ≡ amount_of g code next (get_or ts i d)
    → sum +ℤ x ≡ kept_sum g code next (take (i + 1) ts)
sum_more g code next ts i d h e f =
    ap₂ (λ a b. a +ℤ b) e f ∙ sym (fold_more (λ s t. s +ℤ amount_of g code next t) (pos 0) ts i d h)
