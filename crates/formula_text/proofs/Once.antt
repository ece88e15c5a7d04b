-- A text writes one formula only: the formula can be told from its text.
use Rattle.std.proofs.Common.{◌≡◌, ℕ, zero, suc, ◌≤◌, max, true, false, List, [], ◌∷◌, ◌++◌, drop, Some, None, decimal, Option, sym, refl, ap, ◌∙◌, append_assoc, arith}
use Rattle.std.specs.Str.Parse.{IsNumeral}
use Rattle.std.proofs.lemmas.Str.Parse.{digit_from_value}
use Rattle.std.proofs.lemmas.Fmt.{decimal_is_IsNumeral}
use Rattle.items.specs.Numbers.{Reading, begins_with_digit, natural_read}
use Rattle.items.proofs.Decimal.{natural_law}
use Rattle.formula_text.specs.Operators.{operator_of}
use Rattle.formula_text.specs.declared.operator.Operator.{Operator}
use Rattle.formula_text.specs.declared.operator.Operator.TheVariants.{Constant, Not, Single, Fixed, Pair, Other}
use Rattle.formula_text.specs.Grammar.{Written, constant, atom, negation, single, finally, globally, pair, one_sign, two_sign, constant_sign, write, depth, AtomsBelow, WrittenOnce}
use Rattle.formula_text.proofs.Parsing.{one_says, two_says, constant_says, digit_other}

-- a formula, and the text after it
abbrev Told : Type 0
Told = Option (Written × List ℕ)

abbrev and_told : Told → (Written → List ℕ → Told) → Told
and_told None f = None
and_told (Some p) f = f p.0 p.1

abbrev atom_told : Reading → Told
atom_told None = None
atom_told (Some r) = Some (atom r.0, r.1)

abbrev by : (List ℕ → Told) → (text after : List ℕ) → Operator → Told
by tell text after (Constant v) = Some (constant v, after)
by tell text after Not = and_told (tell (drop 1 after)) (λ w rest. Some (negation w, rest))
by tell text after (Single op) = and_told (tell (drop 1 after)) (λ w rest. Some (single op w, rest))
by tell text after (Fixed true op) = and_told (tell (drop 1 after)) (λ w rest. Some (finally w, rest))
by tell text after (Fixed false op) = and_told (tell (drop 1 after)) (λ w rest. Some (globally w, rest))
by tell text after (Pair op) = and_told (tell (drop 1 after)) (λ l rest. and_told (tell (drop 1 rest)) (λ r rest. Some (pair op l r, rest)))
by tell text after Other = atom_told (natural_read 255 text)

-- the formula that a text begins with
told : (limit : ℕ) → List ℕ → Told
told zero text = None
told (suc d) [] = None
told (suc d) (x ∷ xs) = by (told d) (x ∷ xs) xs (operator_of x)

numeral_told : (d : ℕ) (ds rest : List ℕ) → IsNumeral 10 ds → told (suc d) (ds ++ rest) ≡ atom_told (natural_read 255 (ds ++ rest))
unfolding told
numeral_told d [] rest numeral = absurd (omega arith)
numeral_told d (x ∷ ds) rest numeral =
    let here = digit_from_value x numeral.1.0 in
    ap (by (told d) (x ∷ (ds ++ rest)) (ds ++ rest)) (digit_other x here.0 here.1)

tells_written : (limit : ℕ) (w : Written) (rest : List ℕ) → depth w ≤ limit → AtomsBelow 256 w → begins_with_digit rest ≡ false → told limit (write w ++ rest) ≡ Some (w, rest)
unfolding told
tells_written zero (constant v) rest deep below ends = absurd (omega arith)
tells_written (suc d) (constant v) rest deep below ends = ap (by (told d) (constant_sign v ∷ rest) rest) (constant_says v)
tells_written zero (atom a) rest deep below ends = absurd (omega arith)
tells_written (suc d) (atom a) rest deep below ends =
    numeral_told d (decimal a) rest (decimal_is_IsNumeral a (omega arith)).0 ∙
    ap atom_told ((natural_law 255 (omega arith) (decimal a ++ rest) a rest).1 (record { text = refl; within = omega arith; ends = ends }))
tells_written zero (negation w) rest deep below ends = absurd (omega arith)
tells_written (suc d) (negation w) rest deep below ends =
    ap (λ o. and_told o (λ w rest. Some (negation w, rest))) (tells_written d w rest (omega arith) below ends)
tells_written zero (single op w) rest deep below ends = absurd (omega arith)
tells_written (suc d) (single op w) rest deep below ends =
    ap (by (told d) (one_sign op ∷ 32 ∷ (write w ++ rest)) (32 ∷ (write w ++ rest))) (one_says op) ∙
    ap (λ o. and_told o (λ w rest. Some (single op w, rest))) (tells_written d w rest (omega arith) below ends)
tells_written zero (finally w) rest deep below ends = absurd (omega arith)
tells_written (suc d) (finally w) rest deep below ends =
    ap (λ o. and_told o (λ w rest. Some (finally w, rest))) (tells_written d w rest (omega arith) below ends)
tells_written zero (globally w) rest deep below ends = absurd (omega arith)
tells_written (suc d) (globally w) rest deep below ends =
    ap (λ o. and_told o (λ w rest. Some (globally w, rest))) (tells_written d w rest (omega arith) below ends)
tells_written zero (pair op l r) rest deep below ends = absurd (omega arith)
tells_written (suc d) (pair op l r) rest deep below ends =
    ap (λ x. told (suc d) (two_sign op ∷ 32 ∷ x)) (append_assoc (write l) (32 ∷ write r) rest) ∙
    ap (by (told d) (two_sign op ∷ 32 ∷ (write l ++ 32 ∷ (write r ++ rest))) (32 ∷ (write l ++ 32 ∷ (write r ++ rest)))) (two_says op) ∙
    ap (λ o. and_told o (λ l rest. and_told (told d (drop 1 rest)) (λ r rest. Some (pair op l r, rest))))
    (tells_written d l (32 ∷ (write r ++ rest)) (omega arith) below.0 refl) ∙
    ap (λ o. and_told o (λ r rest. Some (pair op l r, rest))) (tells_written d r rest (omega arith) below.1 ends)

pub written_once : WrittenOnce
written_once v w below-v below-w same =
    let limit : ℕ = max (depth v) (depth w) in
    let first : told limit (write v ++ []) ≡ Some (v, []) = tells_written limit v [] (omega arith) below-v refl in
    let second : told limit (write w ++ []) ≡ Some (w, []) = tells_written limit w [] (omega arith) below-w refl in
    let both : ◌≡◌ {A = Told} (Some (v, [])) (Some (w, [])) = sym first ∙ ap (λ t. told limit (t ++ [])) same ∙ second in
    let pairs : ◌≡◌ {A = Written × List ℕ} (v, []) (w, []) = cc in
    ap (λ p. p.0) pairs
