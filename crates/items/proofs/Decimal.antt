-- What is read is what `decimal` writes.
use Rattle.std.proofs.Common.{◌≡◌, ℕ, ◌+◌, ◌-◌, ◌*◌, ◌^◌, ◌<◌, ◌≤◌, true, false, leb, List, [], ◌∷◌, ◌++◌, length, get_or, Some, None, decimal, sym, refl, ap, ◌∙◌, subst, ⊎_elim, arith, rules}
use Rattle.std.specs.Char.{is_ascii_digit, digit_value as digitValue}
use Rattle.std.specs.Int.{IsInRange}
use Rattle.std.specs.Str.Parse.{AllDigits, digits_value, digits_value_after}
use Rattle.std.proofs.lemmas.Bool.{cond-true, cond-false, le-leb, eq-eqb, ne_eqb, cases_Bool, leb-true, both_ways, cases_eq}
use Rattle.std.proofs.lemmas.Bool.Decides.{nat_tests}
use Rattle.std.proofs.lemmas.Str.Parse.{IsNumeralModel, numerals_by_value, tells_digits, digit_from_value}
use Rattle.std.proofs.lemmas.Fmt.{decimal_is_IsNumeral, decimal-digits_value, first_decimal, decimal_digit}
use Rattle.items.proofs.Figures.{digit_true}
use Rattle.items.specs.Numbers.{begins_with_digit, if_at_most, digits_after, natural_read, Writes, NaturalLaw}

own : IsNumeralModel (AllDigits 10) (digits_value 10)
own = numerals_by_value (AllDigits 10) tells_digits

digit_value : (b : ℕ) → IsInRange 48 57 b → digitValue b ≡ b - 48
digit_value b h = search rules

digit_in : (b : ℕ) → is_ascii_digit b ≡ true → IsInRange 48 57 b
digit_in b e = grind (arith, nat_tests)

in_digit : (b : ℕ) → IsInRange 48 57 b → digitValue b < 10
in_digit b h = rw (digit_value b h) (omega arith)

-- digits are read to their end
digits_through : (n : ℕ) (ds rest : List ℕ) → AllDigits 10 ds → begins_with_digit rest ≡ false → digits_after n (ds ++ rest) ≡ (digits_value_after 10 n ds, rest)
digits_through n [] [] all ends = refl
digits_through n [] (b ∷ rest) all ends = cond-false _ _ _ ends
digits_through n (d ∷ ds) rest all ends =
    let here = digit_from_value d all.0 in
    cond-true _ _ _ (digit_true d here.0 here.1) ∙ ap (λ v. digits_after (n * 10 + v) (ds ++ rest)) (sym (digit_value d here)) ∙ digits_through (n * 10 + digitValue d) ds rest all.1 ends

-- what was read is digits, their number, and a rest without one in front
pub record Split (n : ℕ) (bs : List ℕ) (r : ℕ × List ℕ) : Type 0 where
  pub front : List ℕ
  pub digits : AllDigits 10 front
  pub text : bs ≡ front ++ r.1
  pub number : r.0 ≡ digits_value_after 10 n front
  pub ends : begins_with_digit r.1 ≡ false

split : (n : ℕ) (bs : List ℕ) → Split n bs (digits_after n bs)
split n [] = record { front = []; digits = tt; text = refl; number = refl; ends = refl }
split n (b ∷ bs) =
    let more = split (n * 10 + (b - 48)) bs in
    ⊎_elim
    (λ is.
    let here = digit_in b is in
    subst (Split n (b ∷ bs)) (sym (cond-true _ _ _ is)) (record {
      front = b ∷ more.front;
      digits = (in_digit b here, more.digits);
      text = ap (λ l. b ∷ l) more.text;
      number = rw (digit_value b here) more.number;
      ends = more.ends;
    }))
    (λ is. subst (Split n (b ∷ bs)) (sym (cond-false _ _ _ is)) (record { front = []; digits = tt; text = refl; number = refl; ends = is }))
    (cases_Bool (is_ascii_digit b))

nought : decimal 0 ≡ 48 ∷ []
nought = decimal_digit 0 (omega arith)

kept : (limit : ℕ) (r p : ℕ × List ℕ) → if_at_most limit r ≡ Some p → (r ≡ p) × (r.0 ≤ limit)
kept limit r p e =
    ⊎_elim
    (λ is. let same : Some r ≡ Some p = sym (cond-true _ _ _ is) ∙ e in (cc, leb-true _ _ is))
    (λ is. let never : None ≡ Some p = sym (cond-false _ _ _ is) ∙ e in let z : ◌≡◌ {A = ℕ} 0 1 = cc in absurd (omega arith))
    (cases_Bool (leb r.0 limit))

unread : {P : Type 0} (p : ℕ × List ℕ) → None ≡ Some p → P
unread p never = let z : ◌≡◌ {A = ℕ} 0 1 = cc in absurd (omega arith)

writes_digits : (limit b : ℕ) (bs : List ℕ) (n : ℕ) (rest : List ℕ) → limit < 2 ^ 64 → (b ≡ 48 → ⊥) → is_ascii_digit b ≡ true → Split 0 (b ∷ bs) (n, rest) → n ≤ limit → Writes limit (b ∷ bs) n rest
writes_digits limit b bs n rest small lead is s within = go s.front s.digits s.text s.number
  where
    go : (ds : List ℕ) → AllDigits 10 ds → b ∷ bs ≡ ds ++ rest → n ≡ digits_value 10 ds → Writes limit (b ∷ bs) n rest
    go [] all text number = let first : b ∷ bs ≡ rest = text in let no_digit : is_ascii_digit b ≡ false = subst (λ l. begins_with_digit l ≡ false) (sym first) s.ends in absurd (both_ways (is_ascii_digit b) no_digit is)
    go (d ∷ ds) all text number =
        let same : d ≡ b = cc in
        let whole = decimal-digits_value own (d ∷ ds) all (omega arith) (λ e. absurd (lead (sym same ∙ e))) (omega arith) in
        record { text = text ∙ ap (λ l. l ++ rest) (sym whole ∙ ap decimal (sym number)); within = within; ends = s.ends }

read_writes : (limit : ℕ) (bs : List ℕ) (n : ℕ) (rest : List ℕ) → limit < 2 ^ 64 → natural_read limit bs ≡ Some (n, rest) → Writes limit bs n rest
read_writes limit [] n rest small e = unread _ e
read_writes limit (b ∷ bs) n rest small e =
    ⊎_elim
    (λ zero-first.
    let e₁ = sym (cond-true _ _ _ (eq-eqb b 48 zero-first)) ∙ e in
    ⊎_elim
    (λ more. unread _ (sym (cond-true _ _ _ more) ∙ e₁))
    (λ alone.
    let same : Some (0, bs) ≡ Some (n, rest) = sym (cond-false _ _ _ alone) ∙ e₁ in
    let pair : ◌≡◌ {A = ℕ × List ℕ} (0, bs) (n, rest) = cc in
    let none : 0 ≡ n = ap (λ (p : ℕ × List ℕ). p.0) pair in
    let after : bs ≡ rest = ap (λ (p : ℕ × List ℕ). p.1) pair in
    record {
      text = (λ i. zero-first i ∷ after i) ∙ ap (λ l. l ++ rest) (sym nought) ∙ ap (λ m. decimal m ++ rest) none;
      within = omega arith;
      ends = subst (λ l. begins_with_digit l ≡ false) after alone;
    })
    (cases_Bool (begins_with_digit bs)))
    (λ lead.
    let e₁ = sym (cond-false _ _ _ (ne_eqb b 48 lead)) ∙ e in
    ⊎_elim
    (λ digit.
    let k = kept limit (digits_after 0 (b ∷ bs)) (n, rest) (sym (cond-true _ _ _ digit) ∙ e₁) in
    writes_digits limit b bs n rest small lead digit (subst (Split 0 (b ∷ bs)) k.0 (split 0 (b ∷ bs))) (omega (arith, k.1, ap (λ (p : ℕ × List ℕ). p.0) k.0)))
    (λ other. unread _ (sym (cond-false _ _ _ other) ∙ e₁))
    (cases_Bool (is_ascii_digit b)))
    (cases_eq b 48)

digits_are_read : (limit : ℕ) (ds rest : List ℕ) → 0 < length ds → 48 < get_or ds 0 0 → AllDigits 10 ds → digits_value 10 ds ≤ limit → begins_with_digit rest ≡ false → natural_read limit (ds ++ rest) ≡ Some (digits_value 10 ds, rest)
digits_are_read limit [] rest some lead all within ends = absurd (omega arith)
digits_are_read limit (d ∷ ds) rest some lead all within ends =
    let here = digit_from_value d all.0 in
    cond-false _ _ _ (ne_eqb d 48 (λ e. omega arith)) ∙ cond-true _ _ _ (digit_true d here.0 here.1) ∙ ap (if_at_most limit) (digits_through 0 (d ∷ ds) rest all ends) ∙ cond-true _ _ _ (le-leb _ _ within)

writes_read : (limit : ℕ) (bs : List ℕ) (n : ℕ) (rest : List ℕ) → limit < 2 ^ 64 → Writes limit bs n rest → natural_read limit bs ≡ Some (n, rest)
writes_read limit bs n rest small w =
    rw w.text (⊎_elim
    (λ none. let within = w.within in rw none (subst (λ l. natural_read limit (l ++ rest) ≡ Some (0, rest)) (sym nought) (cond-false _ _ _ w.ends)))
    (λ some.
    let fits : n < 2 ^ 64 = omega (arith, w.within) in
    let reads = decimal_is_IsNumeral n fits in
    digits_are_read limit (decimal n) rest reads.0.0 (first_decimal n (omega (arith, some)) fits) reads.0.1 (omega (arith, reads.1, w.within)) w.ends ∙ ap (λ m. Some (m, rest)) reads.1)
    (cases_eq n 0))

pub natural_law : NaturalLaw
natural_law limit small bs n rest = (read_writes limit bs n rest small, writes_read limit bs n rest small)
