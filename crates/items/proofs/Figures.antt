-- How a reading goes on with each byte.
use Rattle.std.proofs.Common.{◌≡◌, ℕ, ◌+◌, ◌-◌, ◌*◌, ◌<◌, ◌≤◌, true, false, cond, List, [], ◌∷◌, None, sym, arith}
use Rattle.std.specs.Char.{is_ascii_digit}
use Rattle.std.proofs.lemmas.Bool.{cond-false, lt-leb}
use Rattle.std.proofs.lemmas.Bool.Decides.{nat_tests}
use Rattle.items.specs.Numbers.{if_at_most, digits_after}

pub digit_true : (b : ℕ) → 48 ≤ b → b ≤ 57 → is_ascii_digit b ≡ true
digit_true b low high = grind (arith, nat_tests)

-- digits only make a number larger
pub digits_grow : (n : ℕ) (rest : List ℕ) → n ≤ (digits_after n rest).0
digits_grow n [] = omega arith
digits_grow n (b ∷ bs) =
    let more = digits_grow (n * 10 + (b - 48)) bs in
    elim (is_ascii_digit b) as (λ t. n ≤ (cond t (digits_after (n * 10 + (b - 48)) bs) (n, b ∷ bs)).0) [ true ↦ omega arith | false ↦ omega arith ]

pub over_limit : (limit n : ℕ) (rest : List ℕ) → limit < n → None ≡ if_at_most limit (digits_after n rest)
over_limit limit n rest over = let grown : limit < (digits_after n rest).0 = omega (arith, digits_grow n rest) in sym (cond-false _ _ _ (lt-leb _ _ grown))
