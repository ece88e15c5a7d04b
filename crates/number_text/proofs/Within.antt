-- What is read within a limit lies within it.
use Rattle.std.proofs.Common.{◌≡◌, ℕ, zero, suc, ◌^◌, ◌<◌, ◌≤◌, eqb, List, [], ◌∷◌, ℤ, pos, negsuc, nat_abs, Some, None, sym, refl, ap, ◌∙◌, ⊎_elim, arith, w32, w64, SFits, to_z, of_z}
use Rattle.std.proofs.lemmas.Int.{to_z-of_z}
use Rattle.std.proofs.lemmas.Bool.{cond-true, cond-false, cases_Bool}
use Rattle.items.specs.Numbers.{Reading, natural_read, integer_read, as_signed, minus}
use Rattle.items.proofs.Decimal.{natural_law}

plain : (limit : ℕ) → limit < 2 ^ 64 → (bs : List ℕ) (z : ℤ) (rest : List ℕ) (r : Reading) → r ≡ natural_read limit bs → Some (z, rest) ≡ as_signed r → nat_abs z ≤ limit
plain limit few bs z rest None is e = let z : ◌≡◌ {A = ℕ} 0 1 = cc in absurd (omega arith)
plain limit few bs z rest (Some r) is e =
    let w = (natural_law limit few bs r.0 r.1).0 (sym is) in
    let pair : ◌≡◌ {A = ℤ × List ℕ} (z, rest) (pos r.0, r.1) = cc in
    let same : ◌≡◌ {A = ℤ} z (pos r.0) = ap (λ (p : ℤ × List ℕ). p.0) pair in
    let size : nat_abs z ≡ r.0 = ap nat_abs same in
    omega (arith, w.within)

minused : (limit : ℕ) → limit < 2 ^ 64 → (bs : List ℕ) (z : ℤ) (rest : List ℕ) (r : Reading) → r ≡ natural_read limit bs → Some (z, rest) ≡ minus r → nat_abs z ≤ limit
minused limit few bs z rest None is e = let z : ◌≡◌ {A = ℕ} 0 1 = cc in absurd (omega arith)
minused limit few bs z rest (Some (zero, left)) is e = let z : ◌≡◌ {A = ℕ} 0 1 = cc in absurd (omega arith)
minused limit few bs z rest (Some (suc n, left)) is e =
    let w = (natural_law limit few bs (suc n) left).0 (sym is) in
    let pair : ◌≡◌ {A = ℤ × List ℕ} (z, rest) (negsuc n, left) = cc in
    let same : ◌≡◌ {A = ℤ} z (negsuc n) = ap (λ (p : ℤ × List ℕ). p.0) pair in
    let size : nat_abs z ≡ suc n = ap nat_abs same in
    omega (arith, w.within)

pub read_within : (limit : ℕ) → limit < 2 ^ 64 → (bs : List ℕ) (z : ℤ) (rest : List ℕ) → Some (z, rest) ≡ integer_read limit bs → nat_abs z ≤ limit
read_within limit few [] z rest e = let z : ◌≡◌ {A = ℕ} 0 1 = cc in absurd (omega arith)
read_within limit few (b ∷ bs) z rest e =
    ⊎_elim
    (λ is. minused limit few bs z rest _ refl (e ∙ cond-true _ _ _ is))
    (λ is. plain limit few (b ∷ bs) z rest _ refl (e ∙ cond-false _ _ _ is))
    (cases_Bool (eqb b 45))

-- a number within 40,000,000 fits 32 bits
pub fits_small : (z : ℤ) → SFits w64 z → nat_abs z ≤ 40000000 → SFits w32 (to_z w64 (of_z w64 z))
fits_small z fits few = rw (to_z-of_z w64 z fits) (small z few)
  where
    small : (z : ℤ) → nat_abs z ≤ 40000000 → SFits w32 z
    small (pos n) few = record { sfits = omega arith }
    small (negsuc n) few = record { sfits = omega arith }
