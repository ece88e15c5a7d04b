-- A turn of the loop over the values of a note.
use Rattle.std.proofs.Common.{◌≡◌, ℕ, zero, suc, ◌+◌, ◌*◌, ◌<◌, ◌≤◌, List, [], ◌∷◌, length, drop, ℤ, Some, None, Option, sym, ap, ◌∙◌, mul_assoc, add-one, arith, w32, SFits, to_z, of_z}
use Rattle.std.proofs.lemmas.Nat.{mul-le}
use Rattle.std.proofs.lemmas.Int.{to_z-of_z}
use Rattle.items.specs.Numbers.{Reading}
use Rattle.items.specs.Reads.{and_read}
use Rattle.numbers.specs.Filling.{bounds_at}
use Rattle.numbers.specs.Limits.{value_count}
use Rattle.numbers.specs.Values.{VariableModel, combinations}
use Rattle.number_text.specs.Values.{value_read, values_read}

-- there is at least one combination
pub some_combination : (vs : List VariableModel) → 1 ≤ combinations vs
some_combination [] = omega arith
some_combination (v ∷ vs) = mul-le 1 1 (value_count v.low v.high) (combinations vs) (omega arith) (some_combination vs)

-- a variable that does not stand
pub no_bounds : (vs : List VariableModel) (k : ℕ) → None ≡ bounds_at vs k → length vs ≤ k
no_bounds [] k e = omega arith
no_bounds (v ∷ vs) zero e = let z : ◌≡◌ {A = ℕ} 0 1 = cc in absurd (omega arith)
no_bounds (v ∷ vs) (suc k) e = let le = no_bounds vs k e in omega arith

-- the variable that stands at a number is the first of those from it on
pub next_value : (vs : List VariableModel) (k : ℕ) (low high : ℤ) → Some (low, high) ≡ bounds_at vs k → (code : ℕ) (text : List ℕ)
    → values_read (drop k vs) code text ≡ and_read (value_read low high code text) (values_read (drop (suc k) vs))
next_value [] k low high e code text = let z : ◌≡◌ {A = ℕ} 0 1 = cc in absurd (omega arith)
next_value (v ∷ vs) zero low high e code text =
    let pair : ◌≡◌ {A = ℤ × ℤ} (low, high) (v.low, v.high) = cc in
    ap (λ (p : ℤ × ℤ). and_read (value_read p.0 p.1 code text) (values_read vs)) (sym pair)
next_value (v ∷ vs) (suc k) low high e code text = next_value vs k low high e code text

pub next_combinations : (vs : List VariableModel) (k : ℕ) (low high : ℤ) → Some (low, high) ≡ bounds_at vs k → combinations (drop k vs) ≡ value_count low high * combinations (drop (suc k) vs)
next_combinations [] k low high e = let z : ◌≡◌ {A = ℕ} 0 1 = cc in absurd (omega arith)
next_combinations (v ∷ vs) zero low high e =
    let pair : ◌≡◌ {A = ℤ × ℤ} (low, high) (v.low, v.high) = cc in
    ap (λ (p : ℤ × ℤ). value_count p.0 p.1 * combinations vs) (sym pair)
next_combinations (v ∷ vs) (suc k) low high e = next_combinations vs k low high e

module _ (vs : List VariableModel) (k code : ℕ) (text : List ℕ) (goal : Option ℕ) (so : values_read (drop k vs) code text ≡ goal) (few : (code + 1) * combinations (drop k vs) ≤ 65535) where
  module _ (low high : ℤ) (at : Some (low, high) ≡ bounds_at vs k) where
    -- the later variables make codes beside those of this one
    wide : (code + 1) * value_count low high * combinations (drop (suc k) vs) ≤ 65535
    wide = rw (mul_assoc (code + 1) (value_count low high) (combinations (drop (suc k) vs)), ← next_combinations vs k low high at) few

    pub room : (code + 1) * value_count low high ≤ 65535
    room =
        let le = mul-le ((code + 1) * value_count low high) 1 ((code + 1) * value_count low high) (combinations (drop (suc k) vs)) (omega arith) (some_combination (drop (suc k) vs)) in
        let w = wide in
        omega arith

    pub no_value : None ≡ value_read low high code text → None ≡ goal
    no_value none = ap (λ (o : Reading). and_read o (values_read (drop (suc k) vs))) none ∙ sym (next_value vs k low high at code text) ∙ so

    pub one_value : (next : ℕ) (rest : List ℕ) → Some (next, rest) ≡ value_read low high code text → next < (code + 1) * value_count low high
        → ((next + 1) * combinations (drop (suc k) vs) ≤ 65535) × (values_read (drop (suc k) vs) next rest ≡ goal)
    one_value next rest some below =
        let le = mul-le (next + 1) (combinations (drop (suc k) vs)) ((code + 1) * value_count low high) (combinations (drop (suc k) vs)) (omega arith) (omega arith) in
        let w = wide in (
          omega arith,
          ap (λ (o : Reading). and_read o (values_read (drop (suc k) vs))) some ∙ sym (next_value vs k low high at code text) ∙ so,
        )

    -- the same, as the loop counts
    pub one_more_value : (next : ℕ) (rest : List ℕ) → Some (next, rest) ≡ value_read low high code text → next < (code + 1) * value_count low high
        → ((next + 1) * combinations (drop (k + 1) vs) ≤ 65535) × (values_read (drop (k + 1) vs) next rest ≡ goal)
    one_more_value next rest some below = rw (add-one k) (one_value next rest some below)

-- bounds as they are passed
pub passed : (vs : List VariableModel) (k : ℕ) (low high : ℤ) → SFits w32 low → SFits w32 high → Some (low, high) ≡ bounds_at vs k → Some (to_z w32 (of_z w32 low), to_z w32 (of_z w32 high)) ≡ bounds_at vs k
passed vs k low high f g e = (λ i. Some (to_z-of_z w32 low f i, to_z-of_z w32 high g i)) ∙ e
