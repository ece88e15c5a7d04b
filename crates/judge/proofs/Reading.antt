-- What was refused was read past the end.
use Rattle.std.proofs.Common.{◌≡◌, ℕ, ◌<◌, ◌≤◌, cond, ltb, List, length, get_or, Ok, Err, Result, sym, ◌∙◌, ⊎_elim, arith}
use Rattle.std.specs.Result.{result_unwrap_or}
use Rattle.std.proofs.lemmas.List.{get_or_past}
use Rattle.std.proofs.lemmas.Bool.{cases_lt, lt-ltb, le-ltb, cond-true, cond-false}
use Rattle.refusal.specs.declared.Refusal.{Refusal}
use Rattle.refusal.specs.declared.Refusal.TheVariants.{Unknown}

pub read_past : {X : Type 0} (xs : List X) (k : ℕ) (d : X) (e : Refusal)
    → Err e ≡ cond (ltb k (length xs)) (Ok (get_or xs k d)) (Err Unknown) → d ≡ get_or xs k d
read_past {X} xs k d e refused =
    ⊎_elim
    (λ (h : k < length xs).
    let read : ◌≡◌ {A = Result X Refusal} (Err e) (Ok (get_or xs k d)) = refused ∙ cond-true _ _ _ (lt-ltb k (length xs) h) in
    let z : ◌≡◌ {A = ℕ} 0 1 = cc in absurd (omega arith))
    (λ (h : length xs ≤ k). sym (get_or_past xs k d h))
    (cases_lt k (length xs))

-- what is read past the end is the default
pub read_or : {X : Type 0} (xs : List X) (k : ℕ) (d : X) (r : Result X Refusal)
    → r ≡ cond (ltb k (length xs)) (Ok (get_or xs k d)) (Err Unknown) → result_unwrap_or r d ≡ get_or xs k d
read_or xs k d (Ok x) read =
    ⊎_elim
    (λ (h : k < length xs). let is : ◌≡◌ {A = Result _ Refusal} (Ok x) (Ok (get_or xs k d)) = read ∙ cond-true _ _ _ (lt-ltb k (length xs) h) in cc)
    (λ (h : length xs ≤ k).
    let is : ◌≡◌ {A = Result _ Refusal} (Ok x) (Err Unknown) = read ∙ cond-false _ _ _ (le-ltb k (length xs) h) in
    let z : ◌≡◌ {A = ℕ} 0 1 = cc in absurd (omega arith))
    (cases_lt k (length xs))
read_or xs k d (Err e) read = read_past xs k d e read
