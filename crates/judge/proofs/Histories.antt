-- What comes after a visit.
use Rattle.std.specs.Prelude.{Some, None}
use Rattle.std.proofs.Common.{◌≡◌, ℕ, suc, ◌+◌, ◌-◌, ◌<◌, ◌≤◌, List, length, get_or, drop, reverse, sym, ap, ◌∙◌, arith}
use Rattle.std.proofs.lemmas.List.{drop_more, drop_all, get_or_default, get_or-reverse, length-reverse}
use Rattle.judge.specs.Histories.{visit, first, after}

pub first_at : (σ : List ℕ) (i : ℕ) → i < length σ → first (drop i σ) ≡ Some (visit σ i)
first_at σ i h = ap first (drop_more σ i 0 h)

pub after_code : (σ : List ℕ) (i : ℕ) → suc i < length σ → after σ i ≡ Some (visit σ (suc i))
after_code σ i h = first_at σ (suc i) h

pub after_last : (σ : List ℕ) (i : ℕ) → length σ ≤ suc i → after σ i ≡ None
after_last σ i h = ap first (drop_all (suc i) σ h)

-- the visit that is read after n others, from the last one back
pub read_back : (σ : List ℕ) (n code i : ℕ) → n < length (reverse σ) → code ≡ get_or (reverse σ) n code → suc i + n ≡ length σ → visit σ i ≡ code
read_back σ n code i lt is at =
    let size = length-reverse σ in
    let here : length σ - 1 - n ≡ i = omega arith in
    sym (is ∙ get_or-reverse σ n code (omega arith) ∙ ap (λ k. get_or σ k code) here ∙ get_or_default σ i code 0 (omega arith))
