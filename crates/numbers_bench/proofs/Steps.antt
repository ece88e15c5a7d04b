-- One code more.
use Rattle.std.specs.Prelude.{Some}
use Rattle.std.proofs.Common.{◌≡◌, ℕ, ◌+◌, sym, ap, ◌∙◌, ap₂, add-one}
use Rattle.theory.specs.Meaning.{Meaning, answer}
use Rattle.numbers_bench.specs.Counts.{as_one, facts_from, facts_in}

pub from_more : (m : Meaning) (atom code n count one : ℕ) → count ≡ facts_from m atom code n → one ≡ as_one (answer m atom code (Some n))
    → count + one ≡ facts_from m atom code (n + 1)
from_more m atom code n count one is-count is_one = ap₂ (λ x y. x + y) is-count is_one ∙ sym (ap (facts_from m atom code) (add-one n))

pub in_more : (m : Meaning) (atom n count row : ℕ) → count ≡ facts_in m atom n → row ≡ facts_from m atom n m.codes
    → count + row ≡ facts_in m atom (n + 1)
in_more m atom n count row is-count is_row = ap₂ (λ x y. x + y) is-count is_row ∙ sym (ap (facts_in m atom) (add-one n))
