-- What the judge answers.
use Rattle.std.specs.Prelude.{◌≡◌, ℕ, Bool, cond, not, ◌&&◌, List, length, Ok, Err, Result, ◌==◌, nat_lt}
use Rattle.std.specs.List.{list_all}
use Rattle.refusal.specs.declared.Refusal.{Refusal}
use Rattle.refusal.specs.declared.Refusal.TheVariants.{NothingKept, CountsDiffer, BadVisitList}
use Rattle.theory.specs.Meaning.{Meaning}
use Rattle.ltlf.specs.Contents.{Contents}
use Rattle.judge.specs.declared.judgement.Judgement.{Judgement}
use Rattle.judge.specs.declared.judgement.Judgement.TheVariants.{Met, Unmet}
use Rattle.judge.specs.Holding.{Meets, Fails}

-- whether every number of a list passes a test
abbrev pub all_pass : (test : ℕ → Bool) → List ℕ → Bool
all_pass test ns = list_all test ns

-- whether every visit is one of `codes` codes
abbrev pub all_codes : (codes : ℕ) → List ℕ → Bool
all_codes codes σ = all_pass (λ c. nat_lt c codes) σ

-- whether theory and book have the same counts of codes and atoms
abbrev pub same_counts : Meaning → Contents → Bool
same_counts m b = b.codes == m.codes && b.atoms == m.atoms

-- 6 for no visit comes before 7 where the counts differ, and that before 8 for a visit that is no code
abbrev pub judge_check : Meaning → Contents → List ℕ → Result (Unit {0}) Refusal
judge_check m b σ =
    cond (length σ == 0) (Err NothingKept)
    (cond (not (same_counts m b)) (Err CountsDiffer)
    (cond (not (all_codes m.codes σ)) (Err BadVisitList)
    (Ok tt)))

-- an answer's refusal, if it has one
abbrev pub refusal_of : Result Judgement Refusal → Result (Unit {0}) Refusal
refusal_of (Ok j) = Ok tt
refusal_of (Err e) = Err e

-- The judge refuses exactly what the check refuses, with the same refusal;
-- else it answers `Met` exactly when the history meets the book, and `Unmet` exactly when it fails the book.
pub record Judged (m : Meaning) (b : Contents) (σ : List ℕ) (r : Result Judgement Refusal) : Type 0 where
  pub refused : refusal_of r ≡ judge_check m b σ
  pub met : judge_check m b σ ≡ Ok tt → (r ≡ Ok Met → Meets m b σ) × (Meets m b σ → r ≡ Ok Met)
  pub unmet : judge_check m b σ ≡ Ok tt → (r ≡ Ok Unmet → Fails m b σ) × (Fails m b σ → r ≡ Ok Unmet)
