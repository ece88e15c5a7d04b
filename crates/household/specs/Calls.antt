-- What `stands` and `question` answer, whatever they are given.
use Rattle.std.specs.Prelude.{◌≡◌, ℕ, Bool, cond, not, ◌&&◌, ◌↔◌, List, length, take, Ok, Err, Result, ◌==◌, nat_lt}
use Rattle.refusal.specs.declared.Refusal.{Refusal}
use Rattle.refusal.specs.declared.Refusal.TheVariants.{NothingKept, CountsDiffer, BadVisitList, BadBuffer}
use Rattle.theory.specs.Meaning.{Meaning, unless_refused}
use Rattle.ltlf.specs.Contents.{Contents}
use Rattle.judge.specs.declared.judgement.Judgement.{Judgement}
use Rattle.judge.specs.declared.judgement.Judgement.TheVariants.{Met, Unmet}
use Rattle.judge.specs.Holding.{Meets, Fails}
use Rattle.judge.specs.Judging.{all_codes, refusal_of}
use Rattle.tableau.specs.Positions.{Question}
use Rattle.tableau.specs.Search.{answer}
use Rattle.search.specs.declared.outcome.Outcome.{Outcome}
use Rattle.search.specs.Outcomes.{outcome_of}
use Rattle.search.specs.Questions.{asked}
use Rattle.record.specs.Calls.{RecordModel}

-- the kept visits: the first entries of the visit list
abbrev pub kept_visits : RecordModel → (visits : List ℕ) → List ℕ
kept_visits r visits = take r.kept visits

-- whether record, book and theory have the same counts of codes and atoms
abbrev pub counts_agree : RecordModel → Contents → Meaning → Bool
counts_agree r b m =
    (r.codes == b.codes && r.atoms == b.atoms) && (b.codes == m.codes && b.atoms == m.atoms)

-- 6 with nothing kept, 7 where the counts differ, 8 for a list shorter than the kept count or a kept entry that is no code;
-- the first that applies
abbrev pub stands_check : RecordModel → Contents → Meaning → (visits : List ℕ) → Result (Unit {0}) Refusal
stands_check r b m visits =
    cond (r.kept == 0) (Err NothingKept)
    (cond (not (counts_agree r b m)) (Err CountsDiffer)
    (cond (nat_lt (length visits) r.kept) (Err BadVisitList)
    (cond (not (all_codes m.codes (kept_visits r visits))) (Err BadVisitList)
    (Ok tt))))

-- `stands` refuses exactly what the check refuses, with the same refusal; else it answers `Met` exactly when the kept visits,
-- as a whole history, meet the book, and `Unmet` exactly when they fail it
pub record Stood (r : RecordModel) (b : Contents) (m : Meaning) (visits : List ℕ) (a : Result Judgement Refusal) : Type 0 where
  pub refused : refusal_of a ≡ stands_check r b m visits
  pub met : stands_check r b m visits ≡ Ok tt → (a ≡ Ok Met) ↔ Meets m b (kept_visits r visits)
  pub unmet : stands_check r b m visits ≡ Ok tt → (a ≡ Ok Unmet) ↔ Fails m b (kept_visits r visits)

-- 7 where the counts differ, 8 for a list shorter than the kept count or a kept entry that is no code,
-- 9 for over 65,536 rows or a history list shorter than the rows; the first that applies
abbrev pub question_check : RecordModel → Contents → Meaning → (visits : List ℕ) → (rows entries : ℕ) → Result (Unit {0}) Refusal
question_check r b m visits rows entries =
    cond (not (counts_agree r b m)) (Err CountsDiffer)
    (cond (nat_lt (length visits) r.kept) (Err BadVisitList)
    (cond (not (all_codes m.codes (kept_visits r visits))) (Err BadVisitList)
    (cond (nat_lt 65536 rows) (Err BadBuffer)
    (cond (nat_lt entries rows) (Err BadBuffer)
    (Ok tt)))))

-- the question that is searched: the theory's meaning, the book's contents and the kept visits
abbrev pub question_of : RecordModel → Contents → Meaning → (visits : List ℕ) → Question
question_of r b m visits = asked m b (kept_visits r visits)

-- a refusal, or the answer to the question with that many rows
abbrev pub question_answer : RecordModel → Contents → Meaning → (visits : List ℕ) → (rows entries : ℕ) → Result Outcome Refusal
question_answer r b m visits rows entries =
    unless_refused (question_check r b m visits rows entries) (outcome_of (answer (question_of r b m visits) rows))
