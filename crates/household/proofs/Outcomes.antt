-- What a question answers, said of histories and counted positions.
use Rattle.std.proofs.Common.{◌≡◌, ℕ, List, length, take, drop, Ok, Err, Result, sym, refl, ap, ◌∙◌, subst, arith}
use Rattle.std.proofs.lemmas.List.{take_at}
use Rattle.intern.specs.declared.cell.Cell.{Cell}
use Rattle.refusal.specs.declared.Refusal.{Refusal}
use Rattle.theory.specs.Meaning.{Meaning}
use Rattle.ltlf.specs.Contents.{Contents, Proper}
use Rattle.tableau.specs.Positions.{Position, Question, Rows}
use Rattle.tableau.specs.Continuations.{WellPosed}
use Rattle.tableau.specs.Search.{Answer, answer}
use Rattle.tableau.specs.Search as search
use Rattle.tableau.specs.Theorems.{Says}
use Rattle.tableau.proofs.Searched.{counted_finite, answer_right}
use Rattle.search.specs.declared.row.Row.{Row}
use Rattle.search.specs.declared.outcome.Outcome.{Outcome}
use Rattle.search.specs.Outcomes.{outcome_of, RowsLeft, HistoryLeft, ShortestContinuation}
use Rattle.search.specs.Calls.{RowsAfter, HistoryAfter}
use Rattle.search.proofs.Answering.{length_positions}
use Rattle.record.specs.Calls.{RecordModel}
use Rattle.household.specs.Questions.{Verdict, can, cannot, short, ComesOut, Means}
use Rattle.household.specs.Calls.{question_check, question_of, question_answer}
use Rattle.household.proofs.Checks.{accepted_is, well_posed}

-- verdicts are apart
abbrev code : Verdict → ℕ
code can = 0
code cannot = 1
code short = 2

apart : (v w : Verdict) → v ≡ w → code v ≡ code w
apart v w e = ap code e

module _ (q : Question) (well : WellPosed q) (entry exit : List (Cell Row)) (before after : List ℕ) where
  abbrev Out : Answer → Type 0
  Out a = ComesOut q (length entry) (outcome_of a) exit after

  by_answer : (a : Answer) (counted : List Position) → Rows q counted → Says q (length entry) counted a → RowsLeft q entry exit (outcome_of a)
      → HistoryLeft q before after (outcome_of a) → Out a
  by_answer (search.can n r) counted all (fits, ((σ, cont, long), least), count) left (τ, shortest, size, is) =
      let first : take n after ≡ τ = ap (take n) is ∙ take_at τ (drop n before) n size in
      record {
        counted = counted;
        all_counted = all;
        is_can = (λ e. (fits, (σ, cont)), λ h. refl);
        is_cannot = (λ e. absurd (let z = apart _ _ e in omega arith), λ h. absurd (h.1 σ cont));
        is_short = (λ e. absurd (let z = apart _ _ e in omega arith), λ h. absurd (omega arith));
        counts = λ h. count;
        counts_short = λ h. absurd (omega arith);
        shows = (ap length first ∙ size, subst (ShortestContinuation q) (sym first) shortest);
        holds = left.0;
      }
  by_answer (search.cannot r) counted all (fits, none, count) left is =
      record {
        counted = counted;
        all_counted = all;
        is_can = (λ e. absurd (let z = apart _ _ e in omega arith), λ h. absurd (none h.1.0 h.1.1));
        is_cannot = (λ e. (fits, none), λ h. refl);
        is_short = (λ e. absurd (let z = apart _ _ e in omega arith), λ h. absurd (omega arith));
        counts = λ h. count;
        counts_short = λ h. absurd (omega arith);
        shows = tt;
        holds = left.0;
      }
  by_answer (search.short r) counted all (over, count) (apart-rows, counted-rows, size) is =
      record {
        counted = counted;
        all_counted = all;
        is_can = (λ e. absurd (let z = apart _ _ e in omega arith), λ h. absurd (let z = h.0 in omega arith));
        is_cannot = (λ e. absurd (let z = apart _ _ e in omega arith), λ h. absurd (let z = h.0 in omega arith));
        is_short = (λ e. over, λ h. refl);
        counts = λ h. absurd (omega arith);
        counts_short = λ h. count;
        shows = tt;
        holds = (length_positions exit r (omega (arith, count, size)), apart-rows, counted-rows);
      }

  pub comes_out : (o : Outcome) → o ≡ outcome_of (answer q (length entry)) → RowsLeft q entry exit o → HistoryLeft q before after o
      → ComesOut q (length entry) o exit after
  comes_out o e left shown =
      let a : Answer = answer q (length entry) in
      let some = counted_finite q well in
      let says = (answer_right q well (length entry) some.0 some.1 a).0 refl in
      subst (λ (x : Outcome). ComesOut q (length entry) x exit after) (sym e)
      (by_answer a some.0 some.1 says
      (subst (λ (x : Outcome). RowsLeft q entry exit x) e left)
      (subst (λ (x : Outcome). HistoryLeft q before after x) e shown))

-- what a question answers means what it says
pub means : (r : RecordModel) (b : Contents) (m : Meaning) (visits : List ℕ) → Proper b → (entry exit : List (Cell Row)) (before after : List ℕ) (a : Result Outcome Refusal)
    → a ≡ question_answer r b m visits (length entry) (length before) → RowsAfter (question_of r b m visits) entry exit a
    → HistoryAfter (question_of r b m visits) before after a → Means (question_of r b m visits) (length entry) a exit after
means r b m visits proper entry exit before after (Ok o) is rows shown =
    let q = question_of r b m visits in
    let passed = accepted_is (outcome_of (answer q (length entry))) (question_check r b m visits (length entry) (length before)) o is in
    comes_out q (well_posed r b m visits (length entry) (length before) proper passed.0) entry exit before after o passed.1 rows shown
means r b m visits proper entry exit before after (Err e) is rows shown = tt
