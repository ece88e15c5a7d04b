-- What the call of a search answers and leaves, whatever it is given.
use Rattle.std.specs.Prelude.{◌≡◌, ℕ, cond, not, List, length, Ok, Err, Result, nat_lt}
use Rattle.intern.specs.declared.cell.Cell.{Cell}
use Rattle.refusal.specs.declared.Refusal.{Refusal}
use Rattle.refusal.specs.declared.Refusal.TheVariants.{CountsOutOfRange, CountsDiffer, BadVisitList, BadBuffer}
use Rattle.theory.specs.Meaning.{Meaning, unless_refused}
use Rattle.ltlf.specs.Contents.{Contents}
use Rattle.judge.specs.Judging.{all_codes, same_counts}
use Rattle.tableau.specs.Positions.{Question}
use Rattle.tableau.specs.Search.{answer}
use Rattle.search.specs.declared.row.Row.{Row}
use Rattle.search.specs.declared.outcome.Outcome.{Outcome}
use Rattle.search.specs.Outcomes.{outcome_of, RowsLeft, HistoryLeft}
use Rattle.search.specs.Questions.{asked}

-- 1 for a book of over 32 atoms, 7 where the counts of book and theory differ, 8 for too many kept visits or one that is no code,
-- 9 for too many rows or a history list shorter than the rows; the first that applies
abbrev pub search_check : Meaning → Contents → (kept : List ℕ) → (rows entries : ℕ) → Result (Unit {0}) Refusal
search_check m b kept rows entries =
    cond (nat_lt 32 b.atoms) (Err CountsOutOfRange)
    (cond (not (same_counts m b)) (Err CountsDiffer)
    (cond (nat_lt 65536 (length kept)) (Err BadVisitList)
    (cond (not (all_codes m.codes kept)) (Err BadVisitList)
    (cond (nat_lt 65536 rows) (Err BadBuffer)
    (cond (nat_lt entries rows) (Err BadBuffer)
    (Ok tt))))))

-- a refusal, or the answer to the question with that many rows
abbrev pub search_answer : Meaning → Contents → (kept : List ℕ) → (rows entries : ℕ) → Result Outcome Refusal
search_answer m b kept rows entries =
    unless_refused (search_check m b kept rows entries) (outcome_of (answer (asked m b kept) rows))

-- a refusal leaves the rows as they were
abbrev pub RowsAfter : Question → (entry exit : List (Cell Row)) → Result Outcome Refusal → Type 0
RowsAfter q entry exit (Ok o) = RowsLeft q entry exit o
RowsAfter q entry exit (Err e) = exit ≡ entry

-- a refusal leaves the history list as it was
abbrev pub HistoryAfter : Question → (entry exit : List ℕ) → Result Outcome Refusal → Type 0
HistoryAfter q entry exit (Ok o) = HistoryLeft q entry exit o
HistoryAfter q entry exit (Err e) = exit ≡ entry
