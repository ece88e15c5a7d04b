-- What a question of a draw comes to, in terms of histories and counted positions.
use Rattle.std.specs.Prelude.{◌≡◌, ℕ, ◌<◌, ◌≤◌, cond, not, ◌&&◌, ◌↔◌, List, length, take, Some, None, Ok, Err, Option, Result, ◌==◌, nat_lt}
use Rattle.intern.specs.declared.cell.Cell.{Cell}
use Rattle.refusal.specs.declared.Refusal.{Refusal}
use Rattle.refusal.specs.Numbers.{number_of}
use Rattle.theory.specs.Meaning.{Meaning}
use Rattle.ltlf.specs.Contents.{Contents}
use Rattle.tableau.specs.Positions.{Position, Question, Counted, In, Distinct, Rows}
use Rattle.tableau.specs.Continuations.{Continuation}
use Rattle.search.specs.declared.row.Row.{Row}
use Rattle.search.specs.declared.outcome.Outcome.{Outcome}
use Rattle.search.specs.declared.outcome.Outcome.TheVariants.{Can, Cannot, Short}
use Rattle.search.specs.Outcomes.{positions, ShortestContinuation}

-- What a question is asked with: a book's contents, a theory's meaning, and how many rows and history entries are offered.
pub record Asked : Type 0 where
  pub book : Contents
  pub theory : Meaning
  pub rows : ℕ
  pub entries : ℕ

-- The number by which a question on a record with these counts is refused, if it is: 7 where the counts of record, book and theory
-- are not all the same, else 9 for over 65,536 rows or fewer entries than rows.
abbrev pub refused_by : (codes atoms : ℕ) → Asked → Option ℕ
refused_by codes atoms a =
    cond (not ((codes == a.book.codes && atoms == a.book.atoms) && (a.book.codes == a.theory.codes && a.book.atoms == a.theory.atoms))) (Some 7)
    (cond (nat_lt 65536 a.rows) (Some 9)
    (cond (nat_lt a.entries a.rows) (Some 9)
    None))

-- the question: by the theory's facts and the book's rules, with the visits that are kept
abbrev pub posed : Asked → (kept : List ℕ) → Question
posed a kept = record { meaning = a.theory; book = a.book; kept = kept }

pub data Verdict : Type 0 where
  can cannot short : Verdict

-- the verdict of an outcome
abbrev pub verdict : Outcome → Verdict
verdict (Can n r) = can
verdict (Cannot r) = cannot
verdict (Short r) = short

-- the row count of an outcome
abbrev pub row_count : Outcome → ℕ
row_count (Can n r) = r
row_count (Cannot r) = r
row_count (Short r) = r

-- Under `can` with n visits, the first n entries of the history list are a history that begins with the kept visits and meets the rules,
-- and every other such history has at least as many visits.
abbrev pub Shows : Question → Outcome → (history : List ℕ) → Type 0
Shows q (Can n r) history = (length (take n history) ≡ n) × ShortestContinuation q (take n history)
Shows q (Cannot r) history = Unit {0}
Shows q (Short r) history = Unit {0}

-- The first rows hold the counted positions, each once; under `short` all rows hold different ones of them.
abbrev pub HoldsCounted : Question → Outcome → (rows : List (Cell Row)) → Type 0
HoldsCounted q (Can n r) xs = Rows q (positions xs r)
HoldsCounted q (Cannot r) xs = Rows q (positions xs r)
HoldsCounted q (Short r) xs =
    (length (positions xs r) ≡ r) × Distinct (positions xs r) × ((e : Position) → In e (positions xs r) → Counted q e)

-- What an outcome with this many rows says. `counted` lists the counted positions, each once.
pub record ComesOut (q : Question) (rows : ℕ) (o : Outcome) (filled : List (Cell Row)) (history : List ℕ) : Type 0 where
  pub counted : List Position
  pub all_counted : Rows q counted
  -- can exactly when they fit the rows and some finite history begins with the kept visits and meets the rules
  pub is_can : (verdict o ≡ can) ↔ ((length counted ≤ rows) × ((σ : List ℕ) × Continuation q σ))
  -- cannot exactly when they fit the rows and no nonempty finite history, of any length, does
  pub is_cannot : (verdict o ≡ cannot) ↔ ((length counted ≤ rows) × ((σ : List ℕ) → ¬ Continuation q σ))
  -- short exactly when they outnumber the rows
  pub is_short : (verdict o ≡ short) ↔ (rows < length counted)
  -- the row count is their number, or under short the number of rows
  pub counts : length counted ≤ rows → row_count o ≡ length counted
  pub counts_short : rows < length counted → row_count o ≡ rows
  pub shows : Shows q o history
  pub holds : HoldsCounted q o filled

-- what an answer says that is no refusal
abbrev pub Means : Question → (rows : ℕ) → Result Outcome Refusal → (filled : List (Cell Row)) → (history : List ℕ) → Type 0
Means q rows (Ok o) filled history = ComesOut q rows o filled history
Means q rows (Err e) filled history = Unit {0}

-- What a question of a draw answers: a refusal by its number, or an outcome where none applies.
abbrev pub Answers : (codes atoms : ℕ) → Asked → (kept : List ℕ) → Result Outcome Refusal → (filled : List (Cell Row)) → (history : List ℕ) → Type 0
Answers codes atoms a kept (Ok o) filled history = (refused_by codes atoms a ≡ None) × ComesOut (posed a kept) a.rows o filled history
Answers codes atoms a kept (Err e) filled history = refused_by codes atoms a ≡ Some (number_of e)
