-- What a search returns, and what it leaves in the rows and in the history list.
use Rattle.std.specs.Prelude.{◌≡◌, ℕ, ◌≤◌, List, ◌++◌, map, length, drop}
use Rattle.intern.specs.declared.cell.Cell.{Cell}
use Rattle.intern.specs.Index.{items}
use Rattle.tableau.specs.Positions.{Position, Question, Counted, In, Distinct, Rows}
use Rattle.tableau.specs.Continuations.{Continuation}
use Rattle.tableau.specs.Search.{Answer, can, cannot, short}
use Rattle.search.specs.declared.row.Row.{Row}
use Rattle.search.specs.declared.outcome.Outcome.{Outcome}
use Rattle.search.specs.declared.outcome.Outcome.TheVariants.{Can, Cannot, Short}
use Rattle.search.specs.Rows.{position}

-- an answer as it is returned
abbrev pub outcome_of : Answer → Outcome
outcome_of (can n r) = Can n r
outcome_of (cannot r) = Cannot r
outcome_of (short r) = Short r

-- the positions in the first n rows
abbrev pub positions : List (Cell Row) → (n : ℕ) → List Position
positions xs n = map position (items xs n)

-- The first rows hold the counted positions, each once; where the rows are too few, they hold that many different ones of them.
-- Later rows stay.
abbrev pub RowsLeft : Question → (entry exit : List (Cell Row)) → Outcome → Type 0
RowsLeft q entry exit (Can n r) = Rows q (positions exit r) × (length exit ≡ length entry) × (drop r exit ≡ drop r entry)
RowsLeft q entry exit (Cannot r) = Rows q (positions exit r) × (length exit ≡ length entry) × (drop r exit ≡ drop r entry)
RowsLeft q entry exit (Short r) =
    Distinct (positions exit r) × ((e : Position) → In e (positions exit r) → Counted q e) × (length exit ≡ length entry)

-- a continuation that no other is shorter than
pub record ShortestContinuation (q : Question) (σ : List ℕ) : Type 0 where
  pub continues : Continuation q σ
  pub least : (τ : List ℕ) → Continuation q τ → length σ ≤ length τ

-- The first entries hold a shortest continuation where there is one, and all other entries stay.
abbrev pub HistoryLeft : Question → (entry exit : List ℕ) → Outcome → Type 0
HistoryLeft q entry exit (Can n r) = (σ : List ℕ) × ShortestContinuation q σ × (length σ ≡ n) × (exit ≡ σ ++ drop n entry)
HistoryLeft q entry exit (Cannot r) = exit ≡ entry
HistoryLeft q entry exit (Short r) = exit ≡ entry
