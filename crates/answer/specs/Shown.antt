-- What a report shows of what a question answered.
use Rattle.std.specs.Prelude.{ℕ, List, [], take}
use Rattle.report.specs.declared.verdict.Verdict.{Verdict}
use Rattle.report.specs.declared.verdict.Verdict.TheVariants as verdict
use Rattle.search.specs.declared.outcome.Outcome.{Outcome}
use Rattle.search.specs.declared.outcome.Outcome.TheVariants as outcome

-- the verdict, with the length of the history under can
abbrev pub verdict_of : Outcome → Verdict
verdict_of (outcome.Can length rows) = verdict.Can length
verdict_of (outcome.Cannot rows) = verdict.Cannot
verdict_of (outcome.Short rows) = verdict.Short

-- how many rows are filled
abbrev pub rows_of : Outcome → ℕ
rows_of (outcome.Can length rows) = rows
rows_of (outcome.Cannot rows) = rows
rows_of (outcome.Short rows) = rows

-- the history stands in the first entries of the history list; only can shows one
abbrev pub shown : Outcome → (history : List ℕ) → List ℕ
shown (outcome.Can length rows) history = take length history
shown (outcome.Cannot rows) history = []
shown (outcome.Short rows) history = []
