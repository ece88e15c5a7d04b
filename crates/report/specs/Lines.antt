-- The lines of a report, and what writing one answers and leaves.
use Rattle.std.specs.Prelude.{ℕ, cond, List, [], ◌∷◌, ◌++◌, length, drop, Ok, Err, codes, decimal, Result, nat_lt}
use Rattle.judge.specs.declared.judgement.Judgement.{Judgement}
use Rattle.judge.specs.declared.judgement.Judgement.TheVariants.{Met, Unmet}
use Rattle.refusal.specs.Numbers.{number_of, sheet_number, sheet_place}
use Rattle.refusal.specs.declared.Refusal.{Refusal}
use Rattle.refusal.specs.declared.Refusal.TheVariants.{BadBuffer}
use Rattle.refusal.specs.declared.SheetRefusal.{SheetRefusal}
use Rattle.report.specs.declared.verdict.Verdict.{Verdict}
use Rattle.report.specs.declared.verdict.Verdict.TheVariants.{Can, Cannot, Short}

-- the length of a line, or 9 for fewer than 64 bytes
abbrev pub line_answer : (room : ℕ) (line : List ℕ) → Result ℕ Refusal
line_answer room line = cond (nat_lt room 64) (Err BadBuffer) (Ok (length line))

-- the line stands at the front, and the bytes past it stay; fewer than 64 bytes stay as they were
abbrev pub line_leaves : (bytes line : List ℕ) → List ℕ
line_leaves bytes line = cond (nat_lt (length bytes) 64) bytes (line ++ drop (length line) bytes)

-- each number after a space, and a line end
abbrev pub numbers_text : (numbers : List ℕ) → List ℕ
numbers_text [] = 10 ∷ []
numbers_text (n ∷ ns) = 32 ∷ (decimal n ++ numbers_text ns)

-- a word, each number after a space, and a line end
abbrev pub line_text : (word numbers : List ℕ) → List ℕ
line_text word numbers = word ++ numbers_text numbers

-- how many visits are kept
abbrev pub kept_text : ℕ → List ℕ
kept_text n = line_text (codes "kept") (n ∷ [])

-- whether the kept visits, as a whole history, meet the rules, where there were visits to judge
abbrev pub stands_text : Result Judgement Refusal → List ℕ
stands_text (Ok Met) = line_text (codes "stands yes") []
stands_text (Ok Unmet) = line_text (codes "stands no") []
stands_text (Err e) = line_text (codes "stands none") []

-- a refused sheet: its number and its place
abbrev pub refused_text : SheetRefusal → List ℕ
refused_text r = line_text (codes "refused") (sheet_number r ∷ sheet_place r ∷ [])

-- what a question comes to, with the length of a shortest history
abbrev pub verdict_text : Verdict → List ℕ
verdict_text (Can n) = line_text (codes "verdict can") (n ∷ [])
verdict_text Cannot = line_text (codes "verdict cannot") []
verdict_text Short = line_text (codes "verdict short") []

-- how many rows a question filled
abbrev pub rows_text : ℕ → List ℕ
rows_text n = line_text (codes "rows") (n ∷ [])

-- a refused question
abbrev pub question_refused_text : Refusal → List ℕ
question_refused_text e = line_text (codes "question refused") (number_of e ∷ [])

-- what came of a note
abbrev pub noted_text : Result (Unit {0}) Refusal → List ℕ
noted_text (Ok u) = line_text (codes "note accepted") []
noted_text (Err e) = line_text (codes "note refused") (number_of e ∷ [])

-- what came of a strike
abbrev pub struck_text : Result (Unit {0}) Refusal → List ℕ
struck_text (Ok u) = line_text (codes "strike accepted") []
struck_text (Err e) = line_text (codes "strike refused") (number_of e ∷ [])
