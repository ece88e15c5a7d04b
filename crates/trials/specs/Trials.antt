-- The sheets that were tried by hand, each with what its question comes to.
use Rattle.std.specs.Prelude.{◌≡◌, ℕ, zero, suc, ◌≤◌, List, [], ◌∷◌, length, take, Some, None, Ok, Option}
use Rattle.theory.specs.Meaning.{Meaning}
use Rattle.flags.specs.Meaning.{flags_meaning}
use Rattle.numbers.specs.Model.{numbers_meaning}
use Rattle.ltlf.specs.Contents.{Contents}
use Rattle.search.specs.declared.outcome.Outcome.{Outcome}
use Rattle.search.specs.declared.outcome.Outcome.TheVariants.{Can, Cannot, Short}
use Rattle.record.specs.Calls.{RecordModel, keeping, opened}
use Rattle.household.specs.Calls.{question_answer}
use Rattle.sheet_text.specs.declared.heading.Heading.{Heading}
use Rattle.sheet_text.specs.declared.heading.Heading.TheVariants.{Flags, Numbers}
use Rattle.sheet_text.specs.Sheets.{After, sheet_read}
use Rattle.trials.specs.Texts.{climbing, one_flag, one_sum}

-- A sheet that was tried: its text, the visits that its notes keep, the rows that its question has, and what it comes to.
pub record Trial : Type 0 where
  pub text : List ℕ
  pub kept : List ℕ
  pub rows : ℕ
  pub outcome : Outcome

abbrev pub trial : (text kept : List ℕ) → (rows : ℕ) → Outcome → Trial
trial text kept rows outcome = record { text = text; kept = kept; rows = rows; outcome = outcome }

-- THE TWELVE SHEETS; the first has two numbers of rows.
abbrev pub trials : List Trial
trials =
    trial (climbing []) [] 4 (Short 4)
    ∷ trial (climbing []) [] 5 (Can 3 5)
    ∷ trial (climbing ("n 0" ∷ [])) (0 ∷ []) 4096 (Can 3 3)
    ∷ trial (climbing ("n 2" ∷ [])) (2 ∷ []) 4096 (Cannot 1)
    ∷ trial (climbing ("n 0" ∷ "n 0" ∷ [])) (0 ∷ 0 ∷ []) 4096 (Cannot 1)
    ∷ trial (climbing ("n 0" ∷ "n 1" ∷ [])) (0 ∷ 1 ∷ []) 4096 (Can 3 3)
    ∷ trial (one_flag ("r X T" ∷ []) "end 14 20") [] 4096 (Can 2 4)
    ∷ trial (one_flag ("r W L" ∷ []) "end 14 20") [] 4096 (Can 1 2)
    ∷ trial (one_flag ("r X T" ∷ "r W L" ∷ []) "end 14 26") [] 4096 (Cannot 4)
    ∷ trial (one_flag ("r & G 0 F ! 0" ∷ []) "end 14 28") [] 4096 (Cannot 4)
    ∷ trial (one_sum "a 1*tries~+-1*tries=1" "r G 0" "end 42 48") [] 4096 (Can 1 3)
    ∷ trial (one_sum "a 1*tries'+-1*tries=1" "r G 0" "end 42 48") [] 4096 (Cannot 3)
    ∷ trial (one_sum "a 1*tries'+-1*tries=1" "r G ! 0" "end 42 50") [] 4096 (Can 1 3)
    ∷ []

-- the outcome beside a sheet, by its number in a list
abbrev pub outcome_at : List Trial → ℕ → Option Outcome
outcome_at [] n = None
outcome_at (t ∷ ts) zero = Some t.outcome
outcome_at (t ∷ ts) (suc n) = outcome_at ts n

-- what the theory of a heading means, as reading left it
abbrev pub meaning_read : Heading → After → Meaning
meaning_read Flags a = flags_meaning a.flags
meaning_read Numbers a = numbers_meaning a.numbers

-- the record of a household that is opened on a sheet's book and keeps its notes
abbrev pub record_read : Contents → (notes : ℕ) → RecordModel
record_read b notes = keeping (opened b) notes

-- A sheet comes out as listed: it is accepted, its notes are the listed visits, and a record of them, asked with the book and
-- the theory that were read, answers the listed outcome; no history list with room for the rows is refused.
pub record ComesOut (t : Trial) (a : After) : Type 0 where
  pub heading : Heading
  pub accepted : a.answer ≡ Ok (record { heading = heading; notes = length t.kept })
  pub noted : take (length t.kept) a.visits ≡ t.kept
  pub answered : (entries : ℕ) → t.rows ≤ entries →
      question_answer (record_read a.draft (length t.kept)) a.draft (meaning_read heading a) a.visits t.rows entries ≡ Ok t.outcome

-- of each element of a list
abbrev pub Each : {X : Type 0} → (X → Type 0) → List X → Type 0
Each P [] = Unit {0}
Each P (x ∷ xs) = P x × Each P xs

-- a sheet, read into any visit list with room for its notes, comes out as listed
abbrev pub Right : Trial → Type 0
Right t = (visits : List ℕ) → length t.kept ≤ length visits → ComesOut t (sheet_read t.text visits)

-- Every sheet of the list comes out as listed.
abbrev pub TrialsComeOut : Type 0
TrialsComeOut = Each Right trials
