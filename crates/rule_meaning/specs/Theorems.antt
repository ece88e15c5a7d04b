-- What is proved of rules as they are written.
use Rattle.std.specs.Prelude.{◌≡◌, ℕ, ◌-◌, ◌<◌, ◌≤◌, false, ◌↔◌, List, [], ◌∷◌, ◌++◌, map, length, take, drop, Some, None, Ok, Option, Result}
use Rattle.refusal.specs.declared.Refusal.{Refusal}
use Rattle.theory.specs.Meaning.{Meaning}
use Rattle.ltlf.specs.Contents.{Contents, Proper}
use Rattle.judge.specs.Formulas.{formula}
use Rattle.judge.specs.Holding.{Holds, Meets}
use Rattle.judge.specs.Judging.{judge_check, Judged}
use Rattle.judge.specs.declared.judgement.Judgement.{Judgement}
use Rattle.judge.specs.declared.judgement.Judgement.TheVariants.{Met}
use Rattle.items.specs.Lines.{lines_of}
use Rattle.items.specs.Trailers.{trailer_in}
use Rattle.formula_text.specs.Formulas.{found, formula_read}
use Rattle.formula_text.specs.Grammar.{Written, write, depth, AtomsBelow, made, built}
use Rattle.sheet_text.specs.Sheets.{sheet_read}
use Rattle.sheet_text.specs.declared.heading.Sheet.{Sheet}
use Rattle.rule_meaning.specs.Written.{WrittenHolds, AllHold}

-- The formula of a number holds, in every theory and at every visit of every history, exactly where the rule as written does.
abbrev pub Says : Contents → (number : ℕ) → Written → Type 0
Says b k w = (m : Meaning) (σ : List ℕ) (i : ℕ) → i < length σ → Holds m σ i (formula b k) ↔ WrittenHolds m σ i w

-- The formula that is put for a rule says what the rule says.
abbrev pub PutSaysWritten : Type 0
PutSaysWritten = (w : Written) (b after : Contents) (k : ℕ) → Proper b → built false w b ≡ made after k → Proper after × Says after k w

-- a text begins with a rule of at most a depth, and the formula of a number says what that rule says
pub record Meant (limit : ℕ) (text : List ℕ) (b : Contents) (number : ℕ) (rest : List ℕ) : Type 0 where
  pub rule : Written
  pub written : text ≡ write rule ++ rest
  pub deep : depth rule ≤ limit
  pub below : AtomsBelow 256 rule
  pub says : Says b number rule

-- The formula that is read from a text says what the rule says that the text begins with.
abbrev pub ReadSaysWritten : Type 0
ReadSaysWritten =
    (limit : ℕ) (text : List ℕ) (b after : Contents) (number : ℕ) (rest : List ℕ) → Proper b →
    formula_read limit false text b ≡ found after number rest → Proper after × Meant limit text after number rest

-- the line of a rule: r, a space and the rule
abbrev pub rule_line : Written → List ℕ
rule_line w = 114 ∷ 32 ∷ write w

-- each rule has at most depth 32, and its atoms have numbers below 256
abbrev pub AllReadable : List Written → Type 0
AllReadable [] = Unit {0}
AllReadable (w ∷ ws) = (depth w ≤ 32) × AtomsBelow 256 w × AllReadable ws

-- Lines write rules, one each. A history meets the book exactly when all of them, as written, hold at the first visit,
-- and where the judge refuses nothing, it answers met exactly then.
pub record Rulebook (lines : List (List ℕ)) (b : Contents) : Type 0 where
  pub rules : List Written
  pub written : lines ≡ map rule_line rules
  pub readable : AllReadable rules
  pub says : (m : Meaning) (σ : List ℕ) → 0 < length σ → Meets m b σ ↔ AllHold m σ rules
  pub judged : (m : Meaning) (σ : List ℕ) (r : Result Judgement Refusal) → Judged m b σ r → judge_check m b σ ≡ Ok tt → (r ≡ Ok Met) ↔ AllHold m σ rules

-- the lines of a sheet from the rules up to the notes, by the trailer
abbrev pub rule_lines : (bytes : List ℕ) → Option (ℕ × ℕ) → List (List ℕ)
rule_lines bytes None = []
rule_lines bytes (Some t) = lines_of (take (t.1 - t.0) (drop t.0 bytes))

-- The draft of an accepted sheet says what the rules of the sheet say as they are written.
abbrev pub SheetSaysWritten : Type 0
SheetSaysWritten =
    (bytes visits : List ℕ) (s : Sheet) → (sheet_read bytes visits).answer ≡ Ok s →
    Proper (sheet_read bytes visits).draft × Rulebook (rule_lines bytes (trailer_in bytes)) (sheet_read bytes visits).draft

-- The lines of a sheet write one list of rules only.
abbrev pub RulesWrittenOnce : Type 0
RulesWrittenOnce = (vs ws : List Written) → AllReadable vs → AllReadable ws → map rule_line vs ≡ map rule_line ws → vs ≡ ws
