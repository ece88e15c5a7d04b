-- The lines of rules.
use Rattle.std.specs.Prelude.{ℕ, false, List, [], ◌∷◌, Some, None, Ok, Err, Option, Result}
use Rattle.refusal.specs.declared.Refusal.{Refusal}
use Rattle.ltlf.specs.Contents.{Contents, rule_answer, rule_leaves}
use Rattle.items.specs.Lines.{behind, lines_of}
use Rattle.items.specs.Reads.{and_text}
use Rattle.formula_text.specs.Formulas.{Outcome, stopped, found, formula_read}
use Rattle.sheet_text.specs.Lines.{lines_read}

-- what a call leaves, unless it was refused
abbrev pub unless_refused : Result (Unit {0}) Refusal → Contents → Option Contents
unless_refused (Ok u) b = Some b
unless_refused (Err e) b = None

-- a formula that was put is named a rule
abbrev pub rule_named : Contents → (formula : ℕ) → Option Contents
rule_named b k = unless_refused (rule_answer b k) (rule_leaves b k)

-- nothing follows the formula
abbrev pub named_alone : Contents → (formula : ℕ) → (rest : List ℕ) → Option Contents
named_alone b k [] = rule_named b k
named_alone b k (x ∷ xs) = None

-- a formula is all of a text, and becomes a rule
abbrev pub as_rule : Outcome → Option Contents
as_rule (stopped b) = None
as_rule (found b k rest) = named_alone b k rest

-- FORMULA, of depth at most 32
abbrev pub rule_text : Contents → (text : List ℕ) → Option Contents
rule_text b text = as_rule (formula_read 32 false text b)

-- r FORMULA
abbrev pub rule_read : Contents → (line : List ℕ) → Option Contents
rule_read b line = and_text (behind (114 ∷ 32 ∷ []) line) (rule_text b)

-- rules from a place on, read into a draft
abbrev pub rules_read : (place : ℕ) → (rules : List ℕ) → Contents → Result Contents ℕ
rules_read place bs b = lines_read rule_read place (lines_of bs) b
