-- The rules of an accepted sheet.
use Rattle.std.proofs.Common.{◌≡◌, ℕ, ◌-◌, List, [], ◌∷◌, map, take, drop, Some, None, Ok, Err, Option, Result, refl}
use Rattle.std.proofs.lemmas.Bool.{cond_both}
use Rattle.refusal.specs.declared.SheetRefusal.{SheetRefusal}
use Rattle.refusal.specs.declared.SheetRefusal.TheVariants.{Bytes, Trailer, Opening, Rule, Note}
use Rattle.flags.specs.Model.{FlagsModel}
use Rattle.numbers.specs.Model.{NumbersModel}
use Rattle.ltlf.specs.Contents.{Contents, Proper, empty, counts_leave}
use Rattle.items.specs.Lines.{lines_of, line_length, last_start}
use Rattle.items.specs.Trailers.{trailer_in}
use Rattle.formula_text.specs.Grammar.{Written, write, AtomsBelow}
use Rattle.formula_text.proofs.Once.{written_once}
use Rattle.sheet_text.specs.Held.{Held, heading_in, fresh, flags_in, numbers_in, meaning_in, counted, note_by}
use Rattle.sheet_text.specs.Opening.{heading_of, opening_read}
use Rattle.sheet_text.specs.Rules.{rules_read}
use Rattle.sheet_text.specs.Notes.{Noted, notes_read}
use Rattle.sheet_text.specs.Sheets.{After, refused, after_notes, after_rules, after_opening, passes_as_text, by_trailer, by_heading}
use Rattle.sheet_text.specs.declared.heading.Heading.{Heading}
use Rattle.sheet_text.specs.declared.heading.Sheet.{Sheet}
use Rattle.rule_meaning.specs.Theorems.{rule_line, Rulebook, rule_lines, SheetSaysWritten, RulesWrittenOnce}
use Rattle.rule_meaning.proofs.Properness.{proper_counted, no_rules}
use Rattle.rule_meaning.proofs.Rulebooks.{lines_added, book_says}

never_refused : {P : Type 0} (e : SheetRefusal) (s : Sheet) → ◌≡◌ {A = Result Sheet SheetRefusal} (Err e) (Ok s) → P
never_refused e s is = cc

module _ (bytes visits : List ℕ) (s : Sheet) where
  -- what is left after an accepted sheet says what its rules say
  abbrev Right : (lines : List (List ℕ)) → After → Type 0
  Right lines a = a.answer ≡ Ok s → Proper a.draft × Rulebook lines a.draft

  module _ (r n : ℕ) where
    abbrev section : List ℕ
    section = take (n - r) (drop r bytes)

    rules_right : (h : Heading) (codes atoms : ℕ) (m : FlagsModel) (k : NumbersModel) (noted : Noted) (o : Result Contents ℕ) → rules_read r section (counts_leave (empty 0 0) codes atoms) ≡ o → Right (lines_of section) (after_rules o visits (λ b. after_notes h b m k noted))
    rules_right h codes atoms m k noted (Err place) is e = never_refused (Rule place) s e
    rules_right h codes atoms m k (Err place, out) (Ok b) is e = never_refused (Note place) s e
    rules_right h codes atoms m k (Ok notes, out) (Ok b) is e =
        book_says (lines_of section) (counts_leave (empty 0 0) codes atoms) b (proper_counted codes atoms) (no_rules codes atoms)
        (lines_added r (lines_of section) (counts_leave (empty 0 0) codes atoms) b is)

    sections_right : (own : ℕ) (o : Result Held ℕ) → Right (lines_of section) (after_opening o visits (λ t. after_rules (rules_read r section (counted t)) visits (λ b. after_notes (heading_in t) b (flags_in t) (numbers_in t) (notes_read (note_by t) n (take (own - n) (drop n bytes)) visits))))
    sections_right own (Err place) e = never_refused (Opening place) s e
    sections_right own (Ok t) e =
        rules_right (heading_in t) (meaning_in t).codes (meaning_in t).atoms (flags_in t) (numbers_in t)
        (notes_read (note_by t) n (take (own - n) (drop n bytes)) visits)
        (rules_read r section (counted t)) refl e

    heading_right : (own : ℕ) (h : Option Heading) → Right (lines_of section) (by_heading h bytes own r n visits)
    heading_right own None e = never_refused (Opening 0) s e
    heading_right own (Some h) e = sections_right own (opening_read (take r bytes) (fresh h)) e

  trailer_right : (t : Option (ℕ × ℕ)) → Right (rule_lines bytes t) (by_trailer bytes t visits)
  trailer_right None e = never_refused (Trailer (last_start bytes)) s e
  trailer_right (Some t) e = heading_right t.0 t.1 (last_start bytes) (heading_of (take (line_length bytes) bytes)) e

pub sheet_says : SheetSaysWritten
sheet_says bytes visits s e =
    cond_both (passes_as_text bytes) (by_trailer bytes (trailer_in bytes) visits) (refused Bytes visits) (Right bytes visits s (rule_lines bytes (trailer_in bytes)))
    (λ _. trailer_right bytes visits s (trailer_in bytes))
    (λ _ e. never_refused Bytes s e) e

line_once : (v w : Written) → AtomsBelow 256 v → AtomsBelow 256 w → rule_line v ≡ rule_line w → v ≡ w
line_once v w below-v below-w e = let same : write v ≡ write w = cc in written_once v w below-v below-w same

pub rules_once : RulesWrittenOnce
rules_once [] [] rv rw e = refl
rules_once [] (w ∷ ws) rv rw e = cc
rules_once (v ∷ vs) [] rv rw e = cc
rules_once (v ∷ vs) (w ∷ ws) rv rw e =
    let first : rule_line v ≡ rule_line w = cc in
    let rest : map rule_line vs ≡ map rule_line ws = cc in
    let same = line_once v w rv.1 rw.1 first in
    let more = rules_once vs ws rv.2 rw.2 rest in
    λ i. same i ∷ more i
