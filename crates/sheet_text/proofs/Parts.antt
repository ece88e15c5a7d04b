-- The sections of a sheet, one after the other.
use Rattle.std.proofs.Common.{◌≡◌, ℕ, ◌-◌, List, length, take, drop, Ok, Err, Result, sym, ap, ◌∙◌}
use Rattle.refusal.specs.declared.SheetRefusal.{SheetRefusal}
use Rattle.refusal.specs.declared.SheetRefusal.TheVariants.{Rule, Note}
use Rattle.theory.specs.Meaning.{Meaning}
use Rattle.flags.specs.Model.{FlagsModel}
use Rattle.numbers.specs.Model.{NumbersModel}
use Rattle.ltlf.specs.Contents.{Contents, empty, counts_leave}
use Rattle.items.specs.Lines.{lines_of}
use Rattle.sheet_text.specs.Held.{Held, heading_in, flags_in, numbers_in, meaning_in, counted, note_by}
use Rattle.sheet_text.specs.Lines.{placed, placed_read, section}
use Rattle.sheet_text.specs.Notes.{noted, notes_read}
use Rattle.sheet_text.specs.Opening.{declaration_read, whole_opening, opening_read}
use Rattle.sheet_text.specs.Rules.{rule_read, rules_read}
use Rattle.sheet_text.specs.Sheets.{After, accepted, settled, after_notes, after_rules, after_opening, sections_of}
use Rattle.sheet_text.specs.declared.heading.Heading.{Heading}
use Rattle.sheet_text.specs.declared.heading.Sheet.{Sheet}
use Rattle.sheet_text.specs.declared.opening.Stage.TheVariants.{Start}
use Rattle.sheet_text.proofs.Turns.{as_section}

-- a section had a wrong line, and the sheet was refused at its place
abbrev pub RefusedAt : {U : Type 0} → (ℕ → SheetRefusal) → Result U ℕ → Result Sheet SheetRefusal → Type 0
RefusedAt refusal (Ok u) answer = ⊥
RefusedAt refusal (Err place) answer = answer ≡ Err (refusal place)

module _ (bytes : List ℕ) (own r n : ℕ) (visits : List ℕ) (before t : Held) where
  abbrev notes_after : Held → Contents → After
  notes_after t b = after_notes (heading_in t) b (flags_in t) (numbers_in t) (notes_read (note_by t) n (take (own - n) (drop n bytes)) visits)

  abbrev rules_after : Held → After
  rules_after t = after_rules (rules_read r (take (n - r) (drop r bytes)) (counted t)) visits (notes_after t)

  -- the opening is read
  module _ (opening : List ℕ) (first : ℕ) (lent : opening ≡ take r bytes) (start : first ≡ 0) (opened : Result (Unit {0}) ℕ) (right : opened ≡ Ok tt)
      (read : section opened t ≡ whole_opening (length opening) (placed_read declaration_read (placed first (lines_of (drop first opening))) (Start, before))) where
    opening_right : rules_after t ≡ sections_of before bytes own r n visits
    opening_right =
        let is : Ok t ≡ opening_read (take r bytes) before = ap (λ (o : Result (Unit {0}) ℕ). section o t) (sym right) ∙ read ∙
        (λ i. whole_opening (length (lent i)) (placed_read declaration_read (placed (start i) (lines_of (drop (start i) (lent i)))) (Start, before))) in
        ap (λ (o : Result Held ℕ). after_opening o visits rules_after) is

    -- and so are the rules
    module _ (m : Meaning) (meant : m ≡ meaning_in t) (began b : Contents) (begun : began ≡ counts_leave (empty 0 0) m.codes m.atoms)
        (rules : List ℕ) (second : ℕ) (lent-rules : rules ≡ take n bytes) (start-rules : second ≡ r) (ruled : Result (Unit {0}) ℕ)
        (read-rules : section ruled b ≡ placed_read rule_read (placed second (lines_of (drop second rules))) began) where
      same_rules : section ruled b ≡ rules_read r (take (n - r) (drop r bytes)) (counted t)
      same_rules =
          read-rules ∙ ap (placed_read rule_read (placed second (lines_of (drop second rules)))) begun
          ∙ ap (λ (m : Meaning). placed_read rule_read (placed second (lines_of (drop second rules))) (counts_leave (empty 0 0) m.codes m.atoms)) meant
          ∙ as_section (λ p text. rules_read p text (counted t)) bytes rules r n second lent-rules start-rules

      pub wrong_rule : (answer : Result Sheet SheetRefusal) (f : FlagsModel) (k : NumbersModel) → RefusedAt Rule ruled answer → settled answer b f k visits ≡ sections_of before bytes own r n visits
      wrong_rule answer f k is = go ruled same_rules is
        where
          go : (o : Result (Unit {0}) ℕ) → section o b ≡ rules_read r (take (n - r) (drop r bytes)) (counted t) → RefusedAt Rule o answer → settled answer b f k visits ≡ sections_of before bytes own r n visits
          go (Ok u) e never = absurd never
          go (Err place) e is =
              ap (λ (a : Result Sheet SheetRefusal). settled a b f k visits) is ∙ ap (λ (o : Result Contents ℕ). after_rules o visits (notes_after t)) e ∙ opening_right

      -- and so are the notes
      module _ (all : ruled ≡ Ok tt) (notes out : List ℕ) (third : ℕ) (lent-notes : notes ≡ take own bytes) (start-notes : third ≡ n) (count : Result ℕ ℕ)
          (read-notes : noted count out ≡ notes_read (note_by t) third (drop third notes) visits) where
        notes_done : after_notes (heading_in t) b (flags_in t) (numbers_in t) (noted count out) ≡ sections_of before bytes own r n visits
        notes_done =
            ap (after_notes (heading_in t) b (flags_in t) (numbers_in t)) (read-notes ∙ as_section (λ p text. notes_read (note_by t) p text visits) bytes notes n own third lent-notes start-notes)
            ∙ ap (λ (o : Result Contents ℕ). after_rules o visits (notes_after t)) (ap (λ (o : Result (Unit {0}) ℕ). section o b) (sym all) ∙ same_rules) ∙ opening_right

        pub wrong_note : (answer : Result Sheet SheetRefusal) (f : FlagsModel) (k : NumbersModel) → RefusedAt Note count answer → settled answer b f k out ≡ sections_of before bytes own r n visits
        wrong_note answer f k is = go count notes_done is
          where
            go : (o : Result ℕ ℕ) → after_notes (heading_in t) b (flags_in t) (numbers_in t) (noted o out) ≡ sections_of before bytes own r n visits → RefusedAt Note o answer
                → settled answer b f k out ≡ sections_of before bytes own r n visits
            go (Ok u) e never = absurd never
            go (Err place) e is = ap (λ (a : Result Sheet SheetRefusal). settled a b f k out) is ∙ e

        pub all_right : (h : Heading) (size : ℕ) → h ≡ heading_in t → count ≡ Ok size → accepted h size b (flags_in t) (numbers_in t) out ≡ sections_of before bytes own r n visits
        all_right h size is counted =
            ap (λ (h : Heading). accepted h size b (flags_in t) (numbers_in t) out) is
            ∙ ap (λ (o : Result ℕ ℕ). after_notes (heading_in t) b (flags_in t) (numbers_in t) (noted o out)) (sym counted) ∙ notes_done
