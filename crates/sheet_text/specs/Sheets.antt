-- A sheet: which texts are sheets, and what reading one answers and leaves.
use Rattle.std.specs.Prelude.{ℕ, ◌-◌, Bool, cond, ◌&&◌, ◌||◌, List, length, take, Some, None, Ok, Err, Option, Result, ◌==◌, nat_le, slice_index, slice_range}
use Rattle.std.specs.List.{list_all}
use Rattle.refusal.specs.declared.SheetRefusal.{SheetRefusal}
use Rattle.refusal.specs.declared.SheetRefusal.TheVariants.{Bytes, Trailer, Opening, Rule, Note}
use Rattle.flags.specs.Model.{FlagsModel}
use Rattle.flags.specs.Filling.{fresh_flags}
use Rattle.numbers.specs.Model.{NumbersModel}
use Rattle.numbers.specs.Filling.{fresh_numbers}
use Rattle.ltlf.specs.Contents.{Contents, empty}
use Rattle.items.specs.Lines.{line_length, last_start}
use Rattle.items.specs.Trailers.{trailer_in}
use Rattle.sheet_text.specs.Held.{Held, heading_in, fresh, flags_in, numbers_in, counted, note_by}
use Rattle.sheet_text.specs.Opening.{heading_of, opening_read}
use Rattle.sheet_text.specs.Rules.{rules_read}
use Rattle.sheet_text.specs.Notes.{Noted, notes_read}
use Rattle.sheet_text.specs.declared.heading.Heading.{Heading}
use Rattle.sheet_text.specs.declared.heading.Sheet.{Sheet}

-- a byte of a sheet is a line end, or a space, or visible
abbrev pub sheet_byte : ℕ → Bool
sheet_byte b = b == 10 || (nat_le 32 b && nat_le b 126)

-- all bytes are bytes of a sheet
abbrev pub sheet_bytes : List ℕ → Bool
sheet_bytes bs = list_all sheet_byte bs

-- a sheet has 1 to 65,536 such bytes, and the last ends a line
abbrev pub passes_as_text : List ℕ → Bool
passes_as_text bs = nat_le 1 (length bs) && (nat_le (length bs) 65536 && (sheet_bytes bs && slice_index bs (length bs - 1) == 10))

-- What a call answers, and what the draft, the flags, the numbers and the visit list hold after it.
pub record After : Type 0 where
  pub answer : Result Sheet SheetRefusal
  pub draft : Contents
  pub flags : FlagsModel
  pub numbers : NumbersModel
  pub visits : List ℕ

-- what a call gave, with what it left
abbrev pub after : Result Sheet SheetRefusal → Contents → FlagsModel → NumbersModel → (visits : List ℕ) → After
after r b m k visits = record { answer = r; draft = b; flags = m; numbers = k; visits = visits }

-- a refused sheet leaves an empty draft with both counts 0, fresh flags, fresh numbers, and the visit list
abbrev pub refused : SheetRefusal → (visits : List ℕ) → After
refused e visits = after (Err e) (empty 0 0) fresh_flags fresh_numbers visits

-- an accepted sheet has a heading, and a number of notes
abbrev pub accepted : Heading → (notes : ℕ) → Contents → FlagsModel → NumbersModel → (visits : List ℕ) → After
accepted h notes b m k visits = after (Ok (record { heading = h; notes = notes })) b m k visits

-- what was read, where a refusal leaves nothing of the draft, the flags and the numbers
abbrev pub settled : Result Sheet SheetRefusal → Contents → FlagsModel → NumbersModel → (visits : List ℕ) → After
settled (Ok s) b m k visits = after (Ok s) b m k visits
settled (Err e) b m k visits = refused e visits

-- after the notes: an accepted sheet, or the place of the first wrong note
abbrev pub after_notes : Heading → Contents → FlagsModel → NumbersModel → Noted → After
after_notes h b m k (Ok notes, visits) = accepted h notes b m k visits
after_notes h b m k (Err place, visits) = refused (Note place) visits

-- after the rules: the notes, or the place of the first wrong rule
abbrev pub after_rules : Result Contents ℕ → (visits : List ℕ) → (Contents → After) → After
after_rules (Ok b) visits f = f b
after_rules (Err place) visits f = refused (Rule place) visits

-- after the opening: the rules, or the place of its first wrong line
abbrev pub after_opening : Result Held ℕ → (visits : List ℕ) → (Held → After) → After
after_opening (Ok t) visits f = f t
after_opening (Err place) visits f = refused (Opening place) visits

-- a sheet that fills a theory: the opening up to the rules, the rules up to the notes, and the notes up to the trailer; the first wrong line is refused
abbrev pub sections_of : Held → (bytes : List ℕ) → (own rules notes : ℕ) → (visits : List ℕ) → After
sections_of t bytes own r n visits =
    after_opening (opening_read (take r bytes) t) visits (λ t.
    after_rules (rules_read r (slice_range bytes r n) (counted t)) visits (λ b.
    after_notes (heading_in t) b (flags_in t) (numbers_in t) (notes_read (note_by t) n (slice_range bytes n own) visits)))

-- the sections by the heading, or 12 at the first line where it is none
abbrev pub by_heading : Option Heading → (bytes : List ℕ) → (own rules notes : ℕ) → (visits : List ℕ) → After
by_heading (Some h) bytes own r n visits = sections_of (fresh h) bytes own r n visits
by_heading None bytes own r n visits = refused (Opening 0) visits

-- the first line decides which sheet it is
abbrev pub sections_read : (bytes : List ℕ) → (own rules notes : ℕ) → (visits : List ℕ) → After
sections_read bytes own r n visits = by_heading (heading_of (take (line_length bytes) bytes)) bytes own r n visits

-- a sheet by the places that its trailer names, or 11 at the last line where the trailer is wrong
abbrev pub by_trailer : (bytes : List ℕ) → Option (ℕ × ℕ) → (visits : List ℕ) → After
by_trailer bytes None visits = refused (Trailer (last_start bytes)) visits
by_trailer bytes (Some t) visits = sections_read bytes (last_start bytes) t.0 t.1 visits

-- a sheet is read into the visit list, a draft, flags and numbers, whatever they held
abbrev pub sheet_read : (bytes visits : List ℕ) → After
sheet_read bytes visits = cond (passes_as_text bytes) (by_trailer bytes (trailer_in bytes) visits) (refused Bytes visits)
