-- What is seen of a run of the record, and the law that it follows the plain record.
use Rattle.std.specs.Prelude.{◌≡◌, ℕ, min, List, [], ◌∷◌, length, take, Ok, Err, Result}
use Rattle.intern.specs.declared.cell.Cell.{Cell}
use Rattle.refusal.specs.declared.Refusal.{Refusal}
use Rattle.refusal.specs.Numbers.{number_of}
use Rattle.theory.specs.Meaning.{Meaning}
use Rattle.ltlf.specs.Contents.{Contents, book_contents}
use Rattle.search.specs.declared.row.Row.{Row}
use Rattle.search.specs.declared.outcome.Outcome.{Outcome}
use Rattle.record.specs.Calls.{RecordModel}
use Rattle.household.specs.declared.call.Call.{Call}
use Rattle.household.specs.declared.call.Call.TheVariants.{Sync, Strike, Question}
use Rattle.household.specs.Questions.{Asked, Answers}
use Rattle.household.specs.Plain as plain
use Rattle.household.specs.Plain.{Reply, Drawn, Seen, accepted, refused}

-- What came of a call: the result of a note or a strike; the result of a question, with what the rows and the history list held then.
pub data Event : Type 0 where
  noted : Result (Unit {0}) Refusal → Event
  struck : Result (Unit {0}) Refusal → Event
  answered : Result Outcome Refusal → (rows : List (Cell Row)) → (history : List ℕ) → Event

-- a result as the plain record says it
abbrev pub reply_of : Result (Unit {0}) Refusal → Reply
reply_of (Ok u) = accepted
reply_of (Err e) = refused (number_of e)

-- What came of a call is as the plain record has it: the same reply, or what the question comes to with the visits kept then.
abbrev pub Agrees : (codes atoms : ℕ) → Seen Asked → Event → Type 0
Agrees codes atoms (plain.noted p) (noted r) = reply_of r ≡ p
Agrees codes atoms (plain.noted p) (struck r) = ⊥
Agrees codes atoms (plain.noted p) (answered r rows history) = ⊥
Agrees codes atoms (plain.struck p) (noted r) = ⊥
Agrees codes atoms (plain.struck p) (struck r) = reply_of r ≡ p
Agrees codes atoms (plain.struck p) (answered r rows history) = ⊥
Agrees codes atoms (plain.asked a kept) (noted r) = ⊥
Agrees codes atoms (plain.asked a kept) (struck r) = ⊥
Agrees codes atoms (plain.asked a kept) (answered r rows history) = Answers codes atoms a kept r rows history

-- and so are all, one by one
abbrev pub Agree : (codes atoms : ℕ) → List (Seen Asked) → List Event → Type 0
Agree codes atoms [] [] = Unit {0}
Agree codes atoms [] (e ∷ es) = ⊥
Agree codes atoms (s ∷ ss) [] = ⊥
Agree codes atoms (s ∷ ss) (e ∷ es) = Agrees codes atoms s e × Agree codes atoms ss es

-- An observer hears the events one after the other; `hears a e b` is what its contract says of one event, heard between a and b.
abbrev pub Heard : {S : Type 0} → (S → Event → S → Type 0) → (before : S) → List Event → (after : S) → Type 0
Heard hears a [] b = a ≡ b
Heard {S} hears a (e ∷ es) b = (m : S) × (hears a e m × Heard hears m es b)

-- what the observer has heard in between agrees with what is seen of the plain record
abbrev pub Told : {S : Type 0} → (S → Event → S → Type 0) → (codes atoms : ℕ) → List (Seen Asked) → (before after : S) → Type 0
Told hears codes atoms steps before after = (es : List Event) × (Heard hears before es after × Agree codes atoms steps es)

-- A call as plain data; a question is offered no more rows and entries than the two buffers have.
abbrev pub drawn : {T : Type 0} → (T → Meaning) → (rows entries : ℕ) → Call T → Drawn Asked
drawn meaning rows entries (Sync notes confirmed) = plain.sync notes.now confirmed
drawn meaning rows entries Strike = plain.strike
drawn meaning rows entries (Question book theory r e) =
    plain.question (record { book = book_contents book.now; theory = meaning theory.now; rows = min r rows; entries = min e entries })

-- THE LAW. A record is opened on a book, and a draw is applied to it and to its visit list, which has `entries` entries. Then
-- every note and every strike comes out as the plain record's; every question comes out as the visits have it that the plain
-- record keeps at that time; and at the end the record has the book's counts, keeps as many visits as the plain record, and the
-- visit list begins with them.
pub record HouseholdLaw {S : Type 0} (hears : S → Event → S → Type 0) (b : Contents) (entries : ℕ) (draw : List (Drawn Asked))
    (before after : S) (r : RecordModel) (visits : List ℕ) : Type 0 where
  pub told : Told hears b.codes b.atoms (plain.run b.codes entries [] draw) before after
  pub counts : (r.codes ≡ b.codes) × (r.atoms ≡ b.atoms)
  pub keeps : r.kept ≡ length (plain.kept_after b.codes entries [] draw)
  pub begins : take r.kept visits ≡ plain.kept_after b.codes entries [] draw
