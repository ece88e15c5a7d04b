-- What a household's record and a sync of it hold, and what each call answers and leaves.
use Rattle.std.specs.Prelude.{ℕ, ◌+◌, ◌-◌, cond, ◌||◌, List, length, Ok, Err, Result, ◌==◌, nat_le, slice_set}
use Rattle.refusal.specs.declared.Refusal.{Refusal}
use Rattle.refusal.specs.declared.Refusal.TheVariants.{NoSuchCode, ListFull, NothingKept}
use Rattle.ltlf.specs.Contents.{Contents}
use Rattle.record.specs.declared.record.Record.{Record}
use Rattle.record.specs.declared.sync.Sync.{Sync}

-- A record: the counts of the book that it was opened on, and how many visits it keeps.
pub record RecordModel : Type 0 where
  pub codes : ℕ
  pub atoms : ℕ
  pub kept : ℕ

-- A sync: the record that it took, and how many entries of the visit list are held by kept visits and accepted notes.
pub record SyncModel : Type 0 where
  pub taken : RecordModel
  pub held : ℕ

-- What a record holds: its fields, which no bound relates to the others. Clauses above name it, so a view of its own would say it twice.
abbrev pub record_model : Record → RecordModel
record_model r = record { codes = r.codes; atoms = r.atoms; kept = r.kept }

-- what a sync holds
abbrev pub sync_model : Sync → SyncModel
sync_model s = record { taken = record_model s.taken; held = s.held }

-- the record with another kept count
abbrev pub keeping : RecordModel → (kept : ℕ) → RecordModel
keeping r n = record { codes = r.codes; atoms = r.atoms; kept = n }

-- a record opened on a book has its counts and keeps no visit
abbrev pub opened : Contents → RecordModel
opened b = record { codes = b.codes; atoms = b.atoms; kept = 0 }

-- opening a sync takes the record; the kept visits are held
abbrev pub sync_opened : RecordModel → SyncModel
sync_opened r = record { taken = r; held = r.kept }

-- confirming keeps all that is held
abbrev pub confirmed : SyncModel → RecordModel
confirmed s = keeping s.taken s.held

-- a failed sync gives the record back as it was
abbrev pub failed : SyncModel → RecordModel
failed s = s.taken

-- 4 for a code that does not exist, else 5 where the list, or 1,024 visits, are held already
abbrev pub note_check : (codes entries held code : ℕ) → Result (Unit {0}) Refusal
note_check codes entries held code =
    cond (nat_le codes code) (Err NoSuchCode)
    (cond (nat_le entries held || nat_le 1024 held) (Err ListFull)
    (Ok tt))

-- one thing where a call is accepted, and another where it is refused
abbrev pub if_accepted : {X : Type 0} → Result (Unit {0}) Refusal → X → X → X
if_accepted (Ok u) x y = x
if_accepted (Err e) x y = y

abbrev pub note_answer : SyncModel → (visits : List ℕ) → (code : ℕ) → Result (Unit {0}) Refusal
note_answer s visits code = note_check s.taken.codes (length visits) s.held code

-- an accepted note is held too; a refused one leaves the sync as it was
abbrev pub note_leaves : SyncModel → (visits : List ℕ) → (code : ℕ) → SyncModel
note_leaves s visits code = if_accepted (note_answer s visits code) (record { taken = s.taken; held = s.held + 1 }) s

-- an accepted note writes the entry behind those that are held, and no other; a refused one writes none
abbrev pub note_writes : SyncModel → (visits : List ℕ) → (code : ℕ) → List ℕ
note_writes s visits code = if_accepted (note_answer s visits code) (slice_set visits s.held code) visits

-- 6 with nothing kept
abbrev pub strike_answer : RecordModel → Result (Unit {0}) Refusal
strike_answer r = cond (r.kept == 0) (Err NothingKept) (Ok tt)

-- a strike keeps one visit less; a refused one leaves the record as it was
abbrev pub strike_leaves : RecordModel → RecordModel
strike_leaves r = if_accepted (strike_answer r) (keeping r (r.kept - 1)) r
