-- One call of a draw, beside the plain record.
use Rattle.std.specs.Prelude.{◌≡◌, ℕ, ◌≤◌, List, length, take}
use Rattle.record.specs.Calls.{RecordModel}
use Rattle.household.specs.Questions.{Asked}
use Rattle.household.specs.Plain.{Drawn, kept_then, seen_of}
use Rattle.household.specs.Law.{Event, Told}

-- After the call d, on a record with these counts and kept visits and a visit list of `entries` entries: the record has its counts,
-- the visit list begins with the visits that the plain record keeps, and the observer was told what is seen of it.
pub record Stepped {S : Type 0} (hears : S → Event → S → Type 0) (codes atoms : ℕ) (kept : List ℕ) (d : Drawn Asked) (entries : ℕ)
    (r : RecordModel) (visits : List ℕ) (before after : S) : Type 0 where
  pub within : r.kept ≤ length visits
  pub of_codes : r.codes ≡ codes
  pub of_atoms : r.atoms ≡ atoms
  pub keeps : take r.kept visits ≡ kept_then codes entries kept d
  pub told : Told hears codes atoms (seen_of codes entries kept d) before after
