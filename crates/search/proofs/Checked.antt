-- What the check of a question says.
use Rattle.std.proofs.Common.{◌≡◌, ℕ, ◌≤◌, Bool, true, false, cond, ltb, List, length, replicate, Ok, Err, Result, refl, arith}
use lib.ListN.{length-replicate}
use Rattle.std.proofs.lemmas.Bool.{ltb-true, ltb-false, eqb-true, and_parts, not-false}
use Rattle.refusal.specs.declared.Refusal.{Refusal}
use Rattle.theory.specs.Meaning.{Meaning}
use Rattle.ltlf.specs.Contents.{Contents, Proper}
use Rattle.judge.specs.Judging.{all_codes, same_counts}
use Rattle.judge.proofs.Tests.{pass_at}
use Rattle.search.specs.Calls.{search_check}
use Rattle.search.specs.Questions.{asked, Ready}

past : (t : Bool) (e : Refusal) (rest : Result (Unit {0}) Refusal) → cond t (Err e) rest ≡ Ok tt → (t ≡ false) × (rest ≡ Ok tt)
past true e rest h = let z : ◌≡◌ {A = ℕ} 0 1 = cc in absurd (omega arith)
past false e rest h = (refl, h)

module _ (m : Meaning) (b : Contents) (kept : List ℕ) (rows entries : ℕ) (passed : search_check m b kept rows entries ≡ Ok tt) where
  parts : (ltb 32 b.atoms ≡ false) × (same_counts m b ≡ true) × (ltb 65536 (length kept) ≡ false) × (all_codes m.codes kept ≡ true)
      × (ltb 65536 rows ≡ false) × (ltb entries rows ≡ false)
  parts =
      let one = past _ _ _ passed in
      let two = past _ _ _ one.1 in
      let three = past _ _ _ two.1 in
      let four = past _ _ _ three.1 in
      let five = past _ _ _ four.1 in
      let six = past _ _ _ five.1 in
      (one.0, not-false _ two.0, three.0, not-false _ four.0, five.0, six.0)

  pub checked_ready : Proper b → Ready (asked m b kept)
  checked_ready proper =
      let same = and_parts _ _ parts.1 in
      record {
        posed = record {
          proper = proper;
          kept_codes = λ i h. ltb-true _ _ (pass_at (λ c. ltb c m.codes) kept 0 i h parts.3);
        };
        atoms_same = eqb-true _ _ same.1;
        few_atoms = ltb-false 32 b.atoms parts.0;
        places_fit = ltb-false 65536 (length kept) parts.2;
      }

  pub checked_rows : rows ≤ 65536
  checked_rows = ltb-false 65536 rows parts.4

  pub checked_list : rows ≤ entries
  checked_list = ltb-false entries rows parts.5

-- an array has as many entries as it was made with
pub made_room : {X : Type 0} (k : ℕ) (x : X) (n : ℕ) → n ≤ k → n ≤ length (replicate k x)
made_room k x n h = omega (arith, length-replicate k x)

pub made_few : {X : Type 0} (k : ℕ) (x : X) (n : ℕ) → k ≤ n → length (replicate k x) ≤ n
made_few k x n h = omega (arith, length-replicate k x)
