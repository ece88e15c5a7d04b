-- A strike, beside the plain record.
use Rattle.std.proofs.Common.{◌≡◌, ℕ, ◌-◌, ◌≤◌, Bool, true, false, cond, eqb, List, [], ◌∷◌, length, take, Ok, Err, Result, sym, refl, ap, ◌∙◌, subst, arith, eqb-true}
use Rattle.std.proofs.lemmas.List.{length-take-le, take-take}
use Rattle.refusal.specs.declared.Refusal.{Refusal}
use Rattle.refusal.specs.declared.Refusal.TheVariants.{NothingKept}
use Rattle.record.specs.Calls.{RecordModel}
use Rattle.record.specs.Calls.{strike_answer, strike_leaves, if_accepted, keeping}
use Rattle.household.specs.Questions.{Asked}
use Rattle.household.specs.Law.{Event, Told, reply_of}
use Rattle.household.proofs.Hears.{heard_one}
use Rattle.household.specs.Runs.{Stepped}
use Rattle.household.specs.Law as law
use Rattle.household.specs.Plain as plain
use Rattle.household.specs.Plain.{Drawn, kept_then, seen_of, refused, accepted}

module _ {S : Type 0} (hears : S → Event → S → Type 0) (r : RecordModel) (visits : List ℕ) (before : S) (h : r.kept ≤ length visits) where
  abbrev kept : List ℕ
  kept = take r.kept visits

  abbrev Struck : RecordModel → S → Type 0
  Struck r' after = Stepped hears r.codes r.atoms kept plain.strike (length visits) r' visits before after

  abbrev answer : Bool → Result (Unit {0}) Refusal
  answer b = cond b (Err NothingKept) (Ok tt)

  shorter : take (r.kept - 1) visits ≡ take (length kept - 1) kept
  shorter =
      let n : length kept ≡ r.kept = length-take-le r.kept visits h in
      let below : r.kept - 1 ≤ r.kept = omega arith in
      sym (take-take (r.kept - 1) r.kept visits below) ∙ ap (λ (k : ℕ). take (k - 1) kept) (sym n)

  told : (b : Bool) → eqb r.kept 0 ≡ b → reply_of (answer b) ≡ plain.strike_reply kept
  told b q =
      let n : length kept ≡ r.kept = length-take-le r.kept visits h in
      let by : reply_of (answer b) ≡ cond b (refused 6) accepted = elim b as (λ v. reply_of (answer v) ≡ cond v (refused 6) accepted) [ true ↦ refl | false ↦ refl ] in
      by ∙ ap (λ (v : Bool). cond v (refused 6) accepted) (sym q ∙ ap (λ (k : ℕ). eqb k 0) (sym n))

  by_test : (after : S) (b : Bool) → eqb r.kept 0 ≡ b → hears before (law.struck (answer b)) after → Struck (if_accepted (answer b) (keeping r (r.kept - 1)) r) after
  by_test after true q k =
      let zero : r.kept ≡ 0 = eqb-true r.kept 0 q in
      let same : r.kept ≡ r.kept - 1 = omega arith in
      record {
        within = h;
        of_codes = refl;
        of_atoms = refl;
        keeps = ap (λ (k : ℕ). take k visits) same ∙ shorter;
        told = (law.struck (answer true) ∷ [], (heard_one hears before after (law.struck (answer true)) k, (told true q, tt)));
      }
  by_test after false q k = record {
    within = omega arith;
    of_codes = refl;
    of_atoms = refl;
    keeps = shorter;
    told = (law.struck (answer false) ∷ [], (heard_one hears before after (law.struck (answer false)) k, (told false q, tt)));
  }

  pub struck_one : (r' : RecordModel) (after : S) (x : Result (Unit {0}) Refusal) (d : Drawn Asked) → d ≡ plain.strike → x ≡ strike_answer r → r' ≡ strike_leaves r → hears before (law.struck x) after
      → Stepped hears r.codes r.atoms kept d (length visits) r' visits before after
  struck_one r' after x d k a b e =
      subst (λ (z : Drawn Asked). Stepped hears r.codes r.atoms kept z (length visits) r' visits before after) (sym k)
      (subst (λ (z : RecordModel). Struck z after) (sym b)
      (by_test after (eqb r.kept 0) refl (subst (λ (y : Result (Unit {0}) Refusal). hears before (law.struck y) after) a e)))
