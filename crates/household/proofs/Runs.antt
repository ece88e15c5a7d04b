-- A whole draw, call by call, beside the plain record.
use Rattle.std.proofs.Common.{◌≡◌, ℕ, ◌≤◌, true, List, [], ◌∷◌, ◌++◌, length, take, sym, refl, ap, ◌∙◌, subst, append_assoc, arith}
use Rattle.std.proofs.lemmas.List.{append-nil, length-take-le}
use Rattle.ltlf.specs.Contents.{Contents}
use Rattle.judge.specs.Judging.{all_codes}
use Rattle.record.specs.Calls.{RecordModel, opened}
use Rattle.household.specs.Questions.{Asked}
use Rattle.household.proofs.Sound.{kept_sound}
use Rattle.household.specs.Law.{Event, Heard, Agree, HouseholdLaw}
use Rattle.household.proofs.Hears.{heard_append}
use Rattle.household.specs.Plain.{Drawn, Seen, kept_then, seen_of, kept_after, run}
use Rattle.household.specs.Runs.{Stepped}

agree_append : (codes atoms : ℕ) (ss ts : List (Seen Asked)) (es fs : List Event) → Agree codes atoms ss es → Agree codes atoms ts fs → Agree codes atoms (ss ++ ts) (es ++ fs)
agree_append codes atoms [] ts [] fs a b = b
agree_append codes atoms [] ts (e ∷ es) fs a b = absurd a
agree_append codes atoms (s ∷ ss) ts [] fs a b = absurd a
agree_append codes atoms (s ∷ ss) ts (e ∷ es) fs a b = (a.0, agree_append codes atoms ss ts es fs a.1 b)

-- between two calls: what is left of the draw leads from here to what the whole draw leads to
pub record Playing {S : Type 0} (hears : S → Event → S → Type 0) (codes atoms entries : ℕ) (draw : List (Drawn Asked)) (before : S) (left : List (Drawn Asked)) (r : RecordModel) (visits : List ℕ) (now : S) : Type 0 where
  pub within : r.kept ≤ length visits
  pub sound : all_codes codes (take r.kept visits) ≡ true
  pub of_codes : r.codes ≡ codes
  pub of_atoms : r.atoms ≡ atoms
  pub long : length visits ≡ entries
  pub keeps : kept_after codes entries (take r.kept visits) left ≡ kept_after codes entries [] draw
  pub so_far : List Event
  pub events : Heard hears before so_far now
  pub agree : (fs : List Event) → Agree codes atoms (run codes entries (take r.kept visits) left) fs → Agree codes atoms (run codes entries [] draw) (so_far ++ fs)

module _ {S : Type 0} (hears : S → Event → S → Type 0) (codes atoms entries : ℕ) (draw : List (Drawn Asked)) (before : S) where
  pub begin : (b : Contents) (r : RecordModel) (visits : List ℕ) → b.codes ≡ codes → b.atoms ≡ atoms → r ≡ opened b → length visits ≡ entries
      → Playing hears codes atoms entries draw before draw r visits before
  begin b r visits of_codes of_atoms fresh l =
      let k : r.kept ≡ 0 = ap (λ (x : RecordModel). x.kept) fresh in
      let none : take r.kept visits ≡ [] = ap (λ (n : ℕ). take n visits) k in
      let From : List ℕ → List Event → Type 0 = λ ks fs. Agree codes atoms (run codes entries ks draw) fs in
      record {
        within = omega arith;
        sound = ap (all_codes codes) none;
        of_codes = ap (λ (x : RecordModel). x.codes) fresh ∙ of_codes;
        of_atoms = ap (λ (x : RecordModel). x.atoms) fresh ∙ of_atoms;
        long = l;
        keeps = ap (λ (ks : List ℕ). kept_after codes entries ks draw) none;
        so_far = [];
        events = refl;
        agree = λ fs h. subst (λ (ks : List ℕ). From ks fs) none h;
      }

  pub played : (d : Drawn Asked) (left : List (Drawn Asked)) (r r' : RecordModel) (visits visits' : List ℕ) (now now' : S) → length visits' ≡ length visits
      → Playing hears codes atoms entries draw before (d ∷ left) r visits now → Stepped hears r.codes r.atoms (take r.kept visits) d (length visits) r' visits' now now'
      → Playing hears codes atoms entries draw before left r' visits' now'
  played d left r r' visits visits' now now' same p s₀ =
      let ks : List ℕ = take r.kept visits in
      let s : Stepped hears codes atoms ks d entries r' visits' now now' =
      subst (λ (n : ℕ). Stepped hears n atoms ks d entries r' visits' now now') p.of_codes
      (subst (λ (n : ℕ). Stepped hears r.codes n ks d entries r' visits' now now') p.of_atoms
      (subst (λ (n : ℕ). Stepped hears r.codes r.atoms ks d n r' visits' now now') p.long s₀)) in
      let es : List Event = s.told.0 in
      let Run : List ℕ → List Event → Type 0 = λ us fs. Agree codes atoms (run codes entries us left) fs in
      let Whole : List Event → Type 0 = λ fs. Agree codes atoms (run codes entries [] draw) fs in
      record {
        within = s.within;
        sound = ap (all_codes codes) s.keeps ∙ kept_sound codes entries ks d p.sound;
        of_codes = s.of_codes;
        of_atoms = s.of_atoms;
        long = same ∙ p.long;
        keeps = ap (λ (us : List ℕ). kept_after codes entries us left) s.keeps ∙ p.keeps;
        so_far = p.so_far ++ es;
        events = heard_append hears before now now' p.so_far es p.events s.told.1.0;
        agree = λ fs h. subst Whole (sym (append_assoc p.so_far es fs))
            (p.agree (es ++ fs) (agree_append codes atoms (seen_of codes entries ks d) (run codes entries (kept_then codes entries ks d) left) es fs
            s.told.1.1 (subst (λ (us : List ℕ). Run us fs) s.keeps h)));
      }

-- the whole draw is applied
pub over : {S : Type 0} (hears : S → Event → S → Type 0) (b : Contents) (entries : ℕ) (draw : List (Drawn Asked)) (before : S) (r : RecordModel) (visits : List ℕ) (now : S)
    → Playing hears b.codes b.atoms entries draw before [] r visits now → HouseholdLaw hears b entries draw before now r visits
over hears b entries draw before r visits now p =
    let Whole : List Event → Type 0 = λ fs. Agree b.codes b.atoms (run b.codes entries [] draw) fs in
    record {
      told = (p.so_far, (p.events, subst Whole (append-nil p.so_far) (p.agree [] tt)));
      counts = (p.of_codes, p.of_atoms);
      keeps = sym (length-take-le r.kept visits p.within) ∙ ap length p.keeps;
      begins = p.keeps;
    }
