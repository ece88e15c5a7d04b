-- What record, book, theory and visit list are checked for, beside what the judge and the search check.
use Rattle.std.proofs.Common.{◌≡◌, ℕ, ◌≤◌, Bool, true, false, cond, not, eqb, ltb, List, length, Some, None, Ok, Err, Option, Result, sym, refl, ap, ◌∙◌, arith}
use Rattle.std.proofs.lemmas.List.{length-take-le}
use Rattle.std.proofs.lemmas.Bool.{and_parts, le-ltb, ltb-true, not-false}
use Rattle.refusal.specs.declared.Refusal.{Refusal}
use Rattle.refusal.specs.declared.Refusal.TheVariants.{CountsDiffer, BadVisitList, BadBuffer}
use Rattle.refusal.specs.Numbers.{number_of}
use Rattle.theory.specs.Meaning.{Meaning, unless_refused}
use Rattle.ltlf.specs.Contents.{Contents, Proper}
use Rattle.judge.specs.declared.judgement.Judgement.{Judgement}
use Rattle.judge.specs.Judging.{all_codes, same_counts, judge_check, Judged}
use Rattle.judge.proofs.Tests.{pass_at}
use Rattle.tableau.specs.Continuations.{WellPosed}
use Rattle.tableau.specs.Search.{answer}
use Rattle.search.specs.Outcomes.{outcome_of}
use Rattle.search.specs.Calls.{search_check, search_answer}
use Rattle.record.specs.Calls.{RecordModel}
use Rattle.household.specs.Calls.{kept_visits, counts_agree, stands_check, Stood, question_check, question_of, question_answer}

-- a test that is not met is passed by
pub pass_by : {X : Type 0} (t : Bool) (x y : X) → t ≡ false → cond t x y ≡ y
pass_by t x y h = ap (λ (b : Bool). cond b x y) h

pub pass_not : {X : Type 0} (t : Bool) (x y : X) → t ≡ true → cond (not t) x y ≡ y
pass_not t x y h = ap (λ (b : Bool). cond (not b) x y) h

-- the number of a refusal, if there is one
abbrev pub number_if : Result (Unit {0}) Refusal → Option ℕ
number_if (Ok u) = None
number_if (Err e) = Some (number_of e)

-- an answer is the check's refusal, or the value of a call that is accepted
module _ {X : Type 0} (x : X) where
  pub refused_is : (c : Result (Unit {0}) Refusal) (e : Refusal) → Err e ≡ unless_refused c x → number_if c ≡ Some (number_of e)
  refused_is (Ok u) e h = let z : ◌≡◌ {A = ℕ} 0 1 = cc in absurd (omega arith)
  refused_is (Err f) e h = let same : e ≡ f = cc in ap (λ (y : Refusal). Some (number_of y)) (sym same)

  pub accepted_is : (c : Result (Unit {0}) Refusal) (y : X) → Ok y ≡ unless_refused c x → (c ≡ Ok tt) × (y ≡ x)
  accepted_is (Ok u) y h = (refl, cc)
  accepted_is (Err f) y h = let z : ◌≡◌ {A = ℕ} 0 1 = cc in absurd (omega arith)

-- a check that accepts has passed its third test
third : (s t u : Bool) (d e f : Refusal) (rest : Result (Unit {0}) Refusal) → cond s (Err d) (cond t (Err e) (cond u (Err f) rest)) ≡ Ok tt → u ≡ false
third true t u d e f rest h = let z : ◌≡◌ {A = ℕ} 0 1 = cc in absurd (omega arith)
third false true u d e f rest h = let z : ◌≡◌ {A = ℕ} 0 1 = cc in absurd (omega arith)
third false false true d e f rest h = let z : ◌≡◌ {A = ℕ} 0 1 = cc in absurd (omega arith)
third false false false d e f rest h = refl

-- a question that is not refused is well posed
pub well_posed : (r : RecordModel) (b : Contents) (m : Meaning) (visits : List ℕ) (rows entries : ℕ) → Proper b
    → question_check r b m visits rows entries ≡ Ok tt → WellPosed (question_of r b m visits)
well_posed r b m visits rows entries proper passed =
    let rest : Result (Unit {0}) Refusal = cond (ltb 65536 rows) (Err BadBuffer) (cond (ltb entries rows) (Err BadBuffer) (Ok tt)) in
    let codes =
    third (not (counts_agree r b m)) (ltb (length visits) r.kept) (not (all_codes m.codes (kept_visits r visits))) CountsDiffer BadVisitList BadVisitList rest passed in
    record {
      proper = proper;
      kept_codes = λ i h. ltb-true _ _ (pass_at (λ c. ltb c m.codes) (kept_visits r visits) 0 i h (not-false _ codes));
    }

module _ (r : RecordModel) (b : Contents) (m : Meaning) (visits : List ℕ) (agree : counts_agree r b m ≡ true) (within : r.kept ≤ length visits) where
  same : same_counts m b ≡ true
  same = (and_parts _ _ agree).1

  kept_length : length (kept_visits r visits) ≡ r.kept
  kept_length = length-take-le r.kept visits within

  long : ltb (length visits) r.kept ≡ false
  long = le-ltb _ _ within

  pub stands_judged : eqb r.kept 0 ≡ false → judge_check m b (kept_visits r visits) ≡ stands_check r b m visits
  stands_judged some =
      pass_by _ _ _ (ap (λ (n : ℕ). eqb n 0) kept_length ∙ some) ∙ pass_not _ _ _ same
      ∙ sym (pass_by _ _ _ some ∙ pass_not _ _ _ agree ∙ pass_by _ _ _ long)

  pub stood : eqb r.kept 0 ≡ false → (a : Result Judgement Refusal) → Judged m b (kept_visits r visits) a → Stood r b m visits a
  stood some a j =
      let is = stands_judged some in
      record {
        refused = j.refused ∙ is;
        met = λ h. j.met (is ∙ h);
        unmet = λ h. j.unmet (is ∙ h);
      }

  pub question_searched : r.kept ≤ 1024 → b.atoms ≤ 32 → (rows entries : ℕ) → search_check m b (kept_visits r visits) rows entries ≡ question_check r b m visits rows entries
  question_searched few told rows entries =
      pass_by _ _ _ (le-ltb 32 b.atoms told) ∙ pass_not _ _ _ same ∙ pass_by _ _ _ (le-ltb 65536 (length (kept_visits r visits)) (omega (arith, kept_length)))
      ∙ sym (pass_not _ _ _ agree ∙ pass_by _ _ _ long)

  pub question_answered : r.kept ≤ 1024 → b.atoms ≤ 32 → (rows entries : ℕ) → search_answer m b (kept_visits r visits) rows entries ≡ question_answer r b m visits rows entries
  question_answered few told rows entries =
      ap (λ (c : Result (Unit {0}) Refusal). unless_refused c (outcome_of (answer (question_of r b m visits) rows))) (question_searched few told rows entries)
