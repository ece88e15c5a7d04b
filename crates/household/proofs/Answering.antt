-- A question of a draw: by which number it is refused, where the visit list holds the kept visits.
use Rattle.std.proofs.Common.{◌≡◌, ℕ, ◌≤◌, Bool, true, false, cond, not, ltb, List, length, Some, None, Ok, Err, Option, Result, sym, refl, ap, ◌∙◌}
use Rattle.std.proofs.lemmas.Bool.{and_parts, le-ltb, eqb-true}
use Rattle.intern.specs.declared.cell.Cell.{Cell}
use Rattle.refusal.specs.declared.Refusal.{Refusal}
use Rattle.refusal.specs.declared.Refusal.TheVariants.{CountsDiffer, BadVisitList, BadBuffer}
use Rattle.refusal.specs.Numbers.{number_of}
use Rattle.theory.specs.Meaning.{Meaning}
use Rattle.ltlf.specs.Contents.{Contents}
use Rattle.judge.specs.Judging.{all_codes}
use Rattle.tableau.specs.Search.{answer}
use Rattle.search.specs.declared.row.Row.{Row}
use Rattle.search.specs.declared.outcome.Outcome.{Outcome}
use Rattle.search.specs.Outcomes.{outcome_of}
use Rattle.record.specs.Calls.{RecordModel}
use Rattle.household.specs.Calls.{kept_visits, counts_agree, question_check, question_of, question_answer}
use Rattle.household.specs.Questions.{refused_by, Means, Answers}
use Rattle.household.proofs.Checks.{pass_by, pass_not, number_if, refused_is, accepted_is}

number_cond : (t : Bool) (e : Refusal) (x : Result (Unit {0}) Refusal) → number_if (cond t (Err e) x) ≡ cond t (Some (number_of e)) (number_if x)
number_cond true e x = refl
number_cond false e x = refl

module _ (r : RecordModel) (b : Contents) (m : Meaning) (visits : List ℕ) (within : r.kept ≤ length visits)
    (sound : all_codes r.codes (kept_visits r visits) ≡ true) (rows entries : ℕ) where
  abbrev buffers : Result (Unit {0}) Refusal
  buffers = cond (ltb 65536 rows) (Err BadBuffer) (cond (ltb entries rows) (Err BadBuffer) (Ok tt))

  abbrev after_counts : Result (Unit {0}) Refusal
  after_counts =
      cond (ltb (length visits) r.kept) (Err BadVisitList) (cond (not (all_codes m.codes (kept_visits r visits))) (Err BadVisitList) buffers)

  same_codes : counts_agree r b m ≡ true → r.codes ≡ m.codes
  same_codes agree =
      let both = and_parts _ _ agree in
      eqb-true _ _ (and_parts _ _ both.0).0 ∙ eqb-true _ _ (and_parts _ _ both.1).0

  -- the visit list holds the kept visits, and they are codes
  list_whole : counts_agree r b m ≡ true → after_counts ≡ buffers
  list_whole agree =
      pass_by _ _ _ (le-ltb _ _ within) ∙ pass_not _ _ _ (ap (λ (n : ℕ). all_codes n (kept_visits r visits)) (sym (same_codes agree)) ∙ sound)

  abbrev buffer_number : Option ℕ
  buffer_number = cond (ltb 65536 rows) (Some 9) (cond (ltb entries rows) (Some 9) None)

  number_buffers : number_if buffers ≡ buffer_number
  number_buffers =
      number_cond (ltb 65536 rows) BadBuffer (cond (ltb entries rows) (Err BadBuffer) (Ok tt))
      ∙ ap (cond (ltb 65536 rows) (Some 9)) (number_cond (ltb entries rows) BadBuffer (Ok tt))

  number_by : (t : Bool) → counts_agree r b m ≡ t → number_if (cond (not t) (Err CountsDiffer) after_counts) ≡ cond (not t) (Some 7) buffer_number
  number_by true e = ap number_if (list_whole e) ∙ number_buffers
  number_by false e = refl

  -- the check refuses by the number that counts, rows and entries have
  pub checked_number : number_if (question_check r b m visits rows entries) ≡ refused_by r.codes r.atoms (record { book = b; theory = m; rows = rows; entries = entries })
  checked_number = number_by (counts_agree r b m) refl

-- what the call says of a question is what the law says of it
pub answers_law : (r : RecordModel) (b : Contents) (m : Meaning) (visits : List ℕ) → r.kept ≤ length visits → all_codes r.codes (kept_visits r visits) ≡ true
    → (entry exit : List (Cell Row)) (before after : List ℕ) (a : Result Outcome Refusal)
    → a ≡ question_answer r b m visits (length entry) (length before) → Means (question_of r b m visits) (length entry) a exit after
    → Answers r.codes r.atoms (record { book = b; theory = m; rows = length entry; entries = length before }) (kept_visits r visits) a exit after
answers_law r b m visits within sound entry exit before after (Ok o) is means =
    let check = question_check r b m visits (length entry) (length before) in
    let passed = accepted_is (outcome_of (answer (question_of r b m visits) (length entry))) check o is in
    (sym (checked_number r b m visits within sound (length entry) (length before)) ∙ ap number_if passed.0, means)
answers_law r b m visits within sound entry exit before after (Err e) is means =
    let check = question_check r b m visits (length entry) (length before) in
    sym (checked_number r b m visits within sound (length entry) (length before))
    ∙ refused_is (outcome_of (answer (question_of r b m visits) (length entry))) check e is
