-- A question that meets no refusal has its outcome.
use Rattle.std.proofs.Common.{◌≡◌, ℕ, ◌≤◌, Bool, true, false, cond, not, ◌&&◌, ltb, leb, List, length, take, Ok, Err, Result, ap, ◌∙◌, le-ltb}
use Rattle.std.proofs.lemmas.Bool.{leb-true, and_parts}
use Rattle.refusal.specs.declared.Refusal.{Refusal}
use Rattle.refusal.specs.declared.Refusal.TheVariants.{CountsDiffer, BadVisitList, BadBuffer}
use Rattle.theory.specs.Meaning.{Meaning, unless_refused}
use Rattle.ltlf.specs.Contents.{Contents}
use Rattle.judge.specs.Judging.{all_codes}
use Rattle.tableau.specs.Search.{answer}
use Rattle.search.specs.declared.outcome.Outcome.{Outcome}
use Rattle.search.specs.Outcomes.{outcome_of}
use Rattle.search.specs.Questions.{asked}
use Rattle.record.specs.Calls.{RecordModel}
use Rattle.household.specs.Calls.{counts_agree, question_check, question_answer}

-- the check of a question by its five tests
abbrev checked : (counts short codes many few : Bool) → Result (Unit {0}) Refusal
checked counts short codes many few =
    cond (not counts) (Err CountsDiffer)
    (cond short (Err BadVisitList)
    (cond (not codes) (Err BadVisitList)
    (cond many (Err BadBuffer)
    (cond few (Err BadBuffer)
    (Ok tt)))))

passes : (counts short codes many few : Bool) → counts ≡ true → short ≡ false → codes ≡ true → many ≡ false → few ≡ false →
    checked counts short codes many few ≡ Ok tt
passes counts short codes many few a b c d e =
    ap (λ (x : Bool). checked x short codes many few) a
    ∙ ap (λ (x : Bool). checked true x codes many few) b
    ∙ ap (λ (x : Bool). checked true false x many few) c
    ∙ ap (λ (x : Bool). checked true false true x few) d
    ∙ ap (λ (x : Bool). checked true false true false x) e

-- the tests that a question's own parts decide
abbrev pub posed : RecordModel → Contents → Meaning → (kept : List ℕ) → (rows : ℕ) → Bool
posed r b m kept rows = counts_agree r b m && (all_codes m.codes kept && leb rows 65536)

pub unrefused : (r : RecordModel) (b : Contents) (m : Meaning) (visits kept : List ℕ) (rows entries : ℕ) (o : Outcome) →
    take r.kept visits ≡ kept → r.kept ≤ length visits → rows ≤ entries → posed r b m kept rows ≡ true →
    outcome_of (answer (asked m b kept) rows) ≡ o → question_answer r b m visits rows entries ≡ Ok o
unrefused r b m visits kept rows entries o taken room fits right answered =
    ap (λ (u : Result (Unit {0}) Refusal). unless_refused u (outcome_of (answer (asked m b (take r.kept visits)) rows))) clear
    ∙ ap {B = Result Outcome Refusal} Ok (ap (λ (v : List ℕ). outcome_of (answer (asked m b v) rows)) taken ∙ answered)
  where
    clear : question_check r b m visits rows entries ≡ Ok tt
    clear =
        let p = and_parts (counts_agree r b m) (all_codes m.codes kept && leb rows 65536) right in
        let q = and_parts (all_codes m.codes kept) (leb rows 65536) p.1 in
        passes (counts_agree r b m) (ltb (length visits) r.kept) (all_codes m.codes (take r.kept visits)) (ltb 65536 rows) (ltb entries rows)
        p.0 (le-ltb (length visits) r.kept room) (ap (all_codes m.codes) taken ∙ q.0) (le-ltb 65536 rows (leb-true rows 65536 q.1))
        (le-ltb entries rows fits)
