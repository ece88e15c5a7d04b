-- The judgement from the marks at the first visit.
use Rattle.std.proofs.Common.{◌≡◌, ℕ, suc, ◌<◌, true, false, ◌⊎◌, List, [], ◌∷◌, length, get_or, Ok, Result, sym, refl, subst, inl, inr, ⊎_elim, arith}
use Rattle.std.proofs.lemmas.Bool.{both_ways}
use Rattle.refusal.specs.declared.Refusal.{Refusal}
use Rattle.theory.specs.Meaning.{Meaning}
use Rattle.ltlf.specs.Contents.{Contents, Proper}
use Rattle.judge.specs.declared.judgement.Judgement.{Judgement}
use Rattle.judge.specs.declared.judgement.Judgement.TheVariants.{Met, Unmet}
use Rattle.judge.specs.Formulas.{formula, Among}
use Rattle.judge.specs.Holding.{Holds, Meets, Fails, MeetsOrFails}
use Rattle.judge.specs.Judging.{all_pass, judge_check, Judged}
use Rattle.judge.specs.Marks.{marked, Marks}
use Rattle.judge.proofs.Deciding.{holds?}
use Rattle.judge.proofs.Tests.{pass_each, pass_not}

-- a history does not both meet and fail a book
pub not_both : (m : Meaning) (b : Contents) (σ : List ℕ) → Meets m b σ → Fails m b σ → ⊥
not_both m b σ meets (f, rule, fails) = fails (meets f rule)

each_or_some_not : (ns : List ℕ) (P : ℕ → Type 0) → ((f : ℕ) → Dec (P f))
    → ((f : ℕ) → Among f ns → P f) ⊎ ((f : ℕ) × Among f ns × (P f → ⊥))
each_or_some_not [] P P? = inl (λ f w. absurd w)
each_or_some_not (n ∷ ns) P P? = go (P? n) (each_or_some_not ns P P?)
  where
    go : Dec (P n) → ((f : ℕ) → Among f ns → P f) ⊎ ((f : ℕ) × Among f ns × (P f → ⊥))
        → ((f : ℕ) → Among f (n ∷ ns) → P f) ⊎ ((f : ℕ) × Among f (n ∷ ns) × (P f → ⊥))
    go (no fails) rest = inr (n, inl refl, fails)
    go (yes holds) (inl all) = inl (λ f w. ⊎_elim (λ is. subst P (sym is) holds) (all f) w)
    go (yes holds) (inr (f, w, fails)) = inr (f, inr w, fails)

pub meets_or_fails : MeetsOrFails
meets_or_fails m b σ = (each_or_some_not b.rules (λ f. Holds m σ 0 (formula b f)) (λ f. holds? m σ (formula b f) 0), not_both m b σ)

among_all : (ns : List ℕ) (P : ℕ → Type 0) → ((i : ℕ) → i < length ns → P (get_or ns i 0)) → (f : ℕ) → Among f ns → P f
among_all [] P at f w = absurd w
among_all (n ∷ ns) P at f (inl is) = subst P (sym is) (at 0 (omega arith))
among_all (n ∷ ns) P at f (inr w) = among_all ns P (λ i h. at (suc i) (omega arith)) f w

met_not_unmet : ◌≡◌ {A = Result Judgement Refusal} (Ok Met) (Ok Unmet) → ⊥
met_not_unmet e = let z : ◌≡◌ {A = ℕ} 0 1 = cc in omega arith

module _ (m : Meaning) (b : Contents) (pr : Proper b) (σ : List ℕ) (passed : judge_check m b σ ≡ Ok tt)
    (marks : ℕ) (right : Marks m b σ 0 marks) where
  put : (f : ℕ) → Among f b.rules → f < length b.nodes
  put = among_all b.rules (λ f. f < length b.nodes) pr.were_put

  pub judged_met : all_pass (marked marks) b.rules ≡ true → Judged m b σ (Ok Met)
  judged_met e =
      let meets : Meets m b σ = λ f rule. (right f (put f rule)).0 (pass_each (marked marks) b.rules e f rule) in
      record {
        refused = sym passed;
        met = λ _. ((λ _. meets), (λ _. refl));
        unmet = λ _. ((λ w. absurd (met_not_unmet w)), (λ fails. absurd (not_both m b σ meets fails)));
      }

  pub judged_unmet : all_pass (marked marks) b.rules ≡ false → Judged m b σ (Ok Unmet)
  judged_unmet e =
      let w = pass_not (marked marks) b.rules e in
      let fails : Fails m b σ = (w.0, w.1, λ h. both_ways _ w.2 ((right w.0 (put w.0 w.1)).1 h)) in
      record {
        refused = sym passed;
        met = λ _. ((λ w. absurd (met_not_unmet (sym w))), (λ meets. absurd (not_both m b σ meets fails)));
        unmet = λ _. ((λ _. fails), (λ _. refl));
      }
