-- What the check of a history says.
use Rattle.std.specs.Prelude.{Option}
use Rattle.std.proofs.Common.{◌≡◌, ℕ, suc, ◌<◌, ◌≤◌, true, ltb, List, length, Ok, sym, ap, ◌∙◌, ⊎_elim, arith}
use Rattle.std.proofs.lemmas.Bool.{cases_lt, ltb-true, lt-ltb, eqb-true, and_parts}
use Rattle.std.proofs.lemmas.Bool.Decides.{nat_tests}
use Rattle.theory.specs.Meaning.{Meaning, next_exists}
use Rattle.ltlf.specs.Contents.{Contents, Proper}
use Rattle.ltlf.specs.Nodes.{known}
use Rattle.ltlf.specs.declared.node.Node.{Node}
use Rattle.judge.specs.Formulas.{node_at}
use Rattle.judge.specs.Histories.{visit, after}
use Rattle.judge.specs.Judging.{all_codes, same_counts, judge_check}
use Rattle.judge.proofs.Tests.{pass_at}
use Rattle.judge.proofs.Histories.{after_code, after_last}

module _ (m : Meaning) (b : Contents) (σ : List ℕ) (passed : judge_check m b σ ≡ Ok tt) where
  parts : (0 < length σ) × (b.codes ≡ m.codes) × (b.atoms ≡ m.atoms) × (all_codes m.codes σ ≡ true)
  parts = grind (arith, nat_tests)

  pub some_visit : 0 < length σ
  some_visit = parts.0

  pub visit_exists : (i : ℕ) → i < length σ → visit σ i < m.codes
  visit_exists i h = ltb-true _ _ (pass_at (λ c. ltb c m.codes) σ 0 i h parts.3)

  pub after_exists : (i : ℕ) (next : Option ℕ) → i < length σ → next ≡ after σ i → next_exists m.codes next ≡ true
  after_exists i next h is =
      ⊎_elim
      (λ (more : suc i < length σ). ap (next_exists m.codes) (is ∙ after_code σ i more) ∙ lt-ltb _ _ (visit_exists (suc i) more))
      (λ (last : length σ ≤ suc i). ap (next_exists m.codes) (is ∙ after_last σ i last))
      (cases_lt (suc i) (length σ))

  pub same_checked : same_counts m b ≡ true
  same_checked = grind (arith, nat_tests)

pub node_known : (m : Meaning) (b : Contents) → same_counts m b ≡ true → Proper b → (f : ℕ) (node : Node) → f < length b.nodes → node ≡ node_at b f
    → known m.atoms f node ≡ true
node_known m b same pr f node h is =
    let atoms : b.atoms ≡ m.atoms = eqb-true _ _ (and_parts _ _ same).1 in
    ap (λ n. known m.atoms f n) is ∙ ap (λ a. known a f (node_at b f)) (sym atoms) ∙ pr.before f h
