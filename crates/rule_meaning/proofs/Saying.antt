-- The formula that is put for a rule, or read from a text, says what the rule says.
use Rattle.std.proofs.Common.{◌≡◌, ℕ, false, sym, ap, subst}
use Rattle.ltlf.specs.Contents.{Contents, Proper}
use Rattle.judge.specs.Formulas.{Formula, formula}
use Rattle.judge.specs.Holding.{Holds}
use Rattle.formula_text.specs.Grammar.{Written}
use Rattle.formula_text.specs.Trees.{pushed, Stands}
use Rattle.formula_text.proofs.Accepting.{read_is_written}
use Rattle.formula_text.proofs.Standing.{built_stands}
use Rattle.rule_meaning.specs.Theorems.{Says, PutSaysWritten, ReadSaysWritten}
use Rattle.rule_meaning.proofs.Pushing.{tree_formula, stands_formula, right}
use Rattle.rule_meaning.proofs.Properness.{held, built_proper}

-- a number that stands for a rule says what the rule says
pub stands_says : (b : Contents) → Proper b → (w : Written) (k : ℕ) → Stands b.nodes (pushed false w) k → Says b k w
stands_says b pr w k h m σ i within =
    let is : formula b k ≡ tree_formula (pushed false w) = stands_formula b pr (pushed false w) k h in (
      λ holds. (right m σ w).to i within (subst (λ (φ : Formula). Holds m σ i φ) is holds),
      λ holds. subst (λ (φ : Formula). Holds m σ i φ) (sym is) ((right m σ w).from i within holds),
    )

pub put_says : PutSaysWritten
put_says w b after k pr e =
    let proper : Proper after = subst Proper (ap held e) (built_proper false w b pr) in
    (proper, stands_says after proper w k (built_stands false w b after k e).1)

pub read_says : ReadSaysWritten
read_says limit text b after k rest pr e =
    let a = read_is_written limit false text b after k rest e in
    let s = put_says a.formula b after k pr a.result in
    (s.0, record { rule = a.formula; written = a.written; deep = a.deep; below = a.below; says = s.1 })
