use Rattle.std.proofs.Common.{ℕ, ◌≤◌, List, length, ℤ, arith, ap, ap₂, subst, ◌∙◌}
use Rattle.std.proofs.lemmas.List.{take_all}
use Rattle.theory.proofs.Texts.{short_answer, short_leaves}
use Rattle.theory.specs.Print.{spaced, values_answer, values_leave}
use Rattle.numbers.proofs.Shown.{values_short, values_count}
use Rattle.numbers.proofs.print.NumbersPrintable.print.Goals as goal

pub returns : goal.returns
returns c =
    let t = c.args.self.now in
    let values = c.values.result.items in
    let is = c.deref.ensures.0 ∙ c.values.ensures.are in
    let long : length values ≤ 8 = omega (arith, ap length c.values.ensures.are, values_count t c.args.code, t.grid.few) in
    let short = values_short values c.values.ensures.bounds (length values) (omega arith) in
    let whole = ap (λ (zs : List ℤ). length (spaced zs)) (take_all (length values) values (omega arith)) in
    let few : length (spaced values) ≤ 64 = omega (arith, short, whole, long) in
    let few-all = subst (λ (zs : List ℤ). length (spaced zs) ≤ 64) c.values.ensures.are few in
    record {
      answer = c.print_values.ensures.answer
          ∙ ap₂ (λ (codes : ℕ) (zs : List ℤ). values_answer codes c.args.code (length c.args.out.now) (spaced zs)) t.counted is
          ∙ short_answer _ c.args.code c.args.out.now _ few-all;
      after = c.print_values.ensures.after
          ∙ ap₂ (λ (codes : ℕ) (zs : List ℤ). values_leave codes c.args.code c.args.out.now (spaced zs)) t.counted is
          ∙ short_leaves _ c.args.code c.args.out.now _ few-all;
    }
