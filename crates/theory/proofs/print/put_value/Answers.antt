use Rattle.std.proofs.Common.{List, ℕ, length, ap, ◌∙◌, rules}
use Rattle.writer.specs.Puts.{put_answer, put_leaves}
use Rattle.theory.proofs.Texts.{plain_two, minus_two}
use Rattle.theory.proofs.print.put_value.Goals as goal

pub returns-then-value-lt0 : goal.returns-then-value-lt0
returns-then-value-lt0 c =
    let is = minus_two c.args.value c.ranges.value _ c.unsigned_abs-magnitude.ensures.value (search rules) (search rules) c.if-value-lt0.true in
    record {
      answer = c.put_text.ensures.answer ∙ ap (λ (text : List ℕ). put_answer (length c.args.out.now) c.args.at text) is;
      after = c.put_text.ensures.after ∙ ap (λ (text : List ℕ). put_leaves c.args.out.now c.args.at text) is;
    }

pub returns-else-value-lt0 : goal.returns-else-value-lt0
returns-else-value-lt0 c =
    let is = plain_two c.args.value c.ranges.value _ c.unsigned_abs-magnitude.ensures.value (search rules) (search rules) c.if-value-lt0.false in
    record {
      answer = c.put_text-else-value-lt0.ensures.answer ∙ ap (λ (text : List ℕ). put_answer (length c.args.out.now) c.args.at text) is;
      after = c.put_text-else-value-lt0.ensures.after ∙ ap (λ (text : List ℕ). put_leaves c.args.out.now c.args.at text) is;
    }
