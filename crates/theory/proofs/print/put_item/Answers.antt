use Rattle.std.proofs.Common.{List, ℕ, length, ap, ◌∙◌, rules}
use Rattle.writer.specs.Puts.{put_answer, put_leaves}
use Rattle.theory.proofs.Texts.{first_digit, later_digit, first_item, later_item, minus_text}
use Rattle.theory.proofs.print.put_item.Goals as goal

pub returns-then-at-eq0 : goal.returns-then-at-eq0
returns-then-at-eq0 c =
    let is = first_digit c.args.at c.args.value c.ranges.value (search rules) (search rules) c.if-at-eq0.true in
    record {
      answer = c.put_text.ensures.answer ∙ ap (λ (text : List ℕ). put_answer (length c.args.out.now) c.args.at text) is;
      after = c.put_text.ensures.after ∙ ap (λ (text : List ℕ). put_leaves c.args.out.now c.args.at text) is;
    }

pub returns-else-at-eq0 : goal.returns-else-at-eq0
returns-else-at-eq0 c =
    let is = later_digit c.args.at c.args.value c.ranges.value (search rules) (search rules) c.if-at-eq0.false in
    record {
      answer = c.put_text-else-at-eq0.ensures.answer ∙ ap (λ (text : List ℕ). put_answer (length c.args.out.now) c.args.at text) is;
      after = c.put_text-else-at-eq0.ensures.after ∙ ap (λ (text : List ℕ). put_leaves c.args.out.now c.args.at text) is;
    }

pub returns-then-at-eq0-2 : goal.returns-then-at-eq0-2
returns-then-at-eq0-2 c =
    let minus = minus_text c.args.value c.ranges.value (search rules) (search rules) c.unsigned_abs.result c.unsigned_abs.ensures.value in
    let is = first_item c.args.at c.args.value _ c.if-at-eq0-2.true minus in
    record {
      answer = c.put_text-then-at-eq0-2.ensures.answer ∙ ap (λ (text : List ℕ). put_answer (length c.args.out.now) c.args.at text) is;
      after = c.put_text-then-at-eq0-2.ensures.after ∙ ap (λ (text : List ℕ). put_leaves c.args.out.now c.args.at text) is;
    }

pub returns-else-at-eq0-2 : goal.returns-else-at-eq0-2
returns-else-at-eq0-2 c =
    let minus = minus_text c.args.value c.ranges.value (search rules) (search rules) c.unsigned_abs.result c.unsigned_abs.ensures.value in
    let is = later_item c.args.at c.args.value _ c.if-at-eq0-2.false minus in
    record {
      answer = c.put_text-else-at-eq0-2.ensures.answer ∙ ap (λ (text : List ℕ). put_answer (length c.args.out.now) c.args.at text) is;
      after = c.put_text-else-at-eq0-2.ensures.after ∙ ap (λ (text : List ℕ). put_leaves c.args.out.now c.args.at text) is;
    }
