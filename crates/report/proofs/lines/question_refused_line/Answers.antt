use Rattle.std.proofs.Common.{ℕ, [], ◌∷◌, codes, ap, ◌∙◌}
use Rattle.report.specs.Lines.{line_text, line_leaves}
use Rattle.report.proofs.lines.question_refused_line.Goals as goal

pub returns-clause-after : goal.returns-clause-after
returns-clause-after c =
    c.write_line.ensures.after ∙ ap (λ (n : ℕ). line_leaves c.args.out.now (line_text (codes "question refused") (n ∷ []))) (c.from.ensures ∙ c.number.ensures)
