use Rattle.std.proofs.Common.{ℕ, [], ◌∷◌, Result, codes, sym, ap, ◌∙◌}
use Rattle.refusal.specs.declared.Refusal.{Refusal}
use Rattle.report.specs.Lines.{line_text, line_leaves, struck_text}
use Rattle.report.proofs.lines.struck_line.Goals as goal

pub returns-in-Err-clause-after : goal.returns-in-Err-clause-after
returns-in-Err-clause-after c =
    c.write_line-in-Err.ensures.after
    ∙ ap (λ (n : ℕ). line_leaves c.args.out.now (line_text (codes "strike refused") (n ∷ []))) (c.from.ensures ∙ c.number.ensures)
    ∙ sym (ap (λ (r : Result (Unit {0}) Refusal). line_leaves c.args.out.now (struck_text r)) c.in-Err.is)
