use Rattle.std.proofs.Common.{◌+◌, take, drop, sym, ap, ◌∙◌, arith, rules}
use Rattle.std.proofs.lemmas.List.{take_rest, take_all, drop_all}
use Rattle.items.proofs.Scans.{first_end, no_end}
use Rattle.items.proofs.lines.split_line.Goals as goal

pub returns-in-Some : goal.returns-in-Some
returns-in-Some c =
    let text = c.args.text.now in
    let end = sym (first_end text c.in-Some.end (search rules) (search rules) (search rules)) in
    record { bytes = ap (λ n. take n text) end; rest = take_rest text _ ∙ ap (λ n. drop (n + 1) text) end }

pub returns-in-None : goal.returns-in-None
returns-in-None c =
    let text = c.args.text.now in
    let end = no_end text (search rules) in
    record { bytes = sym (take_all _ text (omega (arith, end))); rest = sym (drop_all _ text (omega (arith, end))) }
