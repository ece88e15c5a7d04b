use Rattle.std.proofs.Common.{◌-◌, length, take, sym, arith, rules}
use Rattle.items.proofs.Scans.{start_kept, start_after}
use Rattle.items.proofs.lines.last_line.Goals as goal

pub returns-in-Some-clause-place : goal.returns-in-Some-clause-place
returns-in-Some-clause-place c =
    let start = start_after 0 0 (take (length c.args.text.now - 1) c.args.text.now) c.in-Some.end (search rules) (search rules) (search rules) in
    omega (arith, start)

pub returns-in-None-clause-place : goal.returns-in-None-clause-place
returns-in-None-clause-place c = sym (start_kept 0 0 (take (length c.args.text.now - 1) c.args.text.now) (search rules))
