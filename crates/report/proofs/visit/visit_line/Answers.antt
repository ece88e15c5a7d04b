use Rattle.std.proofs.Common.{◌≡◌, ℕ, ◌-◌, ◌+◌, List, [], ◌∷◌, ◌++◌, take, drop, set, sym, ap₂, ◌∙◌, arith}
use Rattle.theory.specs.Print.{spaced}
use Rattle.report.proofs.Visits.{shown, line_put, visit_is}
use Rattle.report.proofs.visit.visit_line.Goals as goal

pub returns-clause-after : goal.returns-clause-after
returns-clause-after g c =
    let bytes = c.args.out.now in
    let count = (g.T.Theory.meaning c.args.theory.now).codes in
    let text = spaced (g.T.Printable.values c.args.theory.now c.args.code) in
    let n = c.in_ok-length.length in
    let shows = shown count c.args.code text c.print.new.out n c.print.auto.out c.in_ok-length.ensures.answer c.in_ok-length.ensures.after in
    let m : ℕ = 2 + n - 2 in
    let word : c.copy_from_slice.new.self ≡ 110 ∷ 32 ∷ [] = c.copy_from_slice.ensures.after in
    let piece : c.copy_from_slice-2.new.self ≡ text = c.copy_from_slice-2.ensures.after ∙ shows.values in
    ap₂ (λ (xs ys : List ℕ). set (take 2 (xs ++ drop 2 bytes) ++ (ys ++ drop m (drop 2 (xs ++ drop 2 bytes)))) (2 + n) 10) word piece
    ∙ line_put bytes text n m shows.long (omega arith) (omega (arith, shows.few))
    ∙ sym (visit_is count c.args.code bytes text shows.exists (omega arith))
