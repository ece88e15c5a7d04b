use Rattle.std.proofs.Common.{◌≡◌, false, ap, ◌∙◌, arith}
use Rattle.std.specs.Result.{result_unwrap_or}
use Rattle.search.proofs.Masking.{fact_read, shown_none, shown_next}
use Rattle.search.proofs.facts.truth_at.Goals as goal

pub loop-atom-init : goal.loop-atom-init
loop-atom-init g c = shown_none (g.T.Theory.meaning c.args.theory.now) c.args.code c.args.next

pub loop-atom-preserved : goal.loop-atom-preserved
loop-atom-preserved g c =
    let m = g.T.Theory.meaning c.args.theory.now in
    let atom = c.loop-atom.atom in
    let read : c.unwrap_or-held.result ≡ m.fact atom c.args.code c.args.next =
    c.unwrap_or-held.ensures ∙ ap (λ r. result_unwrap_or r false) c.holds.ensures
    ∙ fact_read m atom c.args.code c.args.next (omega (arith, c.requires.1.0)) c.requires.1.1.0 c.requires.1.1.1 in
    shown_next m c.args.code c.args.next _ _ _ _ (omega (arith, c.requires.1.0)) c.loop-atom.invariant read c.with_where-truth.ensures
