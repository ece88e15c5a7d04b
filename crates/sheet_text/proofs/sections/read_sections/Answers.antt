use Rattle.std.proofs.Common.{rules}
use Rattle.ltlf.specs.Contents.{draft_contents}
use Rattle.sheet_text.proofs.Parts.{wrong_rule, wrong_note, all_right}
use Rattle.sheet_text.proofs.sections.read_sections.Goals as goal

pub returns-in_err-map_err-2 : goal.returns-in_err-map_err-2
returns-in_err-map_err-2 g c =
    wrong_rule c.args.bytes.now c.args.own c.args.trailer.rules c.args.trailer.notes c.args.visits.now (g.T.Filled.held c.args.theory.now) (g.T.Filled.held c.read_opening.new.theory)
    c.between-opening.result.text.now c.between-opening.result.next c.between-opening.ensures.text c.between-opening.ensures.next c.read_opening.result (search rules) c.read_opening.ensures
    (g.T.Theory.meaning c.read_opening.new.theory) (g.met.T.Filled.meant c.read_opening.new.theory) (draft_contents c.start.new.draft) (draft_contents c.read_rules.new.draft) c.start.ensures
    c.between-rules.result.text.now c.between-rules.result.next c.between-rules.ensures.text c.between-rules.ensures.next c.read_rules.result c.read_rules.ensures
    c.from_residual-in_err-map_err-2.result _ _ (search rules)

pub returns-in_err-notes : goal.returns-in_err-notes
returns-in_err-notes g c =
    wrong_note c.args.bytes.now c.args.own c.args.trailer.rules c.args.trailer.notes c.args.visits.now (g.T.Filled.held c.args.theory.now) (g.T.Filled.held c.read_opening.new.theory)
    c.between-opening.result.text.now c.between-opening.result.next c.between-opening.ensures.text c.between-opening.ensures.next c.read_opening.result (search rules) c.read_opening.ensures
    (g.T.Theory.meaning c.read_opening.new.theory) (g.met.T.Filled.meant c.read_opening.new.theory) (draft_contents c.start.new.draft) (draft_contents c.read_rules.new.draft) c.start.ensures
    c.between-rules.result.text.now c.between-rules.result.next c.between-rules.ensures.text c.between-rules.ensures.next c.read_rules.result c.read_rules.ensures (search rules)
    c.between-notes.result.text.now c.read_notes.new.visits c.between-notes.result.next c.between-notes.ensures.text c.between-notes.ensures.next c.read_notes.result c.read_notes.ensures
    c.from_residual-in_err-notes.result _ _ (search rules)

pub returns : goal.returns
returns g c =
    all_right c.args.bytes.now c.args.own c.args.trailer.rules c.args.trailer.notes c.args.visits.now (g.T.Filled.held c.args.theory.now) (g.T.Filled.held c.read_opening.new.theory)
    c.between-opening.result.text.now c.between-opening.result.next c.between-opening.ensures.text c.between-opening.ensures.next c.read_opening.result (search rules) c.read_opening.ensures
    (g.T.Theory.meaning c.read_opening.new.theory) (g.met.T.Filled.meant c.read_opening.new.theory) (draft_contents c.start.new.draft) (draft_contents c.read_rules.new.draft) c.start.ensures
    c.between-rules.result.text.now c.between-rules.result.next c.between-rules.ensures.text c.between-rules.ensures.next c.read_rules.result c.read_rules.ensures (search rules)
    c.between-notes.result.text.now c.read_notes.new.visits c.between-notes.result.next c.between-notes.ensures.text c.between-notes.ensures.next c.read_notes.result c.read_notes.ensures
    c.heading.result c.in_ok-notes.notes c.heading.ensures (search rules)
