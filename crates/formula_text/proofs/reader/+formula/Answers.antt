use Rattle.std.proofs.Common.{◌-◌, length, take, drop, refl, ap, ◌∙◌, rules}
use Rattle.ltlf.specs.Contents.{draft_contents}
use Rattle.formula_text.specs.Formulas.{put_read, formula_read, operand}
use Rattle.formula_text.specs.Operators.{constant_node}
use Rattle.formula_text.proofs.Readings.{too_deep, nothing_read, ran_none, ran, at_constant, not_space, not_inner, single_space, single_inner, single, left_none, right_space, right_inner, right, other}
use Rattle.formula_text.proofs.reader.+formula.Goals as goal

pub returns-then-depth-eq0 : goal.returns-then-depth-eq0
returns-then-depth-eq0 t c = too_deep _ _ c.args.text.now _ (search rules)

pub returns-in_default : goal.returns-in_default
returns-in_default t c = nothing_read _ _ c.args.text.now _ (search rules)

pub returns-in-Constant : goal.returns-in-Constant
returns-in-Constant t c = at_constant _ _ c.args.text.now _ (search rules) (search rules) _ _ _ c.in-Constant.ensures c.constant.ensures c.put_node.ensures

pub returns-in-Other : goal.returns-in-Other
returns-in-Other t c = other _ _ c.args.text.now _ (search rules) (search rules) _ c.in-Other.ensures c.atom.ensures

pub returns-in_err-inner-in-Not : goal.returns-in_err-inner-in-Not
returns-in_err-inner-in-Not t c = rw c.from_residual.ensures (not_space _ _ c.args.text.now _ (search rules) (search rules) c.in-Not.ensures c.in_err-inner-in-Not.ensures)

pub returns-in_ok-inner-in-Not : goal.returns-in_ok-inner-in-Not
returns-in_ok-inner-in-Not t c = not_inner _ _ c.args.text.now _ (search rules) (search rules) _ _ c.in-Not.ensures c.in_ok-inner-in-Not.ensures c.formula.ensures

pub returns-in_err-inner-in-Single : goal.returns-in_err-inner-in-Single
returns-in_err-inner-in-Single t c = rw c.from_residual-in_err-inner-in-Single.ensures (single_space _ _ c.args.text.now _ (search rules) (search rules) _ c.in-Single.ensures c.in_err-inner-in-Single.ensures)

pub returns-in_err-operand-in-Single : goal.returns-in_err-operand-in-Single
returns-in_err-operand-in-Single t c = rw c.from_residual-in_err-operand-in-Single.ensures (single_inner _ _ c.args.text.now _ (search rules) (search rules) _ _ _ c.in-Single.ensures c.in_ok-inner-in-Single.ensures c.in_err-operand-in-Single.ensures)

pub returns-in_ok-operand-in-Single : goal.returns-in_ok-operand-in-Single
returns-in_ok-operand-in-Single t c = single _ _ c.args.text.now _ (search rules) (search rules) _ _ _ _ _ _ _ c.in-Single.ensures c.in_ok-inner-in-Single.ensures c.in_ok-operand-in-Single.ensures c.one_node.ensures c.put_node-in-Single.ensures

pub returns-in_err-left-in-Fixed : goal.returns-in_err-left-in-Fixed
returns-in_err-left-in-Fixed t c = rw c.from_residual-in_err-left-in-Fixed.ensures (left_none _ _ c.args.text.now _ (search rules) (search rules) c.in-Fixed.op _ (put_read (constant_node c.in-Fixed.value c.args.negated) (take (length c.args.text.now - 1) (drop 1 c.args.text.now)) (draft_contents c.args.draft.now)) c.in-Fixed.ensures refl _ (c.in_err-left-in-Fixed.ensures ∙ (ap (λ n. put_read n (take (length c.args.text.now - 1) (drop 1 c.args.text.now)) (draft_contents c.args.draft.now)) c.constant-in-Fixed.ensures)))

pub returns-in_err-inner-in-Fixed : goal.returns-in_err-inner-in-Fixed
returns-in_err-inner-in-Fixed t c = rw c.from_residual-in_err-inner-in-Fixed.ensures (right_space _ _ c.args.text.now _ (search rules) (search rules) c.in-Fixed.op _ (put_read (constant_node c.in-Fixed.value c.args.negated) (take (length c.args.text.now - 1) (drop 1 c.args.text.now)) (draft_contents c.args.draft.now)) c.in-Fixed.ensures refl _ _ _ (c.in_ok-left-in-Fixed.ensures ∙ (ap (λ n. put_read n (take (length c.args.text.now - 1) (drop 1 c.args.text.now)) (draft_contents c.args.draft.now)) c.constant-in-Fixed.ensures)) c.in_err-inner-in-Fixed.ensures)

pub returns-in_err-right-in-Fixed : goal.returns-in_err-right-in-Fixed
returns-in_err-right-in-Fixed t c = rw c.from_residual-in_err-right-in-Fixed.ensures (right_inner _ _ c.args.text.now _ (search rules) (search rules) c.in-Fixed.op _ (put_read (constant_node c.in-Fixed.value c.args.negated) (take (length c.args.text.now - 1) (drop 1 c.args.text.now)) (draft_contents c.args.draft.now)) c.in-Fixed.ensures refl _ _ _ (c.in_ok-left-in-Fixed.ensures ∙ (ap (λ n. put_read n (take (length c.args.text.now - 1) (drop 1 c.args.text.now)) (draft_contents c.args.draft.now)) c.constant-in-Fixed.ensures)) _ _ c.in_ok-inner-in-Fixed.ensures c.in_err-right-in-Fixed.ensures)

pub returns-in_ok-right-in-Fixed : goal.returns-in_ok-right-in-Fixed
returns-in_ok-right-in-Fixed t c = right _ _ c.args.text.now _ (search rules) (search rules) c.in-Fixed.op _ (put_read (constant_node c.in-Fixed.value c.args.negated) (take (length c.args.text.now - 1) (drop 1 c.args.text.now)) (draft_contents c.args.draft.now)) c.in-Fixed.ensures refl _ _ _ (c.in_ok-left-in-Fixed.ensures ∙ (ap (λ n. put_read n (take (length c.args.text.now - 1) (drop 1 c.args.text.now)) (draft_contents c.args.draft.now)) c.constant-in-Fixed.ensures)) _ _ _ _ _ _ c.in_ok-inner-in-Fixed.ensures c.in_ok-right-in-Fixed.ensures c.two_node-node.ensures c.put_node-in-Fixed-2.ensures

pub returns-in_err-first_inner-in-Pair : goal.returns-in_err-first_inner-in-Pair
returns-in_err-first_inner-in-Pair t c = rw c.from_residual-in_err-first_inner-in-Pair.ensures (left_none _ _ c.args.text.now _ (search rules) (search rules) c.in-Pair.op _ (operand (formula_read (c.args.depth - 1)) c.args.negated (take (length c.args.text.now - 1) (drop 1 c.args.text.now)) (draft_contents c.args.draft.now)) c.in-Pair.ensures refl _ (ran_none (formula_read (c.args.depth - 1)) c.args.negated (take (length c.args.text.now - 1) (drop 1 c.args.text.now)) (draft_contents c.args.draft.now) c.in_err-first_inner-in-Pair.ensures))

pub returns-in_err-left-in-Pair : goal.returns-in_err-left-in-Pair
returns-in_err-left-in-Pair t c = rw c.from_residual-in_err-left-in-Pair.ensures (left_none _ _ c.args.text.now _ (search rules) (search rules) c.in-Pair.op _ (operand (formula_read (c.args.depth - 1)) c.args.negated (take (length c.args.text.now - 1) (drop 1 c.args.text.now)) (draft_contents c.args.draft.now)) c.in-Pair.ensures refl _ (ran (formula_read (c.args.depth - 1)) c.args.negated (take (length c.args.text.now - 1) (drop 1 c.args.text.now)) (draft_contents c.args.draft.now) _ _ c.in_ok-first_inner-in-Pair.ensures c.in_err-left-in-Pair.ensures))

pub returns-in_err-second_inner-in-Pair : goal.returns-in_err-second_inner-in-Pair
returns-in_err-second_inner-in-Pair t c = rw c.from_residual-in_err-second_inner-in-Pair.ensures (right_space _ _ c.args.text.now _ (search rules) (search rules) c.in-Pair.op _ (operand (formula_read (c.args.depth - 1)) c.args.negated (take (length c.args.text.now - 1) (drop 1 c.args.text.now)) (draft_contents c.args.draft.now)) c.in-Pair.ensures refl _ _ _ (ran (formula_read (c.args.depth - 1)) c.args.negated (take (length c.args.text.now - 1) (drop 1 c.args.text.now)) (draft_contents c.args.draft.now) _ _ c.in_ok-first_inner-in-Pair.ensures c.in_ok-left-in-Pair.ensures) c.in_err-second_inner-in-Pair.ensures)

pub returns-in_err-right-in-Pair : goal.returns-in_err-right-in-Pair
returns-in_err-right-in-Pair t c = rw c.from_residual-in_err-right-in-Pair.ensures (right_inner _ _ c.args.text.now _ (search rules) (search rules) c.in-Pair.op _ (operand (formula_read (c.args.depth - 1)) c.args.negated (take (length c.args.text.now - 1) (drop 1 c.args.text.now)) (draft_contents c.args.draft.now)) c.in-Pair.ensures refl _ _ _ (ran (formula_read (c.args.depth - 1)) c.args.negated (take (length c.args.text.now - 1) (drop 1 c.args.text.now)) (draft_contents c.args.draft.now) _ _ c.in_ok-first_inner-in-Pair.ensures c.in_ok-left-in-Pair.ensures) _ _ c.in_ok-second_inner-in-Pair.ensures c.in_err-right-in-Pair.ensures)

pub returns-in_ok-right-in-Pair : goal.returns-in_ok-right-in-Pair
returns-in_ok-right-in-Pair t c = right _ _ c.args.text.now _ (search rules) (search rules) c.in-Pair.op _ (operand (formula_read (c.args.depth - 1)) c.args.negated (take (length c.args.text.now - 1) (drop 1 c.args.text.now)) (draft_contents c.args.draft.now)) c.in-Pair.ensures refl _ _ _ (ran (formula_read (c.args.depth - 1)) c.args.negated (take (length c.args.text.now - 1) (drop 1 c.args.text.now)) (draft_contents c.args.draft.now) _ _ c.in_ok-first_inner-in-Pair.ensures c.in_ok-left-in-Pair.ensures) _ _ _ _ _ _ c.in_ok-second_inner-in-Pair.ensures c.in_ok-right-in-Pair.ensures c.two_node-node-in-Pair.ensures c.put_node-in-Pair.ensures
