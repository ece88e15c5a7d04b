use Rattle.std.proofs.Common.{◌≡◌, ◌<◌, ◌≤◌, ◌++◌, List, length, drop, get_or, ap, ℤ, pos, Some, None, Err, take, sym, arith, rules, ◌∙◌, refl, w32, SFits, to_z, of_z}
use Rattle.std.proofs.lemmas.List.{take_all}
use Rattle.refusal.specs.declared.Refusal.TheVariants.{BadBuffer}
use Rattle.theory.proofs.Texts.{print_over, print_step, put_front, long_answer, long_leaves, whole_leaves}
use Rattle.theory.specs.Print.{item, spaced}
use Rattle.writer.proofs.Firsts.{room_for}
use Rattle.writer.specs.Puts.{put_at, put_answer}
use Rattle.theory.proofs.print.print_values.Goals as goal

pub returns-in_err-at : goal.returns-in_err-at
returns-in_err-at c =
    let v = c.loop-value in
    let x : ℤ = get_or c.args.values.now v.value-index (pos 0) in
    let fits : SFits w32 x = search rules in
    let none : None ≡ put_answer (length v.text) v.at (item v.at (to_z w32 (of_z w32 x))) = sym c.in_err-at.ensures.ok_part ∙ c.put_item.ensures.answer in
    let long = print_over (take 64 c.args.out.now) c.args.values.now v.value-index x v.at v.text c.loop-value-test.true fits refl v.invariant.0 v.invariant.1 none in
    let over : 64 < length (spaced c.args.values.now) = omega (arith, long, c.loop-value-test.array_long) in
    let is : c.from_residual.result ≡ Err BadBuffer = search rules in
    record {
      answer = is ∙ sym (long_answer c.args.codes c.args.code c.args.out.now (spaced c.args.values.now) (omega (arith, c.if-code-codes.false)) over);
      after = sym (long_leaves c.args.codes c.args.code c.args.out.now (spaced c.args.values.now) over);
    }

pub loop-value-preserved : goal.loop-value-preserved
loop-value-preserved c =
    let v = c.loop-value in
    let x : ℤ = get_or c.args.values.now v.value-index (pos 0) in
    let fits : SFits w32 x = search rules in
    let some : Some c.in_ok-at.at ≡ put_answer (length v.text) v.at (item v.at (to_z w32 (of_z w32 x))) = sym c.in_ok-at.ensures.ok_part ∙ c.put_item.ensures.answer in
    let step = print_step (take 64 c.args.out.now) c.args.values.now v.value-index x v.at v.text c.loop-value-test.true fits refl v.invariant.0 v.invariant.1
    c.in_ok-at.at c.put_item.new.out some c.put_item.ensures.after in
    let room = room_for (length v.text) v.at (item v.at (to_z w32 (of_z w32 x))) c.in_ok-at.at some in
    (step.0, step.1, omega (arith, room.0, room.1, c.loop-value-test.array_long))

pub returns-clause-after : goal.returns-clause-after
returns-clause-after c =
    let bytes = c.args.out.now in
    let values = c.args.values.now in
    let v = c.loop-value in
    let all : take v.value-index values ≡ values = take_all v.value-index values (omega arith) in
    let text : v.text ≡ put_at (take 64 bytes) 0 (spaced values) = v.invariant.1 ∙ ap (λ (zs : List ℤ). put_at (take 64 bytes) 0 (spaced zs)) all in
    let few : length (spaced values) ≤ 64 = omega (arith, v.invariant.0, v.invariant.2, ap (λ (zs : List ℤ). length (spaced zs)) all) in
    ap (λ xs. xs ++ drop 64 bytes) (c.copy_from_slice-2.ensures.after ∙ text)
    ∙ put_front bytes (spaced values) 64 few
    ∙ sym (whole_leaves c.args.codes c.args.code bytes (spaced values) (omega (arith, c.if-code-codes.false)) (omega (arith, c.if-out-lt-PRINT_ROOM.false)) few)
