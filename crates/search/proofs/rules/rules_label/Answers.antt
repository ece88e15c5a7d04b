use Rattle.std.proofs.Common.{◌≡◌, ℕ, List, length, get_or, ap, ◌∙◌, arith}
use Rattle.masks.proofs.Bits.{including_is}
use Rattle.ltlf.specs.Contents.{book_contents}
use Rattle.ltlf.proofs.Books.{book_proper}
use Rattle.search.proofs.Ruling.{first_none, first_more, first_all}
use Rattle.search.proofs.rules.rules_label.Goals as goal

pub loop-rule-init : goal.loop-rule-init
loop-rule-init c = first_none (book_contents c.args.book.now).rules

pub loop-rule-preserved : goal.loop-rule-preserved
loop-rule-preserved c =
    let pr = book_proper c.args.book.now in
    let at = c.loop-rule.rule-index in
    let rules = (book_contents c.args.book.now).rules in
    let size : length c.rules-rule-items.result.now ≡ length rules = ap length c.rules-rule-items.ensures.value in
    let read : get_or c.rules-rule-items.result.now at 0 ≡ get_or rules at 0 = ap (λ (l : List ℕ). get_or l at 0) c.rules-rule-items.ensures.value in
    let put = pr.were_put at (omega arith) in
    first_more (book_contents c.args.book.now).rules _ _ _ _ c.loop-rule.invariant read
    (c.with-label.ensures ∙ including_is _ _ (omega (arith, pr.few, put, read)))

pub returns : goal.returns
returns c =
    let size : length c.rules-rule-items.result.now ≡ length (book_contents c.args.book.now).rules = ap length c.rules-rule-items.ensures.value in
    first_all (book_contents c.args.book.now).rules _ _ (omega arith) (omega arith) c.loop-rule.invariant
