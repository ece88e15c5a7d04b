use Rattle.std.proofs.Common.{◌≡◌, ◌∙◌, arith}
use Rattle.masks.proofs.Bits.{including_is}
use Rattle.ltlf.specs.Contents.{book_contents}
use Rattle.ltlf.specs.declared.node.Node.TheVariants.{True}
use Rattle.ltlf.proofs.Books.{book_proper}
use Rattle.judge.specs.Formulas.{node_at}
use Rattle.judge.proofs.Checking.{node_known}
use Rattle.judge.proofs.Passing.{passed_with, passed_without}
use Rattle.judge.proofs.Reading.{read_or}
use Rattle.judge.proofs.pass.pass.Goals as goal

pub node_holds-requires : goal.node_holds-requires
node_holds-requires g c =
    let b = book_contents c.args.book.now in (
      omega arith,
      (
        node_known (g.T.Theory.meaning c.args.theory.now) b c.requires.counts (book_proper c.args.book.now) c.loop-number.number _ (omega arith)
            (c.unwrap_or-node.ensures ∙ read_or b.nodes c.loop-number.number True c.node.result c.node.ensures),
        c.requires.exist,
      ),
    )

pub loop-number-preserved : goal.loop-number-preserved
loop-number-preserved g c = λ σ i within is-code is-next past.
    let m = g.T.Theory.meaning c.args.theory.now in
    let b = book_contents c.args.book.now in
    let pr = book_proper c.args.book.now in
    let at = c.loop-number in
    let is-node : c.unwrap_or-node.result ≡ node_at b at.number =
    c.unwrap_or-node.ensures ∙ read_or b.nodes at.number True c.node.result c.node.ensures in
    passed_with m b σ i pr within at.here c.args.later at.number c.args.code c.args.next c.unwrap_or-node.result past is-code is-next is-node
    (omega arith) (at.invariant σ i within is-code is-next past) c.if-not-node_holds.ensures c.with-here.result (c.with-here.ensures ∙ including_is at.here at.number (omega arith))

pub loop-number-preserved-then-not-node_holds : goal.loop-number-preserved-then-not-node_holds
loop-number-preserved-then-not-node_holds g c = λ σ i within is-code is-next past.
    let m = g.T.Theory.meaning c.args.theory.now in
    let b = book_contents c.args.book.now in
    let pr = book_proper c.args.book.now in
    let at = c.loop-number in
    let is-node : c.unwrap_or-node.result ≡ node_at b at.number =
    c.unwrap_or-node.ensures ∙ read_or b.nodes at.number True c.node.result c.node.ensures in
    passed_without m b σ i pr within at.here c.args.later at.number c.args.code c.args.next c.unwrap_or-node.result past is-code is-next is-node
    (omega arith) (at.invariant σ i within is-code is-next past) c.if-not-node_holds.ensures

pub returns : goal.returns
returns g c = λ σ i within is-code is-next past f h. (c.loop-number.invariant σ i within is-code is-next past).0 f (omega (arith, (book_proper c.args.book.now).few))
