use Rattle.std.proofs.Common.{sym, ap, ◌∙◌, w32, to_z, of_z}
use Rattle.names.specs.Texts.{seen, text_of}
use Rattle.std.proofs.lemmas.Int.{to_z-of_z}
use Rattle.numbers.specs.Kept.{grid_seen}
use Rattle.numbers.specs.Model.{numbers_of}
use Rattle.numbers.proofs.Filled.{single_count, started_is}
use Rattle.numbers.proofs.numbers.Numbers.with_variable.Goals as goal

pub of-requires : goal.of-requires
of-requires c =
    single_count c.in_ok-grid.grid (to_z w32 (of_z w32 c.args.low)) (to_z w32 (of_z w32 c.args.high))
    (ap grid_seen (sym c.in_ok-grid.ensures.ok_part) ∙ c.single.ensures)

pub returns : goal.returns
returns c =
    started_is c.in_ok-grid.grid (text_of c.in_ok-name.name) c.args.text.now (numbers_of c.of.result) c.args.low c.args.high
    (to_z w32 (of_z w32 c.args.low)) (to_z w32 (of_z w32 c.args.high)) (to_z-of_z w32 c.args.low c.ranges.low) (to_z-of_z w32 c.args.high c.ranges.high)
    (ap seen (sym c.in_ok-name.ensures.ok_part) ∙ c.new.ensures) (ap grid_seen (sym c.in_ok-grid.ensures.ok_part) ∙ c.single.ensures) c.of.ensures
