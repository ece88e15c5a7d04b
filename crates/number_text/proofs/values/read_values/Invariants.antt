use Rattle.std.proofs.Common.{◌≡◌, ◌+◌, ◌*◌, ◌≤◌, drop}
use Rattle.numbers.specs.Model.{numbers_of}
use Rattle.numbers.specs.Values.{combinations}
use Rattle.number_text.specs.Values.{values_read}
use Rattle.number_text.proofs.values.read_values.Given as goal

abbrev pub invariant-loop-number : goal.invariant-loop-number
invariant-loop-number l =
    ((l.code.value + 1) * combinations (drop l.number (numbers_of l.numbers).variables) ≤ 65535) ×
    (values_read (drop l.number (numbers_of l.numbers).variables) l.code.value l.code.rest.now ≡ values_read (numbers_of l.numbers).variables 0 l.text)
