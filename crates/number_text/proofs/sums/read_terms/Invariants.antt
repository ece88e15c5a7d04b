use Rattle.std.proofs.Common.{◌≡◌, ◌-◌}
use Rattle.arrayvec.specs.ArrayVec.{array_vec_len}
use Rattle.numbers.specs.Model.{numbers_of}
use Rattle.number_text.specs.Sums.{terms_read}
use Rattle.number_text.proofs.Joining.{joined}
use Rattle.number_text.proofs.sums.read_terms.Given as goal

abbrev pub invariant-loop-rest : goal.invariant-loop-rest
invariant-loop-rest l =
    joined l.terms.items (terms_read (numbers_of l.numbers).variables (4 - array_vec_len l.terms) l.rest) ≡ terms_read (numbers_of l.numbers).variables 4 l.text

abbrev pub decreases-loop-rest : goal.decreases-loop-rest
decreases-loop-rest l = 4 - array_vec_len l.terms
