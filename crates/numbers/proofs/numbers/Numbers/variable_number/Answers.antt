use Rattle.std.proofs.Common.{ℕ, List, sym, ap, ◌∙◌, arith}
use Rattle.std.specs.Str.{bytes_eq}
use Rattle.intern.specs.Index.{place}
use Rattle.names.proofs.Rosters.{number_below}
use Rattle.numbers.proofs.Readings.{variable_names}
use Rattle.numbers.proofs.numbers.Numbers.variable_number.Goals as goal

pub returns-in_err-number : goal.returns-in_err-number
returns-in_err-number c =
    c.from_residual.ensures ∙ c.in_err-number.ensures ∙ ap (λ (xs : List (List ℕ)). place bytes_eq c.args.text.now xs) (sym (variable_names c.args.self.now))

pub overflow_cast-result : goal.overflow_cast-result
overflow_cast-result c =
    omega (arith, number_below c.args.self.now.names c.args.text.now c.in_ok-number.number c.in_ok-number.ensures)

pub returns : goal.returns
returns c = c.in_ok-number.ensures ∙ ap (λ (xs : List (List ℕ)). place bytes_eq c.args.text.now xs) (sym (variable_names c.args.self.now))
