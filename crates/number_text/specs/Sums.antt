-- The sum of an atom.
use Rattle.std.specs.Prelude.{ℕ, zero, suc, cond, List, [], ◌∷◌, ℤ, Some, None, Option, ◌==◌, take}
use Rattle.items.specs.Lines.{behind}
use Rattle.items.specs.Names.{name_read}
use Rattle.items.specs.Numbers.{integer_read}
use Rattle.arrayvec.specs.ArrayVec.{ArrayVec}
use Rattle.items.specs.declared.reads.Read.{Read}
use Rattle.items.specs.Reads.{and_read, and_text, whole}
use Rattle.numbers.specs.declared.term.Comparison.{Comparison}
use Rattle.numbers.specs.declared.term.Comparison.TheVariants.{Equal, Less, AtMost}
use Rattle.numbers.specs.declared.term.Moment.{Moment}
use Rattle.numbers.specs.declared.term.Moment.TheVariants.{Now, Next, WeakNext}
use Rattle.numbers.specs.declared.term.Term.{Term}
use Rattle.numbers.specs.Filling.{variable_number}
use Rattle.numbers.specs.Kept.{as_atom}
use Rattle.numbers.specs.Values.{VariableModel, AtomModel}
use Rattle.number_text.specs.declared.sum.Sum.{Sum}
use Rattle.number_text.specs.Chains.{and_found}

-- a quote marks the strong next, a tilde the weak next, and nothing now
abbrev pub mark_read : List ℕ → Moment × List ℕ
mark_read [] = (Now, [])
mark_read (b ∷ bs) = cond (b == 39) (Next, bs) (cond (b == 126) (WeakNext, bs) (Now, b ∷ bs))

-- a term, and the text after it
abbrev pub TermReading : Type 0
TermReading = Option (Term × List ℕ)

-- a coefficient times a variable, at the moment that a mark says
abbrev pub at_mark : (coefficient : ℤ) → (variable : ℕ) → Moment × List ℕ → Term × List ℕ
at_mark coefficient variable m = (record { coefficient = coefficient; variable = variable; moment = m.0 }, m.1)

-- COEFFICIENT*NAME with its mark: a coefficient within ±1,000, and the name of a variable
abbrev pub term_read : List VariableModel → (text : List ℕ) → TermReading
term_read vs text =
    and_read (integer_read 1000 text) (λ coefficient bs. and_text (behind (42 ∷ []) bs) (λ bs. and_read (name_read bs) (λ name bs. and_found (variable_number name vs) (λ variable. Some (at_mark coefficient variable (mark_read bs))))))

-- terms, and the text after them
abbrev pub TermsReading : Type 0
TermsReading = Option (List Term × List ℕ)

abbrev pub terms_seen : Option (Read (ArrayVec Term)) → TermsReading
terms_seen (Some r) = Some (r.value.items, r.rest.now)
terms_seen None = None

-- a term in front of others
abbrev pub term_before : Term → TermsReading → TermsReading
term_before t None = None
term_before t (Some r) = Some (t ∷ r.0, r.1)

-- the others follow a plus
abbrev pub after_plus : Term → (rest : List ℕ) → Option (List ℕ) → (List ℕ → TermsReading) → TermsReading
after_plus t rest None f = Some (t ∷ [], rest)
after_plus t rest (Some bs) f = term_before t (f bs)

-- a term, and how to go on behind a plus
abbrev pub and_more : TermReading → (List ℕ → TermsReading) → TermsReading
and_more None f = None
and_more (Some r) f = after_plus r.0 r.1 (behind (43 ∷ []) r.1) f

-- terms joined by +, at least one and at most so many
abbrev pub terms_read : List VariableModel → (most : ℕ) → (text : List ℕ) → TermsReading
terms_read vs zero text = None
terms_read vs (suc n) text = and_more (term_read vs text) (terms_read vs n)

-- behind <: a = makes it at most
abbrev pub less_read : (text : List ℕ) → Comparison × List ℕ
less_read [] = (Less, [])
less_read (b ∷ bs) = cond (b == 61) (AtMost, bs) (Less, b ∷ bs)

-- <, <= or =
abbrev pub comparison_read : (text : List ℕ) → Option (Comparison × List ℕ)
comparison_read [] = None
comparison_read (b ∷ bs) = cond (b == 60) (Some (less_read bs)) (cond (b == 61) (Some (Equal, bs)) None)

abbrev pub sum_seen : Option Sum → Option AtomModel
sum_seen (Some s) = Some (as_atom (take s.count s.terms) s.comparison s.constant)
sum_seen None = None

-- 1 to 4 terms, a comparison, a constant within ±40,000,000, and nothing after it
abbrev pub sum_read : List VariableModel → (text : List ℕ) → Option AtomModel
sum_read vs text =
    and_read (terms_read vs 4 text) (λ terms bs. and_read (comparison_read bs) (λ comparison bs. and_read (integer_read 40000000 bs) (λ constant bs. whole (as_atom terms comparison constant) bs)))
