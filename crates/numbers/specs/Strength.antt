-- How strong the nexts of an atom are, kept beside it.
use Rattle.std.specs.Prelude.{List, fold}
use Rattle.numbers.specs.declared.term.Moment.{Moment}
use Rattle.numbers.specs.declared.term.Moment.TheVariants.{Now, Next, WeakNext}
use Rattle.numbers.specs.declared.term.Term.{Term}

-- a strong next before a weak one, and both before now
abbrev pub stronger : Moment → Moment → Moment
stronger Now m = m
stronger Next m = Next
stronger WeakNext m = elim m [ Now ↦ WeakNext | WeakNext ↦ WeakNext | Next ↦ Next ]

-- the strongest moment of the terms; now where there is none
abbrev pub strongest : List Term → Moment
strongest ts = fold (λ m t. stronger m t.moment) Now ts
