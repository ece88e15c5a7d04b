-- What readers give, and how they follow one another.
use Rattle.std.specs.Prelude.{ℕ, List, [], ◌∷◌, Some, None, Option}
use Rattle.items.specs.declared.reads.Read.{Read}

-- a value that was read, and the text after it
abbrev pub value_and_rest : {T : Type 0} → Read T → T × List ℕ
value_and_rest r = (r.value, r.rest.now)

-- the same, if anything was read
abbrev pub read_seen : {T : Type 0} → Option (Read T) → Option (T × List ℕ)
read_seen (Some r) = Some (value_and_rest r)
read_seen None = None

-- a value that was read, and how to go on with it and what follows it
abbrev pub and_read : {T X : Type 0} → Option (T × List ℕ) → (T → List ℕ → Option X) → Option X
and_read None f = None
and_read (Some r) f = f r.0 r.1

-- a text, and how to go on with it
abbrev pub and_text : {X : Type 0} → Option (List ℕ) → (List ℕ → Option X) → Option X
and_text None f = None
and_text (Some bs) f = f bs

-- a value, where nothing is left of the text
abbrev pub whole : {X : Type 0} → X → List ℕ → Option X
whole x [] = Some x
whole x (b ∷ bs) = None
