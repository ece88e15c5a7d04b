-- Questions small enough to answer by hand, with their answers.
use Rattle.std.specs.Prelude.{Option, Some, None, ◌≡◌, ℕ, zero, suc, Bool, true, false, List, [], ◌∷◌, ◌==◌}
use Rattle.ltlf.specs.declared.node.Node.{Node}
use Rattle.ltlf.specs.declared.node.Node.TheVariants.{True, False, Atom, NotAtom, And, Tomorrow, WeakTomorrow, Until, Release}
use Rattle.tableau.specs.Positions.{Question}
use Rattle.tableau.specs.Continuations.{WellPosed}
use Rattle.tableau.specs.Search.{Answer, can, cannot, short, answer}

-- One variable `tries` from 0 to 2: atom 0 is tries = 0, atom 1 is tries' = tries + 1 (strong), atom 2 is tries = 2.
abbrev pub tries_fact : (atom code : ℕ) → Option ℕ → Bool
tries_fact zero c n = c == 0
tries_fact (suc zero) c None = false
tries_fact (suc zero) c (Some n) = n == suc c
tries_fact (suc (suc a)) c n = c == 2

-- One flag: atom 0 is the flag.
abbrev pub flag_fact : (atom code : ℕ) → Option ℕ → Bool
flag_fact a c n = c == 1

-- The atom tries~ = tries + 1 with a weak next, which is true at the last visit.
abbrev pub weak_fact : (atom code : ℕ) → Option ℕ → Bool
weak_fact a c None = true
weak_fact a c (Some n) = n == suc c

-- The atom tries' = tries + 1 with a strong next, which is false at the last visit.
abbrev pub strong_fact : (atom code : ℕ) → Option ℕ → Bool
strong_fact a c None = false
strong_fact a c (Some n) = n == suc c

-- a question by its counts, facts, formulas, rules and kept visits
abbrev pub asked : (codes atoms : ℕ) → ((atom code : ℕ) → Option ℕ → Bool) → (nodes : List Node) → (rules kept : List ℕ) → Question
asked m a fact nodes rules kept = record {
  meaning = record { codes = m; atoms = a; fact = fact };
  book = record { codes = m; atoms = a; nodes = nodes; rules = rules };
  kept = kept;
}

-- tries = 0 and, until tries = 2, each visit has one try more than the one before
abbrev pub climbing : (kept : List ℕ) → Question
climbing kept = asked 3 3 tries_fact (Atom 0 ∷ Atom 1 ∷ Atom 2 ∷ Until 1 2 ∷ And 0 3 ∷ []) (4 ∷ []) kept

-- a question on one flag
abbrev pub flag : (nodes : List Node) → (rules : List ℕ) → Question
flag nodes rules = asked 2 1 flag_fact nodes rules []

-- X T on three flags
abbrev pub three_flags : Question
three_flags = asked 8 3 flag_fact (True ∷ Tomorrow 0 ∷ []) (1 ∷ []) []

-- G 0 and F ! 0 on one flag
abbrev pub always_and_not : Question
always_and_not = flag (False ∷ Atom 0 ∷ Release 0 1 ∷ True ∷ NotAtom 0 ∷ Until 3 4 ∷ And 2 5 ∷ []) (6 ∷ [])

-- G of the formula that the node puts, on three tries
abbrev pub always : ((atom code : ℕ) → Option ℕ → Bool) → Node → Question
always fact node = asked 3 1 fact (False ∷ node ∷ Release 0 1 ∷ []) (2 ∷ []) []

-- The questions, each with a number of rows and the answer.
abbrev pub tried : List (Question × ℕ × Answer)
tried =
    (climbing [], 4, short 4)
    ∷ (climbing [], 5, can 3 5)
    ∷ (climbing [], 4096, can 3 5)
    ∷ (climbing (0 ∷ []), 4096, can 3 3)
    ∷ (climbing (2 ∷ []), 4096, cannot 1)
    ∷ (climbing (0 ∷ 0 ∷ []), 4096, cannot 1)
    ∷ (climbing (0 ∷ 1 ∷ []), 4096, can 3 3)
    ∷ (flag (True ∷ Tomorrow 0 ∷ []) (1 ∷ []), 4096, can 2 4)
    ∷ (flag (False ∷ WeakTomorrow 0 ∷ []) (1 ∷ []), 4096, can 1 2)
    ∷ (flag (True ∷ Tomorrow 0 ∷ False ∷ WeakTomorrow 2 ∷ []) (1 ∷ 3 ∷ []), 4096, cannot 4)
    ∷ (always_and_not, 4096, cannot 4)
    ∷ (always weak_fact (Atom 0), 4096, can 1 3)
    ∷ (always strong_fact (Atom 0), 4096, cannot 3)
    ∷ (always strong_fact (NotAtom 0), 4096, can 1 3)
    ∷ []

-- Questions at the boundaries: no row; a whole layer that has to fit; both sides of an until, with {T} and {T, F 0} as two labels; no rules.
abbrev pub boundaries : List (Question × ℕ × Answer)
boundaries =
    (climbing [], 0, short 0)
    ∷ (three_flags, 9, short 9)
    ∷ (three_flags, 15, short 15)
    ∷ (three_flags, 16, can 2 16)
    ∷ (asked 2 1 flag_fact (True ∷ Tomorrow 0 ∷ Atom 0 ∷ Until 0 2 ∷ And 1 3 ∷ []) (4 ∷ []) (1 ∷ []), 4096, can 2 5)
    ∷ (flag [] [], 2, can 1 2)
    ∷ (asked 2 1 flag_fact [] [] (0 ∷ 1 ∷ 1 ∷ []), 3, can 3 3)
    ∷ []

-- each question is well posed and has the answer beside it
abbrev pub EachAnswered : List (Question × ℕ × Answer) → Type 0
EachAnswered [] = Unit {0}
EachAnswered (p ∷ ps) = (WellPosed p.0 × (answer p.0 p.1 ≡ p.2)) × EachAnswered ps

-- All the questions have their answers.
abbrev pub ExamplesAnswered : Type 0
ExamplesAnswered = EachAnswered tried

-- The questions at the boundaries have their answers.
abbrev pub BoundariesAnswered : Type 0
BoundariesAnswered = EachAnswered boundaries
