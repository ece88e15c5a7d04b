-- What is proved of labels, positions, histories and answers.
use Rattle.std.specs.Prelude.{Option, ◌≡◌, ℕ, suc, ◌*◌, ◌^◌, ◌<◌, ◌≤◌, Bool, true, ◌⊎◌, ◌↔◌, List, length}
use Rattle.theory.specs.Meaning.{Meaning}
use Rattle.ltlf.specs.Contents.{Contents, Proper}
use Rattle.judge.specs.Formulas.{formula, node_at, Among}
use Rattle.judge.specs.Histories.{visit, after}
use Rattle.judge.specs.Holding.{Holds}
use Rattle.tableau.specs.Labels.{Label, ◌∈◌}
use Rattle.tableau.specs.Expansion.{Choice, parts, Expansion, Sound, HandedOn, IsNextLabel}
use Rattle.tableau.specs.Positions.{Question, Position, Starts, Step, Ends, Reached, Distance, NoEnd, LeastEnd, Counted, Rows, In, last_place}
use Rattle.tableau.specs.Continuations.{Continuation, Possible, Shortest, Impossible, WellPosed, Leads}
use Rattle.tableau.specs.Masks.{expanded, next_of}
use Rattle.tableau.specs.Search.{Answer, can, cannot, short, answer, next_labels}

-- ONE VISIT

-- all formulas of the set hold at visit i
abbrev pub AllHold : Meaning → Contents → (σ : List ℕ) → (i : ℕ) → (ℕ → Type 0) → Type 0
AllHold m b σ i S = (f : ℕ) → S f → Holds m σ i (formula b f)

-- A label's formulas hold at a visit where some choice's expansion is sound, and what it hands on holds at the next visit.
abbrev pub StepIsSound : Type 0
StepIsSound =
    (m : Meaning) (b : Contents) → Proper b → (σ : List ℕ) (i : ℕ) → i < length σ → (κ : Choice) (L : Label)
    → Sound m b κ L (visit σ i) (after σ i)
    → (suc i < length σ → AllHold m b σ (suc i) (HandedOn b κ L))
    → AllHold m b σ i (λ f. f ∈ L)

-- Where a label's formulas hold, some choice's expansion is sound, and what it hands on holds at the next visit.
abbrev pub StepIsComplete : Type 0
StepIsComplete =
    (m : Meaning) (b : Contents) → Proper b → (σ : List ℕ) (i : ℕ) → i < length σ → (L : Label)
    → AllHold m b σ i (λ f. f ∈ L)
    → (κ : Choice) × Sound m b κ L (visit σ i) (after σ i) × (suc i < length σ → AllHold m b σ (suc i) (HandedOn b κ L))

-- The expansion lies inside every set that holds the label and the parts of its members.
abbrev pub ExpansionIsLeast : Type 0
ExpansionIsLeast =
    (b : Contents) (κ : Choice) (L : Label) (p : ℕ → Bool)
    → ((f : ℕ) → f ∈ L → p f ≡ true)
    → ((f g : ℕ) → p f ≡ true → Among g (parts (node_at b f) (κ f)) → p g ≡ true)
    → (f : ℕ) → Expansion b κ L f → p f ≡ true

-- PATHS AND HISTORIES

-- The continuations are exactly the codes along the paths from a starting position to one that ends.
abbrev pub PathsAreHistories : Type 0
PathsAreHistories = (q : Question) → WellPosed q → (σ : List ℕ) → Continuation q σ ↔ Leads q σ

-- A sequence of positions, from a starting one by single steps to one that ends, shows a continuation by its codes.
abbrev pub ChainsAreHistories : Type 0
ChainsAreHistories =
    (q : Question) → WellPosed q → (n : ℕ) (at : ℕ → Position) (σ : List ℕ)
    → length σ ≡ suc n
    → ((i : ℕ) → i ≤ n → visit σ i ≡ (at i).code)
    → Starts q (at 0)
    → ((i : ℕ) → i < n → Step q (at i) (at (suc i)))
    → Ends q (at n)
    → Continuation q σ

-- A continuation of n + 1 visits exists exactly if a position that ends is reached by n steps.
abbrev pub LengthsAreReached : Type 0
LengthsAreReached =
    (q : Question) → WellPosed q → (n : ℕ) → Possible q (suc n) ↔ ((e : Position) × Ends q e × Reached q n e)

-- A shortest continuation has one visit more than the least distance of a position that ends.
abbrev pub ShortestIsLeast : Type 0
ShortestIsLeast = (q : Question) → WellPosed q → (d : ℕ) → LeastEnd q d ↔ Shortest q (suc d)

-- There is no continuation exactly if no position that ends is reached.
abbrev pub NoneIsNone : Type 0
NoneIsNone = (q : Question) → WellPosed q → Impossible q ↔ NoEnd q

-- DISTANCES AND LAYERS

-- What is reached by n + 1 steps is one step from what is reached by n.
abbrev pub ReachedByStep : Type 0
ReachedByStep =
    (q : Question) (n : ℕ) (e : Position) → Reached q (suc n) e ↔ ((s : Position) × Reached q n s × Step q s e)

-- A position at distance n + 1 is one step from one at distance n.
abbrev pub LayerByLayer : Type 0
LayerByLayer =
    (q : Question) (n : ℕ) (e : Position) → Distance q e (suc n) → (s : Position) × Distance q s n × Step q s e

-- A set that holds the starting positions and is closed under steps holds all reached ones.
abbrev pub ClosedHoldsAll : Type 0
ClosedHoldsAll =
    (q : Question) (p : Position → Bool)
    → ((s : Position) → Starts q s → p s ≡ true)
    → ((s s' : Position) → p s ≡ true → Step q s s' → p s' ≡ true)
    → (n : ℕ) (e : Position) → Reached q n e → p e ≡ true

-- If d is the least distance of a position that ends, the counted positions are those at distance at most d.
abbrev pub CountedIfEnds : Type 0
CountedIfEnds =
    (q : Question) (d : ℕ) → LeastEnd q d → (e : Position) → Counted q e ↔ ((n : ℕ) × Distance q e n × (n ≤ d))

-- If no position ends, the counted positions are all reachable ones.
abbrev pub CountedIfNone : Type 0
CountedIfNone = (q : Question) → NoEnd q → (e : Position) → Counted q e ↔ ((n : ℕ) × Distance q e n)

-- Whether a step leads from one position to another is decided.
abbrev pub StepsAreDecided : Type 0
StepsAreDecided = (q : Question) → WellPosed q → (s s' : Position) → Dec (Step q s s')

-- Whether a position ends is decided.
abbrev pub EndsAreDecided : Type 0
EndsAreDecided = (q : Question) → WellPosed q → (s : Position) → Dec (Ends q s)

-- Every reachable position lies within the bounds of book and theory.
abbrev pub ReachedIsBounded : Type 0
ReachedIsBounded =
    (q : Question) → WellPosed q → (n : ℕ) (e : Position) → Reached q n e
    → (e.place ≤ last_place q) × (e.label < 2 ^ length q.book.nodes) × (e.code < q.meaning.codes)

-- LABELS AS NUMBERS

-- A label is given by its members.
abbrev pub SameMembers : Type 0
SameMembers = (L L' : Label) → ((f : ℕ) → (f ∈ L) ↔ (f ∈ L')) → L ≡ L'

-- The computed expansion is the expansion.
abbrev pub ExpansionIsComputed : Type 0
ExpansionIsComputed =
    (b : Contents) → Proper b → (κ : Choice) (L : Label) (f : ℕ) → (f ∈ expanded b κ L) ↔ Expansion b κ L f

-- The computed next label is the next label.
abbrev pub NextIsComputed : Type 0
NextIsComputed = (b : Contents) → Proper b → (κ : Choice) (L L' : Label) → IsNextLabel b κ L L' ↔ (L' ≡ next_of b κ L)

-- The computed next labels are those of the sound choices.
abbrev pub NextLabelsAreComputed : Type 0
NextLabelsAreComputed =
    (m : Meaning) (b : Contents) → Proper b → (L : Label) (c : ℕ) (n : Option ℕ) (L' : Label)
    → In L' (next_labels m b L c n) ↔ ((κ : Choice) × Sound m b κ L c n × IsNextLabel b κ L L')

-- THE ANSWER

-- The counted positions are finitely many: some list holds exactly them, each once.
abbrev pub CountedAreFinite : Type 0
CountedAreFinite = (q : Question) → WellPosed q → (counted : List Position) × Rows q counted

-- At most as many positions are counted as there are places, labels and codes.
abbrev pub CountedAreBounded : Type 0
CountedAreBounded =
    (q : Question) → WellPosed q → (counted : List Position) → Rows q counted
    → length counted ≤ suc (last_place q) * (2 ^ length q.book.nodes * q.meaning.codes)

-- Every question is decided: a shortest continuation has some number of visits, or there is no continuation of any length.
abbrev pub QuestionsAreDecided : Type 0
QuestionsAreDecided = (q : Question) → WellPosed q → ((n : ℕ) × Shortest q n) ⊎ Impossible q

-- What an answer says, where the list holds the counted positions. `can n`: they fit the rows and a shortest continuation has n visits;
-- `cannot`: they fit the rows and there is no continuation of any length, each with their number;
-- `short`: they outnumber the rows, with the number of rows.
abbrev pub Says : Question → (rows : ℕ) → (counted : List Position) → Answer → Type 0
Says q rows counted (can n r) = (length counted ≤ rows) × Shortest q n × (r ≡ length counted)
Says q rows counted (cannot r) = (length counted ≤ rows) × Impossible q × (r ≡ length counted)
Says q rows counted (short r) = (rows < length counted) × (r ≡ rows)

-- For every well-posed question and every number of rows, the answer is the one that says what is so.
abbrev pub AnswerIsRight : Type 0
AnswerIsRight =
    (q : Question) → WellPosed q → (rows : ℕ) (counted : List Position) → Rows q counted
    → (a : Answer) → (answer q rows ≡ a) ↔ Says q rows counted a
