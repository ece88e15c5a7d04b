-- Positions, the steps between them, and the positions that a search counts.
use Rattle.std.specs.Prelude.{Some, None, ◌≡◌, ℕ, zero, suc, pred, ◌<◌, ◌≤◌, min, ◌⊎◌, ◌↔◌, List, [], ◌∷◌, length}
use Rattle.theory.specs.Meaning.{Meaning}
use Rattle.ltlf.specs.Contents.{Contents}
use Rattle.judge.specs.Formulas.{Among}
use Rattle.tableau.specs.Labels.{Label, ◌∈◌}
use Rattle.tableau.specs.Expansion.{Choice, Sound, IsNextLabel}

-- A question: what the theory means, the book's formulas and rules, and the kept visits.
pub record Question : Type 0 where
  pub meaning : Meaning
  pub book : Contents
  pub kept : List ℕ

-- A position: a place among the kept visits, the formulas that must hold at a visit, and the code there.
pub record Position : Type 0 where
  pub place : ℕ
  pub label : Label
  pub code : ℕ

-- K, the last place: the number of kept visits less one, or 0 where nothing is kept
abbrev pub last_place : Question → ℕ
last_place q = pred (length q.kept)

-- the code is kept visit p, counted from 0, or any of `codes` codes if there is none
abbrev pub Visited : (codes : ℕ) → (kept : List ℕ) → (p code : ℕ) → Type 0
Visited codes [] p c = c < codes
Visited codes (v ∷ vs) zero c = c ≡ v
Visited codes (v ∷ vs) (suc p) c = Visited codes vs p c

-- A starting position has place 0, the rules as label, and the first kept visit as code, or any code where nothing is kept.
pub record Starts (q : Question) (s : Position) : Type 0 where
  pub place_is : s.place ≡ 0
  pub label_is : (f : ℕ) → (f ∈ s.label) ↔ Among f q.book.rules
  pub code_is : Visited q.meaning.codes q.kept 0 s.code

-- A step goes one place on, up to the last place, with a next label and the next kept visit, or any code if there is none;
-- its choice's expansion is sound at the code left and the code reached.
pub record Step (q : Question) (s s' : Position) : Type 0 where
  pub choice : Choice
  pub sound : Sound q.meaning q.book choice s.label s.code (Some s'.code)
  pub label_is : IsNextLabel q.book choice s.label s'.label
  pub place_is : s'.place ≡ min (suc s.place) (last_place q)
  pub code_is : Visited q.meaning.codes q.kept (suc s.place) s'.code

-- A position ends when its place is the last and some choice's expansion is sound at its code with nothing next.
pub record Ends (q : Question) (s : Position) : Type 0 where
  pub at_last_place : s.place ≡ last_place q
  pub choice : Choice
  pub sound : Sound q.meaning q.book choice s.label s.code None

-- a path of n steps
pub data Path (q : Question) : ℕ → Position → Position → Type 0 where
  stay : {s : Position} → Path q 0 s s
  go : {n : ℕ} {s s' e : Position} → Step q s s' → Path q n s' e → Path q (suc n) s e

-- the codes along a path, in order
abbrev pub codes_on : {q : Question} {n : ℕ} {s e : Position} → Path q n s e → List ℕ
codes_on {s = s} stay = s.code ∷ []
codes_on {s = s} (go h w) = s.code ∷ codes_on w

-- the position is reached by n steps from a starting position
abbrev pub Reached : Question → (n : ℕ) → Position → Type 0
Reached q n e = (s : Position) × Starts q s × Path q n s e

-- A position's distance is the least number of steps from a starting position.
abbrev pub Distance : Question → Position → ℕ → Type 0
Distance q e n = Reached q n e × ((m : ℕ) → Reached q m e → n ≤ m)

-- no position that ends is reached
abbrev pub NoEnd : Question → Type 0
NoEnd q = (e : Position) (n : ℕ) → Reached q n e → ¬ Ends q e

-- d is the least distance of a position that ends
abbrev pub LeastEnd : Question → (d : ℕ) → Type 0
LeastEnd q d = ((e : Position) × Ends q e × Distance q e d) × ((e : Position) (n : ℕ) → Ends q e → Distance q e n → d ≤ n)

-- The counted positions are those at most at the least distance of a position that ends, or all reachable ones if none ends.
abbrev pub Counted : Question → Position → Type 0
Counted q e = (n : ℕ) × Distance q e n × ((d : ℕ) → LeastEnd q d → n ≤ d)

-- e stands in the list
abbrev pub In : {X : Type 0} → X → List X → Type 0
In e [] = ⊥
In e (x ∷ xs) = (e ≡ x) ⊎ In e xs

-- no element stands in the list twice
abbrev pub Distinct : {X : Type 0} → List X → Type 0
Distinct [] = Unit {0}
Distinct (x ∷ xs) = (¬ In x xs) × Distinct xs

-- the list holds exactly the counted positions, each once
pub record Rows (q : Question) (ps : List Position) : Type 0 where
  pub apart : Distinct ps
  pub all : (e : Position) → In e ps ↔ Counted q e
