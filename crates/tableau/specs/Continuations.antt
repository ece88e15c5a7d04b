-- The histories that a question asks for.
use Rattle.std.specs.Prelude.{◌≡◌, ℕ, ◌<◌, ◌≤◌, List, ◌++◌, length}
use Rattle.ltlf.specs.Contents.{Proper}
use Rattle.judge.specs.Histories.{visit}
use Rattle.judge.specs.Holding.{Meets}
use Rattle.tableau.specs.Positions.{Question, Position, Path, codes_on, Starts, Ends}

-- every visit of the list is one of `codes` codes
abbrev pub AllCodes : (codes : ℕ) → List ℕ → Type 0
AllCodes codes σ = (i : ℕ) → i < length σ → visit σ i < codes

-- the history begins with the kept visits
abbrev pub Begins : (kept σ : List ℕ) → Type 0
Begins kept σ = (rest : List ℕ) × (σ ≡ kept ++ rest)

-- A continuation is a nonempty history of codes that begins with the kept visits and meets the rules.
pub record Continuation (q : Question) (σ : List ℕ) : Type 0 where
  pub nonempty : 0 < length σ
  pub codes : AllCodes q.meaning.codes σ
  pub begins : Begins q.kept σ
  pub meets : Meets q.meaning q.book σ

-- some continuation has n visits
abbrev pub Possible : Question → (n : ℕ) → Type 0
Possible q n = (σ : List ℕ) × Continuation q σ × (length σ ≡ n)

-- a shortest continuation has n visits
abbrev pub Shortest : Question → (n : ℕ) → Type 0
Shortest q n = Possible q n × ((m : ℕ) → Possible q m → n ≤ m)

-- there is no continuation, of any length
abbrev pub Impossible : Question → Type 0
Impossible q = (σ : List ℕ) → ¬ Continuation q σ

-- A question is well posed when its book is proper and its kept visits are codes.
pub record WellPosed (q : Question) : Type 0 where
  pub proper : Proper q.book
  pub kept_codes : AllCodes q.meaning.codes q.kept

-- a path from a starting position to one that ends, with the history as the codes on it
pub record Leads (q : Question) (σ : List ℕ) : Type 0 where
  pub steps : ℕ
  pub from : Position
  pub to : Position
  pub path : Path q steps from to
  pub starts : Starts q from
  pub ends : Ends q to
  pub codes_are : codes_on path ≡ σ
