-- What a search does to its rows, layer by layer. I, S and E are the starting positions, the steps, and the positions that end.
use Rattle.std.specs.Prelude.{◌≡◌, ℕ, zero, suc, ◌^◌, ◌<◌, ◌≤◌, List, length, get_or, Some, None, Option, ◌≢◌, slice_index_or}
use Rattle.intern.specs.declared.cell.Cell.{Cell}
use Rattle.intern.specs.Index.{Indexed}
use Rattle.tableau.specs.Positions.{Position, Question, last_place}
use Rattle.search.specs.declared.row.Row.{Row}
use Rattle.search.specs.declared.layers.Found.{Found}
use Rattle.search.specs.declared.layers.Found.TheVariants.{Can, Cannot}
use Rattle.search.specs.Rows.{position, same_position, row_turn}

-- the position in cell k
abbrev pub held : List (Cell Row) → ℕ → Cell Row → Position
held xs k d = position (get_or xs k d).item

-- cell k holds the position p
abbrev pub Holds : List (Cell Row) → ℕ → Position → Type 0
Holds xs k p = (d : Cell Row) → held xs k d ≡ p

-- one of the cells from a up to b holds p
abbrev pub Listed : List (Cell Row) → (a b : ℕ) → Position → Type 0
Listed xs a b p = (k : ℕ) × (a ≤ k) × (k < b) × Holds xs k p

-- no two of the first n cells hold one position
abbrev pub Apart : List (Cell Row) → ℕ → Type 0
Apart xs n = (i j : ℕ) (d : Cell Row) → i < j → j < n → held xs i d ≢ held xs j d

-- the links of the first n cells are an index of their positions
abbrev pub IndexedRows : List (Cell Row) → ℕ → Type 0
IndexedRows xs n = Indexed same_position row_turn xs n

-- rows of P came behind the first n of the cells xs, which are now ys, m of them filled; the rows before stay, and so do the cells after
pub record Grown (P : Row → Type 0) (xs ys : List (Cell Row)) (n m : ℕ) : Type 0 where
  pub rises : n ≤ m
  pub room : m ≤ length ys
  pub size : length ys ≡ length xs
  pub kept : (k : ℕ) (d : Cell Row) → k < n → (get_or ys k d).item ≡ (get_or xs k d).item
  pub rest : (k : ℕ) (d : Cell Row) → m ≤ k → slice_index_or ys k d ≡ slice_index_or xs k d
  pub new : (k : ℕ) (d : Cell Row) → n ≤ k → k < m → P (get_or ys k d).item
  pub indexed : IndexedRows ys m

-- rows with positions of Q alone were entered, of which F is true, and all positions of Q are there, or there is no cell left for one of them
abbrev pub Spread : (F : Row → Type 0) (Q : Position → Type 0) (xs ys : List (Cell Row)) → ℕ → Option ℕ → Type 0
Spread F Q xs ys n (Some m) = Grown (λ r. F r × Q (position r)) xs ys n m × ((p : Position) → Q p → Listed ys 0 m p)
Spread F Q xs ys n None = Grown (λ r. F r × Q (position r)) xs ys n (length xs) × ((p : Position) × Q p × (Listed ys 0 (length xs) p → ⊥))

-- what the positions of the cells from a up to b step to
abbrev pub After : (S : Position → Position → Type 0) (xs : List (Cell Row)) (a b : ℕ) → Position → Type 0
After S xs a b q = (p : Position) × Listed xs a b p × S p q

-- the row came by a step from one of the cells from a up to b
abbrev pub Came : (S : Position → Position → Type 0) (xs : List (Cell Row)) (a b : ℕ) → Row → Type 0
Came S xs a b r = (a ≤ r.from) × (r.from < b) × ((d : Cell Row) → S (held xs r.from d) (position r))

-- the row is the first of the cells from a up to b whose position is in E, or there is none
abbrev pub FoundIn : (E : Position → Type 0) (xs : List (Cell Row)) (a b : ℕ) → Option ℕ → Type 0
FoundIn E xs a b (Some k) = (a ≤ k) × (k < b) × ((d : Cell Row) → E (held xs k d))
FoundIn E xs a b None = (p : Position) → Listed xs a b p → E p → ⊥

-- the positions that n steps lead to
abbrev pub LedTo : (I : Position → Type 0) (S : Position → Position → Type 0) → ℕ → Position → Type 0
LedTo I S zero q = I q
LedTo I S (suc n) q = (p : Position) × LedTo I S n p × S p q

-- n is the least number of steps that lead to the position
abbrev pub Least : (I : Position → Type 0) (S : Position → Position → Type 0) → ℕ → Position → Type 0
Least I S n q = LedTo I S n q × ((m : ℕ) → LedTo I S m q → n ≤ m)

-- the positions at distance at most n
abbrev pub Within : (I : Position → Type 0) (S : Position → Position → Type 0) → ℕ → Position → Type 0
Within I S n q = (j : ℕ) × (j ≤ n) × Least I S j q

-- no position that fewer than n steps lead to ends
abbrev pub Unended : (I : Position → Type 0) (S : Position → Position → Type 0) (E : Position → Type 0) → ℕ → Type 0
Unended I S E n = (j : ℕ) (q : Position) → j < n → LedTo I S j q → E q → ⊥

-- cell k is n rows behind a starting position, each row one step from the row that it came from
abbrev pub Traced : (I : Position → Type 0) (S : Position → Position → Type 0) (xs : List (Cell Row)) → ℕ → ℕ → Type 0
Traced I S xs zero k = (d : Cell Row) → I (held xs k d)
Traced I S xs (suc n) k = (d : Cell Row) →
    ((get_or xs k d).item.from < k) × S (held xs (get_or xs k d).item.from d) (held xs k d) × Traced I S xs n (get_or xs k d).item.from

-- the first n cells hold the positions of P, each once
pub record Exactly (P : Position → Type 0) (xs : List (Cell Row)) (n : ℕ) : Type 0 where
  pub room : n ≤ length xs
  pub sound : (p : Position) → Listed xs 0 n p → P p
  pub whole : (p : Position) → P p → Listed xs 0 n p
  pub apart : Apart xs n

-- the cells from n on are as they were
abbrev pub RestKept : (xs ys : List (Cell Row)) → ℕ → Type 0
RestKept xs ys n = (length ys ≡ length xs) × ((k : ℕ) (d : Cell Row) → n ≤ k → slice_index_or ys k d ≡ slice_index_or xs k d)

-- The rows are too few: they hold different positions at distance at most `depth`, no nearer one ends, and one more such position has no cell.
abbrev pub Outnumbered : (I : Position → Type 0) (S : Position → Position → Type 0) (E : Position → Type 0) (xs ys : List (Cell Row)) → (depth : ℕ) → Type 0
Outnumbered I S E xs ys depth =
    (length ys ≡ length xs) × Apart ys (length ys) × ((p : Position) → Listed ys 0 (length ys) p → Within I S depth p)
    × Unended I S E depth × ((p : Position) × Within I S depth p × (Listed ys 0 (length ys) p → ⊥))

-- What the search has found. Can: the cells hold the positions at distance at most `depth`, no nearer one ends, and the one in cell `row` does.
-- Cannot: they hold all that steps lead to, and none ends. None: the rows are too few.
abbrev pub Searched : (I : Position → Type 0) (S : Position → Position → Type 0) (E : Position → Type 0) (xs ys : List (Cell Row)) → Option Found → Type 0
Searched I S E xs ys (Some (Can row count depth)) =
    Exactly (Within I S depth) ys count × Unended I S E depth × (row < count) × Traced I S ys depth row
    × ((d : Cell Row) → E (held ys row d)) × RestKept xs ys count × (depth < count)
Searched I S E xs ys (Some (Cannot count)) =
    Exactly (λ q. (j : ℕ) × Least I S j q) ys count × ((j : ℕ) (q : Position) → LedTo I S j q → E q → ⊥) × RestKept xs ys count
Searched I S E xs ys None = (depth : ℕ) × Outnumbered I S E xs ys depth

-- a position within the bounds of a question: a place, formulas and a code that exist
pub record Bounded (q : Question) (p : Position) : Type 0 where
  pub place_fits : p.place ≤ last_place q
  pub label_fits : p.label < 2 ^ length q.book.nodes
  pub code_fits : p.code < q.meaning.codes

-- the cells from a up to b hold bounded positions
abbrev pub AllBounded : Question → (xs : List (Cell Row)) (a b : ℕ) → Type 0
AllBounded q xs a b = (k : ℕ) (d : Cell Row) → a ≤ k → k < b → Bounded q (held xs k d)
