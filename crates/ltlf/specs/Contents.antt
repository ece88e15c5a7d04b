-- What a draft or a book holds, and what each call answers and leaves.
use Rattle.std.specs.Prelude.{◌≡◌, ℕ, ◌<◌, ◌≤◌, Bool, true, false, cond, not, ◌&&◌, List, [], ◌∷◌, ◌++◌, length, Some, None, Ok, Err, Option, Result, ◌==◌, ◌≢◌, nat_le, nat_lt, slice_index, slice_index_or}
use Rattle.intern.specs.Index.{items, place}
use Rattle.refusal.specs.declared.Refusal.{Refusal}
use Rattle.refusal.specs.declared.Refusal.TheVariants.{CountsOutOfRange, Unknown, TooManyFormulas}
use Rattle.ltlf.specs.Nodes.{known, same}
use Rattle.ltlf.specs.declared.node.Node.{Node}
use Rattle.ltlf.specs.declared.node.Node.TheVariants.{True}
use Rattle.ltlf.specs.declared.draft.Draft.{Draft}
use Rattle.ltlf.specs.declared.book.Book.{Book}

-- The counts of codes and atoms, the formulas by number, and the rules in the order of first naming.
pub record Contents : Type 0 where
  pub codes : ℕ
  pub atoms : ℕ
  pub nodes : List Node
  pub rules : List ℕ

-- what a draft holds
abbrev pub draft_contents : Draft → Contents
draft_contents d = record { codes = d.codes; atoms = d.atoms; nodes = items d.cells d.len; rules = d.rules.items }

-- what a book holds
abbrev pub book_contents : Book → Contents
book_contents b = draft_contents b.sealed

-- no formula and no rule
abbrev pub empty : (codes atoms : ℕ) → Contents
empty codes atoms = record { codes = codes; atoms = atoms; nodes = []; rules = [] }

-- a draft's counts lie within 1 to 4,096 codes and 0 to 32 atoms
abbrev pub counts_fit : (codes atoms : ℕ) → Bool
counts_fit codes atoms = nat_le 1 codes && (nat_le codes 4096 && nat_le atoms 32)

-- setting the counts: 1 where they are out of range
abbrev pub counts_answer : (codes atoms : ℕ) → Result (Unit {0}) Refusal
counts_answer codes atoms = cond (counts_fit codes atoms) (Ok tt) (Err CountsOutOfRange)

-- setting the counts empties the draft, and a refusal leaves it as it was
abbrev pub counts_leave : Contents → (codes atoms : ℕ) → Contents
counts_leave b codes atoms = cond (counts_fit codes atoms) (empty codes atoms) b

-- an equal formula has its old number; a new one gets the next, and a 65th is refused by 3
abbrev pub numbered : List Node → Option ℕ → Result ℕ Refusal
numbered nodes (Some k) = Ok k
numbered nodes None = cond (nat_lt (length nodes) 64) (Ok (length nodes)) (Err TooManyFormulas)

-- putting a formula: 2 where its atom or an operand is not there
abbrev pub put_answer : Contents → Node → Result ℕ Refusal
put_answer b node = cond (known b.atoms (length b.nodes) node) (numbered b.nodes (place same node b.nodes)) (Err Unknown)

abbrev pub with_new : Node → List Node → Option ℕ → List Node
with_new node nodes (Some k) = nodes
with_new node nodes None = cond (nat_lt (length nodes) 64) (nodes ++ node ∷ []) nodes

-- putting a formula adds it at the end if it is new, known and has room, and else changes nothing
abbrev pub put_leaves : Contents → Node → Contents
put_leaves b node = record {
  codes = b.codes;
  atoms = b.atoms;
  nodes = cond (known b.atoms (length b.nodes) node) (with_new node b.nodes (place same node b.nodes)) b.nodes;
  rules = b.rules;
}

-- whether a number stands in a list
abbrev pub among : ℕ → List ℕ → Bool
among f [] = false
among f (g ∷ gs) = cond (g == f) true (among f gs)

-- naming a rule: 2 where the formula was not put
abbrev pub rule_answer : Contents → ℕ → Result (Unit {0}) Refusal
rule_answer b f = cond (nat_lt f (length b.nodes)) (Ok tt) (Err Unknown)

-- a rule that is named for the first time comes last; naming it again changes nothing
abbrev pub rule_leaves : Contents → ℕ → Contents
rule_leaves b f = record {
  codes = b.codes;
  atoms = b.atoms;
  nodes = b.nodes;
  rules = cond (nat_lt f (length b.nodes) && not (among f b.rules)) (b.rules ++ f ∷ []) b.rules;
}

-- the formula of a number: 2 where it was not put
abbrev pub node_answer : Contents → ℕ → Result Node Refusal
node_answer b k = cond (nat_lt k (length b.nodes)) (Ok (slice_index_or b.nodes k True)) (Err Unknown)

-- the rule at a place of the order of first naming: 2 where there is none
abbrev pub rule_at : Contents → ℕ → Result ℕ Refusal
rule_at b i = cond (nat_lt i (length b.rules)) (Ok (slice_index b.rules i)) (Err Unknown)

-- Proper contents: at most 64 formulas, whose atoms exist and whose operands were put before; rules were put, and each is named once.
pub record Proper (b : Contents) : Type 0 where
  pub few : length b.nodes ≤ 64
  pub before : (k : ℕ) → k < length b.nodes → known b.atoms k (slice_index_or b.nodes k True) ≡ true
  pub were_put : (i : ℕ) → i < length b.rules → slice_index b.rules i < length b.nodes
  pub apart : (i j : ℕ) → i < j → j < length b.rules → slice_index b.rules i ≢ slice_index b.rules j

-- the contents of every book are proper
abbrev pub BooksAreProper : Type 0
BooksAreProper = (b : Book) → Proper (book_contents b)

-- every book has at most 4,096 codes and 32 atoms
abbrev pub BooksAreSmall : Type 0
BooksAreSmall = (b : Book) → ((book_contents b).codes ≤ 4096) × ((book_contents b).atoms ≤ 32)
