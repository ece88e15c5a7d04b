-- Cells that hold positions: lemmas on Listed and Grown.
use Rattle.std.proofs.Common.{◌≡◌, ℕ, ◌+◌, ◌<◌, ◌≤◌, ◌⊎◌, List, length, get_or, sym, refl, ap, ◌∙◌, subst, inl, inr, ⊎_elim, arith}
use Rattle.std.proofs.lemmas.List.{get_or_default}
use Rattle.std.proofs.lemmas.Bool.{cases_lt, cases_eq}
use Rattle.intern.specs.declared.cell.Cell.{Cell}
use Rattle.intern.specs.Links.{leaf}
use Rattle.tableau.specs.Positions.{Position, Question}
use Rattle.search.specs.declared.row.Row.{Row}
use Rattle.search.specs.Rows.{position}
use Rattle.search.specs.Layers.{held, Holds, Listed, IndexedRows, Grown, After, Came, Bounded, AllBounded}

-- any cell
abbrev pub blank : Cell Row
blank = leaf (record { place = 0; code = 0; label = 0; from = 0 })

pub here : (xs : List (Cell Row)) (i : ℕ) (e : Cell Row) → i < length xs → Holds xs i (held xs i e)
here xs i e h d = ap (λ (c : Cell Row). position c.item) (get_or_default xs i d e h)

-- of a range cut at m
pub listed_split : (xs : List (Cell Row)) (a m b : ℕ) (p : Position) → Listed xs a b p → Listed xs a m p ⊎ Listed xs m b p
listed_split xs a m b p l =
    ⊎_elim (λ lt. inl (l.0, l.1, lt, l.3)) (λ ge. inr (l.0, ge, l.2, l.3)) (cases_lt l.0 m)

pub listed_wider : (xs : List (Cell Row)) (a b c d : ℕ) (p : Position) → c ≤ a → b ≤ d → Listed xs a b p → Listed xs c d p
listed_wider xs a b c d p h k l = (l.0, omega (arith, l.1), omega (arith, l.2), l.3)

-- the rows below b are the same
abbrev pub SameRows : (xs ys : List (Cell Row)) → ℕ → Type 0
SameRows xs ys b = (k : ℕ) (d : Cell Row) → k < b → (get_or ys k d).item ≡ (get_or xs k d).item

pub listed_kept : (xs ys : List (Cell Row)) (a b : ℕ) (p : Position) → SameRows xs ys b → Listed xs a b p → Listed ys a b p
listed_kept xs ys a b p same l = (l.0, l.1, l.2, λ d. ap position (same l.0 d l.2) ∙ l.3 d)

-- the last row of a range
pub listed_more : (xs : List (Cell Row)) (a i : ℕ) (e : Cell Row) (p : Position) → Listed xs a (i + 1) p → Listed xs a i p ⊎ (held xs i e ≡ p)
listed_more xs a i e p l =
    ⊎_elim
    (λ (eq : l.0 ≡ i). inr (subst (λ (k : ℕ). held xs k e ≡ p) eq (l.3 e)))
    (λ (ne : l.0 ≡ i → ⊥). inl (l.0, l.1, omega (arith, l.2, ne), l.3))
    (cases_eq l.0 i)

pub none_more : (E : Position → Type 0) (xs : List (Cell Row)) (a i : ℕ) (e : Cell Row) → ((p : Position) → Listed xs a i p → E p → ⊥)
    → (E (held xs i e) → ⊥) → (p : Position) → Listed xs a (i + 1) p → E p → ⊥
none_more E xs a i e before here' p l ep =
    ⊎_elim (λ old. before p old ep) (λ eq. here' (subst E (sym eq) ep)) (listed_more xs a i e p l)

-- the positions of new rows
pub listed_new : (F : Row → Type 0) (Q : Position → Type 0) (xs ys : List (Cell Row)) (n m : ℕ)
    → Grown (λ r. F r × Q (position r)) xs ys n m → (p : Position) → Listed ys n m p → Q p
listed_new F Q xs ys n m g p l = subst Q (l.3 blank) (g.new l.0 blank l.1 l.2).1

-- what grew by P and then by Q, both within R, grew by R
pub grown_twice : (P Q R : Row → Type 0) (xs ys zs : List (Cell Row)) (b n m : ℕ) → ((r : Row) → P r → R r) → ((r : Row) → Q r → R r)
    → Grown P xs ys b n → Grown Q ys zs n m → Grown R xs zs b m
grown_twice P Q R xs ys zs b n m pr qr g h =
    record {
      rises = omega (arith, g.rises, h.rises);
      room = h.room;
      size = h.size ∙ g.size;
      kept = λ k d lt. h.kept k d (omega (arith, g.rises)) ∙ g.kept k d lt;
      rest = λ k d ge. h.rest k d ge ∙ g.rest k d (omega (arith, h.rises));
      new = λ k d ge lt.
          ⊎_elim
          (λ (low : k < n). pr (get_or zs k d).item (subst P (sym (h.kept k d low)) (g.new k d ge low)))
          (λ (high : n ≤ k). qr (get_or zs k d).item (h.new k d high lt))
          (cases_lt k n);
      indexed = h.indexed;
    }

-- the row i, of the layer from a up to b, still holds what it held
pub came_here : (S : Position → Position → Type 0) (P : Row → Type 0) (xs ys : List (Cell Row)) (a b i n : ℕ) (e : Cell Row)
    → Grown P xs ys b n → a ≤ i → i < b → b ≤ length xs
    → (r : Row) → (r.from ≡ i) × S (held ys i e) (position r) → Came S xs a b r × After S xs a b (position r)
came_here S P xs ys a b i n e g lo hi len r s =
    let lt : i < length xs = omega arith in
    let from : r.from ≡ i = s.0 in
    let was : (d : Cell Row) → held xs i d ≡ held ys i e = λ d. here xs i e lt d ∙ sym (ap position (g.kept i e hi)) in (
      (
        omega arith,
        omega arith,
        λ d. subst (λ (k : ℕ). S (held xs k d) (position r)) (sym from) (subst (λ (p : Position). S p (position r)) (sym (was d)) s.1),
      ),
      (held ys i e, (i, lo, hi, was), s.1),
    )

pub after_here : (S : Position → Position → Type 0) (P : Row → Type 0) (xs ys : List (Cell Row)) (a b i n : ℕ) (e : Cell Row)
    → Grown P xs ys b n → a ≤ i → i < b → b ≤ length xs → (q : Position) → S (held ys i e) q → After S xs a b q
after_here S P xs ys a b i n e g lo hi len q s =
    let lt : i < length xs = omega arith in
    (held ys i e, (i, lo, hi, λ d. here xs i e lt d ∙ sym (ap position (g.kept i e hi))), s)

pub whole_more : (S : Position → Position → Type 0) (P Q : Row → Type 0) (xs ys zs : List (Cell Row)) (a b i n m : ℕ) (e : Cell Row)
    → Grown P xs ys b n → Grown Q ys zs n m → i < b → ((p : Position) → After S xs a i p → Listed ys 0 n p)
    → ((p : Position) → S (held ys i e) p → Listed zs 0 m p) → (p : Position) → After S xs a (i + 1) p → Listed zs 0 m p
whole_more S P Q xs ys zs a b i n m e g h hi before now' q (p, l, s) =
    ⊎_elim
    (λ old. listed_wider zs 0 n 0 m q (omega arith) h.rises (listed_kept ys zs 0 n q h.kept (before q (p, old, s))))
    (λ eq. now' q (subst (λ (x : Position). S x q) (sym eq ∙ sym (ap position (g.kept i e hi))) s))
    (listed_more xs a i e p l)

-- the same, up to an equal number of rows
pub grown_to : (P : Row → Type 0) (xs ys : List (Cell Row)) (b n m : ℕ) → n ≡ m → Grown P xs ys b n → Grown P xs ys b m
grown_to P xs ys b n m e g = subst (Grown P xs ys b) e g

pub listed_to : (ys : List (Cell Row)) (a n m : ℕ) (p : Position) → n ≡ m → Listed ys a m p → Listed ys a n p
listed_to ys a n m p e l = listed_wider ys a m a n p (omega arith) (omega (arith, e)) l

pub grown_like : (P Q : Row → Type 0) (xs ys : List (Cell Row)) (n m : ℕ) → ((r : Row) → P r → Q r) → Grown P xs ys n m → Grown Q xs ys n m
grown_like P Q xs ys n m f g =
    record { rises = g.rises; room = g.room; size = g.size; kept = g.kept; rest = g.rest; new = λ k d a b. f _ (g.new k d a b); indexed = g.indexed }

pub grown_none : (P : Row → Type 0) (xs : List (Cell Row)) (n : ℕ) → n ≤ length xs → IndexedRows xs n → Grown P xs xs n n
grown_none P xs n len ix =
    record {
      rises = omega arith;
      room = len;
      size = refl;
      kept = λ k d h. refl;
      rest = λ k d h. refl;
      new = λ k d a b. absurd (omega arith);
      indexed = ix;
    }

-- a step that adds Q after P: all of both stand there
pub whole_twice : (P Q R : Position → Type 0) (F : Row → Type 0) (xs ys : List (Cell Row)) (n m : ℕ) → Grown F xs ys n m
    → ((p : Position) → P p → Listed xs 0 n p) → ((p : Position) → Q p → Listed ys 0 m p) → ((p : Position) → R p → P p ⊎ Q p)
    → (p : Position) → R p → Listed ys 0 m p
whole_twice P Q R F xs ys n m h v w rpq p x =
    ⊎_elim
    (λ y. listed_wider ys 0 n 0 m p (omega arith) h.rises (listed_kept xs ys 0 n p h.kept (v p y)))
    (w p)
    (rpq p x)

-- what was bounded stays so
pub bounded_kept : (q : Question) (P : Row → Type 0) (xs ys : List (Cell Row)) (a b i n : ℕ) (e : Cell Row) → Grown P xs ys b n → AllBounded q xs a b
    → a ≤ i → i < b → Bounded q (held ys i e)
bounded_kept q P xs ys a b i n e g bounded lo hi = subst (Bounded q) (sym (ap position (g.kept i e hi))) (bounded i e lo hi)
