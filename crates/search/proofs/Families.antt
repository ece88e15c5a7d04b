-- Positions entered family by family.
use Rattle.std.proofs.Common.{◌≡◌, ℕ, ◌+◌, ◌<◌, ◌≤◌, ◌⊎◌, List, length, Some, None, Option, subst, inl, inr, ⊎_elim, arith}
use Rattle.std.proofs.lemmas.Bool.{cases_eq}
use Rattle.intern.specs.declared.cell.Cell.{Cell}
use Rattle.tableau.specs.Positions.{Position}
use Rattle.search.specs.declared.row.Row.{Row}
use Rattle.search.specs.Rows.{position}
use Rattle.search.specs.Layers.{Listed, IndexedRows, Grown, Spread}
use Rattle.search.specs.Questions.{SomeOf}
use Rattle.search.proofs.Lists.{grown_like, grown_none, grown_twice, whole_twice}

-- a set in place of one with the same positions
module _ (F : Row → Type 0) (P Q : Position → Type 0) (to : (p : Position) → P p → Q p) where
  pub spread_some : ((p : Position) → Q p → P p) → (xs ys : List (Cell Row)) (n m : ℕ) → Spread F P xs ys n (Some m) → Spread F Q xs ys n (Some m)
  spread_some from xs ys n m s =
      (grown_like (λ r. F r × P (position r)) (λ r. F r × Q (position r)) xs ys n m (λ r x. (x.0, to (position r) x.1)) s.0, λ p x. s.1 p (from p x))

  pub spread_none : (xs ys : List (Cell Row)) (n : ℕ) → Spread F P xs ys n None → Spread F Q xs ys n None
  spread_none xs ys n s = (
    grown_like (λ r. F r × P (position r)) (λ r. F r × Q (position r)) xs ys n (length xs) (λ r x. (x.0, to (position r) x.1)) s.0,
    (s.1.0, to s.1.0 s.1.1, s.1.2),
  )

  pub spread_same : ((p : Position) → Q p → P p) → (xs ys : List (Cell Row)) (n : ℕ) (r : Option ℕ) → Spread F P xs ys n r → Spread F Q xs ys n r
  spread_same from xs ys n (Some m) s = spread_some from xs ys n m s
  spread_same from xs ys n None s = spread_none xs ys n s

module _ (F : Row → Type 0) (Q : ℕ → Position → Type 0) (a : ℕ) where
  -- the families below n are entered behind b rows of xs
  abbrev pub Collected : (xs ys : List (Cell Row)) (b f n : ℕ) → Type 0
  Collected xs ys b f n =
      Grown (λ r. F r × SomeOf Q a n (position r)) xs ys b f × ((p : Position) → SomeOf Q a n p → Listed ys 0 f p)

  up : (n m : ℕ) → n ≤ m → (p : Position) → SomeOf Q a n p → SomeOf Q a m p
  up n m le p w = (w.0, w.1, omega (arith, w.2), w.3)

  last : (n : ℕ) (p : Position) → SomeOf Q a (n + 1) p → SomeOf Q a n p ⊎ Q n p
  last n p w =
      ⊎_elim
      (λ (e : w.0 ≡ n). inr (subst (λ (k : ℕ). Q k p) e w.3))
      (λ (ne : w.0 ≡ n → ⊥). inl (w.0, w.1, omega (arith, ne, w.2), w.3))
      (cases_eq w.0 n)

  pub collected_none : (xs : List (Cell Row)) (b : ℕ) → b ≤ length xs → IndexedRows xs b → Collected xs xs b b a
  collected_none xs b len ix = (grown_none (λ r. F r × SomeOf Q a a (position r)) xs b len ix, λ p w. absurd (omega (arith, w.1, w.2)))

  pub collected_more : (xs ys zs : List (Cell Row)) (b f m n : ℕ) → a ≤ n → Collected xs ys b f n → Spread F (Q n) ys zs f (Some m) → Collected xs zs b m (n + 1)
  collected_more xs ys zs b f m n le (g, v) (h, w) = (
    grown_twice (λ r. F r × SomeOf Q a n (position r)) (λ r. F r × Q n (position r)) (λ r. F r × SomeOf Q a (n + 1) (position r)) xs ys zs b f m
        (λ r x. (x.0, up n (n + 1) (omega arith) (position r) x.1))
        (λ r x. (x.0, (n, le, omega arith, x.1)))
        g h,
    whole_twice (SomeOf Q a n) (Q n) (SomeOf Q a (n + 1)) (λ r. F r × Q n (position r)) ys zs f m h v w (last n),
  )

  pub collected_short : (xs ys zs : List (Cell Row)) (b f n c : ℕ) → a ≤ n → n < c → Collected xs ys b f n → Spread F (Q n) ys zs f None
      → Spread F (SomeOf Q a c) xs zs b None
  collected_short xs ys zs b f n c le lt (g, v) (h, (p, x, absent)) =
      let len : length ys ≡ length xs = g.size in (
        subst (Grown (λ r. F r × SomeOf Q a c (position r)) xs zs b) len
            (grown_twice (λ r. F r × SomeOf Q a n (position r)) (λ r. F r × Q n (position r)) (λ r. F r × SomeOf Q a c (position r)) xs ys zs b f (length ys)
            (λ r y. (y.0, up n c (omega arith) (position r) y.1))
            (λ r y. (y.0, (n, le, lt, y.1)))
            g h),
        (p, (n, le, lt, x), subst (λ (z : ℕ). Listed zs 0 z p → ⊥) len absent),
      )

  pub collected_all : (xs ys : List (Cell Row)) (b f n c : ℕ) → a ≤ c → n ≡ c → Collected xs ys b f n → Spread F (SomeOf Q a c) xs ys b (Some f)
  collected_all xs ys b f n c le e v = subst (Collected xs ys b f) e v
