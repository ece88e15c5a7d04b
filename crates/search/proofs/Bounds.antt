-- The positions of a layer lie within the bounds of the question.
use Rattle.std.proofs.Common.{ℕ, zero, suc, ◌<◌, List, length, arith}
use Rattle.intern.specs.declared.cell.Cell.{Cell}
use Rattle.tableau.specs.Positions.{Position, Question, Starts, Step, Ends, Reached, stay}
use Rattle.tableau.specs.Continuations.{WellPosed}
use Rattle.tableau.proofs.Layers.{reached_by_step}
use Rattle.tableau.proofs.Histories.{reached_bounded}
use Rattle.search.specs.declared.row.Row.{Row}
use Rattle.search.specs.Layers.{held, LedTo, AllBounded}
use Rattle.search.proofs.Lists.{here}
use Rattle.search.proofs.Levels.{Level}

pub led_reached : (q : Question) (n : ℕ) (p : Position) → LedTo (Starts q) (Step q) n p → Reached q n p
led_reached q zero p s = (p, s, stay)
led_reached q (suc n) p (r, l, s) = (reached_by_step q n p).1 (r, led_reached q n r l, s)

pub reached_led : (q : Question) (n : ℕ) (p : Position) → Reached q n p → LedTo (Starts q) (Step q) n p
reached_led q zero p (s, st, stay) = st
reached_led q (suc n) p r = let u = (reached_by_step q n p).0 r in (u.0, reached_led q n u.0 u.1, u.2)

pub level_bounded : (q : Question) → WellPosed q → (xs ys : List (Cell Row)) (start filled depth : ℕ)
    → Level (Starts q) (Step q) (Ends q) xs ys start filled depth → AllBounded q ys start filled
level_bounded q posed xs ys start filled depth v k d lo hi =
    let lt : k < length ys = omega (arith, v.room) in
    let b = reached_bounded q posed depth (held ys k d) (led_reached q depth (held ys k d) (v.newest (held ys k d) (k, lo, hi, here ys k d lt))) in
    record { place_fits = b.0; label_fits = b.1; code_fits = b.2 }
