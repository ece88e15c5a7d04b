-- One step of a walk.
use Rattle.std.proofs.Common.{◌≡◌, ℕ, suc, ◌<◌, ◌≤◌, Bool, true, false, ◌&&◌, ltb, List, get_or, Some, None, Ok, Err, Option, refl, ap, ◌∙◌}
use Rattle.std.proofs.lemmas.Bool.{cond-true, cond-false, lt-ltb, le-ltb, and_from, and_left, and_right, and_parts, ltb-true}
use Rattle.intern.specs.declared.cell.Cell.{Cell}
use Rattle.intern.specs.declared.descent.End.TheVariants.{Here, Gap}
use Rattle.intern.specs.declared.EntryError.TheVariants.{Broken}
use Rattle.intern.specs.Links.{leaf, child_of}
use Rattle.intern.specs.Walk.{Walked, onward, walk}

module _ {R : Type 0} (alike : R → R → Bool) (turns : R → ℕ → Bool) (cells : List (Cell R)) (n : ℕ) (r : R) where
  abbrev at_cell : ℕ → Cell R
  at_cell at = get_or cells at (leaf r)

  abbrev go : (fuel at depth : ℕ) → Walked
  go = walk alike turns cells n r

  pub walk_here : (f at d : ℕ) → alike (at_cell at).item r ≡ true → go (suc f) at d ≡ Ok (Here at)
  walk_here f at d yes-here = cond-true _ _ _ yes-here

  pub walk_gap : (f at d : ℕ) → alike (at_cell at).item r ≡ false → child_of (at_cell at) (turns r d) ≡ None → go (suc f) at d ≡ Ok (Gap at (turns r d))
  walk_gap f at d not-here none =
      cond-false _ _ _ not-here ∙ ap (onward n at (turns r d) (λ to. go f to (suc d))) none

  pub walk_next : (f at d to : ℕ) → alike (at_cell at).item r ≡ false → child_of (at_cell at) (turns r d) ≡ Some to → at < to → to < n → go (suc f) at d ≡ go f to (suc d)
  walk_next f at d to not-here some up below =
      cond-false _ _ _ not-here ∙ ap (onward n at (turns r d) (λ to. go f to (suc d))) some
      ∙ cond-true _ _ _ (and_from _ _ (lt-ltb at to up) (lt-ltb to n below))

  pub walk_off : (f at d to : ℕ) → alike (at_cell at).item r ≡ false → child_of (at_cell at) (turns r d) ≡ Some to → (ltb at to && ltb to n) ≡ false → go (suc f) at d ≡ Err Broken
  walk_off f at d to not-here some off =
      cond-false _ _ _ not-here ∙ ap (onward n at (turns r d) (λ to. go f to (suc d))) some ∙ cond-false _ _ _ off

  pub walk_low : (f at d to : ℕ) → alike (at_cell at).item r ≡ false → child_of (at_cell at) (turns r d) ≡ Some to → to ≤ at → go (suc f) at d ≡ Err Broken
  walk_low f at d to not-here some low = walk_off f at d to not-here some (and_left _ _ (le-ltb at to low))

  pub walk_high : (f at d to : ℕ) → alike (at_cell at).item r ≡ false → child_of (at_cell at) (turns r d) ≡ Some to → n ≤ to → go (suc f) at d ≡ Err Broken
  walk_high f at d to not-here some high = walk_off f at d to not-here some (and_right _ _ (le-ltb to n high))

-- the ways that a step can go
pub data Step {R : Type 0} (alike : R → R → Bool) (turns : R → ℕ → Bool) (cells : List (Cell R)) (n : ℕ) (r : R) (f at d : ℕ) : Type 0 where
  at_item : alike (get_or cells at (leaf r)).item r ≡ true → walk alike turns cells n r (suc f) at d ≡ Ok (Here at) → Step alike turns cells n r f at d
  at_gap : alike (get_or cells at (leaf r)).item r ≡ false → child_of (get_or cells at (leaf r)) (turns r d) ≡ None
      → walk alike turns cells n r (suc f) at d ≡ Ok (Gap at (turns r d)) → Step alike turns cells n r f at d
  along : (to : ℕ) → alike (get_or cells at (leaf r)).item r ≡ false → child_of (get_or cells at (leaf r)) (turns r d) ≡ Some to → at < to → to < n
      → walk alike turns cells n r (suc f) at d ≡ walk alike turns cells n r f to (suc d) → Step alike turns cells n r f at d
  astray : (to : ℕ) → alike (get_or cells at (leaf r)).item r ≡ false → child_of (get_or cells at (leaf r)) (turns r d) ≡ Some to → (ltb at to && ltb to n) ≡ false
      → walk alike turns cells n r (suc f) at d ≡ Err Broken → Step alike turns cells n r f at d

module _ {R : Type 0} (alike : R → R → Bool) (turns : R → ℕ → Bool) (cells : List (Cell R)) (n : ℕ) (r : R) (f at d : ℕ) where
  step_to : (to : ℕ) (within : Bool) → (ltb at to && ltb to n) ≡ within → alike (get_or cells at (leaf r)).item r ≡ false
      → child_of (get_or cells at (leaf r)) (turns r d) ≡ Some to → Step alike turns cells n r f at d
  step_to to true e no_item some =
      let up : at < to = ltb-true at to (and_parts _ _ e).0 in
      let below : to < n = ltb-true to n (and_parts _ _ e).1 in
      along to no_item some up below (walk_next alike turns cells n r f at d to no_item some up below)
  step_to to false e no_item some = astray to no_item some e (walk_off alike turns cells n r f at d to no_item some e)

  step_from : (o : Option ℕ) → alike (get_or cells at (leaf r)).item r ≡ false → child_of (get_or cells at (leaf r)) (turns r d) ≡ o → Step alike turns cells n r f at d
  step_from (Some to) no_item e = step_to to (ltb at to && ltb to n) refl no_item e
  step_from None no_item e = at_gap no_item e (walk_gap alike turns cells n r f at d no_item e)

  step_by : (b : Bool) → alike (get_or cells at (leaf r)).item r ≡ b → Step alike turns cells n r f at d
  step_by true e = at_item e (walk_here alike turns cells n r f at d e)
  step_by false e = step_from (child_of (get_or cells at (leaf r)) (turns r d)) e refl

  pub step : Step alike turns cells n r f at d
  step = step_by (alike (get_or cells at (leaf r)).item r) refl
