-- Whether every number of a list passes a test.
use Rattle.std.proofs.Common.{◌≡◌, ℕ, zero, suc, ◌+◌, ◌<◌, ◌≤◌, Bool, true, false, ◌&&◌, List, [], ◌∷◌, length, get_or, drop, sym, refl, ap, ◌∙◌, inl, inr, ⊎_elim, arith}
use Rattle.std.proofs.lemmas.List.{at_drop_more, at_drop_all}
use Rattle.std.proofs.lemmas.Bool.{and_parts, and_left, true≢false, cases_Bool}
use Rattle.judge.specs.Formulas.{Among}
use Rattle.judge.specs.Judging.{all_pass}

module _ (test : ℕ → Bool) where
  -- a loop's step: the number at place i passes
  pub pass_more : (ns : List ℕ) (i : ℕ) → i < length ns → test (get_or ns i 0) ≡ true
      → all_pass test (drop i ns) ≡ all_pass test ns → all_pass test (drop (i + 1) ns) ≡ all_pass test ns
  pass_more ns i h e so_far =
      sym (ap (λ t. t && all_pass test (drop (i + 1) ns)) e) ∙ sym (at_drop_more (all_pass test) ns i 0 h) ∙ so_far

  -- a loop's early end: the number at place i does not pass
  pub pass_stop : (ns : List ℕ) (i : ℕ) → i < length ns → test (get_or ns i 0) ≡ false
      → all_pass test (drop i ns) ≡ all_pass test ns → false ≡ all_pass test ns
  pass_stop ns i h e so_far = sym (and_left _ _ e) ∙ sym (at_drop_more (all_pass test) ns i 0 h) ∙ so_far

  -- a loop's end: every number has passed
  pub pass_end : (ns : List ℕ) (i : ℕ) → length ns ≤ i → all_pass test (drop i ns) ≡ all_pass test ns → true ≡ all_pass test ns
  pass_end ns i h so_far = sym (at_drop_all (all_pass test) ns i h) ∙ so_far

  -- where all pass, the one at place i does
  pub pass_at : (ns : List ℕ) (d i : ℕ) → i < length ns → all_pass test ns ≡ true → test (get_or ns i d) ≡ true
  pass_at [] d i h e = absurd (omega arith)
  pass_at (n ∷ ns) d zero h e = (and_parts _ _ e).0
  pass_at (n ∷ ns) d (suc i) h e = pass_at ns d i (omega arith) (and_parts _ _ e).1

  -- where all pass, each one does
  pub pass_each : (ns : List ℕ) → all_pass test ns ≡ true → (f : ℕ) → Among f ns → test f ≡ true
  pass_each [] e f w = absurd w
  pass_each (n ∷ ns) e f (inl is) = ap test is ∙ (and_parts _ _ e).0
  pass_each (n ∷ ns) e f (inr w) = pass_each ns (and_parts _ _ e).1 f w

  -- where not all pass, some one does not
  pub pass_not : (ns : List ℕ) → all_pass test ns ≡ false → (f : ℕ) × Among f ns × (test f ≡ false)
  pass_not [] e = absurd (true≢false e)
  pass_not (n ∷ ns) e =
      ⊎_elim
      (λ (t : test n ≡ true). let w = pass_not ns (sym (ap (λ x. x && all_pass test ns) t) ∙ e) in (w.0, inr w.1, w.2))
      (λ (t : test n ≡ false). (n, inl refl, t))
      (cases_Bool (test n))
