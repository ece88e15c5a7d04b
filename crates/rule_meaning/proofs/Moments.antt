-- Operators over what holds at each visit: what is put for a rule, and what is put for its negation.
use Rattle.std.proofs.Common.{◌≡◌, ℕ, zero, suc, ◌+◌, ◌-◌, ◌<◌, ◌≤◌, ◌⊎◌, subst, inl, inr, ⊎_elim, le_refl, eq-or-lt_of_le, arith}
use Rattle.std.proofs.lemmas.Bool.{cases_lt}

-- Q holds at some visit from i on, and P at each before it
abbrev pub Until : (n : ℕ) → (P Q : ℕ → Type 0) → ℕ → Type 0
Until n P Q i = (j : ℕ) × (i ≤ j) × (j < n) × Q j × ((k : ℕ) → i ≤ k → k < j → P k)

-- Q holds to the end, or to a visit where P does
abbrev pub Release : (n : ℕ) → (P Q : ℕ → Type 0) → ℕ → Type 0
Release n P Q i =
    ((j : ℕ) → i ≤ j → j < n → Q j)
    ⊎ ((k : ℕ) × (i ≤ k) × (k < n) × P k × ((j : ℕ) → i ≤ j → j ≤ k → Q j))

-- at each visit, `plain` holds exactly where `written` does, and `dual` exactly where it does not
pub record Meant (n : ℕ) (plain dual written : ℕ → Type 0) : Type 0 where
  pub to : (i : ℕ) → i < n → plain i → written i
  pub from : (i : ℕ) → i < n → written i → plain i
  pub apart : (i : ℕ) → i < n → written i → dual i → ⊥
  pub one : (i : ℕ) → i < n → written i ⊎ dual i

module _ (n : ℕ) (P Q P' Q' : ℕ → Type 0) where
  until_map : ((k : ℕ) → k < n → P k → P' k) → ((k : ℕ) → k < n → Q k → Q' k) → (i : ℕ) → Until n P Q i → Until n P' Q' i
  until_map f g i u = (u.0, u.1, u.2, g u.0 u.2 u.3, λ k p r. f k (omega (arith, u.2, r)) (u.4 k p r))

  release_map : ((k : ℕ) → k < n → P k → P' k) → ((k : ℕ) → k < n → Q k → Q' k) → (i : ℕ) → Release n P Q i → Release n P' Q' i
  release_map f g i (inl h) = inl (λ j p r. g j r (h j p r))
  release_map f g i (inr u) = inr (u.0, u.1, u.2, f u.0 u.2 u.3, λ j p r. g j (omega (arith, u.2, r)) (u.4 j p r))

  -- until does not hold where the release of the duals does
  not_both : ((k : ℕ) → k < n → P k → P' k → ⊥) → ((k : ℕ) → k < n → Q k → Q' k → ⊥) → (i : ℕ) → Until n P Q i → Release n P' Q' i → ⊥
  not_both f g i u (inl h) = g u.0 u.2 u.3 (h u.0 u.1 u.2)
  not_both f g i u (inr v) =
      ⊎_elim
      (λ (before : v.0 < u.0). f v.0 v.2 (u.4 v.0 v.1 before) v.3)
      (λ (past : u.0 ≤ v.0). g u.0 u.2 u.3 (v.4 u.0 u.1 past))
      (cases_lt v.0 u.0)

  module _ (p : (k : ℕ) → k < n → P k ⊎ P' k) (q : (k : ℕ) → k < n → Q k ⊎ Q' k) where
    -- until or the release of the duals holds, from the last visit back
    from_end : (d i : ℕ) → i + d ≡ n → Until n P Q i ⊎ Release n P' Q' i
    from_end zero i e = inr (inl (λ j a b. absurd (omega arith)))
    from_end (suc d) i e = go (q i (omega arith)) (p i (omega arith)) (from_end d (suc i) (omega arith))
      where
        go : Q i ⊎ Q' i → P i ⊎ P' i → Until n P Q (suc i) ⊎ Release n P' Q' (suc i) → Until n P Q i ⊎ Release n P' Q' i
        go (inl h) a l = inl (i, le_refl i, omega arith, h, λ k b c. absurd (omega arith))
        go (inr h) (inr a) l = inr (inr (i, le_refl i, omega arith, a, λ j b c. let is : i ≡ j = omega arith in subst Q' is h))
        go (inr h) (inl a) (inl u) =
            inl (u.0, omega (arith, u.1), u.2, u.3, λ k b c. elim (eq-or-lt_of_le b) [ inl is ↦ subst P is a | inr lt ↦ u.4 k lt c ])
        go (inr h) (inl a) (inr (inl r)) = inr (inl (λ j b c. elim (eq-or-lt_of_le b) [ inl is ↦ subst Q' is h | inr lt ↦ r j lt c ]))
        go (inr h) (inl a) (inr (inr r)) =
            inr (inr (r.0, omega (arith, r.1), r.2, r.3, λ j b c. elim (eq-or-lt_of_le b) [ inl is ↦ subst Q' is h | inr lt ↦ r.4 j lt c ]))

    one_holds : (i : ℕ) → i < n → Until n P Q i ⊎ Release n P' Q' i
    one_holds i h = from_end (n - i) i (omega arith)

swap : {A B : Type 0} → A ⊎ B → B ⊎ A
swap (inl a) = inr a
swap (inr b) = inl b

module _ (n : ℕ) (P D W : ℕ → Type 0) (t : Meant n P D W) where
  -- the same rule in other words
  pub reworded : (V : ℕ → Type 0) → ((i : ℕ) → W i → V i) → ((i : ℕ) → V i → W i) → Meant n P D V
  reworded V f g = record {
    to = λ i h p. f i (t.to i h p);
    from = λ i h v. t.from i h (g i v);
    apart = λ i h v d. t.apart i h (g i v) d;
    one = λ i h. ⊎_elim (λ w. inl (f i w)) (λ d. inr d) (t.one i h);
  }

  pub negated : Meant n D P (λ i. W i → ⊥)
  negated = record {
    to = λ i h d w. t.apart i h w d;
    from = λ i h no_one. ⊎_elim (λ w. absurd (no_one w)) (λ d. d) (t.one i h);
    apart = λ i h no_one p. no_one (t.to i h p);
    one = λ i h. ⊎_elim (λ w. inr (t.from i h w)) (λ d. inl (λ w. t.apart i h w d)) (t.one i h);
  }

  pub tomorrow : Meant n (λ i. (suc i < n) × P (suc i)) (λ i. (suc i ≡ n) ⊎ D (suc i)) (λ i. (suc i < n) × W (suc i))
  tomorrow = record {
    to = λ i h p. (p.0, t.to (suc i) p.0 p.1);
    from = λ i h w. (w.0, t.from (suc i) w.0 w.1);
    apart = λ i h w d. ⊎_elim (λ (last : suc i ≡ n). omega (arith, w.0)) (λ e. t.apart (suc i) w.0 w.1 e) d;
    one = λ i h. ⊎_elim
        (λ (more : suc i < n). ⊎_elim (λ w. inl (more, w)) (λ d. inr (inr d)) (t.one (suc i) more))
        (λ (last : n ≤ suc i). inr (inl (omega arith)))
        (cases_lt (suc i) n);
  }

  pub weak_tomorrow : Meant n (λ i. (suc i ≡ n) ⊎ P (suc i)) (λ i. (suc i < n) × D (suc i)) (λ i. (suc i ≡ n) ⊎ W (suc i))
  weak_tomorrow = record {
    to = λ i h p. ⊎_elim
        (λ (more : suc i < n). ⊎_elim (λ last. inl last) (λ q. inr (t.to (suc i) more q)) p)
        (λ (last : n ≤ suc i). inl (omega arith))
        (cases_lt (suc i) n);
    from = λ i h w. ⊎_elim
        (λ (more : suc i < n). ⊎_elim (λ last. inl last) (λ q. inr (t.from (suc i) more q)) w)
        (λ (last : n ≤ suc i). inl (omega arith))
        (cases_lt (suc i) n);
    apart = λ i h w d. ⊎_elim (λ (last : suc i ≡ n). omega (arith, d.0)) (λ v. t.apart (suc i) d.0 v d.1) w;
    one = λ i h. ⊎_elim
        (λ (more : suc i < n). ⊎_elim (λ w. inl (inr w)) (λ d. inr (more, d)) (t.one (suc i) more))
        (λ (last : n ≤ suc i). inl (inl (omega arith)))
        (cases_lt (suc i) n);
  }

module _ (n : ℕ) (P D W P' D' W' : ℕ → Type 0) (s : Meant n P D W) (t : Meant n P' D' W') where
  pub both : Meant n (λ i. P i × P' i) (λ i. D i ⊎ D' i) (λ i. W i × W' i)
  both = record {
    to = λ i h p. (s.to i h p.0, t.to i h p.1);
    from = λ i h w. (s.from i h w.0, t.from i h w.1);
    apart = λ i h w d. ⊎_elim (λ a. s.apart i h w.0 a) (λ b. t.apart i h w.1 b) d;
    one = λ i h. ⊎_elim (λ w. ⊎_elim (λ v. inl (w, v)) (λ d. inr (inr d)) (t.one i h)) (λ d. inr (inl d)) (s.one i h);
  }

  pub either : Meant n (λ i. P i ⊎ P' i) (λ i. D i × D' i) (λ i. W i ⊎ W' i)
  either = record {
    to = λ i h p. ⊎_elim (λ a. inl (s.to i h a)) (λ b. inr (t.to i h b)) p;
    from = λ i h w. ⊎_elim (λ a. inl (s.from i h a)) (λ b. inr (t.from i h b)) w;
    apart = λ i h w d. ⊎_elim (λ a. s.apart i h a d.0) (λ b. t.apart i h b d.1) w;
    one = λ i h. ⊎_elim (λ w. inl (inl w)) (λ d. ⊎_elim (λ w. inl (inr w)) (λ e. inr (d, e)) (t.one i h)) (s.one i h);
  }

  pub until : Meant n (Until n P P') (Release n D D') (Until n W W')
  until = record {
    to = λ i h p. until_map n P P' W W' s.to t.to i p;
    from = λ i h w. until_map n W W' P P' s.from t.from i w;
    apart = λ i h w d. not_both n W W' D D' s.apart t.apart i w d;
    one = λ i h. one_holds n W W' D D' s.one t.one i h;
  }

  pub release : Meant n (Release n P P') (Until n D D') (Release n W W')
  release = record {
    to = λ i h p. release_map n P P' W W' s.to t.to i p;
    from = λ i h w. release_map n W W' P P' s.from t.from i w;
    apart = λ i h w d. not_both n D D' W W' (λ k b e v. s.apart k b v e) (λ k b e v. t.apart k b v e) i d w;
    one = λ i h. swap (one_holds n D D' W W' (λ k b. swap (s.one k b)) (λ k b. swap (t.one k b)) i h);
  }
