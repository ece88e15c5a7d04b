-- What a state hands on is what its states after one member hand on.
use Rattle.std.proofs.Common.{◌≡◌, ℕ, ◌+◌, ◌<◌, ◌⊎◌, ◌↔◌, sym, refl, subst, inl, inr, arith}
use mathlib.Core.Path.{subst⁻¹}
use native.Mathlib.Decide.{ℕ_discrete}
use Rattle.ltlf.specs.Contents.{Contents, Proper}
use Rattle.judge.specs.Formulas.{node_at, Among}
use Rattle.tableau.specs.Labels.{◌∈◌}
use Rattle.tableau.specs.Expansion.{Side, one, Choice, parts, handed_on, Expansion, member, part, HandedOn}
use Rattle.tableau.proofs.Masks.{zero_has, same_members}
use Rattle.tableau.proofs.Steps.{part_before}
use Rattle.viability.specs.Moments.{Moment, Admits, HandsOn}
use Rattle.viability.specs.Offers.{Under}
use Rattle.successors.specs.Handing.{Hands, Moves}

-- the choice κ, with the side s for k
upd : Choice → ℕ → Side → Choice
upd κ k s f = elim (ℕ_discrete f k) [ yes e ↦ s | no e ↦ κ f ]

upd_here : (κ : Choice) (k : ℕ) (s : Side) → upd κ k s k ≡ s
unfolding upd
upd_here κ k s = go (ℕ_discrete k k)
  where
    go : (d : Dec (k ≡ k)) → (elim d as (λ x. Side) [ yes e ↦ s | no e ↦ κ k ]) ≡ s
    go (yes e) = refl
    go (no h) = absurd (h refl)

upd_other : (κ : Choice) (k : ℕ) (s : Side) (f : ℕ) → (f ≡ k → ⊥) → κ f ≡ upd κ k s f
unfolding upd
upd_other κ k s f ne = go (ℕ_discrete f k)
  where
    go : (d : Dec (f ≡ k)) → κ f ≡ (elim d as (λ x. Side) [ yes e ↦ s | no e ↦ κ f ])
    go (yes e) = absurd (ne e)
    go (no h) = refl

module _ (b : Contents) (κ : Choice) (k : ℕ) (s : Side) (e : κ k ≡ s) (S N S' N' : ℕ) (top : k ∈ S) (mv : Moves b k s S N S' N') where
  out : (f : ℕ) → Expansion b κ S' f → Expansion b κ S f
  out f (member m) = elim ((mv.opened f).0 m) [
    | inl p ↦ member p.0
    | inr a ↦ part (member top) (subst⁻¹ (λ (x : Side). Among f (parts (node_at b k) x)) e a)
  ]
  out g (part {f = f} sp a) = part (out f sp) a

  into : (f : ℕ) → Expansion b κ S f → (f ≡ k) ⊎ Expansion b κ S' f
  into f (member m) = elim (ℕ_discrete f k) [ yes z ↦ inl z | no z ↦ inr (member ((mv.opened f).1 (inl (m, z)))) ]
  into g (part {f = f} sp a) = elim (into f sp) [
    | inl z ↦ inr (member ((mv.opened g).1 (inr
        (subst (λ (x : Side). Among g (parts (node_at b k) x)) e (subst (λ (x : ℕ). Among g (parts (node_at b x) (κ x))) z a)))))
    | inr sp' ↦ inr (part sp' a)
  ]

  handed_out : (g : ℕ) → (g ∈ N') ⊎ HandedOn b κ S' g → (g ∈ N) ⊎ HandedOn b κ S g
  handed_out g (inl m) = elim ((mv.handed g).0 m) [
    | inl x ↦ inl x
    | inr a ↦ inr (k, member top, subst⁻¹ (λ (x : Side). Among g (handed_on k (node_at b k) x)) e a)
  ]
  handed_out g (inr p) = inr (p.0, out p.0 p.1, p.2)

  handed_into : (g : ℕ) → (g ∈ N) ⊎ HandedOn b κ S g → (g ∈ N') ⊎ HandedOn b κ S' g
  handed_into g (inl m) = inl ((mv.handed g).1 (inl m))
  handed_into g (inr p) = elim (into p.0 p.1) [
    | inl z ↦ inl ((mv.handed g).1 (inr
        (subst (λ (x : Side). Among g (handed_on k (node_at b k) x)) e (subst (λ (x : ℕ). Among g (handed_on x (node_at b x) (κ x))) z p.2))))
    | inr sp ↦ inr (p.0, sp, p.2)
  ]

-- an expansion below k does not see the side of k
expansion_like : (b : Contents) → Proper b → (κ κ' : Choice) (k S : ℕ) → ((f : ℕ) → (f ≡ k → ⊥) → κ f ≡ κ' f) → Under S k
    → (f : ℕ) → Expansion b κ S f → (f < k) × Expansion b κ' S f
expansion_like b pr κ κ' k S ag un f (member m) = (un f m, member m)
expansion_like b pr κ κ' k S ag un g (part {f = f} sp a) =
    let r = expansion_like b pr κ κ' k S ag un f sp in
    let l : g < f = part_before b pr f (κ f) g a in
    (omega (arith, r.0), part r.1 (subst (λ (x : Side). Among g (parts (node_at b f) x)) (ag f (λ z. omega (arith, r.0))) a))

module _ (w : Moment) (b : Contents) (pr : Proper b) where
  pub under_moves : (k : ℕ) (s : Side) (S N S' N' : ℕ) → Under S (k + 1) → Moves b k s S N S' N' → Under S' k
  under_moves k s S N S' N' un mv f m = elim ((mv.opened f).0 m) [
    | inl p ↦ (let l = un f p.0 in let ne = p.1 in omega (arith, l, ne))
    | inr a ↦ part_before b pr k s f a
  ]

  pub hands_down : (k : ℕ) (s : Side) (S N S' N' q : ℕ) (h : Hands w b S N q) → h.choice k ≡ s → k ∈ S → Moves b k s S N S' N'
      → Admits w (node_at b k) s × Hands w b S' N' q
  hands_down k s S N S' N' q h e top mv = (
    subst (Admits w (node_at b k)) e (h.sound k (member top)),
    record {
      choice = h.choice;
      sound = λ f sp. h.sound f (out b h.choice k s e S N S' N' top mv f sp);
      label_is = λ g. (
        (λ m. handed_into b h.choice k s e S N S' N' top mv g ((h.label_is g).0 m)),
        (λ x. (h.label_is g).1 (handed_out b h.choice k s e S N S' N' top mv g x)),
      );
    },
  )

  pub hands_up : (k : ℕ) (s : Side) (S N S' N' q : ℕ) → Under S (k + 1) → k ∈ S → Moves b k s S N S' N' → Admits w (node_at b k) s
      → Hands w b S' N' q → Hands w b S N q
  hands_up k s S N S' N' q un top mv ok h =
      let κ : Choice = h.choice in
      let κ' : Choice = upd κ k s in
      let here : κ' k ≡ s = upd_here κ k s in
      let ag : (f : ℕ) → (f ≡ k → ⊥) → κ f ≡ κ' f = upd_other κ k s in
      let ag' : (f : ℕ) → (f ≡ k → ⊥) → κ' f ≡ κ f = λ f ne. sym (upd_other κ k s f ne) in
      let un' : Under S' k = under_moves k s S N S' N' un mv in
      let there : (f : ℕ) → Expansion b κ S' f → (f < k) × Expansion b κ' S' f = expansion_like b pr κ κ' k S' ag un' in
      let back : (f : ℕ) → Expansion b κ' S' f → (f < k) × Expansion b κ S' f = expansion_like b pr κ' κ k S' ag' un' in
      let sides : (g f : ℕ) → f < k → Among g (handed_on f (node_at b f) (κ f)) → Among g (handed_on f (node_at b f) (κ' f)) =
      λ g f l. subst (λ (x : Side). Among g (handed_on f (node_at b f) x)) (ag f (λ z. omega arith)) in
      let sides' : (g f : ℕ) → f < k → Among g (handed_on f (node_at b f) (κ' f)) → Among g (handed_on f (node_at b f) (κ f)) =
      λ g f l. subst (λ (x : Side). Among g (handed_on f (node_at b f) x)) (ag' f (λ z. omega arith)) in
      record {
        choice = κ';
        sound = λ f sp. elim (into b κ' k s here S N S' N' top mv f sp) [
          | inl z ↦ subst⁻¹ (λ (x : ℕ). Admits w (node_at b x) (κ' x)) z (subst⁻¹ (Admits w (node_at b k)) here ok)
          | inr sp' ↦ (let r = back f sp' in subst (Admits w (node_at b f)) (ag f (λ z. omega (arith, r.0))) (h.sound f r.1))
        ];
        label_is = λ g. (
          (λ m. handed_out b κ' k s here S N S' N' top mv g (elim ((h.label_is g).0 m) [
            | inl x ↦ inl x
            | inr p ↦ (let r = there p.0 p.1 in inr (p.0, r.1, sides g p.0 r.0 p.2))
          ])),
          (λ x. (h.label_is g).1 (elim (handed_into b κ' k s here S N S' N' top mv g x) [
            | inl m ↦ inl m
            | inr p ↦ (let r = back p.0 p.1 in inr (p.0, r.1, sides' g p.0 r.0 p.2))
          ])),
        );
      }

  -- nothing is open
  pub hands_none : (S N q : ℕ) → Under S 0 → Hands w b S N q ↔ (q ≡ N)
  hands_none S N q un = (
    (λ h. same_members q N (λ g. (
      (λ m. elim ((h.label_is g).0 m) [ inl x ↦ x | inr p ↦ absurd (none h.choice p.0 p.1) ]),
      (λ m. (h.label_is g).1 (inl m)),
    ))),
    (λ e. record {
      choice = λ f. one;
      sound = λ f sp. absurd (none (λ x. one) f sp);
      label_is = λ g. (
        (λ m. inl (subst (λ (x : ℕ). g ∈ x) e m)),
        elim [ inl m ↦ subst⁻¹ (λ (x : ℕ). g ∈ x) e m | inr p ↦ absurd (none (λ x. one) p.0 p.1) ],
      );
    }),
  )
    where
      none : (κ : Choice) (f : ℕ) → Expansion b κ S f → ⊥
      none κ f (member m) = omega (arith, un f m)
      none κ f (part {f = y} sp a) = none κ y sp

  -- from a label, with nothing handed on yet
  pub hands_start : (L q : ℕ) → Hands w b L 0 q ↔ HandsOn w b L q
  hands_start L q = (
    (λ h. (h.choice, (h.sound, λ g. ((λ m. elim ((h.label_is g).0 m) [ inl z ↦ absurd (zero_has g z) | inr p ↦ p ]), (λ p. (h.label_is g).1 (inr p)))))),
    (λ p. record { choice = p.0; sound = p.1.0; label_is = λ g. ((λ m. inr ((p.1.1 g).0 m)), elim [ inl z ↦ absurd (zero_has g z) | inr x ↦ (p.1.1 g).1 x ]) }),
  )
