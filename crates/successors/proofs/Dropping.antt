-- A member that can hand on only what the next label has may be dropped; what is handed on whatever is chosen may be put there at once.
use Rattle.std.proofs.Common.{◌≡◌, ℕ, zero, suc, ◌+◌, ◌^◌, ◌<◌, ◌≤◌, ◌⊎◌, ◌↔◌, length, refl, subst, inl, inr, arith}
use native.Mathlib.Decide.{ℕ_discrete}
use lib.Bits.{bit_or, bit_xor}
use Rattle.ltlf.specs.Contents.{Contents, Proper}
use Rattle.judge.specs.Formulas.{node_at, Among}
use Rattle.tableau.specs.Labels.{◌∈◌}
use Rattle.tableau.specs.Expansion.{Side, Choice, parts, handed_on, Expansion, member, part, HandedOn}
use Rattle.tableau.proofs.Masks.{member?}
use Rattle.tableau.proofs.Steps.{part_before}
use Rattle.viability.specs.Moments.{Moment, SoundAt}
use Rattle.viability.specs.Offers.{Inside, Under, Without, label_of}
use Rattle.viability.specs.Viable.{Fits, Viable}
use Rattle.viability.proofs.Bits.{in_or, in_or_left, in_or_right, label_has, without_xor, without_none}
use Rattle.viability.proofs.Viability.{sound_inside}
use Rattle.successors.specs.Handing.{Hands, Moves}
use Rattle.successors.specs.Ways.{Reaches, Musts}
use Rattle.successors.proofs.Handing.{hands_down, hands_up}

-- N' is N with formulas that members of S hand on whatever is chosen
pub record Forced (xs : ℕ → ℕ) (S N N' : ℕ) : Type 0 where
  pub kept : Inside N N'
  pub new : (g : ℕ) → g ∈ N' → (g ∈ N) ⊎ ((f : ℕ) × ((f ∈ S) × (g ∈ xs f)))

-- a set without k, whether k is in it or not
off : ℕ → ℕ → ℕ
off S k = elim (member? k S) [ yes m ↦ bit_xor S (2 ^ k) | no h ↦ S ]

off_is : (S k : ℕ) → Without S k (off S k)
unfolding off
off_is S k = go (member? k S)
  where
    go : (d : Dec (k ∈ S)) → Without S k (elim d as (λ x. ℕ) [ yes m ↦ bit_xor S (2 ^ k) | no h ↦ S ])
    go (yes m) = without_xor S k m
    go (no h) = without_none S k h

-- T is the union of S and K
abbrev pub Union : ℕ → ℕ → ℕ → Type 0
Union S K T = (f : ℕ) → (f ∈ T) ↔ ((f ∈ S) ⊎ (f ∈ K))

module _ (w : Moment) (b : Contents) (pr : Proper b) (V : ℕ) (vi : Viable w b V) where
  -- what is chosen on a sound expansion fits
  expansion_fits : (κ : Choice) (S : ℕ) → Under S (length b.nodes) → SoundAt w b κ S → (f : ℕ) → Expansion b κ S f → (f < length b.nodes) × Fits w b V f (κ f)
  expansion_fits κ S un so f sp =
      let len : (x : ℕ) → Expansion b κ S x → x < length b.nodes = below in (
        len f sp,
        (so f sp, λ g a. let l : g < f = part_before b pr f (κ f) g a in let l' = len f sp in sound_inside w b pr V vi κ S so (suc g) g (omega arith) (omega arith) (part sp a)),
      )
    where
      below : (x : ℕ) → Expansion b κ S x → x < length b.nodes
      below x (member m) = un x m
      below x (part {f = y} sp' a) = let l : x < y = part_before b pr y (κ y) x a in let l' = below y sp' in omega arith

  module _ (rs : ℕ → ℕ) (re : Reaches w b V rs (length b.nodes)) where
    -- the members of K can only hand on what N has
    abbrev Idle : ℕ → ℕ → Type 0
    Idle K N = (f : ℕ) → f ∈ K → (g : ℕ) → g ∈ rs f → g ∈ N

    split : (κ : Choice) (S K T : ℕ) → Union S K T → (f : ℕ) → Expansion b κ T f → Expansion b κ S f ⊎ Expansion b κ K f
    split κ S K T u f (member m) = elim ((u f).0 m) [ inl x ↦ inl (member x) | inr x ↦ inr (member x) ]
    split κ S K T u g (part {f = f} sp a) = elim (split κ S K T u f sp) [ inl x ↦ inl (part x a) | inr x ↦ inr (part x a) ]

    expansion_up : (κ : Choice) (S T : ℕ) → Inside S T → (f : ℕ) → Expansion b κ S f → Expansion b κ T f
    expansion_up κ S T i f (member m) = member (i f m)
    expansion_up κ S T i g (part {f = f} sp a) = part (expansion_up κ S T i f sp) a

    idle_expansion : (κ : Choice) (K N : ℕ) → Under K (length b.nodes) → SoundAt w b κ K → Idle K N → (f : ℕ) → Expansion b κ K f → (g : ℕ) → g ∈ rs f → g ∈ N
    idle_expansion κ K N un so id f (member m) g h = id f m g h
    idle_expansion κ K N un so id f (part {f = y} sp a) g h =
        let r = expansion_fits κ K un so y sp in
        idle_expansion κ K N un so id y sp g (re y r.0 (κ y) r.1 g (inr (f, (a, h))))

    -- without K
    pub hands_drop : (S K T N q : ℕ) → Under T (length b.nodes) → Union S K T → Idle K N → Hands w b T N q → Hands w b S N q
    hands_drop S K T N q un u id h =
        let κ : Choice = h.choice in
        let iS : Inside S T = λ f m. (u f).1 (inl m) in
        let iK : Inside K T = λ f m. (u f).1 (inr m) in
        let soK : SoundAt w b κ K = λ f sp. h.sound f (expansion_up κ K T iK f sp) in
        let unK : Under K (length b.nodes) = λ f m. un f (iK f m) in
        record {
          choice = κ;
          sound = λ f sp. h.sound f (expansion_up κ S T iS f sp);
          label_is = λ g. (
            (λ m. elim ((h.label_is g).0 m) [
              | inl x ↦ inl x
              | inr p ↦ elim (split κ S K T u p.0 p.1) [
                | inl sp ↦ inr (p.0, sp, p.2)
                | inr sp ↦ (let r = expansion_fits κ K unK soK p.0 sp in
                    inl (idle_expansion κ K N unK soK id p.0 sp g (re p.0 r.0 (κ p.0) r.1 g (inl p.2))))
              ]
            ]),
            elim [ inl x ↦ (h.label_is g).1 (inl x) | inr p ↦ (h.label_is g).1 (inr (p.0, expansion_up κ S T iS p.0 p.1, p.2)) ],
          );
        }

    abbrev IH : ℕ → ℕ → Type 0
    IH j q = (S' K' T' N' : ℕ) → Under T' j → Union S' K' T' → Inside K' V → Idle K' N' → Hands w b S' N' q → Hands w b T' N' q

    -- with K, whose members are viable: by the numbers, from the highest down
    pub hands_add : (i S K T N q : ℕ) → i ≤ length b.nodes → Under T i → Union S K T → Inside K V → Idle K N → Hands w b S N q → Hands w b T N q
    hands_add zero S K T N q len un u ink id h =
        record {
          choice = h.choice;
          sound = λ f sp. absurd (none f sp);
          label_is = λ g. (
            (λ m. elim ((h.label_is g).0 m) [ inl x ↦ inl x | inr p ↦ absurd (none p.0 (expansion_up h.choice S T (λ f x. (u f).1 (inl x)) p.0 p.1)) ]),
            elim [ inl x ↦ (h.label_is g).1 (inl x) | inr p ↦ absurd (none p.0 p.1) ],
          );
        }
      where
        none : (f : ℕ) → Expansion b h.choice T f → ⊥
        none f (member m) = omega (arith, un f m)
        none f (part {f = y} sp a) = none y sp
    hands_add (suc j) S K T N q len un u ink id h =
        elim (member? j S) [
          | yes m ↦ in_s (λ S' K' T' N'. hands_add j S' K' T' N' q (omega arith)) m
          | no out ↦ elim (member? j K) [
            | yes m ↦ in_k (λ S' K' T' N'. hands_add j S' K' T' N' q (omega arith)) m out
            | no out' ↦ hands_add j S K T N q (omega arith) (lower out out') u ink id h
          ]
        ]
      where
        un' : Under T (j + 1)
        un' f m = let l = un f m in omega arith

        lower : (j ∈ S → ⊥) → (j ∈ K → ⊥) → Under T j
        lower o o' f m = elim (ℕ_discrete f j) [
          | yes z ↦ elim ((u f).0 m) [ inl x ↦ absurd (o (subst (λ (y : ℕ). y ∈ S) z x)) | inr x ↦ absurd (o' (subst (λ (y : ℕ). y ∈ K) z x)) ]
          | no ne ↦ (let l = un f m in omega (arith, l, ne))
        ]

        below_t : (ps T' : ℕ) (s : Side) → ((f : ℕ) → (f ∈ T') ↔ (((f ∈ T) × (f ≡ j → ⊥)) ⊎ Among f (parts (node_at b j) s))) → Under T' j
        below_t ps T' s is f m = elim ((is f).0 m) [
          | inl p ↦ (let l = un f p.0 in let ne = p.1 in omega (arith, l, ne))
          | inr a ↦ part_before b pr j s f a
        ]

        in_s : IH j q → j ∈ S → Hands w b T N q
        in_s ih m =
            let s : Side = h.choice j in
            let ps : ℕ = label_of (parts (node_at b j) s) in
            let ls : ℕ = label_of (handed_on j (node_at b j) s) in
            let S' : ℕ = bit_or (off S j) ps in
            let T' : ℕ = bit_or (off T j) ps in
            let K' : ℕ = off K j in
            let N' : ℕ = bit_or N ls in
            let opens : (A : ℕ) (f : ℕ) → (f ∈ bit_or (off A j) ps) ↔ (((f ∈ A) × (f ≡ j → ⊥)) ⊎ Among f (parts (node_at b j) s)) =
            λ A f. (
              (λ x. elim (in_or (off A j) ps f x) [ inl y ↦ inl ((off_is A j f).0 y) | inr y ↦ inr ((label_has f (parts (node_at b j) s)).0 y) ]),
              elim [ inl y ↦ in_or_left (off A j) ps f ((off_is A j f).1 y) | inr y ↦ in_or_right (off A j) ps f ((label_has f (parts (node_at b j) s)).1 y) ],
            ) in
            let hands : (g : ℕ) → (g ∈ N') ↔ ((g ∈ N) ⊎ Among g (handed_on j (node_at b j) s)) =
            λ g. (
              (λ x. elim (in_or N ls g x) [ inl y ↦ inl y | inr y ↦ inr ((label_has g (handed_on j (node_at b j) s)).0 y) ]),
              elim [ inl y ↦ in_or_left N ls g y | inr y ↦ in_or_right N ls g ((label_has g (handed_on j (node_at b j) s)).1 y) ],
            ) in
            let mvS : Moves b j s S N S' N' = record { opened = opens S; handed = hands } in
            let mvT : Moves b j s T N T' N' = record { opened = opens T; handed = hands } in
            let r = hands_down w b pr j s S N S' N' q h refl m mvS in
            let uu : Union S' K' T' =
            λ f. (
              (λ x. elim ((opens T f).0 x) [
                | inl p ↦ elim ((u f).0 p.0) [ inl y ↦ inl ((opens S f).1 (inl (y, p.1))) | inr y ↦ inr ((off_is K j f).1 (y, p.1)) ]
                | inr a ↦ inl ((opens S f).1 (inr a))
              ]),
              elim [
                | inl x ↦ elim ((opens S f).0 x) [ inl p ↦ (opens T f).1 (inl ((u f).1 (inl p.0), p.1)) | inr a ↦ (opens T f).1 (inr a) ]
                | inr x ↦ (let p = (off_is K j f).0 x in (opens T f).1 (inl ((u f).1 (inr p.0), p.1)))
              ],
            ) in
            hands_up w b pr j s T N T' N' q un' ((u j).1 (inl m)) mvT r.0
            (ih S' K' T' N' (below_t ps T' s (opens T)) uu (λ f x. ink f ((off_is K j f).0 x).0) (λ f x g y. in_or_left N ls g (id f ((off_is K j f).0 x).0 g y)) r.1)

        in_k : IH j q → j ∈ K → (j ∈ S → ⊥) → Hands w b T N q
        in_k ih m out =
            let v = (vi j).0 (ink j m) in
            let s : Side = v.1.0 in
            let fit : Fits w b V j s = v.1.1 in
            let ps : ℕ = label_of (parts (node_at b j) s) in
            let opens : (A : ℕ) (f : ℕ) → (f ∈ bit_or (off A j) ps) ↔ (((f ∈ A) × (f ≡ j → ⊥)) ⊎ Among f (parts (node_at b j) s)) =
            λ A f. (
              (λ x. elim (in_or (off A j) ps f x) [ inl y ↦ inl ((off_is A j f).0 y) | inr y ↦ inr ((label_has f (parts (node_at b j) s)).0 y) ]),
              elim [ inl y ↦ in_or_left (off A j) ps f ((off_is A j f).1 y) | inr y ↦ in_or_right (off A j) ps f ((label_has f (parts (node_at b j) s)).1 y) ],
            ) in
            let T' : ℕ = bit_or (off T j) ps in
            let K' : ℕ = bit_or (off K j) ps in
            let re' = re j v.0 s fit in
            let mvT : Moves b j s T N T' N =
            record { opened = opens T; handed = λ g. ((λ x. inl x), elim [ inl x ↦ x | inr a ↦ id j m g (re' g (inl a)) ]) } in
            let uu : Union S K' T' =
            λ f. (
              (λ x. elim ((opens T f).0 x) [
                | inl p ↦ elim ((u f).0 p.0) [ inl y ↦ inl y | inr y ↦ inr ((opens K f).1 (inl (y, p.1))) ]
                | inr a ↦ inr ((opens K f).1 (inr a))
              ]),
              elim [
                | inl x ↦ (opens T f).1 (inl ((u f).1 (inl x), λ z. out (subst (λ (y : ℕ). y ∈ S) z x)))
                | inr x ↦ elim ((opens K f).0 x) [ inl p ↦ (opens T f).1 (inl ((u f).1 (inr p.0), p.1)) | inr a ↦ (opens T f).1 (inr a) ]
              ],
            ) in
            hands_up w b pr j s T N T' N q un' ((u j).1 (inr m)) mvT fit.0
            (ih S K' T' N (below_t ps T' s (opens T)) uu
            (λ f x. elim ((opens K f).0 x) [ inl p ↦ ink f p.0 | inr a ↦ fit.1 f a ])
            (λ f x g y. elim ((opens K f).0 x) [ inl p ↦ id f p.0 g y | inr a ↦ id j m g (re' g (inr (f, (a, y)))) ])
            h)

  module _ (ms : ℕ → ℕ) (mu : Musts w b V ms (length b.nodes)) where
    must_later : (κ : Choice) (S : ℕ) → Under S (length b.nodes) → SoundAt w b κ S → (d f : ℕ) → f < d → Expansion b κ S f → (g : ℕ) → g ∈ ms f → HandedOn b κ S g
    must_later κ S un so zero f lt sp g m = absurd (omega arith)
    must_later κ S un so (suc d) f lt sp g m =
        let r = expansion_fits κ S un so f sp in
        elim (mu f r.0 (κ f) r.1 g m) [
          | inl a ↦ (f, sp, a)
          | inr p ↦ (let l : p.0 < f = part_before b pr f (κ f) p.0 p.1.0 in must_later κ S un so d p.0 (omega arith) (part sp p.1.0) g p.1.1)
        ]

    -- what is handed on whatever is chosen may be put into the next label at once
    pub hands_force : (S N N' q : ℕ) → Under S (length b.nodes) → Forced ms S N N' → Hands w b S N q ↔ Hands w b S N' q
    hands_force S N N' q un fo = (
      (λ h. record {
        choice = h.choice;
        sound = h.sound;
        label_is = λ g. (
          (λ m. elim ((h.label_is g).0 m) [ inl x ↦ inl (fo.kept g x) | inr p ↦ inr p ]),
          elim [
            | inl x ↦ (h.label_is g).1 (elim (fo.new g x) [ inl y ↦ inl y | inr p ↦ inr (must_later h.choice S un h.sound (suc p.0) p.0 (omega arith) (member p.1.0) g p.1.1) ])
            | inr p ↦ (h.label_is g).1 (inr p)
          ],
        );
      }),
      (λ h. record {
        choice = h.choice;
        sound = h.sound;
        label_is = λ g. (
          (λ m. elim ((h.label_is g).0 m) [
            | inl x ↦ elim (fo.new g x) [ inl y ↦ inl y | inr p ↦ inr (must_later h.choice S un h.sound (suc p.0) p.0 (omega arith) (member p.1.0) g p.1.1) ]
            | inr p ↦ inr p
          ]),
          elim [ inl x ↦ (h.label_is g).1 (inl (fo.kept g x)) | inr p ↦ (h.label_is g).1 (inr p) ],
        );
      }),
    )
