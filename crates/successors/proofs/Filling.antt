-- The ways on from each viable formula, and their masks, formula by formula.
use Rattle.std.proofs.Common.{◌≡◌, ℕ, zero, suc, ◌+◌, ◌-◌, ◌/◌, ◌%◌, ◌^◌, ◌<◌, ◌≤◌, ◌⊎◌, ◌↔◌, List, length, get_or, set, Some, None, Option, sym, refl, ap, ◌∙◌, subst, inl, inr, arith}
use mathlib.Core.Path.{subst⁻¹}
use native.Mathlib.Decide.{ℕ_discrete}
use lib.Bits.{bit_or, bit_and, and_shr, and_mod}
use lib.Count.{count_leading_zeros}
use Rattle.std.proofs.lemmas.Nat.{leading_top}
use Rattle.std.proofs.lemmas.List.{get_or-set_same, get_or-set_other}
use Rattle.ltlf.specs.Contents.{Contents, Proper}
use Rattle.judge.specs.Formulas.{node_at, Among}
use Rattle.tableau.specs.Labels.{◌∈◌}
use Rattle.tableau.specs.Expansion.{Side, one, other, parts, handed_on}
use Rattle.tableau.proofs.Masks.{zero_has, member?, small}
use Rattle.tableau.proofs.Steps.{part_before}
use Rattle.viability.specs.declared.offer.Offer.{Offer}
use Rattle.viability.specs.Moments.{Moment}
use Rattle.viability.specs.Offers.{Inside, Under, Without, OffersSide}
use Rattle.viability.specs.Viable.{Fits, FitOffered}
use Rattle.viability.proofs.Bits.{in_below, in_or, in_or_left, in_or_right, label_has}
use Rattle.successors.specs.declared.guide.Guide.{Guide}
use Rattle.successors.specs.declared.guide.Span.{Span}
use Rattle.successors.specs.declared.ways.Ways.{Ways}
use Rattle.successors.specs.Guides.{no_guide, reach_at, must_at, GuidesBelow}
use Rattle.successors.specs.Handing.{Top}
use Rattle.successors.specs.Ways.{LikeSide, WaysOn, From, Reaches, Musts, Gathers, Brought, Brings, Covers, Shared}

-- THE GREATEST MEMBER

top_at : (a j : ℕ) → 2 ^ j ≤ a → a < 2 ^ suc j → Top a j
top_at a j le lt = record {
  within = elim (member? j a) [
    | yes m ↦ m
    | no out ↦ absurd (omega (
      arith,
      le,
      small j a (λ f m.
          let l : f < suc j = in_below a (suc j) f lt m in
          elim (ℕ_discrete f j) [ yes e ↦ absurd (out (subst (λ (x : ℕ). x ∈ a) e m)) | no ne ↦ omega (arith, l, ne) ]),
    ))
  ];
  under = λ f m. let l : f < suc j = in_below a (suc j) f lt m in omega arith;
  least = le;
}

pub top_is : (a r : ℕ) → 0 < a → a < 2 ^ 64 → r ≡ 63 - count_leading_zeros 64 a → (r < 64) × Top a r
top_is a r pos lt e =
    let p = leading_top 64 a pos lt in
    let same : r ≡ p.0 = omega (arith, p.1, e) in
    (omega (arith, p.1, e), subst⁻¹ (Top a) same (top_at a p.0 p.2 p.3))

pub under_less : (S k S' : ℕ) → Top S k → Under S' k → S' < S
under_less S k S' t un = omega (arith, small k S' un, t.least)

pub under_rest : (S k rest : ℕ) → Top S k → Without S k rest → Under rest k
under_rest S k rest t off f m = let p = (off f).0 m in let l = t.under f p.0 in let ne = p.1 in omega (arith, l, ne)

-- GATHERING

-- the masks of the members that are not left are in r
pub record Gathering (xs : ℕ → ℕ) (S rest r : ℕ) : Type 0 where
  pub within : Inside rest S
  pub some : (g : ℕ) → (g ∈ r) ↔ ((f : ℕ) × ((f ∈ S) × ((f ∈ rest → ⊥) × (g ∈ xs f))))

pub gathering_none : (xs : ℕ → ℕ) (S : ℕ) → Gathering xs S S 0
gathering_none xs S = record { within = λ f m. m; some = λ g. ((λ m. absurd (zero_has g m)), (λ p. absurd (p.1.1.0 p.1.0))) }

pub gathering_more : (xs : ℕ → ℕ) (S rest rest' r v k : ℕ) → k ∈ rest → Without rest k rest' → v ≡ xs k
    → Gathering xs S rest r → Gathering xs S rest' (bit_or r v)
gathering_more xs S rest rest' r v k top off e ga = record {
  within = λ f m. ga.within f ((off f).0 m).0;
  some = λ g. (
    (λ x. elim (in_or r v g x) [
      | inl y ↦ (let p = (ga.some g).0 y in (p.0, (p.1.0, ((λ m. p.1.1.0 ((off p.0).0 m).0), p.1.1.1))))
      | inr y ↦ (k, (ga.within k top, ((λ m. ((off k).0 m).1 refl), subst (λ (z : ℕ). g ∈ z) e y)))
    ]),
    (λ p. elim (ℕ_discrete p.0 k) [
      | yes z ↦ in_or_right r v g (subst⁻¹ (λ (y : ℕ). g ∈ y) e (subst (λ (y : ℕ). g ∈ xs y) z p.1.1.1))
      | no ne ↦ in_or_left r v g ((ga.some g).1 (p.0, (p.1.0, ((λ m. p.1.1.0 ((off p.0).1 (m, ne))), p.1.1.1))))
    ]),
  );
}

pub gathering_done : (xs : ℕ → ℕ) (S rest r : ℕ) → rest ≡ 0 → Gathering xs S rest r → Gathers xs S r
gathering_done xs S rest r e ga g = (
  (λ m. let p = (ga.some g).0 m in (p.0, (p.1.0, p.1.1.1))),
  (λ p. (ga.some g).1 (p.0, (p.1.0, ((λ m. zero_has p.0 (subst (λ (x : ℕ). p.0 ∈ x) e m)), p.1.1)))),
)

pub brings_or : (xs : ℕ → ℕ) (o : Offer) (u : ℕ) → Gathers xs o.parts u → Brings xs o (bit_or o.handed u)
brings_or xs o u ga g = (
  (λ m. elim (in_or o.handed u g m) [ inl x ↦ inl x | inr x ↦ inr ((ga g).0 x) ]),
  elim [ inl x ↦ in_or_left o.handed u g x | inr p ↦ in_or_right o.handed u g ((ga g).1 p) ],
)

and_bits : (x y : ℕ) → x < 2 → y < 2 → bit_and x y ≡ 1 → (x ≡ 1) × (y ≡ 1)
and_bits zero zero h k e = absurd (omega arith)
and_bits zero (suc zero) h k e = absurd (omega arith)
and_bits (suc zero) zero h k e = absurd (omega arith)
and_bits (suc zero) (suc zero) h k e = (refl, refl)
and_bits zero (suc (suc y)) h k e = absurd (omega arith)
and_bits (suc zero) (suc (suc y)) h k e = absurd (omega arith)
and_bits (suc (suc x)) y h k e = absurd (omega arith)

in_and : (a c g : ℕ) → g ∈ bit_and a c → (g ∈ a) × (g ∈ c)
unfolding ◌∈◌
in_and a c g m =
    let e : bit_and a c / 2 ^ g % 2 ≡ bit_and (a / 2 ^ g % 2) (c / 2 ^ g % 2) =
    ap (λ (x : ℕ). x % 2) (and_shr a c g) ∙ and_mod (a / 2 ^ g) (c / 2 ^ g) 1 in
    and_bits (a / 2 ^ g % 2) (c / 2 ^ g % 2) (omega arith) (omega arith) (sym e ∙ m)

pub same_offer : (r : Option Offer) (o o' : Offer) → r ≡ Some o → r ≡ Some o' → o ≡ o'
same_offer r o o' e e' = let z : ◌≡◌ {A = Option Offer} (Some o) (Some o') = sym e ∙ e' in cc

pub no_offer : (r : Option Offer) (o : Offer) → r ≡ None → r ≡ Some o → ⊥
no_offer r o e e' = let z : ◌≡◌ {A = Option Offer} None (Some o) = sym e ∙ e' in cc

-- the masks of formulas with one way on, and with two
module _ (xs : ℕ → ℕ) (on : Ways) where
  pub covers_one : (r : ℕ) → on.second ≡ None → Brings xs on.first r → Covers xs on r
  covers_one r no-fork br = record { first_in = λ g h. (br g).1 h; second_in = λ o e. absurd (no_offer on.second o no-fork e) }

  pub covers_two : (o : Offer) (r u : ℕ) → on.second ≡ Some o → Brings xs on.first r → Brings xs o u → Covers xs on (bit_or r u)
  covers_two o r u fork br bu = record {
    first_in = λ g h. in_or_left r u g ((br g).1 h);
    second_in = λ o' e g h. in_or_right r u g ((bu g).1 (subst (λ (x : Offer). Brought xs x g) (same_offer on.second o' o e fork) h));
  }

  pub shared_one : (r : ℕ) → on.second ≡ None → Brings xs on.first r → Shared xs on r
  shared_one r no-fork br = record { first_has = λ g h. (br g).0 h; second_has = λ o e. absurd (no_offer on.second o no-fork e) }

  pub shared_two : (o : Offer) (r u : ℕ) → on.second ≡ Some o → Brings xs on.first r → Brings xs o u → Shared xs on (bit_and r u)
  shared_two o r u fork br bu = record {
    first_has = λ g h. (br g).0 (in_and r u g h).0;
    second_has = λ o' e g h. subst (λ (x : Offer). Brought xs x g) (same_offer on.second o o' fork e) ((bu g).0 (in_and r u g h).1);
  }

-- THE WAYS ON

-- what remains of the offer beside o: none where it is the same
abbrev pub Another : (o : Offer) (beside second : Option Offer) → Type 0
Another o None second = second ≡ None
Another o (Some q) second = ((second ≡ None) × (q ≡ o)) ⊎ (second ≡ Some q)

module _ (w : Moment) (b : Contents) (V k : ℕ) where
  like : (s : Side) (o : Offer) → OffersSide k (node_at b k) s o → LikeSide b k s o
  like s o of = (of.parts_are, of.handed_are)

  -- no side fits
  pub ways_none : ¬ (Fits w b V k one) → ¬ (Fits w b V k other) → (s : Side) → ¬ (Fits w b V k s)
  ways_none out out' one = out
  ways_none out out' other = out'

  -- only the other side fits
  pub ways_other : (o : Offer) → ¬ (Fits w b V k one) → FitOffered w b V k other (Some o) → WaysOn w b V k (record { first = o; second = None })
  ways_other o out of = record {
    first_is = (other, (of.0, like other o of.1));
    second_is = λ p e. absurd (no_offer None p refl e);
    no_third = third;
  }
    where
      third : (s : Side) → Fits w b V k s → LikeSide b k s o ⊎ ((p : Offer) × ((◌≡◌ {A = Option Offer} None (Some p)) × LikeSide b k s p))
      third one fit = absurd (out fit)
      third other fit = inl (like other o of.1)

  -- one side fits, and the other is another way on unless it brings the same
  pub ways_one : (o : Offer) (r second : Option Offer) → FitOffered w b V k one (Some o) → FitOffered w b V k other r → Another o r second
      → WaysOn w b V k (record { first = o; second = second })
  ways_one o None second of or e = record {
    first_is = (one, (of.0, like one o of.1));
    second_is = λ p f. absurd (no_offer second p e f);
    no_third = third;
  }
    where
      third : (s : Side) → Fits w b V k s → LikeSide b k s o ⊎ ((p : Offer) × ((second ≡ Some p) × LikeSide b k s p))
      third one fit = inl (like one o of.1)
      third other fit = absurd (or fit)
  ways_one o (Some q) second of oq (inl (e, same)) = record {
    first_is = (one, (of.0, like one o of.1));
    second_is = λ p f. absurd (no_offer second p e f);
    no_third = third;
  }
    where
      third : (s : Side) → Fits w b V k s → LikeSide b k s o ⊎ ((p : Offer) × ((second ≡ Some p) × LikeSide b k s p))
      third one fit = inl (like one o of.1)
      third other fit = inl (subst (LikeSide b k other) same (like other q oq.1))
  ways_one o (Some q) second of oq (inr e) = record {
    first_is = (one, (of.0, like one o of.1));
    second_is = λ p f. (other, (oq.0, subst (LikeSide b k other) (same_offer second q p e f) (like other q oq.1)));
    no_third = third;
  }
    where
      third : (s : Side) → Fits w b V k s → LikeSide b k s o ⊎ ((p : Offer) × ((second ≡ Some p) × LikeSide b k s p))
      third one fit = inl (like one o of.1)
      third other fit = inr (q, (e, like other q oq.1))

-- FORMULA BY FORMULA

module _ (w : Moment) (b : Contents) (pr : Proper b) (V : ℕ) (k : ℕ) (on : Ways) (is : WaysOn w b V k on) where
  from_brought : (xs : ℕ → ℕ) (s : Side) (o : Offer) → LikeSide b k s o → (g : ℕ) → From b xs k s g ↔ Brought xs o g
  from_brought xs s o l g = (
    elim [
      | inl a ↦ inl (subst⁻¹ (λ (z : ℕ). g ∈ z) l.1 ((label_has g (handed_on k (node_at b k) s)).1 a))
      | inr p ↦ inr (p.0, (subst⁻¹ (λ (z : ℕ). p.0 ∈ z) l.0 ((label_has p.0 (parts (node_at b k) s)).1 p.1.0), p.1.1))
    ],
    elim [
      | inl m ↦ inl ((label_has g (handed_on k (node_at b k) s)).0 (subst (λ (z : ℕ). g ∈ z) l.1 m))
      | inr p ↦ inr (p.0, ((label_has p.0 (parts (node_at b k) s)).0 (subst (λ (z : ℕ). p.0 ∈ z) l.0 p.1.0), p.1.1))
    ],
  )

  module _ (xs ys : ℕ → ℕ) (same : (h : ℕ) → (h ≡ k → ⊥) → ys h ≡ xs h) where
    -- up to k nothing changes when the mask of k is written
    from_set : (f : ℕ) → f ≤ k → (s : Side) (g : ℕ) → From b ys f s g ↔ From b xs f s g
    from_set f le s g =
        let kept : (h : ℕ) → Among h (parts (node_at b f) s) → ys h ≡ xs h =
        λ h a. let l : h < f = part_before b pr f s h a in same h (λ z. omega arith) in (
          elim [ inl a ↦ inl a | inr p ↦ inr (p.0, (p.1.0, subst (λ (z : ℕ). g ∈ z) (kept p.0 p.1.0) p.1.1)) ],
          elim [ inl a ↦ inl a | inr p ↦ inr (p.0, (p.1.0, subst⁻¹ (λ (z : ℕ). g ∈ z) (kept p.0 p.1.0) p.1.1)) ],
        )

    reach_step : Covers xs on (ys k) → Reaches w b V xs k → Reaches w b V ys (k + 1)
    reach_step cov re f l s fit g fr = elim (ℕ_discrete f k) [
      | yes z ↦ subst⁻¹ (λ (y : ℕ). g ∈ ys y) z
          (here (subst (λ (y : ℕ). Fits w b V y s) z fit) ((from_set k (omega arith) s g).0 (subst (λ (y : ℕ). From b ys y s g) z fr)))
      | no ne ↦ subst⁻¹ (λ (y : ℕ). g ∈ y) (same f ne) (re f (omega (arith, l, ne)) s fit g ((from_set f (omega (arith, l)) s g).0 fr))
    ]
      where
        here : Fits w b V k s → From b xs k s g → g ∈ ys k
        here ft fr' = elim (is.no_third s ft) [
          | inl like ↦ cov.first_in g ((from_brought xs s on.first like g).0 fr')
          | inr p ↦ cov.second_in p.0 p.1.0 g ((from_brought xs s p.0 p.1.1 g).0 fr')
        ]

    must_step : Shared xs on (ys k) → Musts w b V xs k → Musts w b V ys (k + 1)
    must_step sh mu f l s fit g m = elim (ℕ_discrete f k) [
      | yes z ↦ subst⁻¹ (λ (y : ℕ). From b ys y s g) z
          ((from_set k (omega arith) s g).1
          (here (subst (λ (y : ℕ). Fits w b V y s) z fit) (subst (λ (y : ℕ). g ∈ ys y) z m)))
      | no ne ↦ (from_set f (omega (arith, l)) s g).1 (mu f (omega (arith, l, ne)) s fit g (subst (λ (y : ℕ). g ∈ y) (same f ne) m))
    ]
      where
        here : Fits w b V k s → g ∈ ys k → From b xs k s g
        here ft m' = elim (is.no_third s ft) [
          | inl like ↦ (from_brought xs s on.first like g).1 (sh.first_has g m')
          | inr p ↦ (from_brought xs s p.0 p.1.1 g).1 (sh.second_has p.0 p.1.0 g m')
        ]

  pub guides_step : (gs : List Guide) (sp : Span) → k < length gs → Covers (reach_at gs) on sp.reach → Shared (must_at gs) on sp.must
      → GuidesBelow w b V gs k → GuidesBelow w b V (set gs k (record { ways = on; span = sp })) (k + 1)
  guides_step gs sp lt cov sh gb =
      let v : Guide = record { ways = on; span = sp } in
      let us : List Guide = set gs k v in
      let here : (d : Guide) → get_or us k d ≡ v = λ d. get_or-set_same gs k v d lt in
      let there : (h : ℕ) (d : Guide) → (h ≡ k → ⊥) → get_or us h d ≡ get_or gs h d = λ h d ne. get_or-set_other gs k h v d ne in
      let now : (d : Guide) → WaysOn w b V k (get_or us k d).ways = λ d. subst⁻¹ (λ (x : Guide). WaysOn w b V k x.ways) (here d) is in
      record {
        ways_are = λ f l s fit d. elim (ℕ_discrete f k) [
          | yes z ↦ subst⁻¹ (λ (y : ℕ). WaysOn w b V y (get_or us y d).ways) z (now d)
          | no ne ↦ subst⁻¹ (λ (x : Guide). WaysOn w b V f x.ways) (there f d ne) (gb.ways_are f (omega (arith, l, ne)) s fit d)
        ];
        reaches = reach_step (reach_at gs) (reach_at us) (λ h ne. ap (λ (x : Guide). x.span.reach) (there h no_guide ne))
            (subst⁻¹ (λ (x : Guide). Covers (reach_at gs) on x.span.reach) (here no_guide) cov) gb.reaches;
        musts = must_step (must_at gs) (must_at us) (λ h ne. ap (λ (x : Guide). x.span.must) (there h no_guide ne))
            (subst⁻¹ (λ (x : Guide). Shared (must_at gs) on x.span.must) (here no_guide) sh) gb.musts;
      }

-- a formula that no side fits
pub guides_skip : (w : Moment) (b : Contents) (V k : ℕ) (gs : List Guide) → ((s : Side) → ¬ (Fits w b V k s)) → GuidesBelow w b V gs k → GuidesBelow w b V gs (k + 1)
guides_skip w b V k gs none gb = record {
  ways_are = λ f l s fit. elim (ℕ_discrete f k) [ yes z ↦ absurd (none s (subst (λ (y : ℕ). Fits w b V y s) z fit)) | no ne ↦ gb.ways_are f (omega (arith, l, ne)) s fit ];
  reaches = λ f l s fit. elim (ℕ_discrete f k) [ yes z ↦ absurd (none s (subst (λ (y : ℕ). Fits w b V y s) z fit)) | no ne ↦ gb.reaches f (omega (arith, l, ne)) s fit ];
  musts = λ f l s fit. elim (ℕ_discrete f k) [ yes z ↦ absurd (none s (subst (λ (y : ℕ). Fits w b V y s) z fit)) | no ne ↦ gb.musts f (omega (arith, l, ne)) s fit ];
}
