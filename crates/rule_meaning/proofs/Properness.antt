-- What is put into proper contents, and named a rule, leaves proper contents.
use Rattle.std.proofs.Common.{◌≡◌, ℕ, ◌+◌, ◌<◌, ◌≤◌, Bool, true, false, not, ◌&&◌, ltb, List, [], ◌∷◌, ◌++◌, length, get_or, Some, None, Ok, Err, Option, Result, sym, refl, ap, ◌∙◌, ⊎_elim, arith}
use Rattle.std.proofs.lemmas.List.{length_push, get_or_push, get_or_append_left}
use Rattle.std.proofs.lemmas.Bool.{cond_both, cases_lt, and_parts, ltb-true, not-true}
use Rattle.refusal.specs.declared.Refusal.{Refusal}
use Rattle.intern.specs.Index.{place}
use Rattle.ltlf.specs.Nodes.{known, same}
use Rattle.ltlf.specs.Contents.{Contents, Proper, empty, counts_fit, counts_leave, put_answer, with_new, put_leaves, among, rule_leaves}
use Rattle.ltlf.specs.declared.node.Node.{Node}
use Rattle.ltlf.specs.declared.node.Node.TheVariants.{True}
use Rattle.ltlf.proofs.Rules.{not_among}
use Rattle.formula_text.specs.Operators.{constant_node, atom_node, one_node, two_node}
use Rattle.formula_text.specs.Grammar.{Written, constant, atom, negation, single, finally, globally, pair, Built, refused, made, then, numbered, put_in, built}
use Rattle.formula_text.specs.declared.operator.Two.TheVariants as two

abbrev with_nodes : Contents → List Node → Contents
with_nodes b ns = record { codes = b.codes; atoms = b.atoms; nodes = ns; rules = b.rules }

abbrev with_rules : Contents → List ℕ → Contents
with_rules b rs = record { codes = b.codes; atoms = b.atoms; nodes = b.nodes; rules = rs }

proper_empty : (codes atoms : ℕ) → Proper (empty codes atoms)
proper_empty codes atoms = record {
  few = omega arith;
  before = λ k h. absurd (omega arith);
  were_put = λ i h. absurd (omega arith);
  apart = λ i j lt h e. omega arith;
}

-- a draft whose counts were set holds nothing yet
pub proper_counted : (codes atoms : ℕ) → Proper (counts_leave (empty 0 0) codes atoms)
proper_counted codes atoms = cond_both (counts_fit codes atoms) _ _ Proper (λ _. proper_empty codes atoms) (λ _. proper_empty 0 0)

pub no_rules : (codes atoms : ℕ) → (counts_leave (empty 0 0) codes atoms).rules ≡ []
no_rules codes atoms = cond_both (counts_fit codes atoms) (empty codes atoms) (empty 0 0) (λ c. c.rules ≡ []) (λ _. refl) (λ _. refl)

module _ (b : Contents) (pr : Proper b) where
  node_more : (node : Node) → known b.atoms (length b.nodes) node ≡ true → length b.nodes < 64 → Proper (with_nodes b (b.nodes ++ node ∷ []))
  node_more node there room =
      let long : length (b.nodes ++ node ∷ []) ≡ length b.nodes + 1 = length_push b.nodes node in
      record {
        few = omega (arith, long);
        before = λ k h. ⊎_elim
            (λ (lt : k < length b.nodes). ap (known b.atoms k) (get_or_append_left b.nodes (node ∷ []) True k lt) ∙ pr.before k lt)
            (λ (ge : length b.nodes ≤ k).
            let is : length b.nodes ≡ k = omega (arith, long, h) in
            ap (known b.atoms k) (get_or_push b.nodes node True k is) ∙ ap (λ j. known b.atoms j node) (sym is) ∙ there)
            (cases_lt k (length b.nodes));
        were_put = λ i h. omega (arith, long, pr.were_put i h);
        apart = pr.apart;
      }

  put_proper : (node : Node) → Proper (put_leaves b node)
  put_proper node =
      cond_both (known b.atoms (length b.nodes) node) (with_new node b.nodes (place same node b.nodes)) b.nodes (λ ns. Proper (with_nodes b ns))
      (λ there. go there (place same node b.nodes))
      (λ _. pr)
    where
      go : known b.atoms (length b.nodes) node ≡ true → (o : Option ℕ) → Proper (with_nodes b (with_new node b.nodes o))
      go there (Some k) = pr
      go there None =
          cond_both (ltb (length b.nodes) 64) (b.nodes ++ node ∷ []) b.nodes (λ ns. Proper (with_nodes b ns))
          (λ room. node_more node there (ltb-true (length b.nodes) 64 room))
          (λ _. pr)

  rule_more : (f : ℕ) → f < length b.nodes → among f b.rules ≡ false → Proper (with_rules b (b.rules ++ f ∷ []))
  rule_more f put fresh =
      let long : length (b.rules ++ f ∷ []) ≡ length b.rules + 1 = length_push b.rules f in
      let old : (i : ℕ) → i < length b.rules → get_or (b.rules ++ f ∷ []) i 0 ≡ get_or b.rules i 0 = λ i lt. get_or_append_left b.rules (f ∷ []) 0 i lt in
      let new : (i : ℕ) → length b.rules ≡ i → get_or (b.rules ++ f ∷ []) i 0 ≡ f = λ i is. get_or_push b.rules f 0 i is in
      record {
        few = pr.few;
        before = pr.before;
        were_put = λ i h. ⊎_elim
            (λ (lt : i < length b.rules). omega (arith, old i lt, pr.were_put i lt))
            (λ (ge : length b.rules ≤ i). let is : length b.rules ≡ i = omega (arith, long, h) in omega (arith, new i is))
            (cases_lt i (length b.rules));
        apart = λ i j lt h e.
            let early : i < length b.rules = omega (arith, long, h) in
            ⊎_elim
            (λ (less : j < length b.rules). pr.apart i j lt less (sym (old i early) ∙ e ∙ old j less))
            (λ (ge : length b.rules ≤ j).
            let is : length b.rules ≡ j = omega (arith, long, h) in
            not_among f b.rules fresh i early (sym (old i early) ∙ e ∙ new j is))
            (cases_lt j (length b.rules));
      }

  pub rule_proper : (f : ℕ) → Proper (rule_leaves b f)
  rule_proper f =
      cond_both (ltb f (length b.nodes) && not (among f b.rules)) (b.rules ++ f ∷ []) b.rules (λ rs. Proper (with_rules b rs))
      (λ new.
      let parts = and_parts (ltb f (length b.nodes)) (not (among f b.rules)) new in
      rule_more f (ltb-true f (length b.nodes) parts.0) (not-true (among f b.rules) parts.1))
      (λ _. pr)

-- what the draft holds, made or refused
abbrev pub held : Built → Contents
held (refused b) = b
held (made b k) = b

put_in_proper : (node : Node) (b : Contents) → Proper b → Proper (held (put_in node b))
put_in_proper node b pr = go (put_answer b node)
  where
    go : (o : Result ℕ Refusal) → Proper (held (numbered o (put_leaves b node)))
    go (Ok k) = put_proper b pr node
    go (Err e) = put_proper b pr node

then_proper : (m : Built) (f : Contents → ℕ → Built) → Proper (held m) → ((c : Contents) (k : ℕ) → Proper c → Proper (held (f c k))) → Proper (held (then m f))
then_proper (refused b) f pr h = pr
then_proper (made b k) f pr h = h b k pr

pub built_proper : (negated : Bool) (w : Written) (b : Contents) → Proper b → Proper (held (built negated w b))
unfolding built
built_proper negated (constant v) b pr = put_in_proper (constant_node v negated) b pr
built_proper negated (atom a) b pr = put_in_proper (atom_node negated a) b pr
built_proper negated (negation w) b pr = built_proper (not negated) w b pr
built_proper negated (single op w) b pr =
    then_proper (built negated w b) (λ b k. put_in (one_node op negated k) b) (built_proper negated w b pr) (λ c k. put_in_proper (one_node op negated k) c)
built_proper negated (finally w) b pr =
    then_proper (put_in (constant_node true negated) b) (λ b l. then (built negated w b) (λ b r. put_in (two_node two.Until negated l r) b))
    (put_in_proper (constant_node true negated) b pr)
    (λ c l cp. then_proper (built negated w c) (λ b r. put_in (two_node two.Until negated l r) b) (built_proper negated w c cp) (λ d r. put_in_proper (two_node two.Until negated l r) d))
built_proper negated (globally w) b pr =
    then_proper (put_in (constant_node false negated) b) (λ b l. then (built negated w b) (λ b r. put_in (two_node two.Release negated l r) b))
    (put_in_proper (constant_node false negated) b pr)
    (λ c l cp. then_proper (built negated w c) (λ b r. put_in (two_node two.Release negated l r) b) (built_proper negated w c cp) (λ d r. put_in_proper (two_node two.Release negated l r) d))
built_proper negated (pair op v w) b pr =
    then_proper (built negated v b) (λ b l. then (built negated w b) (λ b r. put_in (two_node op negated l r) b))
    (built_proper negated v b pr)
    (λ c l cp. then_proper (built negated w c) (λ b r. put_in (two_node op negated l r) b) (built_proper negated w c cp) (λ d r. put_in_proper (two_node op negated l r) d))
