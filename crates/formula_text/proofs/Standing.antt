-- Where what was built stands.
use Rattle.std.proofs.Common.{◌≡◌, ℕ, zero, suc, Bool, true, false, cond, not, ltb, List, [], ◌∷◌, ◌++◌, length, Some, None, Ok, Err, Option, Result, sym, refl, ap, ◌∙◌, subst, ⊎_elim, append_assoc, append-nil, arith}
use Rattle.std.proofs.lemmas.Bool.{cond-true, cond-false, cases_Bool}
use Rattle.refusal.specs.declared.Refusal.{Refusal}
use Rattle.refusal.specs.declared.Refusal.TheVariants.{Unknown, TooManyFormulas}
use Rattle.intern.specs.Index.{place, further}
use Rattle.ltlf.specs.Nodes.{known, same}
use Rattle.ltlf.specs.Contents as ltlf
use Rattle.ltlf.specs.Contents.{Contents, put_answer, with_new, put_leaves}
use Rattle.ltlf.specs.declared.node.Node.{Node}
use Rattle.formula_text.specs.Operators.{constant_node, atom_node, one_node, two_node}
use Rattle.formula_text.specs.Grammar.{Built, refused, made, constant, atom, negation, single, finally, globally, pair, then, numbered, put_in, built}
use Rattle.formula_text.specs.Trees.{Tree, value, literal, over, both, dual_one, dual_two, pushed, At, Stands, Grown, BuiltStands}
use Rattle.formula_text.specs.declared.operator.One.{One}
use Rattle.formula_text.specs.declared.operator.One.TheVariants as one
use Rattle.formula_text.specs.declared.operator.Two.{Two}
use Rattle.formula_text.specs.declared.operator.Two.TheVariants as two
use Rattle.formula_text.proofs.Same.{same_equal}

pub grown_then : (a b c : Contents) → Grown a b → Grown b c → Grown a c
grown_then a b c f g = record {
  codes = g.codes ∙ f.codes;
  atoms = g.atoms ∙ f.atoms;
  rules = g.rules ∙ f.rules;
  added = f.added ++ g.added;
  nodes = g.nodes ∙ ap (λ x. x ++ g.added) f.nodes ∙ append_assoc a.nodes f.added g.added;
}

at_more : (ns ms : List Node) (k : ℕ) (n : Node) → At ns k n → At (ns ++ ms) k n
at_more [] ms k n h = absurd h
at_more (x ∷ xs) ms zero n h = h
at_more (x ∷ xs) ms (suc k) n h = at_more xs ms k n h

at_end : (ns : List Node) (n : Node) → At (ns ++ n ∷ []) (length ns) n
at_end [] n = refl
at_end (x ∷ xs) n = at_end xs n

stands_front : (ns ms : List Node) (t : Tree) (k : ℕ) → Stands ns t k → Stands (ns ++ ms) t k
stands_front ns ms (value v) k h = at_more ns ms k _ h
stands_front ns ms (literal negated a) k h = at_more ns ms k _ h
stands_front ns ms (over op t) k h = (h.0, at_more ns ms k _ h.1, stands_front ns ms t h.0 h.2)
stands_front ns ms (both op s t) k h = (h.0, h.1, at_more ns ms k _ h.2, stands_front ns ms s h.0 h.3, stands_front ns ms t h.1 h.4)

pub stands_more : (b after : Contents) (t : Tree) (k : ℕ) → Grown b after → Stands b.nodes t k → Stands after.nodes t k
stands_more b after t k g h = subst (λ x. Stands x t k) (sym g.nodes) (stands_front b.nodes g.added t k h)

-- an equal formula stands where it was found
found_at : (node : Node) (ns : List Node) (k : ℕ) → place same node ns ≡ Some k → At ns k node
found_at node [] k e = let z : ◌≡◌ {A = ℕ} 0 1 = cc in absurd (omega arith)
found_at node (x ∷ xs) k e =
    ⊎_elim
    (λ t. let w : Some 0 ≡ Some k = sym (cond-true _ _ _ t) ∙ e in let is : 0 ≡ k = cc in subst (λ i. At (x ∷ xs) i node) is (same_equal x node t))
    (λ f. go (place same node xs) (λ j. found_at node xs j) refl (sym (cond-false (same x node) (Some 0) _ f) ∙ e))
    (cases_Bool (same x node))
  where
    go : (o : Option ℕ) → ((j : ℕ) → place same node xs ≡ Some j → At xs j node) → place same node xs ≡ o → further (place same node xs) ≡ Some k → At (x ∷ xs) k node
    go None later is w = let never : None ≡ Some k = ap further (sym is) ∙ w in let z : ◌≡◌ {A = ℕ} 0 1 = cc in absurd (omega arith)
    go (Some j) later is w = let there : Some (suc j) ≡ Some k = ap further (sym is) ∙ w in let jk : suc j ≡ k = cc in subst (λ i. At (x ∷ xs) i node) jk (later j is)

-- formulas with perhaps one more, and the place of one of them
pub record Kept (node : Node) (ns after : List Node) (k : ℕ) : Type 0 where
  pub added : List Node
  pub grows : after ≡ ns ++ added
  pub here : At after k node

put_at : (is_Known : Bool) (node : Node) (ns : List Node) (o : Option ℕ) (k : ℕ) → place same node ns ≡ o → cond is_Known (ltlf.numbered ns o) (Err Unknown) ≡ Ok k → Kept node ns (cond is_Known (with_new node ns o) ns) k
put_at false node ns o k is e = let z : ◌≡◌ {A = ℕ} 0 1 = cc in absurd (omega arith)
put_at true node ns (Some j) k is e = let jk : j ≡ k = cc in record { added = []; grows = sym (append-nil ns); here = subst (λ i. At ns i node) jk (found_at node ns j is) }
put_at true node ns None k is e =
    ⊎_elim
    (λ room.
    let w : ◌≡◌ {A = Result ℕ Refusal} (Ok (length ns)) (Ok k) = sym (cond-true (ltb (length ns) 64) (Ok (length ns)) (Err TooManyFormulas) room) ∙ e in
    let last : length ns ≡ k = cc in
    let grew = cond-true (ltb (length ns) 64) (ns ++ node ∷ []) ns room in
    record { added = node ∷ []; grows = grew; here = subst (λ x. At x k node) (sym grew) (subst (λ i. At (ns ++ node ∷ []) i node) last (at_end ns node)) })
    (λ full.
    let w : ◌≡◌ {A = Result ℕ Refusal} (Err TooManyFormulas) (Ok k) = sym (cond-false (ltb (length ns) 64) (Ok (length ns)) (Err TooManyFormulas) full) ∙ e in
    let z : ◌≡◌ {A = ℕ} 0 1 = cc in absurd (omega arith))
    (cases_Bool (ltb (length ns) 64))

pub record Put (node : Node) (b after : Contents) (k : ℕ) : Type 0 where
  pub grows : Grown b after
  pub here : At after.nodes k node

put_kept : (node : Node) (b after : Contents) (k : ℕ) → put_in node b ≡ made after k → Put node b after k
put_kept node b after k e = go (put_answer b node) refl
  where
    go : (o : Result ℕ Refusal) → put_answer b node ≡ o → Put node b after k
    go (Err r) is =
        let w : refused (put_leaves b node) ≡ made after k = ap (λ o. numbered o (put_leaves b node)) (sym is) ∙ e in
        let z : ◌≡◌ {A = ℕ} 0 1 = cc in absurd (omega arith)
    go (Ok j) is =
        let w : made (put_leaves b node) j ≡ made after k = ap (λ o. numbered o (put_leaves b node)) (sym is) ∙ e in
        let held : put_leaves b node ≡ after = cc in
        let jk : j ≡ k = cc in
        let p = put_at (known b.atoms (length b.nodes) node) node b.nodes (place same node b.nodes) j refl is in
        subst (λ x. Put node b x k) held (record {
          grows = record { codes = refl; atoms = refl; rules = refl; added = p.added; nodes = p.grows };
          here = subst (λ i. At (put_leaves b node).nodes i node) jk p.here;
        })

pub record After (m : Built) (f : Contents → ℕ → Built) (after : Contents) (k : ℕ) : Type 0 where
  pub mid : Contents
  pub number : ℕ
  pub was : m ≡ made mid number
  pub next : f mid number ≡ made after k

after_of : (m : Built) (f : Contents → ℕ → Built) (after : Contents) (k : ℕ) → then m f ≡ made after k → After m f after k
after_of (refused b) f after k e = let z : ◌≡◌ {A = ℕ} 0 1 = cc in absurd (omega arith)
after_of (made b j) f after k e = record { mid = b; number = j; was = refl; next = e }

constant_dual : (negated v : Bool) → constant_node v negated ≡ constant_node (cond negated (not v) v) false
constant_dual true true = refl
constant_dual true false = refl
constant_dual false true = refl
constant_dual false false = refl

one_dual : (negated : Bool) (op : One) (k : ℕ) → one_node op negated k ≡ one_node (cond negated (dual_one op) op) false k
one_dual true one.Tomorrow k = refl
one_dual true one.WeakTomorrow k = refl
one_dual false one.Tomorrow k = refl
one_dual false one.WeakTomorrow k = refl

two_dual : (negated : Bool) (op : Two) (l r : ℕ) → two_node op negated l r ≡ two_node (cond negated (dual_two op) op) false l r
two_dual true two.And l r = refl
two_dual true two.Or l r = refl
two_dual true two.Until l r = refl
two_dual true two.Release l r = refl
two_dual false two.And l r = refl
two_dual false two.Or l r = refl
two_dual false two.Until l r = refl
two_dual false two.Release l r = refl

-- a node over two trees, the right one built after the left one
both_stand : (negated : Bool) (op : Two) (s t : Tree) (right : Contents → Built) (b mid : Contents) (l : ℕ) (after : Contents) (k : ℕ) → Grown b mid → Stands mid.nodes s l → ((more : Contents) (r : ℕ) → right mid ≡ made more r → Grown mid more × Stands more.nodes t r) → then (right mid) (λ b r. put_in (two_node op negated l r) b) ≡ made after k → Grown b after × Stands after.nodes (both (cond negated (dual_two op) op) s t) k
both_stand negated op s t right b mid l after k grown-mid left reads e =
    let a = after_of (right mid) (λ b r. put_in (two_node op negated l r) b) after k e in
    let r = reads a.mid a.number a.was in
    let u = put_kept (two_node op negated l a.number) a.mid after k a.next in (
      grown_then b a.mid after (grown_then b mid a.mid grown-mid r.0) u.grows,
      (l, a.number, subst (At after.nodes k) (two_dual negated op l a.number) u.here, stands_more mid after s l (grown_then mid a.mid after r.0 u.grows) left, stands_more a.mid after t a.number u.grows r.1),
    )

pub built_stands : BuiltStands
unfolding built
built_stands negated (constant v) b after k e =
    let u = put_kept (constant_node v negated) b after k e in
    (u.grows, subst (At after.nodes k) (constant_dual negated v) u.here)
built_stands negated (atom a) b after k e =
    let u = put_kept (atom_node negated a) b after k e in
    (u.grows, u.here)
built_stands negated (negation w) b after k e = built_stands (not negated) w b after k e
built_stands negated (single op w) b after k e =
    let a = after_of (built negated w b) (λ b k. put_in (one_node op negated k) b) after k e in
    let r = built_stands negated w b a.mid a.number a.was in
    let u = put_kept (one_node op negated a.number) a.mid after k a.next in
    (grown_then b a.mid after r.0 u.grows, (a.number, subst (At after.nodes k) (one_dual negated op a.number) u.here, stands_more a.mid after (pushed negated w) a.number u.grows r.1))
built_stands negated (finally w) b after k e =
    let a = after_of (put_in (constant_node true negated) b) (λ b l. then (built negated w b) (λ b r. put_in (two_node two.Until negated l r) b)) after k e in
    let u = put_kept (constant_node true negated) b a.mid a.number a.was in
    both_stand negated two.Until (value (cond negated false true)) (pushed negated w) (built negated w) b a.mid a.number after k u.grows (subst (At a.mid.nodes a.number) (constant_dual negated true) u.here) (λ more r. built_stands negated w a.mid more r) a.next
built_stands negated (globally w) b after k e =
    let a = after_of (put_in (constant_node false negated) b) (λ b l. then (built negated w b) (λ b r. put_in (two_node two.Release negated l r) b)) after k e in
    let u = put_kept (constant_node false negated) b a.mid a.number a.was in
    both_stand negated two.Release (value (cond negated true false)) (pushed negated w) (built negated w) b a.mid a.number after k u.grows (subst (At a.mid.nodes a.number) (constant_dual negated false) u.here) (λ more r. built_stands negated w a.mid more r) a.next
built_stands negated (pair op l r) b after k e =
    let a = after_of (built negated l b) (λ b l. then (built negated r b) (λ b r. put_in (two_node op negated l r) b)) after k e in
    let u = built_stands negated l b a.mid a.number a.was in
    both_stand negated op (pushed negated l) (pushed negated r) (built negated r) b a.mid a.number after k u.0 u.1 (λ more j. built_stands negated r a.mid more j) a.next
