-- An observer that hears some events, and then some more.
use Rattle.std.proofs.Common.{List, [], ◌∷◌, ◌++◌, sym, refl, subst}
use Rattle.household.specs.Law.{Event, Heard}

module _ {S : Type 0} (hears : S → Event → S → Type 0) where
  pub heard_one : (a b : S) (e : Event) → hears a e b → Heard hears a (e ∷ []) b
  heard_one a b e h = (b, (h, refl))

  pub heard_append : (a m b : S) (es fs : List Event) → Heard hears a es m → Heard hears m fs b → Heard hears a (es ++ fs) b
  heard_append a m b [] fs h k = subst (λ (z : S). Heard hears z fs b) (sym h) k
  heard_append a m b (e ∷ es) fs h k = (h.0, (h.1.0, heard_append h.0 m b es fs h.1.1 k))

  pub heard_push : (a m b : S) (es : List Event) (e : Event) → Heard hears a es m → hears m e b → Heard hears a (es ++ e ∷ []) b
  heard_push a m b es e h k = heard_append a m b es (e ∷ []) h (heard_one m b e k)
