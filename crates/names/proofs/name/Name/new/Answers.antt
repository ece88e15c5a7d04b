use Rattle.std.proofs.Common.{[], ◌∷◌, sym, ap, ◌∙◌}
use Rattle.names.specs.Letters.{all_letters}
use Rattle.names.proofs.Lettered.{name_parts, front_is, named_is, still_whole, blank_past}
use Rattle.names.proofs.name.Name.new.Goals as goal

pub invariant_of-result : goal.invariant_of-result
invariant_of-result c =
    let parts = name_parts c.args.text.now (sym c.if-not-name_like.ensures) in
    record {
      whole = still_whole c.args.text.now _ (0 ∷ 0 ∷ 0 ∷ 0 ∷ 0 ∷ 0 ∷ 0 ∷ 0 ∷ []) c.copy_from_slice.ensures.after parts.1;
      some = parts.0;
      few = parts.1;
      blank = blank_past c.args.text.now _ c.copy_from_slice.ensures.after;
      lettered = ap all_letters (front_is c.args.text.now _ _ c.copy_from_slice.ensures.after) ∙ parts.2;
    }

pub returns : goal.returns
returns c = named_is c.args.text.now _ (sym c.if-not-name_like.ensures) (front_is c.args.text.now _ _ c.copy_from_slice.ensures.after)
