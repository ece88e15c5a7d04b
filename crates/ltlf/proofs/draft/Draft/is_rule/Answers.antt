use Rattle.std.proofs.Common.{eqb, ap, ◌∙◌}
use Rattle.std.specs.List.{list_any}
use Rattle.ltlf.proofs.Rules.{among_is}
use Rattle.ltlf.proofs.draft.Draft.is_rule.Goals as goal

pub returns : goal.returns
returns c =
    c.contains.ensures.value ∙ ap (list_any (λ x. eqb x c.args.formula)) c.deref.ensures.0 ∙ among_is c.args.formula c.args.self.now.rules.items
