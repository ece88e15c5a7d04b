use Rattle.search.proofs.Listing.{overfull_any}
use Rattle.search.proofs.labels.fill_up.Goals as goal

pub returns : goal.returns
returns c = λ L absent. overfull_any _ _ _ _ _ _ _ c.requires.1.1.0 c.requires.1.1.1 L absent _ c.enter_labels.ensures
