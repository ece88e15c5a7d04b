use Rattle.tableau.proofs.Layers.{layer_by_layer}
use Rattle.tableau.proofs.distances.layer_by_layer.Goals as goal

pub returns : goal.returns
returns c = layer_by_layer
