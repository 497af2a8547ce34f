-- Numbers that pass the tests are a size's, by `sizing_fit`.
use Rattle.table_size.proofs.Sizes.{sizing_fit}
use Rattle.table_size.proofs.Size.new.Goals as goal

pub returns : goal.returns
returns c = sizing_fit _
