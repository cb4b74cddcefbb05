use Rattle.amr_store.specs.Stored as store
use Rattle.amr_checkpoint.proofs.Readings.{holds_one, holds_some}
use Rattle.amr_checkpoint.proofs.laws.image_holds_one.Goals as goal

pub returns : goal.returns
returns c = record {
  most = λ image a b. holds_one (store.stored image) a b;
  least = λ image. holds_some (store.stored image);
}
