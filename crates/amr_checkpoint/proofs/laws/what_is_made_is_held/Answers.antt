use Rattle.amr_store.specs.Stored as store
use Rattle.amr_checkpoint.proofs.Making.{creation_holds, put_holds, record_holds, renewal_holds}
use Rattle.amr_checkpoint.proofs.laws.what_is_made_is_held.Goals as goal

pub returns : goal.returns
returns c = record {
  creation = λ image bytes p version deltas number. creation_holds (store.stored image) bytes p version deltas;
  put = λ before image. put_holds (store.stored before) (store.stored image);
  recorded = λ before image. record_holds (store.stored before) (store.stored image);
  renewal = λ image. renewal_holds (store.stored image);
}
