use Rattle.amr_batch.proofs.OneReading.{has_one_place, has_one_reading, is_one_or_the_other}
use Rattle.amr_batch.proofs.batches_are_read_in_one_way.Goals as goal

pub returns : goal.returns
returns c = record { one_reading = has_one_reading; one_or_the_other = is_one_or_the_other; one_place = has_one_place }
