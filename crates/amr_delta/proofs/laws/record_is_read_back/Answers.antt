use Rattle.amr_payload.proofs.Deltas.{delta_back}
use Rattle.amr_delta.proofs.laws.record_is_read_back.Goals as goal

pub returns : goal.returns
returns c = λ p old s q fits sound later. delta_back p old q s fits sound later.0 later.1
