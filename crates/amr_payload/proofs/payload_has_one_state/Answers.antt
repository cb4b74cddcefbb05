use Rattle.amr_payload.proofs.WriteStates.{one_state}
use Rattle.amr_payload.proofs.payload_has_one_state.Goals as goal

pub returns : goal.returns
returns c = one_state
