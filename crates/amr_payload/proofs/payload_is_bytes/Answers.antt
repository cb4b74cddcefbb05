use Rattle.amr_payload.proofs.Bytes.{payload_small}
use Rattle.amr_payload.proofs.payload_is_bytes.Goals as goal

pub returns : goal.returns
returns c = payload_small
