use Rattle.amr_payload.proofs.Room.{fits_slot}
use Rattle.amr_payload.proofs.payload_fits_slot.Goals as goal

pub returns : goal.returns
returns c = fits_slot
