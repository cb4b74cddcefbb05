use Rattle.amr_payload.proofs.Room.{delta_fits, payload_fits_delta}
use Rattle.amr_payload.proofs.delta_fits_slot.Goals as goal

pub returns : goal.returns
returns c = λ p old s q sound. (delta_fits p old s q sound, payload_fits_delta p s sound)
