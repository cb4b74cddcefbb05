use Rattle.amr_laws.proofs.NearBoxes.{boxes_near}
use Rattle.amr_laws.proofs.boxes_lie_in_level.Goals as goal

pub returns : goal.returns
returns c = boxes_near
