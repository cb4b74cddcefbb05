use Rattle.amr_letters.proofs.Slots.{all_beside, slots_held, slots_one, slots_within}
use Rattle.amr_letters.proofs.laws.cells_beside_a_box.Goals as goal

pub returns-clause-beside : goal.returns-clause-beside
returns-clause-beside c = λ b n proper there. all_beside b n proper there

pub returns-clause-slots : goal.returns-clause-slots
returns-clause-slots c = λ b d proper beside. slots_held b d proper beside

pub returns-clause-within : goal.returns-clause-within
returns-clause-within c = λ b d proper beside. slots_within b d proper beside

pub returns-clause-one : goal.returns-clause-one
returns-clause-one c = λ b n proper there. slots_one b n proper there
