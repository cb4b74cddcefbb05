use Rattle.amr_register.proofs.Once.{taken_once}
use Rattle.amr_register.proofs.laws.edges_are_taken_once.Goals as goal

pub returns : goal.returns
returns c = λ p l k fine old ps few klevel flevel nested apart of_patches shown q passes. taken_once p l k fine old ps few klevel flevel nested apart of_patches shown q passes
