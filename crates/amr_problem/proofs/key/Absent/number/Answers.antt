use Rattle.std.proofs.Common.{refl, inl, inr, w64, rules}
use Rattle.std.proofs.lemmas.Int.{to_z-of_z}
use Rattle.amr_problem.proofs.key.Absent.number.Goals as goal

pub returns-in-Number : goal.returns-in-Number
returns-in-Number c = rw (to_z-of_z w64 c.in-Number.number (search rules), c.in-Number.is) refl

pub returns-in-Required : goal.returns-in-Required
returns-in-Required c = elim c.in-Required.is [ inl none ↦ rw none refl | inr empty ↦ rw empty refl ]
