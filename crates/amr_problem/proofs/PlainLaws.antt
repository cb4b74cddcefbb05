-- The fault of bytes that are too many.
use Rattle.std.proofs.Common.{◌≡◌, refl, ℕ, ◌<◌, length, List, Some, lt-ltb}
use Rattle.amr_problem.specs.declared.fault.ProblemFault.TheVariants.{TooLong}
use Rattle.amr_problem.specs.Judgement.{fault_of}

-- more bytes than a problem has are none
pub too_many_bytes : (bytes : List ℕ) → 65536 < length bytes → fault_of bytes ≡ Some TooLong
unfolding fault_of
too_many_bytes bytes h = rw (lt-ltb 65536 (length bytes) h) refl
