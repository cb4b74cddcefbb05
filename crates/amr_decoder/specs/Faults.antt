-- What a refusal says of the tests.
use Rattle.std.specs.Prelude.{◌≡◌}
use Rattle.std.specs.declared.result.Result.{Result}
use Rattle.std.specs.declared.result.Result.TheVariants.{Err}
use Rattle.amr_def.specs.State.{State}
use Rattle.std.specs.Prelude.{ℕ}
use Rattle.amr_payload.specs.Tests.{Reading, bad}
use Rattle.amr_decoder.specs.declared.faults.CodecFault.{CodecFault}
use Rattle.amr_decoder.specs.declared.faults.CodecFault.TheVariants.{Bad, NoMemory}

-- bad at a place exactly where the reading is; out of memory says nothing
abbrev pub IsFaultOf : {A : Type 0} → Reading A → CodecFault → Type 0
IsFaultOf q (Bad place) = q ≡ bad place
IsFaultOf q NoMemory = Unit {0}

-- the same of a whole payload
abbrev pub IsRefusalOf : Result State ℕ → CodecFault → Type 0
IsRefusalOf d (Bad place) = d ≡ Err place
IsRefusalOf d NoMemory = Unit {0}
