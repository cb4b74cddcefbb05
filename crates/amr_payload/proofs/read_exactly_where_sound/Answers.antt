use Rattle.std.proofs.Common.{ℕ, List, ap, ◌∙◌}
use Rattle.amr_payload.specs.Tests.{decoded}
use Rattle.amr_payload.proofs.ReadStates.{decoded_is}
use Rattle.amr_payload.proofs.WriteStates.{read_back}
use Rattle.amr_payload.proofs.read_exactly_where_sound.Goals as goal

pub returns : goal.returns
returns c = λ w p s bytes width small. (
  λ h. let r = decoded_is w p s bytes width small h in (r.is, r.sound),
  λ h. ap (λ (bs : List ℕ). decoded w p bs) h.0 ∙ read_back w p s width h.1,
)
