use Rattle.std.proofs.Common.{ℕ, List, ap, ◌∙◌}
use Rattle.amr_payload.specs.Delta.{delta_decoded}
use Rattle.amr_payload.proofs.Deltas.{delta_back, delta_is}
use Rattle.amr_payload.proofs.delta_is_read_exactly_where_sound.Goals as goal

pub returns : goal.returns
returns c = λ p old s q bytes sound fits small. (
  λ h. let r = delta_is p old q s bytes sound small h in (r.is, r.sound, r.later),
  λ h. ap (λ (bs : List ℕ). delta_decoded p old q bs) h.0 ∙ delta_back p old q s fits sound h.1 h.2,
)
