use Rattle.std.proofs.Common.{◌≡◌, ℕ, List, sym, ap, ◌∙◌}
use Rattle.std.specs.declared.result.Result.{Result}
use Rattle.std.specs.declared.result.Result.TheVariants.{Ok}
use Rattle.amr_def.specs.State.{State}
use Rattle.amr_payload.specs.Delta.{delta_bytes, delta_decoded}
use Rattle.amr_payload.proofs.Deltas.{delta_back}
use Rattle.amr_delta.proofs.laws.record_has_one_state.Goals as goal

same_ok : (a b : Result State ℕ) (s s' : State) → a ≡ Ok s → b ≡ Ok s' → a ≡ b → s ≡ s'
same_ok a b s s' e f h = cc

pub returns : goal.returns
returns c = λ p old s s' q fits sound one other. (
  λ same. same_ok (delta_decoded p old q (delta_bytes old q s)) (delta_decoded p old q (delta_bytes old q s')) s s'
      (delta_back p old q s fits sound one.0 one.1) (delta_back p old q s' fits sound other.0 other.1) (ap (λ (bs : List ℕ). delta_decoded p old q bs) same),
  λ same. ap (λ (t : State). delta_bytes old q t) same,
)
