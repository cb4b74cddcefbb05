use Rattle.std.proofs.Common.{◌≡◌, ℕ, ◌-ℤ◌, pos, true, refl, ℤ, rules}
use mir.Val.{SFits}
use mir.Syntax.{w32}
use Rattle.std.proofs.lemmas.Int.{to_z-of_z}
use Rattle.std.specs.Prelude.{slice_index}
use Rattle.amr_faces.specs.Shares.{product}
use Rattle.amr_flux.proofs.Steps.{one_made}
use Rattle.amr_flux.proofs.y_faces.fluxes_by.Goals as goal

pub loop-k-preserved : goal.loop-k-preserved
loop-k-preserved c = λ t below.
    let k = c.loop-k.k in
    let f : ℕ → ℤ = λ n. pos (product (slice_index c.args.low_factors.now n) (slice_index c.args.low.now n)) -ℤ pos (product (slice_index c.args.high_factors.now n) (slice_index c.args.high.now n)) in
    let fits : SFits w32 c.flow.result = search rules in
    let is : c.flow.result ≡ f k = c.flow.ensures in
    one_made (λ n. true) true c.loop-k.fluxes k f _ (search rules) (rw to_z-of_z is) (λ t h e. c.loop-k.invariant t h) t below refl
