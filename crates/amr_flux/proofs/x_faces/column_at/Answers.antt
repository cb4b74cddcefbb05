use Rattle.std.proofs.Common.{◌≡◌, ℕ, ◌+◌, true, refl, ℤ, rules}
use mir.Val.{SFits}
use mir.Syntax.{w32}
use Rattle.std.proofs.lemmas.Int.{to_z-of_z}
use Rattle.amr_def.specs.Flux.{flow}
use Rattle.amr_flux.specs.Tables.{value}
use Rattle.amr_flux.proofs.Steps.{one_made}
use Rattle.amr_flux.proofs.x_faces.column_at.Goals as goal

pub loop-j-preserved : goal.loop-j-preserved
loop-j-preserved c = λ k below.
    let j = c.loop-j.j in
    let i = c.args.i in
    let w = c.args.shape.w in
    let f : ℕ → ℤ = λ n. flow c.args.share.number c.args.share.parts (value w c.args.values.now i (n + 1)) (value w c.args.values.now (i + 1) (n + 1)) in
    let fits : SFits w32 c.x_face_flux.result = search rules in
    let is : c.x_face_flux.result ≡ f j = c.x_face_flux.ensures.value in
    one_made (λ n. true) true c.loop-j.fluxes j f _ (search rules) (rw to_z-of_z is) (λ t h e. c.loop-j.invariant t h) k below refl
