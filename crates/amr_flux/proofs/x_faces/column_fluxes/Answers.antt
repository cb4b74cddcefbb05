use Rattle.std.proofs.Common.{◌≡◌, ℕ, ◌+◌, ◌∙◌, true, [], refl, sym, ℤ, arith, rules}
use mir.Val.{SFits}
use mir.Syntax.{w32}
use Rattle.std.proofs.lemmas.Int.{to_z-of_z}
use Rattle.amr_flux.specs.Tables.{x_flux}
use Rattle.amr_faces.proofs.Numbers.{plain_x_slow, x_unsheared}
use Rattle.amr_flux.proofs.Steps.{one_made, x_flux_is}
use Rattle.amr_flux.proofs.x_faces.column_fluxes.Goals as goal

pub loop-j-preserved : goal.loop-j-preserved
loop-j-preserved c = λ k below.
    let j = c.loop-j.j in
    let p = c.args.p.now in
    let s = c.args.shape in
    let f : ℕ → ℤ = λ n. x_flux p s.level s.row s.w c.args.values.now c.args.i n in
    let fits : SFits w32 c.x_face_flux.result = search rules in
    let is : c.x_face_flux.result ≡ f j = c.x_face_flux.ensures.value ∙ x_flux_is p s.level s.row s.w c.args.values.now c.args.i j (search rules) (search rules) refl refl in
    one_made (λ n. true) true c.loop-j.fluxes j f _ (search rules) (rw to_z-of_z is) (λ t h e. c.loop-j.invariant t h) k below refl

pub returns-then-is_empty : goal.returns-then-is_empty
returns-then-is_empty c = λ j h.
    let p = c.args.p.now in
    let s = c.args.shape in
    let empty : p.shear_x ≡ [] = search rules in
    let number : c.with.result.number ≡ p.cx = search rules in
    let parts : c.with.result.parts ≡ p.d = search rules in
    c.column_at.ensures j h ∙ x_flux_is p s.level s.row s.w c.args.values.now c.args.i j (number ∙ sym (x_unsheared p s.level (s.row + j) empty)) parts refl refl

pub with-requires-clause-some : goal.with-requires-clause-some
with-requires-clause-some c = omega (arith, c.args.p.now.limits.least_d)

pub with-requires-clause-few : goal.with-requires-clause-few
with-requires-clause-few c = c.args.p.now.limits.greatest_d

pub with-requires-clause-slow : goal.with-requires-clause-slow
with-requires-clause-slow c = let empty : c.args.p.now.shear_x ≡ [] = search rules in let fits : SFits w32 c.args.p.now.cx = search rules in rw to_z-of_z (plain_x_slow c.args.p.now empty)

pub column_at-requires : goal.column_at-requires
column_at-requires c = record { value_count = c.requires.value_count; column = c.requires.column; flux_count = c.requires.flux_count; small = c.requires.small }

pub loop-j-init : goal.loop-j-init
loop-j-init c = λ j h. absurd (omega arith)

pub row_share-share-requires : goal.row_share-share-requires
row_share-share-requires c = record { level = c.requires.level; inside = c.requires.inside; row = omega arith }

pub x_face_flux-requires : goal.x_face_flux-requires
x_face_flux-requires c = record { value_count = c.requires.value_count; column = c.requires.column; row = omega arith; small = c.requires.small }

pub bounds-fluxes-j : goal.bounds-fluxes-j
bounds-fluxes-j c = omega arith

pub returns : goal.returns
returns c = λ j h. c.loop-j.invariant j (omega arith)
