use Rattle.std.proofs.Common.{◌≡◌, ℕ, ◌+◌, ◌<◌, ◌∙◌, ℤ, pos, ◌-ℤ◌, [], true, length, refl, sym, take, rules, arith, ap}
use mir.Val.{SFits}
use mir.Syntax.{w32}
use Rattle.std.proofs.lemmas.Int.{to_z-of_z}
use Rattle.std.specs.Prelude.{slice_index}
use Rattle.amr_def.specs.Flux.{flow}
use Rattle.std.proofs.lemmas.List.{get_or-take, length-take-le}
use Rattle.amr_faces.specs.Shares.{product}
use Rattle.amr_faces.specs.Numbers.{y_number}
use Rattle.amr_faces.proofs.Numbers.{unsheared}
use Rattle.amr_faces.proofs.Shown.{flow_of}
use Rattle.amr_flux.proofs.Paces.{plain_y_slow}
use Rattle.amr_flux.proofs.Steps.{one_made}
use Rattle.amr_flux.proofs.y_faces.y_fluxes.Goals as goal

pub loop-i-preserved : goal.loop-i-preserved
loop-i-preserved c = λ k below.
    let f : ℕ → ℤ = λ n. flow (y_number c.args.p.now c.args.shape.level (c.args.shape.column + n)) c.args.p.now.d (slice_index c.args.low.now n) (slice_index c.args.high.now n) in
    let fits : SFits w32 c.y_face.result = search rules in
    one_made (λ n. true) true c.loop-i.fluxes c.loop-i.i f _ (search rules) (rw to_z-of_z c.y_face.ensures.value) (λ t h e. c.loop-i.invariant t h) k below refl

pub returns-then-serve : goal.returns-then-serve
returns-then-serve c = λ i h.
    let w = c.args.shape.w in
    let low = c.args.low.now in
    let high = c.args.high.now in
    let at = c.requires.columns.at i h (c.if-serve.ensures.some refl) in
    let low_is : slice_index (take w c.deref.result.now) i ≡ slice_index c.args.factors.now.low.items i = get_or-take w c.deref.result.now i 0 h ∙ ap (λ es. slice_index es i) c.deref.ensures.value in
    let high_is : slice_index (take w c.deref-then-serve.result.now) i ≡ slice_index c.args.factors.now.high.items i = get_or-take w c.deref-then-serve.result.now i 0 h ∙ ap (λ es. slice_index es i) c.deref-then-serve.ensures.value in
    c.fluxes_by.ensures i (omega (arith, h, c.requires.flux_count))
    ∙ (λ t. pos (product (low_is t) (slice_index low i)) -ℤ pos (product (high_is t) (slice_index high i)))
    ∙ at.flows (slice_index low i) (slice_index high i) ((c.if-serve.ensures.low refl).at i (omega (arith, h, c.requires.low_count))) ((c.if-serve.ensures.high refl).at i (omega (arith, h, c.requires.high_count)))

-- where all columns have one Courant number
pub with-requires-clause-some : goal.with-requires-clause-some
with-requires-clause-some c = omega (arith, c.args.p.now.limits.least_d)

pub with-requires-clause-few : goal.with-requires-clause-few
with-requires-clause-few c = c.args.p.now.limits.greatest_d

pub with-requires-clause-slow : goal.with-requires-clause-slow
with-requires-clause-slow c = let empty : c.args.p.now.shear_y ≡ [] = search rules in let fits : SFits w32 c.args.p.now.cy = search rules in rw to_z-of_z (plain_y_slow c.args.p.now empty)

pub face_fluxes-requires : goal.face_fluxes-requires
face_fluxes-requires c = record { low_count = c.requires.low_count ∙ sym c.requires.flux_count; high_count = c.requires.high_count ∙ sym c.requires.flux_count; low_small = c.requires.low_small; high_small = c.requires.high_small }

pub returns-then-is_empty : goal.returns-then-is_empty
returns-then-is_empty c = λ i h.
    let p = c.args.p.now in
    let empty : p.shear_y ≡ [] = search rules in
    let number : c.with.result.number ≡ p.cy = search rules in
    c.face_fluxes.ensures i (omega (arith, h, c.requires.flux_count)) ∙ flow_of (number ∙ sym (unsheared p c.args.shape.level (c.args.shape.column + i) empty)) c.with.ensures.parts refl refl

-- by factors
pub serve-requires : goal.serve-requires
serve-requires c = record { low_small = c.requires.low_small; high_small = c.requires.high_small }

pub slice_bounds-fluxes_by-end : goal.slice_bounds-fluxes_by-end
slice_bounds-fluxes_by-end c = sym (length-take-le c.args.shape.w c.deref.result.now (omega (arith, c.deref.ensures.len, c.requires.columns.room (c.if-serve.ensures.some refl))))

pub slice_bounds-fluxes_by-end-then-serve : goal.slice_bounds-fluxes_by-end-then-serve
slice_bounds-fluxes_by-end-then-serve c =
    sym (length-take-le c.args.shape.w c.deref-then-serve.result.now (omega (arith, c.deref-then-serve.ensures.len, c.args.factors.now.high_count, c.requires.columns.room (c.if-serve.ensures.some refl))))

pub fluxes_by-requires : goal.fluxes_by-requires
fluxes_by-requires c =
    let w = c.args.shape.w in
    let some = c.if-serve.ensures.some refl in
    let room = c.requires.columns.room some in
    let low_count : length (take w c.deref.result.now) ≡ w = length-take-le w c.deref.result.now (omega (arith, c.deref.ensures.len, room)) in
    let high_count : length (take w c.deref-then-serve.result.now) ≡ w = length-take-le w c.deref-then-serve.result.now (omega (arith, c.deref-then-serve.ensures.len, c.args.factors.now.high_count, room)) in
    record {
      low_count = c.requires.low_count ∙ sym c.requires.flux_count;
      high_count = c.requires.high_count ∙ sym c.requires.flux_count;
      low_factors_count = low_count ∙ sym c.requires.flux_count;
      high_factors_count = high_count ∙ sym c.requires.flux_count;
      low_few = record {
        at = λ k h.
            let below : k < w = omega (arith, h, low_count) in
            let is : slice_index (take w c.deref.result.now) k ≡ slice_index c.args.factors.now.low.items k = get_or-take w c.deref.result.now k 0 below ∙ ap (λ es. slice_index es k) c.deref.ensures.value in
            omega (arith, is, (c.requires.columns.at k below some).low_fits);
      };
      high_few = record {
        at = λ k h.
            let below : k < w = omega (arith, h, high_count) in
            let is : slice_index (take w c.deref-then-serve.result.now) k ≡ slice_index c.args.factors.now.high.items k = get_or-take w c.deref-then-serve.result.now k 0 below ∙ ap (λ es. slice_index es k) c.deref-then-serve.ensures.value in
            omega (arith, is, (c.requires.columns.at k below some).high_fits);
      };
      low_small = c.requires.low_small;
      high_small = c.requires.high_small;
    }

-- face by face
pub loop-i-init : goal.loop-i-init
loop-i-init c = λ i h. absurd (omega arith)

pub y_face-requires : goal.y_face-requires
y_face-requires c = record {
  level = c.requires.level;
  inside = c.requires.inside;
  columns = c.requires.columns;
  column = omega arith;
  low_small = c.requires.low_small.at c.loop-i.i (omega arith);
  high_small = c.requires.high_small.at c.loop-i.i (omega arith);
}

pub bounds-low-i : goal.bounds-low-i
bounds-low-i c = omega arith

pub bounds-high-i : goal.bounds-high-i
bounds-high-i c = omega arith

pub bounds-fluxes-i : goal.bounds-fluxes-i
bounds-fluxes-i c = omega arith

pub returns : goal.returns
returns c = λ i h. c.loop-i.invariant i (omega arith)
