use Rattle.std.proofs.Common.{◌≡◌, ◌+◌, ◌^◌, pos, ap, ◌∙◌, refl, to_z, of_z, w64, arith}
use Rattle.std.specs.Prelude.{slice_index, unsigned_abs}
use Rattle.std.proofs.Math.ListN.{length-set}
use Rattle.std.proofs.lemmas.Int.{ints}
use Rattle.std.proofs.lemmas.List.{take_all}
use Rattle.amr_box.specs.declared.Face.{Face}
use Rattle.amr_box.specs.declared.Axis.TheVariants.{X}
use Rattle.amr_def.specs.Flux.{face}
use Rattle.amr_patch.specs.Patches.{flux_in}
use Rattle.amr_layout.specs.declared.FlowTo.{FlowTo}
use Rattle.amr_layout.specs.Adds.{word_total}
use Rattle.amr_lots.proofs.Adding.{one_more, word_fits}
use Rattle.amr_lots.proofs.patches.add_through.Goals as goal

pub loop-x-init : goal.loop-x-init
loop-x-init c = record { count = refl; totals = λ word. omega arith }

-- what stands for a flow that is not there
abbrev no_flow : FlowTo
no_flow = record { word = 0; face = face X (pos 0) (pos 0) }

pub overflow_add-totals : goal.overflow_add-totals
overflow_add-totals c =
    let z : to_z w64 (of_z w64 c.flux.result) ≡ c.flux.result = omega (arith, ints) in
    let size = c.unsigned_abs.ensures.value ∙ ap unsigned_abs z ∙ ap unsigned_abs c.flux.ensures in
    let fits = word_fits (λ (f : Face). unsigned_abs (flux_in c.args.patch.now f)) c.args.flows.now c.args.totals.now c.loop-x.totals c.loop-x.x-index no_flow c.unsigned_abs.result c.loop-x-test.true size c.loop-x.invariant.totals (2 ^ 63) c.requires.fits in
    omega (arith, fits)

pub loop-x-preserved : goal.loop-x-preserved
loop-x-preserved c =
    let z : to_z w64 (of_z w64 c.flux.result) ≡ c.flux.result = omega (arith, ints) in
    let size = c.unsigned_abs.ensures.value ∙ ap unsigned_abs z ∙ ap unsigned_abs c.flux.ensures in
    let inside = c.requires.words c.loop-x.x-index no_flow c.loop-x-test.true in
    record {
      count = length-set c.loop-x.totals _ _ ∙ c.loop-x.invariant.count;
      totals = one_more (λ (f : Face). unsigned_abs (flux_in c.args.patch.now f)) c.args.flows.now c.args.totals.now c.loop-x.totals c.loop-x.x-index no_flow c.unsigned_abs.result c.loop-x-test.true size c.loop-x.invariant.totals (omega (arith, inside, c.loop-x.invariant.count));
    }

pub returns-clause-totals : goal.returns-clause-totals
returns-clause-totals c = λ word.
    c.loop-x.invariant.totals word
    ∙ ap (λ xs. slice_index c.args.totals.now word + word_total (λ (f : Face). unsigned_abs (flux_in c.args.patch.now f)) word xs) (take_all c.loop-x.x-index c.args.flows.now c.loop-x-test.false)
