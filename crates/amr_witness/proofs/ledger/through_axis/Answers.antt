use Rattle.std.proofs.Common.{◌≡◌, ◌+◌, ◌<◌, ℕ, ap, sym, subst, refl, ◌∙◌, arith}
use Rattle.amr_box.specs.Cells.{at_least_zero}
use Rattle.amr_def.specs.State.{no_masses}
use Rattle.amr_def.specs.Flux.{Fluxes}
use Rattle.amr_def.specs.LevelStep.{step}
use Rattle.amr_def.specs.Ledger.{below_zero, sum_to}
use Rattle.amr_def.proofs.Conservation.{sum_next}
use Rattle.amr_witness.specs.Ends.{across, along, end_face, sides_of}
use Rattle.amr_witness.specs.Maps.{masses_in}
use Rattle.amr_witness.specs.Ready.{IsFace}
use Rattle.amr_witness.proofs.LedgerLaws.{when_closed, when_open, few_across, low_end, high_end}
use Rattle.amr_witness.proofs.ledger.through_axis.Goals as goal

pub returns-then-is_periodic-clause-inflow : goal.returns-then-is_periodic-clause-inflow
returns-then-is_periodic-clause-inflow c = when_closed (sides_of c.args.p.now c.args.axis) _ (sym c.is_periodic.ensures ∙ c.if-is_periodic.true)

pub returns-then-is_periodic-clause-outflow : goal.returns-then-is_periodic-clause-outflow
returns-then-is_periodic-clause-outflow c = when_closed (sides_of c.args.p.now c.args.axis) _ (sym c.is_periodic.ensures ∙ c.if-is_periodic.true)

pub through_ends-requires-clause-low : goal.through_ends-requires-clause-low
through_ends-requires-clause-low c =
    let inside : c.loop-k.k < across c.args.p.now c.args.axis = omega (arith, c.loop-k-test.true, c.across-k-end.ensures.value) in
    let low : c.end_face.result ≡ end_face c.args.axis 0 c.loop-k.k = c.end_face.ensures in
    subst (IsFace c.args.p.now 0) (sym low) (low_end c.args.p.now c.args.axis c.loop-k.k inside)

pub through_ends-requires-clause-high : goal.through_ends-requires-clause-high
through_ends-requires-clause-high c =
    let inside : c.loop-k.k < across c.args.p.now c.args.axis = omega (arith, c.loop-k-test.true, c.across-k-end.ensures.value) in
    let high : c.end_face-in-loop-k.result ≡ end_face c.args.axis (along c.args.p.now c.args.axis) c.loop-k.k = c.end_face-in-loop-k.ensures ∙ ap (λ (n : ℕ). end_face c.args.axis n c.loop-k.k) c.along-end.ensures.value in
    subst (IsFace c.args.p.now 0) (sym high) (high_end c.args.p.now c.args.axis c.loop-k.k inside)

pub overflow_add-inflow : goal.overflow_add-inflow
overflow_add-inflow c =
    let inside : c.loop-k.k < across c.args.p.now c.args.axis = omega (arith, c.loop-k-test.true, c.across-k-end.ensures.value) in
    omega (arith, inside, few_across c.args.p.now c.args.axis, c.loop-k.invariant.inflow_small, c.in_ok-ends.ensures.inflow_small)

pub overflow_add-outflow : goal.overflow_add-outflow
overflow_add-outflow c =
    let inside : c.loop-k.k < across c.args.p.now c.args.axis = omega (arith, c.loop-k-test.true, c.across-k-end.ensures.value) in
    omega (arith, inside, few_across c.args.p.now c.args.axis, c.loop-k.invariant.outflow_small, c.in_ok-ends.ensures.outflow_small)

pub loop-k-init : goal.loop-k-init
loop-k-init c = record { inflow = refl; outflow = refl; inflow_small = omega arith; outflow_small = omega arith }

pub loop-k-preserved : goal.loop-k-preserved
loop-k-preserved c =
    let e : Fluxes = (step c.args.p.now 0 (masses_in c.args.levels.now) no_masses).fluxes in
    let inside : c.loop-k.k < across c.args.p.now c.args.axis = omega (arith, c.loop-k-test.true, c.across-k-end.ensures.value) in
    let low : c.end_face.result ≡ end_face c.args.axis 0 c.loop-k.k = c.end_face.ensures in
    let high : c.end_face-in-loop-k.result ≡ end_face c.args.axis (along c.args.p.now c.args.axis) c.loop-k.k = c.end_face-in-loop-k.ensures ∙ ap (λ (n : ℕ). end_face c.args.axis n c.loop-k.k) c.along-end.ensures.value in
    let more = c.loop-k.invariant in
    record {
      inflow = sum_next (λ (k : ℕ). at_least_zero (e (end_face c.args.axis 0 k)) + below_zero (e (end_face c.args.axis (along c.args.p.now c.args.axis) k))) c.loop-k.k c.loop-k.inflow c.in_ok-ends.ends.inflow more.inflow (c.in_ok-ends.ensures.inflow ∙ (λ i. at_least_zero (e (low i)) + below_zero (e (high i))));
      outflow = sum_next (λ (k : ℕ). below_zero (e (end_face c.args.axis 0 k)) + at_least_zero (e (end_face c.args.axis (along c.args.p.now c.args.axis) k))) c.loop-k.k c.loop-k.outflow c.in_ok-ends.ends.outflow more.outflow (c.in_ok-ends.ensures.outflow ∙ (λ i. below_zero (e (low i)) + at_least_zero (e (high i))));
      inflow_small = omega (arith, more.inflow_small, c.in_ok-ends.ensures.inflow_small);
      outflow_small = omega (arith, more.outflow_small, c.in_ok-ends.ensures.outflow_small);
    }

pub returns-clause-inflow : goal.returns-clause-inflow
returns-clause-inflow c =
    let e : Fluxes = (step c.args.p.now 0 (masses_in c.args.levels.now) no_masses).fluxes in
    let all : c.loop-k.k ≡ across c.args.p.now c.args.axis = omega (arith, c.loop-k-test.false, c.loop-k.auto.k-end, c.across-k-end.ensures.value) in
    c.loop-k.invariant.inflow ∙ ap (sum_to (λ (k : ℕ). at_least_zero (e (end_face c.args.axis 0 k)) + below_zero (e (end_face c.args.axis (along c.args.p.now c.args.axis) k)))) all ∙ when_open (sides_of c.args.p.now c.args.axis) (sum_to (λ (k : ℕ). at_least_zero (e (end_face c.args.axis 0 k)) + below_zero (e (end_face c.args.axis (along c.args.p.now c.args.axis) k))) (across c.args.p.now c.args.axis)) (sym c.is_periodic.ensures ∙ c.if-is_periodic.false)

pub returns-clause-outflow : goal.returns-clause-outflow
returns-clause-outflow c =
    let e : Fluxes = (step c.args.p.now 0 (masses_in c.args.levels.now) no_masses).fluxes in
    let all : c.loop-k.k ≡ across c.args.p.now c.args.axis = omega (arith, c.loop-k-test.false, c.loop-k.auto.k-end, c.across-k-end.ensures.value) in
    c.loop-k.invariant.outflow ∙ ap (sum_to (λ (k : ℕ). below_zero (e (end_face c.args.axis 0 k)) + at_least_zero (e (end_face c.args.axis (along c.args.p.now c.args.axis) k)))) all ∙ when_open (sides_of c.args.p.now c.args.axis) (sum_to (λ (k : ℕ). below_zero (e (end_face c.args.axis 0 k)) + at_least_zero (e (end_face c.args.axis (along c.args.p.now c.args.axis) k))) (across c.args.p.now c.args.axis)) (sym c.is_periodic.ensures ∙ c.if-is_periodic.false)

pub returns-clause-inflow_small : goal.returns-clause-inflow_small
returns-clause-inflow_small c =
    omega (arith, few_across c.args.p.now c.args.axis, c.loop-k.auto.k-end, c.across-k-end.ensures.value, c.loop-k.invariant.inflow_small)

pub returns-clause-outflow_small : goal.returns-clause-outflow_small
returns-clause-outflow_small c =
    omega (arith, few_across c.args.p.now c.args.axis, c.loop-k.auto.k-end, c.across-k-end.ensures.value, c.loop-k.invariant.outflow_small)
