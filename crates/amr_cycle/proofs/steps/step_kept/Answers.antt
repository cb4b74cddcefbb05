use Rattle.std.proofs.Common.{◌≡◌, ◌+◌, List, length, map, sym, ap, subst, ◌∙◌, arith}
use Rattle.std.specs.Prelude.{IfSome}
use Rattle.std.specs.declared.option.Option.{Option}
use Rattle.std.specs.Global.{Vec}
use Rattle.std.specs.Vec.{with_items}
use Rattle.std.proofs.lemmas.List.{with_items_is}
use Rattle.amr_def.specs.declared.problem.Row.{Row}
use Rattle.amr_def.specs.Facts.{IsSound}
use Rattle.amr_def.specs.Run.{stepped}
use Rattle.amr_def.specs.State.{Level, State}
use Rattle.amr_def.proofs.SoundStep.{step-sound}
use Rattle.amr_patch.specs.declared.levels.Level.{Level as Held}
use Rattle.amr_patch.specs.Levels.{level_of}
use Rattle.amr_patch.specs.Meshes.{state_of}
use Rattle.amr_cycle.specs.declared.kept.KeptLevel.{KeptLevel}
use Rattle.amr_cycle.specs.KeptLevels.{AreKept}
use Rattle.amr_cycle.proofs.Coarsenable.{same_count}
use Rattle.amr_cycle.proofs.StateSteps.{adds, is_stepped, subtracts}
use Rattle.amr_cycle.proofs.steps.step_kept.Given as given
use Rattle.amr_cycle.proofs.steps.step_kept.Goals as goal

pub overflow_add-last : goal.overflow_add-last
overflow_add-last g c =
    let small = adds c.args.p.now (state_of c.args.mesh.now) c.requires.sound c.step-number.result c.step-number.ensures c.take-rows.result.0.items c.take-rows.ensures.rows (map level_of c.as_mut_slice.result.now) (ap (map level_of) c.as_mut_slice.ensures.value ∙ c.take-rows.ensures.levels)
    c.index-last.result.now c.index-last.ensures c.in_ok-flows.flows.inflow c.in_ok-flows.flows.outflow c.in_ok-flows.ensures.inflow c.in_ok-flows.ensures.outflow c.requires.to_come in
    omega (arith, small)

pub overflow_sub-last : goal.overflow_sub-last
overflow_sub-last g c =
    subtracts c.args.p.now (state_of c.args.mesh.now) c.requires.sound c.step-number.result c.step-number.ensures c.take-rows.result.0.items c.take-rows.ensures.rows (map level_of c.as_mut_slice.result.now) (ap (map level_of) c.as_mut_slice.ensures.value ∙ c.take-rows.ensures.levels)
    c.index-last.result.now c.index-last.ensures c.in_ok-flows.flows.inflow c.in_ok-flows.flows.outflow c.in_ok-flows.ensures.inflow c.in_ok-flows.ensures.outflow

new_state : (g : given.Over) (c : goal.After-drop-mesh-2 g) → state_of c.of.result ≡ record { step = c.step-number.result + 1; rows = c.push.new.self.items; levels = map level_of c.step_all.new.levels }
new_state g c =
    let with_levels : List Held → State = λ hs. record { step = c.step-number.result + 1; rows = c.push.new.self.items; levels = map level_of hs } in
    let count = same_count c.step_all.new.levels c.as_mut_slice.result.now c.in_ok-flows.ensures.patches in
    c.of.ensures.state ∙ ap with_levels (with_items_is c.take-rows.result.1 c.step_all.new.levels (omega (arith, count, ap length c.as_mut_slice.ensures.value)))

value_of : (g : given.Over) (c : goal.After-drop-mesh-2 g) → state_of c.of.result ≡ stepped c.args.p.now (state_of c.args.mesh.now)
value_of g c =
    let with_rows : List Row → State = λ rs. record { step = c.step-number.result + 1; rows = rs; levels = map level_of c.step_all.new.levels } in
    new_state g c
    ∙ ap with_rows c.in_ok-push.ensures.items
    ∙ is_stepped c.args.p.now (state_of c.args.mesh.now) c.requires.sound c.step-number.result c.step-number.ensures c.take-rows.result.0.items c.take-rows.ensures.rows (map level_of c.as_mut_slice.result.now) (ap (map level_of) c.as_mut_slice.ensures.value ∙ c.take-rows.ensures.levels)
    c.index-last.result.now c.index-last.ensures c.in_ok-flows.flows.inflow c.in_ok-flows.flows.outflow c.in_ok-flows.ensures.inflow c.in_ok-flows.ensures.outflow (map level_of c.step_all.new.levels) c.in_ok-flows.ensures.levels

pub returns-clause-value : goal.returns-clause-value
returns-clause-value g c = value_of g c

pub returns-clause-sound : goal.returns-clause-sound
returns-clause-sound g c = subst (IsSound c.args.p.now) (sym (value_of g c)) (step-sound c.args.p.now (state_of c.args.mesh.now) c.requires.sound c.requires.to_come)

listed : (g : given.Over) (c : goal.After-drop-mesh-2 g) → (with_items c.in_ok-of_levels.of_levels c.step_all.new.kept).items ≡ c.step_all.new.kept
listed g c = with_items_is c.in_ok-of_levels.of_levels c.step_all.new.kept (omega (arith, c.in_ok-flows.ensures.kept_count, c.as_mut_slice-2.ensures.len))

pub step_all-requires-clause-kept : goal.step_all-requires-clause-kept
step_all-requires-clause-kept g c κs within =
    let p = c.args.p.now in
    let before = (state_of c.args.mesh.now).levels in
    let levels : map level_of c.as_mut_slice.result.now ≡ before = ap (map level_of) c.as_mut_slice.ensures.value ∙ c.take-rows.ensures.levels in
    let kept = subst (λ (o : Option (Vec KeptLevel)). IfSome o (λ ks. AreKept p 0 before ks.items)) (sym c.take.ensures.value) c.requires.kept.levels_kept in
    subst (λ (ls : List Level). AreKept p 0 ls c.as_mut_slice-2.result.now) (sym levels) (subst (AreKept p 0 before) (sym c.as_mut_slice-2.ensures.value) (c.in_ok-of_levels.ensures.kept p before kept))

pub returns-clause-kept : goal.returns-clause-kept
returns-clause-kept g c =
    let p = c.args.p.now in
    let levels = ap (λ (s : State). s.levels) (new_state g c) in
    record { levels_kept = subst (AreKept p 0 (state_of c.of.result).levels) (sym (listed g c)) (subst (λ (ls : List Level). AreKept p 0 ls c.step_all.new.kept) (sym levels) c.in_ok-flows.ensures.kept) }
