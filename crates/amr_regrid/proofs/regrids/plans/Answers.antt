use Rattle.std.proofs.Common.{◌≡◌, ◌∙◌, ◌+◌, ◌++◌, ℕ, List, [], ◌∷◌, map, take, sym, ap, subst}
use Rattle.std.specs.List.{AllZip}
use Rattle.std.proofs.lemmas.List.{take_all, take_more}
use Rattle.std.proofs.lemmas.Slice.Zip.{all_zipped_more}
use Rattle.amr_def.specs.Facts.{IsSound}
use Rattle.amr_def.specs.NewBoxes.{new_boxes}
use Rattle.amr_def.specs.Regrid.{new_level_count}
use Rattle.amr_def.specs.Species.{is_tagged_in_some}
use Rattle.amr_patch.specs.declared.meshes.Mesh.{Mesh}
use Rattle.amr_patch.specs.Meshes.{is_spent, state_of}
use Rattle.amr_regrid.specs.declared.plans.Plan.{Plan}
use Rattle.amr_regrid.specs.Outlines.{lists_in}
use Rattle.amr_regrid.specs.Plans.{IsPlanFor}
use Rattle.amr_regrid.proofs.MeshOutlines.{count_at, sound_at}
use Rattle.amr_regrid.proofs.regrids.plans.Goals as goal

pub plan-requires-clause-whole : goal.plan-requires-clause-whole
plan-requires-clause-whole g c = ap is_spent c.mesh-item.is ∙ c.requires.meshes.whole c.loop-mesh.mesh-index c.mesh-item.result c.loop-mesh-test.true

pub plan-requires-clause-sound : goal.plan-requires-clause-sound
plan-requires-clause-sound g c =
    subst (λ (m : Mesh). IsSound c.args.p.now (state_of m)) (sym c.mesh-item.is) (sound_at c.args.p.now c.args.meshes.now c.requires.meshes c.loop-mesh.mesh-index c.mesh-item.result c.loop-mesh-test.true)

pub plan-requires-clause-boxes : goal.plan-requires-clause-boxes
plan-requires-clause-boxes g c =
    let p = c.args.p.now in
    let tagged = is_tagged_in_some p (map state_of c.args.meshes.now) in
    let count = count_at p c.args.meshes.now c.requires.meshes c.loop-mesh.mesh-index c.mesh-item.result c.loop-mesh-test.true in
    (tagged, c.requires.boxes ∙ ap (λ (n : ℕ). new_boxes p tagged n 0) (sym count ∙ ap (λ (m : Mesh). new_level_count p (state_of m)) (sym c.mesh-item.is)))

pub loop-mesh-preserved : goal.loop-mesh-preserved
loop-mesh-preserved g c =
    let p = c.args.p.now in
    let boxes = lists_in c.args.boxes.now in
    let ms = c.args.meshes.now in
    let i = c.loop-mesh.mesh-index in
    let m = c.mesh-item.result in
    let all = all_zipped_more (IsPlanFor p boxes) (take i ms) c.loop-mesh.plans.items m c.in_ok-plan.field-0 c.loop-mesh.invariant c.in_ok-plan.ensures in
    let front : take i ms ++ m ∷ [] ≡ take (i + 1) ms = ap (λ (x : Mesh). take i ms ++ x ∷ []) c.mesh-item.is ∙ sym (take_more ms i m c.loop-mesh-test.true) in
    subst (λ (xs : List Mesh). AllZip (IsPlanFor p boxes) xs c.push.new.self.items) front (subst (λ (rs : List Plan). AllZip (IsPlanFor p boxes) (take i ms ++ m ∷ []) rs) (sym c.in_ok-push.ensures.items) all)

pub returns : goal.returns
returns g c = subst (λ (xs : List Mesh). AllZip (IsPlanFor c.args.p.now (lists_in c.args.boxes.now)) xs c.loop-mesh.plans.items) (take_all c.loop-mesh.mesh-index c.args.meshes.now c.loop-mesh-test.false) c.loop-mesh.invariant
