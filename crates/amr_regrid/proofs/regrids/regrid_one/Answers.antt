use Rattle.std.proofs.Common.{◌≡◌, ◌∙◌, ◌<◌, List, [], ◌∷◌, length, get_or, sym, ap, subst, arith}
use Rattle.std.proofs.lemmas.List.{get_or_default}
use Rattle.std.proofs.lemmas.Result.{on_err_weaker, on_ok_weaker}
use Rattle.amr_def.specs.Facts.{IsHeld, IsSound}
use Rattle.amr_def.specs.Regrid.{regrid}
use Rattle.amr_def.specs.State.{State}
use Rattle.amr_laws.proofs.Held.{regrid-held}
use Rattle.amr_laws.proofs.SoundRegrid.{regrid-sound}
use Rattle.amr_patch.specs.declared.meshes.Mesh.{Mesh}
use Rattle.amr_patch.specs.Meshes.{is_spent, levels_of, state_of}
use Rattle.amr_regrid.specs.Outlines.{AreAlikeMeshes, MeshOutline, mesh_outline, outlines}
use Rattle.amr_regrid.specs.Remade.{AreChoppedOrKept}
use Rattle.amr_regrid.proofs.MeshRegrids.{alike_alone, as_before_alone, patches_alone, value_alone}
use Rattle.amr_regrid.proofs.OutlineLaws.{all_chopped}
use Rattle.amr_regrid.proofs.regrids.regrid_one.Goals as goal

pub regrid_by-outcome-requires-clause-meshes : goal.regrid_by-outcome-requires-clause-meshes
regrid_by-outcome-requires-clause-meshes g c =
    subst (λ (m : Mesh). AreAlikeMeshes c.args.p.now (m ∷ [])) (sym c.swap.ensures.x_after) (alike_alone c.args.p.now c.args.mesh.now c.requires.whole c.requires.sound)

pub returns-clause-value : goal.returns-clause-value
returns-clause-value g c =
    let p = c.args.p.now in
    let news = c.regrid_by-outcome.new.meshes in
    let some : 0 < length news = omega (arith, c.regrid_by-outcome.auto.meshes) in
    let read : c.swap-2.new.y ≡ get_or news 0 c.swap-2.new.y = c.swap-2.ensures.y_after ∙ get_or_default news 0 c.index-one-0-2.result c.swap-2.new.y some in
    on_ok_weaker c.regrid_by-outcome.result (λ v. value_alone p c.swap.new.x c.swap-2.new.y news read v ∙ ap (λ (m : Mesh). regrid p (state_of m)) c.swap.ensures.x_after) c.regrid_by-outcome.ensures.value

pub returns-clause-sound : goal.returns-clause-sound
returns-clause-sound g c =
    on_ok_weaker c.regrid_by-outcome.result (λ v. subst (λ (s : State). IsSound c.args.p.now s) (sym v) (regrid-sound c.args.p.now (state_of c.args.mesh.now) c.requires.sound)) (returns-clause-value g c)

pub returns-clause-held : goal.returns-clause-held
returns-clause-held g c =
    on_ok_weaker c.regrid_by-outcome.result (λ v. subst (λ (s : State). IsHeld c.args.p.now (state_of c.args.mesh.now) s) (sym v) (regrid-held c.args.p.now (state_of c.args.mesh.now) c.requires.sound))
    (returns-clause-value g c)

pub returns-clause-chopped_or_kept : goal.returns-clause-chopped_or_kept
returns-clause-chopped_or_kept g c =
    let max = c.args.p.now.max_grid_size in
    let news = c.regrid_by-outcome.new.meshes in
    let some : 0 < length news = omega (arith, c.regrid_by-outcome.auto.meshes) in
    let read : c.swap-2.new.y ≡ get_or news 0 c.swap-2.new.y = c.swap-2.ensures.y_after ∙ get_or_default news 0 c.index-one-0-2.result c.swap-2.new.y some in
    on_ok_weaker c.regrid_by-outcome.result
    (λ h. subst (λ (m : Mesh). AreChoppedOrKept max (levels_of c.swap-2.new.y) (outlines (levels_of m))) c.swap.ensures.x_after
    (patches_alone (λ old new. AreChoppedOrKept max (levels_of new) (outlines (levels_of old))) c.swap.new.x c.swap-2.new.y news read h)) c.regrid_by-outcome.ensures.chopped_or_kept

pub returns-clause-patches : goal.returns-clause-patches
returns-clause-patches g c = λ chopped.
    on_ok_weaker c.regrid_by-outcome.result (λ h. all_chopped c.args.p.now.max_grid_size (levels_of c.swap-2.new.y) (levels_of c.args.mesh.now) h chopped) (returns-clause-chopped_or_kept g c)

pub returns-clause-whole : goal.returns-clause-whole
returns-clause-whole g c =
    let news = c.regrid_by-outcome.new.meshes in
    let some : 0 < length news = omega (arith, c.regrid_by-outcome.auto.meshes) in
    let read : c.swap-2.new.y ≡ get_or news 0 c.swap-2.new.y = c.swap-2.ensures.y_after ∙ get_or_default news 0 c.index-one-0-2.result c.swap-2.new.y some in
    ap is_spent read ∙ c.regrid_by-outcome.ensures.whole 0 c.swap-2.new.y some

pub returns-clause-refused : goal.returns-clause-refused
returns-clause-refused g c =
    let news = c.regrid_by-outcome.new.meshes in
    let some : 0 < length news = omega (arith, c.regrid_by-outcome.auto.meshes) in
    let read : c.swap-2.new.y ≡ get_or news 0 c.swap-2.new.y = c.swap-2.ensures.y_after ∙ get_or_default news 0 c.index-one-0-2.result c.swap-2.new.y some in
    on_err_weaker c.regrid_by-outcome.result (λ e. ap (λ (o : MeshOutline). o.state) (as_before_alone mesh_outline c.swap.new.x c.swap-2.new.y news read e) ∙ ap state_of c.swap.ensures.x_after) c.regrid_by-outcome.ensures.refused

pub returns-clause-refused_patches : goal.returns-clause-refused_patches
returns-clause-refused_patches g c =
    let news = c.regrid_by-outcome.new.meshes in
    let some : 0 < length news = omega (arith, c.regrid_by-outcome.auto.meshes) in
    let read : c.swap-2.new.y ≡ get_or news 0 c.swap-2.new.y = c.swap-2.ensures.y_after ∙ get_or_default news 0 c.index-one-0-2.result c.swap-2.new.y some in
    on_err_weaker c.regrid_by-outcome.result (λ e. ap (λ (o : MeshOutline). o.levels) (as_before_alone mesh_outline c.swap.new.x c.swap-2.new.y news read e) ∙ ap (λ (m : Mesh). outlines (levels_of m)) c.swap.ensures.x_after) c.regrid_by-outcome.ensures.refused
