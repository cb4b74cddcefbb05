use Rattle.std.proofs.Common.{◌≡◌, ◌+◌, ◌<◌, List, [], ◌∷◌, ◌++◌, length, ap, sym, subst, refl, ◌∙◌, arith}
use Rattle.amr_def.specs.declared.problem.Row.{Row}
use Rattle.amr_def.specs.State.{no_masses}
use Rattle.amr_def.specs.LevelStep.{step}
use Rattle.amr_def.specs.Ledger.{first_of, inflow, outflow, row_after}
use Rattle.amr_witness.specs.declared.PlainLevel.{PlainLevel}
use Rattle.amr_witness.specs.Maps.{boxes_in, masses_in, masses_of, state_of}
use Rattle.amr_witness.specs.Ready.{AreReadyToStep, HasSmallMasses}
use Rattle.amr_witness.proofs.States.{plain_ready, some_level, first_masses, small_after, state_after, row_is}
use Rattle.amr_witness.proofs.advance.slow_step.Goals as goal

pub step_levels-requires-clause-ready : goal.step_levels-requires-clause-ready
step_levels-requires-clause-ready c =
    subst (λ (ks : List PlainLevel). AreReadyToStep c.args.p.now 0 (masses_in ks) no_masses) (sym c.as_slice.ensures.value) (plain_ready c.args.p.now (state_of c.args.state.now) c.args.state.now.levels.items refl c.requires.sound c.requires.before)

pub row_after-requires-clause-ready : goal.row_after-requires-clause-ready
row_after-requires-clause-ready c =
    subst (λ (ks : List PlainLevel). AreReadyToStep c.args.p.now 0 (masses_in ks) no_masses) (sym c.as_slice-2.ensures.value) (plain_ready c.args.p.now (state_of c.args.state.now) c.args.state.now.levels.items refl c.requires.sound c.requires.before)

pub row_after-requires-clause-small : goal.row_after-requires-clause-small
row_after-requires-clause-small c =
    let p = c.args.p.now in
    let ks = c.args.state.now.levels.items in
    let ready = plain_ready p (state_of c.args.state.now) ks refl c.requires.sound c.requires.before in
    let masses : masses_in c.in_ok-levels.levels.items ≡ (step p 0 (masses_in ks) no_masses).levels = c.in_ok-levels.ensures.masses ∙ ap (λ (xs : List PlainLevel). (step p 0 (masses_in xs) no_masses).levels) c.as_slice.ensures.value in
    let some : 0 < length c.in_ok-levels.levels.items = omega (arith, c.in_ok-levels.ensures.count, ap (λ (xs : List PlainLevel). length xs) c.as_slice.ensures.value, some_level p (state_of c.args.state.now) ks refl c.requires.sound) in
    let first = first_masses c.in_ok-levels.levels.items c.index.result.now some c.index.ensures ∙ ap first_of masses in
    subst HasSmallMasses (sym first) (small_after p (masses_in ks) ready)

pub returns : goal.returns
returns c =
    let p = c.args.p.now in
    let ks = c.args.state.now.levels.items in
    let s = state_of c.args.state.now in
    let masses : masses_in c.in_ok-levels.levels.items ≡ (step p 0 (masses_in ks) no_masses).levels = c.in_ok-levels.ensures.masses ∙ ap (λ (xs : List PlainLevel). (step p 0 (masses_in xs) no_masses).levels) c.as_slice.ensures.value in
    let some : 0 < length c.in_ok-levels.levels.items = omega (arith, c.in_ok-levels.ensures.count, ap (λ (xs : List PlainLevel). length xs) c.as_slice.ensures.value, some_level p s ks refl c.requires.sound) in
    let first = first_masses c.in_ok-levels.levels.items c.index.result.now some c.index.ensures ∙ ap first_of masses in
    let boxes = c.in_ok-levels.ensures.boxes ∙ ap boxes_in c.as_slice.ensures.value in
    let into = c.in_ok-row.ensures.inflow ∙ ap (λ (xs : List PlainLevel). inflow p (step p 0 (masses_in xs) no_masses).fluxes) c.as_slice-2.ensures.value in
    let out = c.in_ok-row.ensures.outflow ∙ ap (λ (xs : List PlainLevel). outflow p (step p 0 (masses_in xs) no_masses).fluxes) c.as_slice-2.ensures.value in
    let last : c.in_ok-row.row ≡ row_after p (step p 0 (masses_in ks) no_masses) = row_is p (step p 0 (masses_in ks) no_masses) (masses_of c.index.result.now.masses) c.in_ok-row.row first c.in_ok-row.ensures.mass into out in
    let rows = c.in_ok-push.ensures.items ∙ ap (λ (rs : List Row). rs ++ c.in_ok-row.row ∷ []) (c.in_ok-rows.ensures.items ∙ c.as_slice-3.ensures.value) in
    state_after p s (state_of (record { step = c.args.state.now.step + 1; rows = c.push.new.self; levels = c.in_ok-levels.levels })) ks c.in_ok-levels.levels.items c.in_ok-row.row refl refl refl rows masses boxes last
