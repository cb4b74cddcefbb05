use Rattle.std.proofs.Common.{IfSome, ◌≡◌, ◌+◌, ◌*◌, List, length, map, refl, sym, ap, subst, ◌∙◌, arith}
use Rattle.std.specs.declared.option.Option.{Option}
use Rattle.std.specs.Option.{option_copied}
use Rattle.std.specs.Vec.{with_items}
use Rattle.std.proofs.lemmas.List.{length-map, with_items_is}
use Rattle.amr_box.specs.declared.Cell.{Cell}
use Rattle.amr_def.specs.Flux.{flux_at, updated}
use Rattle.amr_def.specs.State.{Masses}
use Rattle.amr_ghost.specs.Frames.{old_masses, AreInDomain}
use Rattle.amr_ghost.proofs.Inside.{patches_inside}
use Rattle.amr_layout.specs.Adds.{HasRegisterCells}
use Rattle.amr_layout.specs.Surroundings.{around, finer_masses, AreAmong}
use Rattle.amr_lots.specs.Lots.{LevelStepFits}
use Rattle.amr_patch.specs.declared.patches.Patch.{Patch}
use Rattle.amr_patch.specs.Levels.{level_of}
use Rattle.amr_patch.specs.Patches.{ArePatchesApart, box, masses_in}
use Rattle.amr_patch.specs.Orders.{IsOrderOf}
use Rattle.amr_patch.proofs.Standing.{order_of_boxes}
use Rattle.amr_register.specs.declared.register.Register.{Register}
use Rattle.amr_register.specs.Fields.{HasEdgesOf}
use Rattle.amr_advance.specs.KeptLayouts.{IsKeptOf, totals_in}
use Rattle.amr_advance.specs.Registers.{BothChange, cells_of, taken}
use Rattle.amr_advance.specs.Totals.{HasTotals}
use Rattle.amr_advance.proofs.Parts.{on_err}
use Rattle.amr_advance.proofs.Advancing.{both_changed, cells_serve, inflow_is, outflow_is, some_may_absorb}
use Rattle.amr_advance.proofs.steps.advance_kept.Given as given
use Rattle.amr_advance.proofs.steps.advance_kept.Goals.{After-deref_mut, After-step_patches-stepped, In_ok-stepped}
use Rattle.amr_advance.proofs.steps.advance_kept.Goals as goal
use Rattle.amr_layout.proofs.Among.{all_among}
use Rattle.amr_def.specs.Domain.{domain}

-- ---- the patches that were taken, and those that are put

masses : (g : given.Over) (c : After-deref_mut g) → (level_of c.args.level.now).masses ≡ masses_in c.deref_mut.result.now
masses g c = c.take_patches-patches.ensures.masses ∙ ap masses_in (sym c.deref_mut.ensures.value)

put : (g : given.Over) (c : After-step_patches-stepped g) → (with_items c.take_patches-patches.result c.step_patches-stepped.new.patches).items ≡ c.step_patches-stepped.new.patches
put g c =
    let now = c.step_patches-stepped.new.patches in
    let lent = c.deref_mut.result.now in
    with_items_is c.take_patches-patches.result now (sym (length-map now box) ∙ ap length c.step_patches-stepped.ensures.boxes ∙ length-map lent box ∙ c.deref_mut.ensures.len)

put_boxes : (g : given.Over) (c : After-step_patches-stepped g) → map box (with_items c.take_patches-patches.result c.step_patches-stepped.new.patches).items ≡ map box c.take_patches-patches.result.items
put_boxes g c = ap (map box) (put g c) ∙ c.step_patches-stepped.ensures.boxes ∙ ap (map box) c.deref_mut.ensures.value

-- ---- the totals of the words

totals : (g : given.Over) (c : In_ok-stepped g) → HasTotals c.args.p.now c.args.l (level_of c.args.level.now).masses (old_masses (option_copied c.args.old)) (finer_masses (option_copied c.args.finer)) (cells_of c.args.regs.now.coarser) (totals_in c.step_patches-stepped.new.kept)
totals g c =
    let p = c.args.p.now in
    let l = c.args.l in
    let old = old_masses (option_copied c.args.old) in
    let fine = finer_masses (option_copied c.args.finer) in
    let ws = totals_in c.step_patches-stepped.new.kept in
    subst (λ (n : Masses). HasTotals p l n old fine (cells_of c.args.regs.now.coarser) ws) (sym (masses g (goal.at.In_ok-stepped g c).After-deref_mut))
    (subst (λ (xs : List Cell). HasTotals p l (masses_in c.deref_mut.result.now) old fine xs ws) c.cells_of.ensures c.in_ok-stepped.ensures.stepped.totals)

count : (g : given.Over) (c : In_ok-stepped g) → length (totals_in c.step_patches-stepped.new.kept) ≡ 2 + 2 * length (cells_of c.args.regs.now.coarser)
count g c = c.in_ok-stepped.ensures.stepped.count ∙ ap (λ (xs : List Cell). 2 + 2 * length xs) c.cells_of.ensures

-- ---- the goals

pub step_patches-stepped-requires-clause-may : goal.step_patches-stepped-requires-clause-may
step_patches-stepped-requires-clause-may g c κs within =
    let p = c.args.p.now in
    let l = c.args.l in
    let old = option_copied c.args.old in
    let ps = c.deref_mut.result.now in
    let m = masses g (goal.at.step_patches-stepped-requires-clause-may g c).After-deref_mut in
    let all = c.deref_mut.ensures.value in
    let whole : c.basis_of-basis.result.patches.value.items ≡ ps = c.basis_of-basis.ensures.patches ∙ sym all in
    record {
      step = record {
        level = record {
          level = c.requires.may.number;
          apart = subst ArePatchesApart (sym c.basis_of-basis.ensures.patches) c.take_patches-patches.ensures.apart;
          inside = subst (AreInDomain (domain p l)) (sym whole) (patches_inside p l (level_of c.args.level.now) ps c.requires.may.of_domain m);
          fits = subst (λ (n : Masses). LevelStepFits p l n (old_masses old)) (m ∙ ap masses_in (sym whole)) c.requires.may.fits;
          worked_on = subst (λ (qs : List Patch). AreAmong qs ps) (sym whole) (all_among ps);
          once = subst ArePatchesApart (sym all) c.take_patches-patches.ensures.apart;
          framed = whole;
        };
        basis = record { problem = c.basis_of-basis.ensures.problem; patches = refl; coarser = c.basis_of-basis.ensures.coarser };
        shared = c.requires.shared;
      };
      unfilled = refl;
      order_of = subst (IsOrderOf c.order-order.result) (sym (all ∙ c.take_patches-patches.ensures.all)) c.order-order.ensures;
      cells = subst (λ (xs : List Cell). HasRegisterCells (around p l ps xs (option_copied c.args.finer))) (sym c.cells_of.ensures)
          (cells_serve p l (level_of c.args.level.now) old c.args.regs.now.coarser ps (option_copied c.args.finer) c.requires.may.coarser c.requires.may.of_domain (sym m));
      register = record { level = level_of c.args.level.now; of_level = c.requires.may.of_domain; masses = m; finer = c.requires.may.finer };
      edges = subst (λ (qs : List Patch). IfSome c.args.regs.now.finer (HasEdgesOf (map box qs))) (sym (all ∙ c.take_patches-patches.ensures.all)) c.requires.may.edges;
    }

pub step_patches-stepped-requires-clause-kept : goal.step_patches-stepped-requires-clause-kept
step_patches-stepped-requires-clause-kept g c κs within =
    subst (λ (m : Masses). IfSome c.args.kept.now (IsKeptOf c.args.p.now c.args.l m (old_masses (option_copied c.args.old)))) (masses g (goal.at.step_patches-stepped-requires-clause-kept g c).After-deref_mut) c.requires.kept

pub put_patches_in_order-requires-clause-apart : goal.put_patches_in_order-requires-clause-apart
put_patches_in_order-requires-clause-apart g c =
    subst ArePatchesApart (sym (put g (goal.at.put_patches_in_order-requires-clause-apart g c).After-step_patches-stepped)) c.step_patches-stepped.ensures.apart

pub put_patches_in_order-requires-clause-order : goal.put_patches_in_order-requires-clause-order
put_patches_in_order-requires-clause-order g c =
    order_of_boxes c.order-order.result c.take_patches-patches.result.items (with_items c.take_patches-patches.result c.step_patches-stepped.new.patches).items
    (put_boxes g (goal.at.put_patches_in_order-requires-clause-order g c).After-step_patches-stepped)
    (subst (IsOrderOf c.order-order.result) (sym c.take_patches-patches.ensures.all) c.order-order.ensures)

pub add_totals-requires-clause-count : goal.add_totals-requires-clause-count
add_totals-requires-clause-count g c = count g (goal.at.add_totals-requires-clause-count g c).In_ok-stepped

pub add_totals-requires-clause-inflow : goal.add_totals-requires-clause-inflow
add_totals-requires-clause-inflow g c =
    let at = (goal.at.add_totals-requires-clause-inflow g c).In_ok-stepped in
    omega (arith, c.requires.may.inflow, inflow_is c.args.p.now c.args.l _ _ _ _ _ (totals g at) (count g at))

pub add_totals-requires-clause-outflow : goal.add_totals-requires-clause-outflow
add_totals-requires-clause-outflow g c =
    let at = (goal.at.add_totals-requires-clause-outflow g c).In_ok-stepped in
    omega (arith, c.requires.may.outflow, outflow_is c.args.p.now c.args.l _ _ _ _ _ (totals g at) (count g at))

pub add_totals-requires-clause-coarser : goal.add_totals-requires-clause-coarser
add_totals-requires-clause-coarser g c =
    let at = (goal.at.add_totals-requires-clause-coarser g c).In_ok-stepped in
    some_may_absorb c.args.p.now c.args.l (level_of c.args.level.now) (option_copied c.args.old) c.args.regs.now.coarser _ _ _ c.requires.may.coarser c.requires.may.of_domain (totals g at) (count g at) c.requires.may.fits.fluxes

pub add_totals-requires-clause-lots : goal.add_totals-requires-clause-lots
add_totals-requires-clause-lots g c = c.in_ok-stepped.ensures.stepped.there

pub returns-clause-made : goal.returns-clause-made
returns-clause-made g c =
    let at = goal.at.returns-clause-made g c in
    let p = c.args.p.now in
    let l = c.args.l in
    let old = old_masses (option_copied c.args.old) in
    let m = masses g at.After-deref_mut in
    let listed = put g at.After-step_patches-stepped in
    let sums = totals g at.In_ok-stepped in
    let many = count g at.In_ok-stepped in
    let left = c.in_ok-stepped.ensures.stepped in
    record {
      masses = c.put_patches_in_order.ensures.masses ∙ ap masses_in listed ∙ left.masses ∙ (λ i. updated (sym m i) (flux_at p l (sym m i) old));
      boxes = c.put_patches_in_order.ensures.boxes ∙ c.take_patches-patches.ensures.boxes;
      patches = ap (map box) c.put_patches_in_order.ensures.all ∙ put_boxes g at.After-step_patches-stepped ∙ ap (map box) c.take_patches-patches.ensures.all;
      coarser = both_changed p l (level_of c.args.level.now) (option_copied c.args.old) c.args.regs.now.coarser c.add_totals.new.regs.coarser _ _ _ c.requires.may.coarser c.requires.may.of_domain sums many c.add_totals.ensures.coarser;
      finer = subst (λ (r : Option Register). BothChange (taken p l (level_of c.args.level.now).masses old (finer_masses (option_copied c.args.finer))) c.args.regs.now.finer r) (sym c.add_totals.ensures.finer)
          (subst (λ (n : Masses). BothChange (taken p l n old (finer_masses (option_copied c.args.finer))) c.args.regs.now.finer c.step_patches-stepped.new.register) (sym m) left.register);
      inflow = c.add_totals.ensures.inflow ∙ ap (λ n. c.args.regs.now.inflow + n) (inflow_is p l _ _ _ _ _ sums many);
      outflow = c.add_totals.ensures.outflow ∙ ap (λ n. c.args.regs.now.outflow + n) (outflow_is p l _ _ _ _ _ sums many);
    }

pub returns-clause-kept : goal.returns-clause-kept
returns-clause-kept g c =
    subst (λ (m : Masses). IfSome c.step_patches-stepped.new.kept (IsKeptOf c.args.p.now c.args.l m (old_masses (option_copied c.args.old))))
    (sym (c.put_patches_in_order.ensures.masses ∙ ap masses_in (put g (goal.at.returns-clause-kept g c).After-step_patches-stepped))) c.step_patches-stepped.ensures.kept

pub returns-in_err-stepped-clause-not_made : goal.returns-in_err-stepped-clause-not_made
returns-in_err-stepped-clause-not_made g c =
    let at = goal.at.returns-in_err-stepped-clause-not_made g c in
    on_err c.from_residual.result (record {
      masses = c.put_patches_in_order.ensures.masses ∙ ap masses_in (put g at.After-step_patches-stepped) ∙ c.in_err-stepped.ensures.same_masses ∙ sym (masses g at.After-deref_mut);
      boxes = c.put_patches_in_order.ensures.boxes ∙ c.take_patches-patches.ensures.boxes;
      patches = ap (map box) c.put_patches_in_order.ensures.all ∙ put_boxes g at.After-step_patches-stepped ∙ ap (map box) c.take_patches-patches.ensures.all;
      coarser = refl;
      finer = c.in_err-stepped.ensures.same_register;
      inflow = refl;
      outflow = refl;
    })

pub returns-in_err-stepped-clause-kept : goal.returns-in_err-stepped-clause-kept
returns-in_err-stepped-clause-kept g c =
    subst (λ (m : Masses). IfSome c.step_patches-stepped.new.kept (IsKeptOf c.args.p.now c.args.l m (old_masses (option_copied c.args.old))))
    (sym (c.put_patches_in_order.ensures.masses ∙ ap masses_in (put g (goal.at.returns-in_err-stepped-clause-kept g c).After-step_patches-stepped))) c.step_patches-stepped.ensures.kept
