use Rattle.std.proofs.Common.{◌∙◌, ℕ, List, sym, ap, subst, arith}
use Rattle.std.specs.Prelude.{slice_index}
use Rattle.std.specs.declared.option.Option.{Option}
use Rattle.std.specs.Option.{unwrap_or}
use Rattle.amr_def.specs.State.{Masses}
use Rattle.amr_patch.specs.Orders.{IsOrderOf}
use Rattle.amr_patch.specs.declared.patches.Patch.{Patch}
use Rattle.amr_view.specs.Rows.{cell_at}
use Rattle.amr_view.proofs.Laying.{in_row}
use Rattle.amr_view.proofs.laid.lay_level.Goals as goal

pub reaching-near-requires-clause-order : goal.reaching-near-requires-clause-order
reaching-near-requires-clause-order c = subst (λ (ps : List Patch). IsOrderOf c.order.result ps) (sym c.patches.ensures.all) c.order.ensures

pub returns : goal.returns
returns c k lt =
    let row = c.args.row.now in
    let old = c.args.masses.now in
    let held = in_row row k c.requires.near c.requires.flat (omega (arith, lt, c.lay_patches.auto.masses, c.requires.width)) in
    c.lay_patches.ensures k lt
    ∙ ap (λ (o : Option ℕ). unwrap_or o (slice_index old k)) (c.reaching-near.ensures.masses (cell_at row k) held ∙ sym (ap (λ (m : Masses). m (cell_at row k)) c.patches.ensures.masses))
