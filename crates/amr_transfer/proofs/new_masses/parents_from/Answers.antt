use Rattle.std.proofs.Common.{◌∙◌, List, length, sym, ap, subst}
use Rattle.std.specs.Prelude.{is_some, slice_index, pos, ◌+ℤ◌}
use Rattle.amr_box.specs.Cells.{cell}
use Rattle.amr_def.specs.State.{Masses}
use Rattle.amr_patch.specs.declared.patches.Patch.{Patch}
use Rattle.amr_patch.specs.Orders.{IsOrderOf}
use Rattle.amr_patch.proofs.LevelLaws.{along_span, none_here}
use Rattle.amr_transfer.proofs.new_masses.parents_from.Goals as goal

pub find_near-requires-clause-order : goal.find_near-requires-clause-order
find_near-requires-clause-order c = subst (λ (ps : List Patch). IsOrderOf c.order.result ps) (sym c.patches-patches.ensures.all) c.order.ensures

pub unreachable-requires : goal.unreachable-requires
unreachable-requires c =
    none_here c.patches-patches.result.now c.args.c (ap (λ (m : Masses). is_some (m c.args.c)) (sym c.patches-patches.ensures.masses) ∙ c.requires) (sym c.in-None.ensures.some)

pub returns-clause-masses : goal.returns-clause-masses
returns-clause-masses c = λ k lt.
    ap (λ (m : Masses). m (cell (c.args.c.x +ℤ pos k) c.args.c.y)) c.patches-patches.ensures.masses
    ∙ along_span c.patches-patches.result.now c.args.c c.in-Some.k k (slice_index c.masses_from.result.now k) (length c.masses_from.result.now) c.index-patches-k.result c.patches-patches.ensures.apart c.in-Some.ensures.found c.index-patches-k.is c.masses_from.ensures.count lt (c.masses_from.ensures.masses k lt)
