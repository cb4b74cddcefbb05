use Rattle.std.proofs.Common.{sym}
use Rattle.amr_lots.proofs.LotParts.{can_lent, swept_lot}
use Rattle.amr_lots.proofs.sweep.sweep_lot.Goals as goal

pub sweep_all-requires : goal.sweep_all-requires
sweep_all-requires c = can_lent c.args.p.now c.args.l c.args.lot.now c.deref_mut.result.now c.deref_mut.ensures.value c.deref_mut-2.result.now c.deref_mut-2.ensures.value c.requires

pub returns : goal.returns
returns c =
    swept_lot c.args.p.now c.args.l c.args.lot.now c.deref_mut.result.now c.deref_mut.ensures.value c.deref_mut-2.result.now c.deref_mut-2.ensures.value
    c.sweep_all.new.patches c.sweep_all.new.edges c.sweep_all.new.workspace (sym c.sweep_all.auto.patches) (sym c.sweep_all.auto.edges) c.sweep_all.ensures
