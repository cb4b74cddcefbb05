use Rattle.std.proofs.Common.{subst, sym}
use Rattle.amr_def.specs.Facts.{IsSound}
use Rattle.amr_def.specs.State.{State}
use Rattle.amr_witness_regrid.proofs.both.regrid_both.Goals as goal

pub slow_regrid-requires : goal.slow_regrid-requires
slow_regrid-requires c = subst (λ (t : State). IsSound c.args.p.now t) (sym c.in_ok-before.ensures) c.requires.sound
