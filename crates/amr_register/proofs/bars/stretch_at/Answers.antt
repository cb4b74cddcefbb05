use Rattle.std.proofs.Common.{◌≡◌, true, of_z, to_z, w32, subst, arith}
use Rattle.std.specs.Prelude.{IfSome}
use Rattle.std.specs.declared.option.Option.{Option}
use Rattle.std.proofs.lemmas.Int.{ints}
use Rattle.amr_box.specs.Cells.{Extent, cell, extent, holds}
use Rattle.amr_register.proofs.BarLookups.{stretch_without}
use Rattle.amr_register.proofs.bars.stretch_at.Goals as goal

pub returns-clause-same : goal.returns-clause-same
returns-clause-same c = λ d h.
    let end = cell (to_z w32 (of_z w32 c.last_without.result)) (to_z w32 (of_z w32 c.args.c.y)) in
    let is : c.unwrap.result ≡ extent c.args.c end = subst (λ (o : Option Extent). IfSome o (λ b. b ≡ extent c.args.c end)) c.unwrap.ensures c.try_new.ensures.some in
    stretch_without c.args.bars.now c.args.c end (omega (arith, ints)) (λ x from to. c.last_without.ensures.without x from (omega (arith, ints, to))) d (subst (λ (b : Extent). holds b d ≡ true) is h)
