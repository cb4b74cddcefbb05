use Rattle.std.proofs.Common.{◌∙◌, ap, arith}
use Rattle.std.specs.Global.{Box}
use Rattle.amr_lots.specs.declared.lot.Lot.{Lot}
use Rattle.amr_advance.proofs.MadeLots.{all_are, first_is, wants_one, wants_several}
use Rattle.amr_advance.proofs.lots.totals_of.Goals as goal

pub index-requires : goal.index-requires
index-requires c = omega (arith, c.requires (wants_one c.args.lots.now c.if-lots-lt2.true), c.args.lots.now.lots.ok.0)

pub returns-then-lots-lt2 : goal.returns-then-lots-lt2
returns-then-lots-lt2 c =
    let t = c.args.lots.now in
    let one = wants_one t c.if-lots-lt2.true in
    c.deref-then-lots-lt2.ensures.value ∙ ap (λ (x : Lot). x.workspace.totals.items) c.deref.ensures ∙ ap (λ (x : Box Lot). x.value.workspace.totals.items) c.index.ensures ∙ first_is t c.index.result.now one (c.requires one)

pub returns : goal.returns
returns c = c.deref-2.ensures.value ∙ all_are c.args.lots.now (wants_several c.args.lots.now c.if-lots-lt2.false)
