use Rattle.std.proofs.Common.{refl}
use Rattle.std.specs.declared.option.Option.TheVariants.{None}
use Rattle.std.specs.List.{AllZip}
use Rattle.std.proofs.lemmas.List.Elements.{length_all_zip}
use Rattle.amr_advance.specs.Outer.{IsLent}
use Rattle.amr_advance.proofs.LotsHanded.{when_lent}
use Rattle.amr_advance.proofs.level.settle_lots.Goals as goal

pub returns : goal.returns
returns c = record {
  lots = when_lent (AllZip (IsLent None)) c.args.lots.now.lots c.deref_mut.result.now c.take_back.new.lots c.deref_mut.ensures.value (length_all_zip (IsLent None) c.deref_mut.result.now c.take_back.new.lots c.take_back.ensures) c.take_back.ensures;
  rest = refl;
}
