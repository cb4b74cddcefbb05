use mathlib.Core.Bool.{◌&&◌, not}
use Rattle.std.proofs.Common.{sym, subst}
use Rattle.std.proofs.lemmas.Bool.{and_parts, not-true}
use Rattle.std.specs.declared.option.Option.{Option}
use Rattle.std.specs.declared.option.Option.TheVariants.{Some}
use Rattle.amr_advance.specs.declared.kept_layout.KeptLayout.{KeptLayout}
use Rattle.amr_advance.specs.KeptLayouts.{Forgets}
use Rattle.amr_advance.proofs.KeptLaws.{forgotten}
use Rattle.amr_advance.proofs.kept_layout.forget.Goals as goal

pub returns-in-Some : goal.returns-in-Some
returns-in-Some c =
    subst (λ (o : Option KeptLayout). Forgets c.args.stale o (Some (record c.in-Some.layout { lots = record c.in-Some.layout.lots { packed = c.in-Some.layout.lots.packed && not c.args.stale.own; valued = c.in-Some.layout.lots.valued && not c.args.stale.coarser } }))) (sym c.in-Some.is)
    (forgotten c.args.stale c.in-Some.layout (c.in-Some.layout.lots.packed && not c.args.stale.own) (c.in-Some.layout.lots.valued && not c.args.stale.coarser) (λ is. let h = and_parts _ _ is in (h.0, not-true _ h.1)) (λ is. let h = and_parts _ _ is in (h.0, not-true _ h.1)))
