use Rattle.std.proofs.Common.{refl}
use Rattle.std.specs.Prelude.{IsSome}
use Rattle.std.specs.declared.option.Option.TheVariants.{None}
use Rattle.amr_box.specs.Cells.{Extent}
use Rattle.amr_boxlist.proofs.SharedCells.{near_common, none_shared}
use Rattle.amr_boxlist.proofs.overlap.shared.Goals as goal

pub area-requires : goal.area-requires
area-requires c = near_common c.args.a.now c.args.b.now c.in-Some.m c.in-Some.ensures.corners (c.in-Some.ensures.some.0 refl) c.requires

pub returns-in-None : goal.returns-in-None
returns-in-None c = none_shared c.args.a.now c.args.b.now (λ p. none (c.in-None.ensures.some.1 p))
  where
    none : IsSome {T = Extent} None → ⊥
    none e = cc
