use Rattle.std.specs.declared.option.Option.TheVariants.{Some}
use Rattle.std.specs.Arc.{arc_value}
use Rattle.amr_lots.proofs.InPlaces.{AreChangedTo}
use Rattle.amr_advance.specs.Outer.{IsLent}
use Rattle.amr_advance.proofs.outer.lend.Given as goal

-- the lots before this one have the level
abbrev pub invariant-loop-k : goal.invariant-loop-k
invariant-loop-k l = AreChangedTo (λ j. IsLent (Some (arc_value l.coarser))) l.k l.initial.lots l.lots
