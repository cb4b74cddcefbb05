use Rattle.std.proofs.Common.{◌≡◌}
use Rattle.std.specs.declared.option.Option.TheVariants.{None}
use Rattle.std.specs.Global.{Box}
use Rattle.amr_lots.specs.declared.lot.Lot.{Lot}
use Rattle.amr_lots.specs.Corrections.{with_correction}
use Rattle.amr_lots.proofs.InPlaces.{AreChangedTo}
use Rattle.amr_advance.proofs.correction.take_back.Given as goal

-- the lots before this one have nothing lent
abbrev pub invariant-loop-k : goal.invariant-loop-k
invariant-loop-k l = AreChangedTo (λ j (a b : Box Lot). b.value ≡ with_correction None a.value) l.k l.initial.lots l.lots
