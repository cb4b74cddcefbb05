use Rattle.std.specs.declared.option.Option.TheVariants.{None}
use Rattle.amr_lots.proofs.InPlaces.{AreChangedTo}
use Rattle.amr_advance.specs.Outer.{IsLent}
use Rattle.amr_advance.proofs.outer.take_back.Given as goal

-- the lots before this one have none
abbrev pub invariant-loop-k : goal.invariant-loop-k
invariant-loop-k l = AreChangedTo (λ j. IsLent None) l.k l.initial.lots l.lots
