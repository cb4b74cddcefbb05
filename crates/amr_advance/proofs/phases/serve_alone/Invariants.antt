use Rattle.amr_lots.proofs.InPlaces.{AreChangedTo}
use Rattle.amr_lots.specs.Duties.{IsServed}
use Rattle.amr_advance.proofs.phases.serve_alone.Given as goal

-- the lots before this one are served
abbrev pub invariant-loop-k : goal.invariant-loop-k
invariant-loop-k l = AreChangedTo (λ j a b. IsServed l.duty a.value b.value) l.k l.initial.lots l.lots
