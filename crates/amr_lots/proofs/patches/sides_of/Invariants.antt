use Rattle.std.proofs.Common.{◌≡◌, ℕ, ◌<◌, true, get_or}
use Rattle.amr_flux.specs.PatchSides.{includes, side_of}
use Rattle.amr_layout.specs.declared.FlowTo.{FlowTo}
use Rattle.amr_layout.specs.declared.PutAt.{PutAt}
use Rattle.amr_lots.specs.Lots.{LieOn}
use Rattle.amr_lots.proofs.patches.sides_of.Given as goal

-- the faces of the flows before this one lie on these sides
abbrev pub invariant-loop-flow : goal.invariant-loop-flow
invariant-loop-flow l = (k : ℕ) (d : FlowTo) → k < l.flow-index → includes l.sides (side_of l.b (get_or l.flows k d).face) ≡ true

-- those of all flows do, and those of the puts before this one
abbrev pub invariant-loop-put : goal.invariant-loop-put
invariant-loop-put l = record {
  flows : LieOn l.sides l.b l.flows;
  puts : (k : ℕ) (d : PutAt) → k < l.put-index → includes l.sides (side_of l.b (get_or l.puts k d).face) ≡ true;
}
