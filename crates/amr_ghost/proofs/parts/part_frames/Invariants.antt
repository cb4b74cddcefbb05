use Rattle.amr_ghost.specs.Parts.{ArePartedTo}
use Rattle.amr_ghost.proofs.parts.part_frames.Given as goal

-- the spans so far are in parts
abbrev pub invariant-loop-k : goal.invariant-loop-k
invariant-loop-k l = ArePartedTo l.plan.spans.items l.k l.width l.runs l.parts
