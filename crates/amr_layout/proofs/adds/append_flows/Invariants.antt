use Rattle.std.proofs.Common.{◌≡◌, ◌++◌, ◌-◌, ◌≤◌, map}
use Rattle.amr_faces.specs.Faces.{passing}
use Rattle.amr_patch.specs.Gaps.{IsGap}
use Rattle.amr_layout.specs.Adds.{flow_to, goes_on, word_of}
use Rattle.amr_layout.specs.Arounds.{around_of}
use Rattle.amr_layout.specs.Surroundings.{edge_count, edge_face}
use Rattle.amr_layout.proofs.adds.append_flows.Given as goal

abbrev pub decreases-faces : goal.decreases-faces
decreases-faces l = l.count - l.n

-- the flows through the first n faces stand behind what was there
abbrev pub invariant-faces : goal.invariant-faces
invariant-faces l = record {
  within : l.n ≤ edge_count l.b;
  gap : IsGap l.s.patches.now l.near.level.gap;
  flows : l.flows.items ≡ l.fn.flows.items ++ map (λ f. flow_to (word_of (around_of l.s) l.b f) f) (passing (goes_on (around_of l.s) l.b) (edge_face l.b) l.n);
}
