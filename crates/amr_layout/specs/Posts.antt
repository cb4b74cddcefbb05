-- The posts that the patches of a level make, whatever the fluxes are.
use Rattle.std.specs.Prelude.{ℕ, ◌+◌, ◌*◌, ◌<◌, ◌^◌, length, map}
use Rattle.amr_box.specs.declared.Face.{Face}
use Rattle.amr_patch.specs.declared.patches.Patch.{Patch}
use Rattle.amr_patch.specs.Patches.{box}
use Rattle.amr_phase.specs.declared.plan.Post.{Post}
use Rattle.amr_phase.specs.declared.plan.Task.{Task}
use Rattle.amr_phase.specs.Plans.{PlanOf}
use Rattle.amr_layout.specs.declared.FlowTo.{FlowTo}
use Rattle.amr_layout.specs.declared.PutAt.{PutAt}
use Rattle.amr_layout.specs.Adds.{flows_of}
use Rattle.amr_layout.specs.Arounds.{all_borders}
use Rattle.amr_layout.specs.Places.{puts_of}
use Rattle.amr_layout.specs.Surroundings.{Around, domain_around}

-- the size of what flows through a face, put at its place
abbrev pub put_post : (Face → ℕ) → PutAt → Post
put_post size x = record { at = x.place; amount = size x.face }

-- and added to a word
abbrev pub add_post : (Face → ℕ) → FlowTo → Post
add_post size x = record { at = x.word; amount = size x.face }

-- the posts of a patch, where the patches are in groups of so many
abbrev pub patch_task : Around → ℕ → (Face → ℕ) → Patch → Task
patch_task s each size q = record {
  puts = map (put_post size) (puts_of (domain_around s) s.patches each (box q));
  adds = map (add_post size) (flows_of s (box q));
}

-- the plan of a task a patch. A task of several patches posts what theirs post, its adds to a word put together.
abbrev pub patch_plan : Around → ℕ → (Face → ℕ) → PlanOf
patch_plan s each size = record {
  places = length (all_borders s each);
  words = 2 + 2 * length s.cells;
  tasks = map (patch_task s each size) s.patches;
}

-- each flux has a size below 2^31
abbrev pub AreSmallSizes : (Face → ℕ) → Type 0
AreSmallSizes size = (f : Face) → size f < 2 ^ 31
