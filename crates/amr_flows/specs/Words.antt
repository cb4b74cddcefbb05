-- What the flows of a level add to a word of its layout, and what flows through the children of a coarse-fine edge.
use Rattle.std.specs.Prelude.{ℕ, pos, cond}
use Rattle.amr_box.specs.declared.Face.{Face}
use Rattle.amr_def.specs.declared.problem.Problem.{Problem}
use Rattle.amr_def.specs.Domain.{domain}
use Rattle.amr_def.specs.State.{Masses}
use Rattle.amr_def.specs.Flux.{Fluxes}
use Rattle.amr_def.specs.LevelStep.{through_children}
use Rattle.amr_patch.specs.declared.patches.Patch.{Patch}
use Rattle.amr_patch.specs.Patches.{box}
use Rattle.amr_phase.specs.Plans.{total}
use Rattle.amr_layout.specs.Surroundings.{Around}
use Rattle.amr_layout.specs.Adds.{flows_of, word_total}
use Rattle.amr_register.specs.RegisterCells.{is_coarse_fine}

-- what all patches of a level add to a word
abbrev pub level_total : Around → (Face → ℕ) → ℕ → ℕ
level_total s size word = total (λ (q : Patch). word_total size word (flows_of s (box q))) s.patches

-- the flows through the children of the coarse-fine edges of level l, where the next finer one has masses `fine`, and 0 through all
-- other faces (Berger and Colella)
unfoldable pub child_flows : Problem → ℕ → Masses → Fluxes → Fluxes
child_flows p l fine e f = cond (is_coarse_fine (domain p l) fine f) (through_children e f.axis f.x f.y) (pos 0)
