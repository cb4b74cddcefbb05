-- A plan of frames goes by boxes: it serves all patches with the same ones.
use Rattle.std.proofs.Common.{◌≡◌, ◌∙◌, ℕ, ◌<◌, List, length, get_or, map, IsTrue, sym, ap, subst}
use Rattle.std.proofs.Math.ListN.{get_or-map}
use Rattle.std.proofs.lemmas.List.{length-map}
use Rattle.amr_box.specs.declared.Cell.{Cell}
use Rattle.amr_box.specs.Cells.{Extent, holds, in_boxes}
use Rattle.amr_def.specs.Domain.{Domain}
use Rattle.amr_patch.specs.declared.patches.Patch.{Patch}
use Rattle.amr_patch.specs.Patches.{box, in_patches}
use Rattle.amr_patch.proofs.SameBoxes.{in_mapped}
use Rattle.amr_ghost.specs.Strips.{step}
use Rattle.amr_ghost.specs.Frames.{is_beside}
use Rattle.amr_ghost.specs.GhostCells.{IsGhostStrip}
use Rattle.amr_ghost.specs.Plans.{IsSource, IsSpan, PlansFrames}
use Rattle.amr_ghost.specs.declared.sides.Strip.{Strip}
use Rattle.amr_ghost.specs.declared.sources.Source.{Source}
use Rattle.amr_ghost.specs.declared.sources.Source.TheVariants.{Beside, Coarser, Outside}
use Rattle.amr_ghost.specs.declared.sources.GhostSpan.{GhostSpan}
use Rattle.amr_ghost.specs.declared.plan.FramePlan.{FramePlan}

module _ (d : Domain) (ps qs : List Patch) (boxes : map box ps ≡ map box qs) where
  same_count : length ps ≡ length qs
  same_count = sym (length-map ps box) ∙ ap (λ (bs : List Extent). length bs) boxes ∙ length-map qs box

  same_box : (k : ℕ) (q : Patch) → box (get_or ps k q) ≡ box (get_or qs k q)
  same_box k q = sym (get_or-map box ps k q) ∙ ap (λ (bs : List Extent). get_or bs k (box q)) boxes ∙ get_or-map box qs k q

  same_cells : (c : Cell) → in_patches ps c ≡ in_patches qs c
  same_cells c = in_mapped ps c ∙ ap (λ (bs : List Extent). in_boxes bs c) boxes ∙ sym (in_mapped qs c)

  same_source : (s : Strip) (source : Source) → IsSource d ps s source → IsSource d qs s source
  same_source s Outside h = h
  same_source s (Beside j c) h = record {
    home = h.home;
    room = h.room;
    there = subst (λ (n : ℕ). j < n) same_count h.there;
    held = λ q k lt. subst (λ (b : Extent). IsTrue (holds b (step s.axis c k))) (same_box j q) (h.held q k lt);
  }
  same_source s (Coarser c) h = record {
    home = h.home;
    room = h.room;
    inside = h.inside;
    gap = λ k lt. sym (same_cells (step s.axis c k)) ∙ h.gap k lt;
  }

  pub span_of_boxes : (s : GhostSpan) → IsSpan d ps s → IsSpan d qs s
  span_of_boxes s h = record {
    there = subst (λ (n : ℕ). s.patch < n) same_count h.there;
    some = h.some;
    small = h.small;
    room = h.room;
    ghost_strip = λ q. subst (λ (b : Extent). IsGhostStrip d b s.strip.axis s.strip.from s.strip.count) (same_box s.patch q) (h.ghost_strip q);
    source = same_source s.strip s.source h.source;
  }

  pub plan_of_boxes : (plan : FramePlan) → PlansFrames d ps plan → PlansFrames d qs plan
  plan_of_boxes plan h = record {
    spans = λ k s lt. span_of_boxes (get_or plan.spans.items k s) (h.spans k s lt);
    frames = λ i lt. record { at = λ q c t. (h.frames i (subst (λ (n : ℕ). i < n) (sym same_count) lt)).at q c (subst (λ (b : Extent). IsTrue (is_beside b c)) (sym (same_box i q)) t) };
  }
