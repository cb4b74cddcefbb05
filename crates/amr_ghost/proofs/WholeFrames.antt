-- All patches of a level as one run: by its outer ghost cells and its own copies each frame is filled.
use Rattle.std.proofs.Common.{◌≡◌, ℕ, ◌<◌, ◌≤◌, List, [], ◌∷◌, length, get_or, refl, sym, ap, subst, ◌∙◌, arith}
use Rattle.std.specs.List.{All, AllZip}
use Rattle.std.specs.Global.{Vec}
use Rattle.std.proofs.lemmas.List.Elements.{All-cons, All-same}
use Rattle.amr_def.specs.declared.problem.Problem.{Problem}
use Rattle.amr_def.specs.Domain.{domain}
use Rattle.amr_def.specs.State.{Masses}
use Rattle.amr_def.specs.Value.{value_at}
use Rattle.amr_patch.specs.declared.patches.Patch.{Patch}
use Rattle.amr_patch.specs.Patches.{ArePatchesApart, masses_in}
use Rattle.amr_ghost.specs.Fills.{FillsFrames}
use Rattle.amr_ghost.specs.GhostCells.{KeepsCells}
use Rattle.amr_ghost.specs.Frames.{AreInDomain, is_of_level}
use Rattle.amr_ghost.specs.Messages.{AreMessagesTo, ArePacked, HasFilled, IsFrameCopy, IsMessageTo, IsReceived, mass_count}
use Rattle.amr_ghost.specs.Outer.{AreOuterFor, HasNoMass, HasOuterPlaces, IsSpanBeside}
use Rattle.amr_ghost.specs.Parts.{IsParted, IsRun}
use Rattle.amr_ghost.specs.Plans.{PlansFrames}
use Rattle.amr_ghost.specs.declared.fills.FrameSources.{FrameSources}
use Rattle.amr_ghost.specs.declared.messages.Message.{Message}
use Rattle.amr_ghost.specs.declared.parts.FrameCopy.{FrameCopy}
use Rattle.amr_ghost.specs.declared.parts.FrameParts.{FrameParts}
use Rattle.amr_ghost.specs.declared.plan.FramePlan.{FramePlan}
use Rattle.amr_ghost.specs.declared.sources.GhostSpan.{GhostSpan}
use Rattle.amr_ghost.proofs.PartLaws.{copies_received, copies_taken, outer_beside, outer_valued, run_frames}
use Rattle.amr_ghost.proofs.Zips.{keeps_refl, zip_refl}

module _ (p : Problem) (l : ℕ) (old : Masses) (ps : List Patch) (plan : FramePlan) (width : ℕ) (parts : FrameParts) (planned : PlansFrames (domain p l) ps plan) (parted : IsParted plan width 1 parts) (wide : length ps ≤ width) (apart : ArePatchesApart ps) (inside : AreInDomain (domain p l) ps)
    (sources : FrameSources) (w : Vec GhostSpan) (v : Vec FrameCopy) (spans : sources.outer.spans.items ≡ (get_or parts.outer.items 0 w).items) (places : HasOuterPlaces sources.outer) (found : (m : Masses) → All (HasNoMass (domain p l) m) sources.outer.spans.items → AreOuterFor (value_at p l m old) (is_of_level p l m) sources.outer)
    (copies : sources.copies.items ≡ (get_or parts.copies.items 0 v).items) (x : Message) (inbox : sources.inbox ≡ x ∷ []) (no_copies : x.copies.items ≡ []) (no_masses : x.masses.items ≡ []) where
  kept : AllZip KeepsCells ps ps
  kept = zip_refl KeepsCells keeps_refl ps

  run : IsRun width 0 ps ps
  run = record {
    small = wide;
    same = λ k q lt. ap (λ n. get_or ps n q) (omega arith);
    there = λ k lt. omega (arith, lt);
    whole = λ k lt there. omega (arith, there);
  }

  -- the run sends nothing to itself
  sent : AreMessagesTo parts width 1 0 ps (x ∷ [])
  sent = record {
    count = refl;
    copies = λ u y c from_there other. absurd (other (omega (arith, from_there)));
    own = λ y. no_copies;
    packed = λ u y us from_there of_run.
        let e : 0 ≡ u = omega (arith, from_there) in
        subst (λ (n : ℕ). ArePacked us (get_or (x ∷ []) n y).copies.items (get_or (x ∷ []) n y).masses.items) e (subst (λ (cs : List FrameCopy). ArePacked us cs x.masses.items) (sym no_copies) tt);
  }

  within : All (IsFrameCopy ps) (get_or parts.copies.items 0 v).items
  within = λ k c lt. (
    copies_taken (domain p l) ps ps plan width 1 parts planned.spans parted kept 0 0 ps v (omega arith) (omega arith) run k c lt,
    copies_received (domain p l) ps ps plan width 1 parts planned.spans parted kept 0 0 ps v (omega arith) (omega arith) run k c lt,
  )

  to_itself : All (IsMessageTo ps) (x ∷ [])
  to_itself = All-cons (IsMessageTo ps) x [] (All-same (IsReceived ps) x.copies.items [] no_copies (λ k c lt. absurd (omega (arith, lt))), ap (λ (xs : List ℕ). length xs) no_masses ∙ ap mass_count (sym no_copies)) (λ k y lt. absurd (omega (arith, lt)))

  pub fills : FillsFrames p l old ps sources
  fills = record {
    are = record {
      outer = (All-same (IsSpanBeside ps) sources.outer.spans.items (get_or parts.outer.items 0 w).items spans (outer_beside (domain p l) ps ps plan width 1 parts planned.spans parted kept 0 ps w (omega arith) run), places);
      copies = All-same (IsFrameCopy ps) sources.copies.items (get_or parts.copies.items 0 v).items copies within;
      inbox = subst (λ (xs : List Message). All (IsMessageTo ps) xs) (sym inbox) to_itself;
    };
    frames = λ fs has k q lt.
        run_frames p l old ps ps ps fs plan width 1 0 parts v (x ∷ []) planned parted kept (omega arith) run apart w sources.outer spans (outer_valued p l old ps plan width 1 parts planned.spans parted inside 0 w sources.outer (omega arith) spans found) sent
        (subst (λ (cs : List FrameCopy). HasFilled sources.outer cs (x ∷ []) ps fs) copies (subst (λ (xs : List Message). HasFilled sources.outer sources.copies.items xs ps fs) inbox has))
        k q lt;
  }
