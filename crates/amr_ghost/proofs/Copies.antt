-- Copies made one after the other: what they ask of the patches stays, and so does what they set.
use Rattle.std.proofs.Common.{◌≡◌, ◌∙◌, ℕ, ◌+◌, ◌<◌, Bool, List, length, get_or, IsTrue, refl, sym, subst, below_more, arith}
use Rattle.std.specs.List.{All, AllZip}
use Rattle.std.proofs.lemmas.List.{get_or_default}
use Rattle.std.proofs.lemmas.List.Elements.{length_all_zip}
use Rattle.amr_box.specs.declared.Cell.{Cell}
use Rattle.amr_box.specs.Cells.{Extent}
use Rattle.amr_patch.specs.declared.patches.Patch.{Patch}
use Rattle.amr_patch.specs.Places.{in_frame}
use Rattle.amr_ghost.specs.Strips.{step}
use Rattle.amr_ghost.specs.Frames.{is_beside}
use Rattle.amr_ghost.specs.GhostCells.{KeepsCells, KeepsGhosts}
use Rattle.amr_ghost.specs.Messages.{HasCopy, IsCopyFor, IsReceived, IsTaken}
use Rattle.amr_ghost.specs.declared.parts.FrameCopy.{FrameCopy}
use Rattle.amr_ghost.proofs.Carrying.{taken_of_boxes}
use Rattle.amr_ghost.proofs.Zips.{still_mass, zip_box, zip_boxes}
use Rattle.amr_ghost.proofs.GhostStrips.{still_ghosts}

-- a copy of patches that keep their cells stays one
module _ (ps qs : List Patch) (kept : AllZip KeepsCells ps qs) where
  same_count : length ps ≡ length qs
  same_count = length_all_zip KeepsCells ps qs kept

  pub still_taken : (c : FrameCopy) → IsTaken ps c → IsTaken qs c
  still_taken = taken_of_boxes ps qs (sym (zip_boxes ps qs kept))

  pub still_received : (c : FrameCopy) → IsReceived ps c → IsReceived qs c
  still_received c h = record {
    there = subst (λ n. c.patch < n) same_count h.there;
    some = h.some;
    small = h.small;
    room = h.room;
    ghosts = λ q k lt. subst (λ (b : Extent). IsTrue (in_frame b (step c.strip.axis c.strip.from k))) (sym (zip_box ps qs c.patch q q kept h.there)) (h.ghosts q k lt);
    beside = λ q k lt. subst (λ (b : Extent). IsTrue (is_beside b (step c.strip.axis c.strip.from k))) (sym (zip_box ps qs c.patch q q kept h.there)) (h.beside q k lt);
  }

  -- and what it copies stays
  pub still_copied : (V : Cell → ℕ) (M : Cell → Bool) (c : FrameCopy) → IsTaken ps c → IsCopyFor V M ps c → IsCopyFor V M qs c
  still_copied V M c h copied q = record {
    values = λ k lt. (copied q).values k lt ∙ sym (still_mass ps qs c.source q q (step c.strip.axis c.from k) (step c.strip.axis c.from k) kept h.there refl (h.held q k lt));
    marks = (copied q).marks;
  }

  -- and what it set stays, where ghost cells that have their values keep them
  module _ (rs : List Patch) (V : Cell → ℕ) (M : Cell → Bool) (more : AllZip (KeepsGhosts V M) qs rs) where
    pub still_set : (c : FrameCopy) → IsReceived ps c → HasCopy V M qs c → HasCopy V M rs c
    still_set c h before q = let is = still_received c h in still_ghosts V M qs rs c.patch q q c.strip.axis c.strip.from c.strip.count is.there more (is.ghosts q) (before q)

    pub all_still_set : (cs : List FrameCopy) → All (IsReceived ps) cs → All (HasCopy V M qs) cs → All (HasCopy V M rs) cs
    all_still_set cs received before = λ j c lt. still_set (get_or cs j c) (received j c lt) (before j c lt)

    -- one more copy is made
    pub copies_set : (cs : List FrameCopy) (k : ℕ) (d : FrameCopy) → k < length cs → ((j : ℕ) (c : FrameCopy) → j < length cs → IsReceived ps (get_or cs j c)) → ((j : ℕ) (c : FrameCopy) → j < k → HasCopy V M qs (get_or cs j c)) → HasCopy V M rs (get_or cs k d) → (j : ℕ) (c : FrameCopy) → j < k + 1 → HasCopy V M rs (get_or cs j c)
    copies_set cs k d there received before one j c lt = below_more (λ m. HasCopy V M rs (get_or cs m c)) k (λ m below. still_set (get_or cs m c) (received m c (omega (arith, below, there))) (before m c below)) (subst (HasCopy V M rs) (get_or_default cs k d c there) one) j lt
