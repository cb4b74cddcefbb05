-- Outer ghost cells: values worked out span by span, and given to patches span by span.
use Rattle.std.proofs.Common.{◌≡◌, ◌∙◌, ℕ, ◌+◌, ◌-◌, ◌<◌, ◌≤◌, Bool, false, List, [], ◌∷◌, ◌++◌, length, get_or, take, drop, sym, ap, subst, below_more, arith}
use Rattle.std.specs.Prelude.{slice_index, slice_range}
use Rattle.std.specs.List.{All, AllZip}
use Rattle.std.proofs.lemmas.List.{get_or-drop, get_or_default, take_more}
use borrow.Rule.Slice.PartMut.{put_mid}
use Rattle.amr_box.specs.declared.Cell.{Cell}
use Rattle.amr_patch.specs.declared.patches.Patch.{Patch}
use Rattle.amr_ghost.specs.GhostCells.{AreGiven, KeepsCells, KeepsGhosts}
use Rattle.amr_ghost.specs.Messages.{HasCopy, HasMadeCopies, IsCopyFor, IsFrameCopy, IsReceived}
use Rattle.amr_ghost.specs.Outer.{AreOuterFor, AreOuterValuesFor, HasOuter, HasOuterGiven, IsSpanBeside, value_count}
use Rattle.amr_ghost.specs.declared.outer.OuterGhosts.{OuterGhosts}
use Rattle.amr_ghost.specs.declared.sources.GhostSpan.{GhostSpan}
use Rattle.amr_ghost.specs.declared.parts.FrameCopy.{FrameCopy}
use Rattle.amr_ghost.proofs.Copies.{still_copied, still_received, still_set, still_taken}
use Rattle.amr_ghost.proofs.Counts.{before_part, end_part, in_part, part_given, part_length, spans_counted}
use Rattle.amr_ghost.proofs.GhostStrips.{same_given}
use Rattle.amr_ghost.proofs.Zips.{keeps_trans, zip_ghosts, zip_trans}

-- ---- values

module _ (V : Cell → ℕ) (M : Cell → Bool) where
  pub outer_part : (ss : List GhostSpan) (k : ℕ) (d : GhostSpan) (vs : List ℕ) (done : ℕ) → k < length ss → done ≡ value_count (take k ss) → AreOuterValuesFor V M ss vs → AreGiven V M (get_or ss k d).strip.axis (get_or ss k d).strip.from (get_or ss k d).strip.count (λ j. slice_index (slice_range vs done (done + (get_or ss k d).strip.count)) j) false
  outer_part = part_given V M false (λ (s : GhostSpan). s.strip) spans_counted (AreOuterValuesFor V M) (λ s ss vs h. h)

  -- one more span's values are written after those of the spans so far, which stay
  found_more : (ss : List GhostSpan) (s : GhostSpan) (vs ws : List ℕ) → AreOuterValuesFor V M ss vs → ((j : ℕ) → j < value_count ss → slice_index ws j ≡ slice_index vs j) → AreGiven V M s.strip.axis s.strip.from s.strip.count (λ j. slice_index ws (value_count ss + j)) false → AreOuterValuesFor V M (ss ++ s ∷ []) ws
  found_more [] s vs ws h same one = (same_given V M s.strip.axis s.strip.from s.strip.count (λ j. slice_index ws (0 + j)) (λ j. slice_index ws j) false (λ j t. ap (λ n. slice_index ws n) (omega arith)) one, tt)
  found_more (r ∷ ss) s vs ws h same one = (
    same_given V M r.strip.axis r.strip.from r.strip.count (λ j. slice_index vs j) (λ j. slice_index ws j) false (λ j t. sym (same j (omega (arith, t)))) h.0,
    found_more ss s (drop r.strip.count vs) (drop r.strip.count ws) h.1
        (λ j t. get_or-drop r.strip.count ws j 0 ∙ same (r.strip.count + j) (omega (arith, t)) ∙ sym (get_or-drop r.strip.count vs j 0))
        (same_given V M s.strip.axis s.strip.from s.strip.count (λ j. slice_index ws (r.strip.count + value_count ss + j)) (λ j. slice_index (drop r.strip.count ws) (value_count ss + j)) false
        (λ j t. ap (λ n. slice_index ws n) (omega arith) ∙ sym (get_or-drop r.strip.count ws (value_count ss + j) 0)) one),
  )

  -- the values of span k are written where they stand
  pub found_next : (ss : List GhostSpan) (k : ℕ) (d : GhostSpan) (vs ws : List ℕ) (done : ℕ) → k < length ss → done ≡ value_count (take k ss) → length vs ≡ value_count ss → length ws ≡ length (slice_range vs done (done + (get_or ss k d).strip.count)) → AreOuterValuesFor V M (take k ss) vs → AreGiven V M (get_or ss k d).strip.axis (get_or ss k d).strip.from (get_or ss k d).strip.count (λ j. slice_index ws j) false → AreOuterValuesFor V M (take (k + 1) ss) (put_mid done (done + (get_or ss k d).strip.count - done) vs ws)
  found_next ss k d vs ws done lt before all same h one =
      subst (λ (us : List GhostSpan). AreOuterValuesFor V M us (put_mid done n vs ws)) (sym (take_more ss k d lt))
      (found_more (take k ss) u vs (put_mid done n vs ws) h
      (λ j t. before_part vs ws done n within j (omega (arith, t, before)))
      (same_given V M u.strip.axis u.strip.from u.strip.count (λ j. slice_index ws j) (λ j. slice_index (put_mid done n vs ws) (value_count (take k ss) + j)) false
      (λ j t. sym (ap (λ m. slice_index (put_mid done n vs ws) (m + j)) (sym before) ∙ in_part vs ws done n within j (omega (arith, t, same, part)))) one))
    where
      u : GhostSpan
      u = get_or ss k d

      n : ℕ
      n = done + u.strip.count - done

      within : done + n ≤ length vs
      within = end_part spans_counted ss k d done (length vs) lt before all

      part : length (slice_range vs done (done + u.strip.count)) ≡ n
      part = part_length vs ws done n within

-- ---- patches

-- a span's ghost cells are as those of a copy
abbrev as_copy : GhostSpan → FrameCopy
as_copy s = record { patch = s.patch; strip = s.strip; source = 0; from = s.strip.from }

as_received : (rs : List Patch) (s : GhostSpan) → IsSpanBeside rs s → IsReceived rs (as_copy s)
as_received rs s h = record { there = h.there; some = h.some; small = h.small; room = h.room; ghosts = h.ghosts; beside = h.beside }

-- spans beside patches that keep their cells
module _ (ps qs : List Patch) (kept : AllZip KeepsCells ps qs) where
  pub still_beside : (s : GhostSpan) → IsSpanBeside ps s → IsSpanBeside qs s
  still_beside s h =
      let is = still_received ps qs kept (as_copy s) (as_received ps s h) in
      record { there = is.there; some = is.some; small = is.small; room = is.room; ghosts = is.ghosts; beside = is.beside }

  -- and what was given to them stays, where ghost cells that have their values keep them
  module _ (rs : List Patch) (V : Cell → ℕ) (M : Cell → Bool) (more : AllZip (KeepsGhosts V M) qs rs) where
    still_outer : (s : GhostSpan) → IsSpanBeside ps s → HasOuter V M qs s → HasOuter V M rs s
    still_outer s h before = still_set ps qs kept rs V M more (as_copy s) (as_received ps s h) before

    pub all_still_outer : (ss : List GhostSpan) → All (IsSpanBeside ps) ss → All (HasOuter V M qs) ss → All (HasOuter V M rs) ss
    all_still_outer ss all before = λ j d lt. still_outer (get_or ss j d) (all j d lt) (before j d lt)

    -- one more span is given its values
    pub outer_set : (ss : List GhostSpan) (k : ℕ) (d : GhostSpan) → k < length ss → All (IsSpanBeside ps) ss → ((j : ℕ) (s : GhostSpan) → j < k → HasOuter V M qs (get_or ss j s)) → HasOuter V M rs (get_or ss k d) → (j : ℕ) (s : GhostSpan) → j < k + 1 → HasOuter V M rs (get_or ss j s)
    outer_set ss k d there all before one j s lt = below_more (λ m. HasOuter V M rs (get_or ss m s)) k (λ m below. still_outer (get_or ss m s) (all m s (omega (arith, below, there))) (before m s below)) (subst (HasOuter V M rs) (get_or_default ss k d s there) one) j lt

-- ---- outer ghost cells are given their values, and then copies within the patches are made

pub given_in : (x : OuterGhosts) (ss : List GhostSpan) (vs : List ℕ) (ps qs : List Patch) → ss ≡ x.spans.items → vs ≡ x.values.items → HasOuterGiven ss vs ps qs → HasOuterGiven x.spans.items x.values.items ps qs
given_in x ss vs ps qs spans values h = rw (← spans, ← values) h

-- what copies ask of the patches stays
pub still_copies : (cs : List FrameCopy) (ps qs : List Patch) → AllZip KeepsCells ps qs → All (IsFrameCopy ps) cs → All (IsFrameCopy qs) cs
still_copies cs ps qs kept all = λ j d lt. (still_taken ps qs kept (get_or cs j d) (all j d lt).0, still_received ps qs kept (get_or cs j d) (all j d lt).1)

module _ (x : OuterGhosts) (cs : List FrameCopy) (ps qs rs : List Patch) (given : HasOuterGiven x.spans.items x.values.items ps qs) (made : HasMadeCopies cs qs rs) (beside : All (IsSpanBeside ps) x.spans.items) (copies : All (IsFrameCopy ps) cs) where
  pub own_kept : AllZip KeepsCells ps rs
  own_kept = zip_trans KeepsCells keeps_trans ps qs rs given.kept made.kept

  module _ (V : Cell → ℕ) (M : Cell → Bool) (valued : AreOuterFor V M x) (copied : All (IsCopyFor V M ps) cs) where
    copied_here : All (IsCopyFor V M qs) cs
    copied_here = λ j d lt. still_copied ps qs given.kept V M (get_or cs j d) (copies j d lt).0 (copied j d lt)

    pub own_ghosts : AllZip (KeepsGhosts V M) ps rs
    own_ghosts = zip_ghosts V M ps qs rs given.kept (given.ghosts V M valued) (made.ghosts V M copied_here)

    pub own_outer : All (HasOuter V M rs) x.spans.items
    own_outer = all_still_outer ps qs given.kept rs V M (made.ghosts V M copied_here) x.spans.items beside (given.set V M valued)

    pub own_set : All (HasCopy V M rs) cs
    own_set = made.set V M copied_here
