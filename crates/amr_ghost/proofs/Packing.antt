-- Masses of copies in a list, one copy after another: those of a copy, and one more copy packed.
use Rattle.std.proofs.Common.{◌≡◌, ◌∙◌, ℕ, ◌+◌, ◌-◌, ◌<◌, ◌≤◌, Bool, true, List, [], ◌∷◌, ◌++◌, length, get_or, take, drop, sym, ap, subst, arith}
use Rattle.std.specs.Prelude.{slice_index, slice_range}
use Rattle.std.proofs.lemmas.List.{get_or-drop, get_or_default, take_more}
use borrow.Rule.Slice.PartMut.{put_mid}
use Rattle.amr_box.specs.declared.Cell.{Cell}
use Rattle.amr_patch.specs.declared.patches.Patch.{Patch}
use Rattle.amr_patch.specs.Patches.{mass_in}
use Rattle.amr_ghost.specs.Strips.{step}
use Rattle.amr_ghost.specs.GhostCells.{AreGiven}
use Rattle.amr_ghost.specs.Messages.{AreMassesFor, ArePacked, mass_count}
use Rattle.amr_ghost.specs.declared.parts.FrameCopy.{FrameCopy}
use Rattle.amr_ghost.proofs.Counts.{before_part, copies_counted, end_part, in_part, part_given, part_length}

-- ---- masses given

module _ (V : Cell → ℕ) (M : Cell → Bool) where
  pub given_part : (cs : List FrameCopy) (k : ℕ) (d : FrameCopy) (ms : List ℕ) (done : ℕ) → k < length cs → done ≡ mass_count (take k cs) → AreMassesFor V M cs ms → AreGiven V M (get_or cs k d).strip.axis (get_or cs k d).strip.from (get_or cs k d).strip.count (λ j. slice_index (slice_range ms done (done + (get_or cs k d).strip.count)) j) true
  given_part = part_given V M true (λ (c : FrameCopy). c.strip) copies_counted (AreMassesFor V M) (λ c cs ms h. h)

-- ---- masses packed

-- one more copy's masses are written after those of the copies so far, which stay
pub packed_more : (rs : List Patch) (cs : List FrameCopy) (c : FrameCopy) (ms ns : List ℕ) → ArePacked rs cs ms → ((j : ℕ) → j < mass_count cs → slice_index ns j ≡ slice_index ms j) → ((q : Patch) (j : ℕ) → j < c.strip.count → slice_index ns (mass_count cs + j) ≡ mass_in (get_or rs c.source q) (step c.strip.axis c.from j)) → ArePacked rs (cs ++ c ∷ []) ns
packed_more rs [] c ms ns h same one = ((λ q k lt. ap (λ m. slice_index ns m) (omega arith) ∙ one q k lt), tt)
packed_more rs (d ∷ ds) c ms ns h same one = (
  (λ q k lt. same k (omega (arith, lt)) ∙ h.0 q k lt),
  packed_more rs ds c (drop d.strip.count ms) (drop d.strip.count ns) h.1
      (λ j lt. get_or-drop d.strip.count ns j 0 ∙ same (d.strip.count + j) (omega (arith, lt)) ∙ sym (get_or-drop d.strip.count ms j 0))
      (λ q j lt. get_or-drop d.strip.count ns (mass_count ds + j) 0 ∙ ap (λ m. slice_index ns m) (omega arith) ∙ one q j lt),
)

-- the masses of copy k are written where they stand
pub packed_next : (rs : List Patch) (cs : List FrameCopy) (k : ℕ) (d : FrameCopy) (ms ns : List ℕ) (done : ℕ) (source : Patch) → k < length cs → done ≡ mass_count (take k cs) → length ms ≡ mass_count cs → (get_or cs k d).source < length rs → source ≡ get_or rs (get_or cs k d).source source → ArePacked rs (take k cs) ms → length ns ≡ length (slice_range ms done (done + (get_or cs k d).strip.count)) → ((j : ℕ) → j < length (slice_range ms done (done + (get_or cs k d).strip.count)) → slice_index ns j ≡ mass_in source (step (get_or cs k d).strip.axis (get_or cs k d).from j)) → ArePacked rs (take (k + 1) cs) (put_mid done (done + (get_or cs k d).strip.count - done) ms ns)
packed_next rs cs k d ms ns done source lt before all there is packed same taken =
    subst (λ (us : List FrameCopy). ArePacked rs us (put_mid done n ms ns)) (sym (take_more cs k d lt))
    (packed_more rs (take k cs) u ms (put_mid done n ms ns) packed
    (λ j t. before_part ms ns done n within j (omega (arith, t, before)))
    (λ q j t. ap (λ m. slice_index (put_mid done n ms ns) (m + j)) (sym before) ∙ in_part ms ns done n within j (omega (arith, t, same, part)) ∙ taken j (omega (arith, t, part)) ∙ ap (λ (p : Patch). mass_in p (step u.strip.axis u.from j)) (is ∙ get_or_default rs u.source source q there)))
  where
    u : FrameCopy
    u = get_or cs k d

    n : ℕ
    n = done + u.strip.count - done

    within : done + n ≤ length ms
    within = end_part copies_counted cs k d done (length ms) lt before all

    part : length (slice_range ms done (done + u.strip.count)) ≡ n
    part = part_length ms ns done n within
