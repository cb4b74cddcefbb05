-- Lots to which what corrects a level was lent: they are handed the level's patches, correct them, pack their messages, and are handed what
-- they had before.
use Rattle.std.proofs.Common.{◌≡◌, ◌∙◌, ℕ, ◌+◌, ◌*◌, ◌^◌, ◌<◌, ◌≤◌, List, length, get_or, map, drop, sym, ap, subst, arith}
use Rattle.std.specs.declared.option.Option.TheVariants.{None, Some}
use Rattle.std.specs.Global.{Box, Vec}
use Rattle.std.specs.List.{All, AllZip}
use Rattle.std.proofs.lemmas.List.{length-drop, length-take}
use Rattle.std.proofs.lemmas.List.Elements.{AllZip-get_or, length_all_zip}
use Rattle.amr_def.specs.State.{children_mass}
use Rattle.amr_ghost.specs.Messages.{HasPacked, IsMessageFrom}
use Rattle.amr_ghost.specs.declared.messages.Message.{Message}
use Rattle.amr_ghost.proofs.Zips.{boxes_of_zip}
use Rattle.amr_layout.proofs.Planned.{nth}
use Rattle.amr_patch.specs.declared.patches.Patch.{Patch}
use Rattle.amr_patch.specs.Orders.{IsOrderOf}
use Rattle.amr_patch.specs.Patches.{ArePatchesApart, box, masses_in}
use Rattle.amr_patch.proofs.SameBoxes.{apart_alike}
use Rattle.amr_register.specs.Fields.{HasEdgesOf, IsBoxAt, IsPlaced, entry_in}
use Rattle.amr_register.specs.declared.register.Register.{Register}
use Rattle.amr_transfer.specs.Sums.{AreCoarsenable}
use Rattle.amr_lots.specs.declared.lot.Correction.{Correction}
use Rattle.amr_lots.specs.declared.lot.Lot.{Lot}
use Rattle.amr_lots.specs.declared.lot.Duty.TheVariants.{Correct}
use Rattle.amr_lots.specs.Corrections.{AreCorrectedBy, CanCorrect, FitsEntries, IsCorrected, IsReady, MayCorrect, finer_in, register_in, with_correction}
use Rattle.amr_lots.specs.Runs.{KeepOthers, run}
use Rattle.amr_lots.specs.Duties.{HasMadeCorrection, IsServed, MaySend, MayServe}
use Rattle.amr_lots.proofs.Runs.{run_at, run_place}
use Rattle.amr_advance.specs.declared.lots.Lots.{Lots}
use Rattle.amr_advance.specs.Correction.{IsLentPart, IsPartFrom, KeepsAllButCorrection}
use Rattle.amr_advance.specs.Lots.{AreLotsFor, CarryMasses}
use Rattle.amr_advance.proofs.LotCounts.{run_there}
use Rattle.amr_advance.proofs.KeptRuns.{AreServed, AreTraded, KeepRuns, KeepsRun, PackRuns, PacksRun, counts, enough, packed_carry, same_count, sends_run, several_of}
use Rattle.amr_register.proofs.BoxesAt.{box_at}
use Rattle.amr_advance.proofs.RunZips.{zip_length, zip_runs}

-- ---- shares

-- a share is as ready as the whole
part_ready : (first : ℕ) (whole part : Correction) → IsPartFrom first whole part → IsReady whole → IsReady part
part_ready first whole part is ready = record {
  placed = subst IsPlaced (sym is.register) ready.placed;
  order = subst (λ o. IsOrderOf o (finer_in part)) (sym is.order) (subst (IsOrderOf whole.order) (sym is.finer) ready.order);
  apart = subst ArePatchesApart (sym is.finer) ready.apart;
  coarsenable = subst AreCoarsenable (sym is.finer) ready.coarsenable;
  small = λ c. subst (λ (fs : List Patch). children_mass (masses_in fs) c < 2 ^ 32) (sym is.finer) (ready.small c);
}

-- what it corrects, the whole corrects
part_corrects : (first : ℕ) (whole part : Correction) (ps qs : List Patch) → IsPartFrom first whole part → AreCorrectedBy part ps qs → AreCorrectedBy whole ps qs
part_corrects first whole part ps qs is h =
    subst (λ (fs : List Patch). AllZip (IsCorrected (masses_in fs) (entry_in (register_in whole))) ps qs) is.finer
    (subst (λ (r : Register). AllZip (IsCorrected (masses_in (finer_in part)) (entry_in r)) ps qs) is.register h)

-- a run of a level's patches, which are few
part_can : (each k : ℕ) (whole part : Correction) (ps : List Patch) → IsPartFrom (k * each) whole part → IsReady whole → ArePatchesApart ps → HasEdgesOf (map box ps) (register_in whole) → All (FitsEntries (register_in whole)) ps → length ps ≤ 2 ^ 26 → k * each < length ps
    → CanCorrect part (run each k ps)
part_can each k whole part ps is ready apart edges fits small there = record {
  ready = part_ready (k * each) whole part is ready;
  few = omega (arith, is.first_is, small, there, length-take each (drop (k * each) ps), length-drop (k * each) ps);
  boxes = λ i q lt.
      subst (λ (n : ℕ). IsBoxAt (n + i) (box (get_or (run each k ps) i q)) (register_in part)) (sym is.first_is)
      (subst (λ (r : Register). IsBoxAt (k * each + i) (box (get_or (run each k ps) i q)) r) (sym is.register)
      (subst (λ (p : Patch). IsBoxAt (k * each + i) (box p) (register_in whole)) (sym (run_at each ps k i q lt)) (box_at (register_in whole) ps (k * each + i) q edges apart (run_place each ps k i lt))));
  fits = λ i q lt.
      subst (λ (r : Register). FitsEntries r (get_or (run each k ps) i q)) (sym is.register)
      (subst (FitsEntries (register_in whole)) (sym (run_at each ps k i q lt)) (fits (k * each + i) q (run_place each ps k i lt)));
}

-- ---- lots

-- each lot was lent its share
pub record AreLentParts (each : ℕ) (whole : Correction) (xs ys : List (Box Lot)) : Type 0 where
  pub count : length ys ≡ length xs
  pub parts : (k : ℕ) (x : Box Lot) → k < length xs → IsLentPart (k * each) whole (get_or xs k x).value (get_or ys k x).value

abbrev pub IsGivenBack : Box Lot → Box Lot → Type 0
IsGivenBack a b = b.value ≡ with_correction None a.value

pub record AreGivenBack (xs ys : List (Box Lot)) : Type 0 where
  pub back : AllZip IsGivenBack xs ys

abbrev WasServed : Box Lot → Box Lot → Type 0
WasServed a b = IsServed Correct a.value b.value

-- a lot that was lent its share or not, and then has none, keeps its run
given_back : (a b c : Lot) → KeepsAllButCorrection a b → c ≡ with_correction None b → KeepsRun a c
given_back a b c h back =
    let same : c ≡ with_correction None a = back ∙ (λ i. with_correction None (h i)) in
    record {
      workspace = λ i. (same i).workspace;
      patches = λ i. length (same i).patches.items;
      before = λ i. length (same i).before.items;
      edges = λ i. (same i).edges;
    }

-- messages packed from patches, by other names of the same
packed_by : (ps qs : List Patch) (a b c d : Vec Message) → ps ≡ qs → a ≡ b → c ≡ d → AllZip (HasPacked ps) a.items c.items → AllZip (HasPacked qs) b.items d.items
packed_by ps qs a b c d patches before after h =
    subst (λ (v : Vec Message). AllZip (HasPacked qs) b.items v.items) after (subst (λ (v : Vec Message). AllZip (HasPacked qs) v.items c.items) before (subst (λ (rs : List Patch). AllZip (HasPacked rs) a.items c.items) patches h))

-- so lots of which some were lent shares, when they were taken back
pub all_given_back : (xs ys zs : List (Box Lot)) → AllZip (λ (a b : Box Lot). KeepsAllButCorrection a.value b.value) xs ys → AreGivenBack ys zs → KeepRuns xs zs
all_given_back xs ys zs h back =
    let n = length_all_zip (λ (a b : Box Lot). KeepsAllButCorrection a.value b.value) xs ys h in
    let m = length_all_zip IsGivenBack ys zs back.back in
    record {
      count = sym m ∙ sym n;
      each = λ k x lt.
          given_back (get_or xs k x).value (get_or ys k x).value (get_or zs k x).value (AllZip-get_or (λ (a b : Box Lot). KeepsAllButCorrection a.value b.value) xs ys k x x h lt)
          (AllZip-get_or IsGivenBack ys zs k x x back.back (omega (arith, lt, n)));
    }

-- ---- the lots of a level

module _ {t : Lots} (ps : List Patch) (made : AreLotsFor (map box ps) t) where
  few : length ps ≤ 2 ^ 26
  few = omega (arith, made.lots.small, same_count ps made)

  there : (k : ℕ) → k < length t.lots.items → k * t.each < length ps
  there k lt = let tight = (several_of ps made).tight in run_there t.each k (length t.lots.items) (length ps) lt (omega (arith, tight, same_count ps made))

  -- so that the number of each run's first patch is small
  pub lent_small : (k : ℕ) → k < length t.lots.items → k * t.each < 2 ^ 62
  lent_small k lt = omega (arith, there k lt, few)

-- ---- lent what corrects it, handed its patches, served, handed what they had before, and with nothing lent

module _ {t : Lots} (ps : List Patch) (whole : Correction) (made : AreLotsFor (map box ps) t) {ls : List (Box Lot)} (lent : AreLentParts t.each whole t.lots.items ls) where
  -- so they may be handed runs
  pub lent_counts : (k : ℕ) (x : Box Lot) → k < length ls → length (get_or ls k x).value.patches.items ≡ length (run t.each k ps)
  lent_counts k x lt =
      let below : k < length t.lots.items = omega (arith, lt, lent.count) in
      (λ i. length ((lent.parts k x below).lent i).patches.items) ∙ counts ps made k x below

  module _ {qs : List Patch} {ys : List (Box Lot)} (h : AreTraded t.each ps qs ls ys) where
    ys_count : length ys ≡ length t.lots.items
    ys_count = sym (length_all_zip KeepOthers ls ys h.others) ∙ lent.count

    in_lent : (k : ℕ) → k < length t.lots.items → k < length ls
    in_lent k lt = omega (arith, lt, lent.count)

    one_handed : (k : ℕ) (x : Box Lot) → k < length t.lots.items → KeepOthers (get_or ls k x) (get_or ys k x)
    one_handed k x lt = AllZip-get_or KeepOthers ls ys k x x h.others (in_lent k lt)

    -- each has its share still
    has_part : (k : ℕ) (x : Box Lot) (lt : k < length t.lots.items) → (get_or ys k x).value.correction ≡ Some (lent.parts k x lt).part
    has_part k x lt = (λ i. (one_handed k x lt i).correction) ∙ (λ i. ((lent.parts k x lt).lent i).correction)

    may_correct : IsReady whole → ArePatchesApart ps → HasEdgesOf (map box ps) (register_in whole) → All (FitsEntries (register_in whole)) ps → (k : ℕ) (x : Box Lot) → k < length t.lots.items → MayCorrect (get_or ys k x).value
    may_correct ready apart edges fits k x lt =
        let of = lent.parts k x lt in
        record {
          correction = of.part;
          lent = has_part k x lt;
          can = subst (CanCorrect of.part) (sym (h.handed k x (in_lent k lt))) (part_can t.each k whole of.part ps of.is_part ready apart edges fits (few ps made) (there ps made k lt));
        }

    -- its messages are those that it had, from patches over the boxes of its run
    may_send : (k : ℕ) (x : Box Lot) → k < length t.lots.items → MaySend (get_or ys k x).value
    may_send k x lt =
        subst (λ (v : Vec Message). All (IsMessageFrom (get_or ys k x).value.patches.items) v.items) (sym ((λ i. (one_handed k x lt i).workspace.outbox) ∙ (λ i. ((lent.parts k x lt).lent i).workspace.outbox)))
        (subst (λ (rs : List Patch). All (IsMessageFrom rs) (get_or t.lots.items k x).value.workspace.outbox.items) (sym (h.handed k x (in_lent k lt))) (sends_run ps made k x lt))

    pub all_may_correct : IsReady whole → ArePatchesApart ps → HasEdgesOf (map box ps) (register_in whole) → All (FitsEntries (register_in whole)) ps → All (λ (x : Box Lot). MayServe Correct x.value) ys
    all_may_correct ready apart edges fits = λ k x lt.
        let below : k < length t.lots.items = omega (arith, lt, ys_count) in
        (may_correct ready apart edges fits k x below, may_send k x below)

    module _ {us : List (Box Lot)} (g : AreServed Correct ys us) where
      us_count : length us ≡ length t.lots.items
      us_count = sym (length_all_zip WasServed ys us g.served) ∙ ys_count

      one_corrected : (k : ℕ) (x : Box Lot) → k < length t.lots.items → HasMadeCorrection (get_or ys k x).value (get_or us k x).value
      one_corrected k x lt = AllZip-get_or WasServed ys us k x x g.served (omega (arith, lt, ys_count))

      run_corrected : (k : ℕ) (x : Box Lot) → k < length t.lots.items → AreCorrectedBy whole (run t.each k ps) (get_or us k x).value.patches.items
      run_corrected k x lt =
          let of = lent.parts k x lt in
          let made = one_corrected k x lt in
          part_corrects (k * t.each) whole of.part (run t.each k ps) (get_or us k x).value.patches.items of.is_part
          (subst (λ (v : Vec Patch). AreCorrectedBy of.part (run t.each k ps) v.items) (λ i. (sym made.sends.others i).patches)
          (subst (λ (rs : List Patch). AreCorrectedBy of.part rs made.corrected.patches.items) (h.handed k x (in_lent k lt)) (made.corrects.patches of.part (has_part k x lt))))

      -- so they may be handed what they had before
      pub counts_back : (k : ℕ) (x : Box Lot) → k < length us → length (get_or us k x).value.patches.items ≡ length (run t.each k qs)
      counts_back k x lt =
          let below : k < length t.lots.items = omega (arith, lt, us_count) in
          sym (zip_length (IsCorrected (masses_in (finer_in whole)) (entry_in (register_in whole))) (run t.each k ps) (get_or us k x).value.patches.items (run_corrected k x below))
          ∙ sym (lent_counts k x (in_lent k below))
          ∙ sym (ap length (h.back k x (in_lent k below)))

      module _ {rs : List Patch} {vs : List (Box Lot)} (b : AreTraded t.each qs rs us vs) where
        vs_count : length vs ≡ length t.lots.items
        vs_count = sym (length_all_zip KeepOthers us vs b.others) ∙ us_count

        one_back : (k : ℕ) (x : Box Lot) → k < length t.lots.items → KeepOthers (get_or us k x) (get_or vs k x)
        one_back k x lt = AllZip-get_or KeepOthers us vs k x x b.others (omega (arith, lt, us_count))

        -- and the patches are corrected
        pub all_corrected : AreCorrectedBy whole ps rs
        all_corrected =
            zip_runs t.each (length t.lots.items) made.lots.some ps (enough ps made) (IsCorrected (masses_in (finer_in whole)) (entry_in (register_in whole))) rs (sym (b.count ∙ h.count))
            (λ k lt. let x : Box Lot = nth t.lots.items k lt in subst (AreCorrectedBy whole (run t.each k ps)) (sym (b.back k x (omega (arith, lt, us_count)))) (run_corrected k x lt))

        -- over the boxes that they had
        same_boxes : map box rs ≡ map box ps
        same_boxes = boxes_of_zip (IsCorrected (masses_in (finer_in whole)) (entry_in (register_in whole))) (λ q r s. s.kept.of_box) ps rs all_corrected

        module _ {ws : List (Box Lot)} (back : AreGivenBack vs ws) where
          one_new : (k : ℕ) (x : Box Lot) → k < length t.lots.items → PacksRun (run t.each k rs) (get_or t.lots.items k x).value (get_or ws k x).value
          one_new k x lt =
              let l : Lot = (get_or ls k x).value in
              let y : Lot = (get_or ys k x).value in
              let u : Lot = (get_or us k x).value in
              let v : Lot = (get_or vs k x).value in
              let w : Lot = (get_or ws k x).value in
              let first = one_handed k x lt in
              let c : Lot = (one_corrected k x lt).corrected in
              let corrected = (one_corrected k x lt).corrects.others in
              let sent = (one_corrected k x lt).sends in
              let last = one_back k x lt in
              let given = (lent.parts k x lt).lent in
              let taken : w ≡ with_correction None v = AllZip-get_or IsGivenBack vs ws k x x back.back (omega (arith, lt, vs_count)) in
              let was : c.workspace ≡ (get_or t.lots.items k x).value.workspace = (λ i. (corrected i).workspace) ∙ (λ i. (first i).workspace) ∙ (λ i. (given i).workspace) in
              let outbox : u.workspace.outbox ≡ w.workspace.outbox = (λ i. (sym last i).workspace.outbox) ∙ (λ i. (sym taken i).workspace.outbox) in
              record {
                workspace = (λ i. (taken i).workspace) ∙ (λ i. (last i).workspace) ∙ (λ i. (sent.others i).workspace) ∙ (λ i. record (was i) { outbox = outbox i });
                packed = packed_by c.patches.items (run t.each k rs) c.workspace.outbox (get_or t.lots.items k x).value.workspace.outbox u.workspace.outbox w.workspace.outbox ((λ i. (sym sent.others i).patches.items) ∙ sym (b.back k x (omega (arith, lt, us_count)))) (λ i. (was i).outbox) outbox sent.packed;
                patches = (λ i. length (taken i).patches.items) ∙ ap length (b.handed k x (omega (arith, lt, us_count)) ∙ h.back k x (in_lent k lt)) ∙ (λ i. length (given i).patches.items);
                before = (λ i. length (taken i).before.items) ∙ (λ i. length (last i).before.items) ∙ (λ i. length (sent.others i).before.items) ∙ (λ i. length (corrected i).before.items) ∙ (λ i. length (first i).before.items) ∙ (λ i. length (given i).before.items);
                edges = (λ i. (taken i).edges) ∙ (λ i. (last i).edges) ∙ (λ i. (sent.others i).edges) ∙ (λ i. (corrected i).edges) ∙ (λ i. (first i).edges) ∙ (λ i. (given i).edges);
              }

          -- each lot keeps its run, and has packed its messages from the run's corrected patches
          pub all_new : PackRuns t.each rs t.lots.items ws
          all_new = record { count = sym (length_all_zip IsGivenBack vs ws back.back) ∙ vs_count; lots = one_new }

          -- so they carry the corrected masses
          pub all_current : ArePatchesApart ps → CarryMasses (masses_in rs) ws
          all_current apart = packed_carry rs (subst (λ bs. AreLotsFor bs t) (sym same_boxes) made) (apart_alike ps rs same_boxes apart) ws all_new
