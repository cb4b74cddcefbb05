use Rattle.std.proofs.Common.{◌≡◌, ◌≢◌, ℕ, ◌+◌, ◌*◌, ◌<◌, ◌≤◌, Bool, true, false, ℤ, ◌+ℤ◌, ◌-ℤ◌, length, get_or-set_same, get_or-set_other, sym, ap, subst, refl, ◌∙◌, arith, rules}
use mir.Val.{SFits}
use mir.Syntax.{w32}
use Rattle.std.specs.Prelude.{slice_index}
use Rattle.std.proofs.lemmas.Int.{to_z-of_z}
use Rattle.amr_flux.specs.Paces.{IsReadyRow, IsSteppedRow, IsWordOf, mass_by_ends, row_at, row_before, x_between, x_donor, x_share, x_with, y_share}
use Rattle.amr_faces.specs.Shares.{signed}
use Rattle.amr_flux.specs.Tables.{count_below, value, x_marked}
use Rattle.amr_flux.proofs.Exchanged.{end_free, end_marked, row_cell, still, word_same}
use Rattle.amr_flux.proofs.PatchSteps.{cell_either, x_signed}
use Rattle.amr_flux.proofs.RowOrder.{IsCounted, cells_more, counted_free, counted_marked, counted_none, donor_same, done_at_end, end_inside, moved2, none_done, others_more, passed_more, room_here, row_ready, row_value, stepped_here}
use Rattle.amr_flux.proofs.patch_steps.step_rows.Goals as goal
use Rattle.amr_flux.proofs.patch_steps.step_rows.Goals.{then-is_end_marked, else-is_end_marked}

pub loop-k-init : goal.loop-k-init
loop-k-init c = record {
  made = λ i j hi hj d. absurd (none_done c.args.down _ j hj d);
  others = λ q undone. refl;
  passed = c.requires.entering;
  used = counted_none c.args.down (x_marked c.args.shape.w c.args.border.marks.now) c.args.shape.h;
}

pub step_row_in-share-requires-clause-inside : goal.step_row_in-share-requires-clause-inside
step_row_in-share-requires-clause-inside c =
    let w = c.args.shape.w in
    let h = c.args.shape.h in
    let k = c.loop-k.k in
    let same : length c.loop-k.across ≡ w = search rules in
    let count : length c.loop-k.values ≡ (h + 2) * (w + 2) = search rules in
    moved2 (λ w r. (r + 2) * (w + 2) ≤ length c.loop-k.values) (sym same) (sym c.row_at-j.ensures.value)
    (room_here c.args.pace c.args.down w h k c.loop-k-test.true c.loop-k.values c.args.values.now c.loop-k.across c.requires.fit c.loop-k.invariant.others c.loop-k.invariant.passed count)

pub step_row_in-share-requires-clause-ready : goal.step_row_in-share-requires-clause-ready
step_row_in-share-requires-clause-ready c =
    let w = c.args.shape.w in
    let h = c.args.shape.h in
    let k = c.loop-k.k in
    let same : length c.loop-k.across ≡ w = search rules in
    moved2 (λ w r. IsReadyRow c.args.pace w r c.loop-k.values c.loop-k.across) (sym same) (sym c.row_at-j.ensures.value)
    (row_ready c.args.pace c.args.down w h k c.loop-k-test.true c.loop-k.values c.args.values.now c.loop-k.across c.requires.fit c.loop-k.invariant.others c.loop-k.invariant.passed)

pub loop-k-preserved : goal.loop-k-preserved
loop-k-preserved c =
    let pace = c.args.pace in
    let b = c.args.down in
    let w = c.args.shape.w in
    let h = c.args.shape.h in
    let k = c.loop-k.k in
    let marks = c.args.border.marks.now in
    let border = c.args.border.sizes.now in
    let test : ℕ → Bool = x_marked w marks in
    let old = c.args.values.now in
    let values = c.loop-k.values in
    let entering = c.loop-k.across in
    let below : k < h = c.loop-k-test.true in
    let same : length c.loop-k.across ≡ w = search rules in
    let at : c.row_at-j.result ≡ row_at b h k = c.row_at-j.ensures.value in
    let others = c.loop-k.invariant.others in
    let passed = c.loop-k.invariant.passed in
    let new = c.step_row_in-share.new.values in
    let row : IsSteppedRow pace w (row_at b h k) values new entering = moved2 (λ w r. IsSteppedRow pace w r values new entering) same at c.step_row_in-share.ensures.cells in
    let after : (i : ℕ) → i < w → slice_index c.step_row_in-share.new.across i ≡ y_share pace (value w values (i + 1) (row_at b h k + 1)) = moved2 (λ w r. (i : ℕ) → i < w → slice_index c.step_row_in-share.new.across i ≡ y_share pace (value w values (i + 1) (r + 1))) same at c.step_row_in-share.ensures.across in
    let kept_row = row_value pace b w h k below values old entering c.requires.fit others passed in
    let share : c.step_row_in-share.result ≡ x_share pace (x_donor pace.x.number w old w (row_at b h k)) = c.step_row_in-share.ensures.end ∙ (λ t. x_share pace (x_donor pace.x.number (same t) values (same t) (at t))) ∙ ap (x_share pace) (donor_same w (row_at b h k) values old kept_row pace.x.number w (omega arith)) in
    let flux : signed pace.x.number c.step_row_in-share.result ≡ x_between pace.x.number pace.x.parts w old w (row_at b h k) = ap (signed pace.x.number) share ∙ x_signed pace.x.parts w old w (row_at b h k) pace.x.number in
    let made = λ (i : ℕ) (hi : i < w). cell_either pace w old new i (row_at b h k) b c.requires.way (stepped_here pace b w h k below values old entering c.requires.fit others passed new row i hi) in
    let passed_on = passed_more pace b w h k below values old entering c.requires.fit others passed new row c.step_row_in-share.new.across after in
    let place = (c.row_at-j.result + 1) * (w + 2) + w in
    let ended = c.if-is_end_marked.values in
    let kept : Type 0 = (q : ℕ) → q ≢ (row_at b h k + 1) * (w + 2) + w → slice_index ended q ≡ slice_index new q in
    let turned : Type 0 = (z : ℤ) → IsWordOf z (value w new w (row_at b h k + 1)) → IsWordOf (z +ℤ (x_between pace.x.number pace.x.parts w old w (row_at b h k) -ℤ x_with pace w marks border old w (row_at b h k))) (value w ended w (row_at b h k + 1)) in
    elim c.if-is_end_marked.branch [
      | then-is_end_marked e ↦
          let here : test c.row_at-j.result ≡ true = search rules in
          let marked : test (row_at b h k) ≡ true = ap test (sym at) ∙ here in
          let placed = counted_marked b test h k c.loop-k.used below c.loop-k.invariant.used marked in
          let size_at : e.row_at.result ≡ count_below test (row_at b h k) = e.row_at.ensures.value ∙ ap (λ n. row_at b n c.loop-k.used) c.count_ends-ends.ensures ∙ placed.place in
          let count : length new ≡ (h + 2) * (w + 2) = search rules in
          let inside : place < length new = end_inside w h c.row_at-j.result _ c.row_at-j.ensures.inside count in
          let stays : kept = λ q ne. ap (λ es. slice_index es q) e.values-is ∙ get_or-set_other new place q e.exchanged.result 0 (λ same. ne (same ∙ ap (λ r. (r + 1) * (w + 2) + w) at)) in
          let is : e.exchanged.result ≡ value w ended w (row_at b h k + 1) = sym (get_or-set_same new place e.exchanged.result 0 inside) ∙ (λ t. slice_index (sym e.values-is t) ((at t + 1) * (w + 2) + w)) in
          let number_fits : SFits w32 pace.x.number = search rules in
          let exchanged = rw to_z-of_z at e.exchanged.ensures in
          let end : turned = λ z has. word_same (λ t. z +ℤ (flux t -ℤ end_marked pace w marks border old (row_at b h k) e.row_at.result marked size_at t)) is (exchanged z (word_same refl (λ t. slice_index new ((sym at t + 1) * (w + 2) + w)) has)) in
          record {
            made = cells_more pace b w h k below values old entering c.requires.fit others passed new row c.requires.some ended stays (mass_by_ends pace w marks border old) (row_cell pace w (row_at b h k) marks border old new ended made stays end) c.loop-k.invariant.made;
            others = others_more pace b w h k below values old entering c.requires.fit others passed new row c.requires.some ended stays;
            passed = passed_on;
            used = subst (λ n. IsCounted b test h (k + 1) n) (sym e.used-is) placed.next;
          }
      | else-is_end_marked e ↦
          let here : test c.row_at-j.result ≡ false = search rules in
          let free : test (row_at b h k) ≡ false = ap test (sym at) ∙ here in
          let stays : kept = λ q ne. ap (λ es. slice_index es q) e.values-is in
          let end : turned = λ z has. word_same (still z _ _ (end_free pace w marks border old (row_at b h k) free)) (ap (λ es. slice_index es ((row_at b h k + 1) * (w + 2) + w)) (sym e.values-is)) has in
          record {
            made = cells_more pace b w h k below values old entering c.requires.fit others passed new row c.requires.some ended stays (mass_by_ends pace w marks border old) (row_cell pace w (row_at b h k) marks border old new ended made stays end) c.loop-k.invariant.made;
            others = others_more pace b w h k below values old entering c.requires.fit others passed new row c.requires.some ended stays;
            passed = passed_on;
            used = subst (λ n. IsCounted b test h (k + 1) n) (sym e.used-is) (counted_free b test h k c.loop-k.used below c.loop-k.invariant.used free);
          }
    ]

pub row_at-requires : goal.row_at-requires
row_at-requires c =
    let b = c.args.down in
    let w = c.args.shape.w in
    let h = c.args.shape.h in
    let test : ℕ → Bool = x_marked w c.args.border.marks.now in
    let here : test c.row_at-j.result ≡ true = search rules in
    let marked : test (row_at b h c.loop-k.k) ≡ true = ap test (sym c.row_at-j.ensures.value) ∙ here in
    omega (arith, (counted_marked b test h c.loop-k.k c.loop-k.used c.loop-k-test.true c.loop-k.invariant.used marked).inside, c.count_ends-ends.ensures)

pub bounds-values-at : goal.bounds-values-at
bounds-values-at c =
    let count : length c.step_row_in-share.new.values ≡ (c.args.shape.h + 2) * (c.args.shape.w + 2) = search rules in
    end_inside c.args.shape.w c.args.shape.h c.row_at-j.result _ c.row_at-j.ensures.inside count

pub bounds-values-at-then-is_end_marked : goal.bounds-values-at-then-is_end_marked
bounds-values-at-then-is_end_marked c =
    let count : length c.step_row_in-share.new.values ≡ (c.args.shape.h + 2) * (c.args.shape.w + 2) = search rules in
    end_inside c.args.shape.w c.args.shape.h c.row_at-j.result _ c.row_at-j.ensures.inside count

pub returns-clause-cells : goal.returns-clause-cells
returns-clause-cells c = λ i j hi hj. c.loop-k.invariant.made i j hi hj (done_at_end c.args.down c.args.shape.h c.loop-k.k j (omega (arith, c.loop-k.auto.k-end)) hj)

pub returns-clause-leaving : goal.returns-clause-leaving
returns-clause-leaving c = λ i hi.
    let end : c.loop-k.k ≡ c.args.shape.h = omega (arith, c.loop-k.auto.k-end) in
    c.loop-k.invariant.passed i hi ∙ ap (λ n. y_share c.args.pace (value c.args.shape.w c.args.values.now (i + 1) (row_before c.args.down c.args.shape.h n))) end

pub returns-clause-others : goal.returns-clause-others
returns-clause-others c = λ q other. c.loop-k.invariant.others q (λ i j hi hj d. other i j hi hj)
