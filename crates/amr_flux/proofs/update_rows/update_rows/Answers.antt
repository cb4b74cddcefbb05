use Rattle.std.proofs.Common.{ℕ, ◌+◌, ◌^◌, ◌<◌, ◌≤◌, ◌∙◌, ℤ, pos, ◌+ℤ◌, ◌≤ℤ◌, ◌<ℤ◌, sym, ap, subst, refl, length, arith, rules}
use Rattle.std.specs.Prelude.{slice_index_or}
use Rattle.std.proofs.lemmas.List.{with_items_is}
use Rattle.amr_flux.specs.Tables.{net_inflow, value, x_through, y_through}
use Rattle.amr_flux.proofs.Throughs.{later, others_more, row_total, rows_more, y_flux_inner, y_same}
use Rattle.amr_flux.proofs.update_rows.update_rows.Goals as goal

pub y_row-requires-clause-low_small : goal.y_row-requires-clause-low_small
y_row-requires-clause-low_small c = λ i h. c.requires.ready.y_small.at i 0 h (omega arith)

pub y_row-requires-clause-high_small : goal.y_row-requires-clause-high_small
y_row-requires-clause-high_small c = λ i h. c.requires.ready.y_small.at i 1 h (omega arith)

pub loop-j-init : goal.loop-j-init
loop-j-init c =
    let low = with_items_is c.args.room.now.low c.y_row.new.fluxes (search rules) in
    record {
      columns = search rules;
      width = ap length low ∙ search rules;
      used = refl;
      low = λ i h. ap (λ es. slice_index_or es i (pos 0)) low ∙ c.y_row.ensures i h ∙ y_flux_inner c.args.p.now c.args.shape.level c.args.shape.column c.args.shape.w c.args.shape.h c.args.border.marks.now c.args.border.sizes.now c.args.values.now i 0 c.requires.ready.some_rows;
      made = λ i j inside below. absurd (omega arith);
      others = λ k other. refl;
    }

pub row_fluxes-used-requires-clause-here_small : goal.row_fluxes-used-requires-clause-here_small
row_fluxes-used-requires-clause-here_small c = λ i h.
    let j = c.loop-j.j in
    let P : ℕ → Type 0 = λ n. n < 2 ^ 31 in
    subst P (sym (later c.args.shape.w j c.loop-j.values c.args.values.now c.loop-j.invariant.others (j + 1) i _ (omega arith) h refl)) (c.requires.ready.x_small.at i j h c.loop-j-test.true)

pub row_fluxes-used-requires-clause-above_small : goal.row_fluxes-used-requires-clause-above_small
row_fluxes-used-requires-clause-above_small c = λ i h.
    let j = c.loop-j.j in
    let P : ℕ → Type 0 = λ n. n < 2 ^ 31 in
    subst P (sym (later c.args.shape.w j c.loop-j.values c.args.values.now c.loop-j.invariant.others (j + 1 + 1) (i + 1) _ (omega arith) (omega (arith, h)) refl)) (c.requires.ready.y_small.at i (j + 1 + 1) h (omega (arith, c.loop-j-test.true)))

pub update_patch_row-requires-clause-kept : goal.update_patch_row-requires-clause-kept
update_patch_row-requires-clause-kept c = λ t below.
    let p = c.args.p.now in
    let s = c.args.shape in
    let w = s.w in
    let marks = c.args.border.marks.now in
    let border = c.args.border.sizes.now in
    let old = c.args.values.now in
    let j = c.loop-j.j in
    let before = c.loop-j.invariant.others in
    let room = c.row_fluxes-used.new.room in
    let low_is = λ (i : ℕ) (h : i < w). ap (λ es. slice_index_or es i (pos 0)) c.row_fluxes-used.ensures.below ∙ c.loop-j.invariant.low i h in
    let total = row_total p s.level s.row s.column w s.h marks border old c.loop-j.values j before room.x.items room.low.items room.high.items c.row_fluxes-used.ensures.row low_is c.row_fluxes-used.ensures.above in
    let P : ℤ → Type 0 = λ z. pos 0 ≤ℤ z in
    subst P (sym (total t below)) (c.requires.ready.kept t j below c.loop-j-test.true)

pub update_patch_row-requires-clause-fits : goal.update_patch_row-requires-clause-fits
update_patch_row-requires-clause-fits c = λ t below.
    let p = c.args.p.now in
    let s = c.args.shape in
    let w = s.w in
    let marks = c.args.border.marks.now in
    let border = c.args.border.sizes.now in
    let old = c.args.values.now in
    let j = c.loop-j.j in
    let before = c.loop-j.invariant.others in
    let room = c.row_fluxes-used.new.room in
    let low_is = λ (i : ℕ) (h : i < w). ap (λ es. slice_index_or es i (pos 0)) c.row_fluxes-used.ensures.below ∙ c.loop-j.invariant.low i h in
    let total = row_total p s.level s.row s.column w s.h marks border old c.loop-j.values j before room.x.items room.low.items room.high.items c.row_fluxes-used.ensures.row low_is c.row_fluxes-used.ensures.above in
    let P : ℤ → Type 0 = λ z. z <ℤ pos (2 ^ 32) in
    subst P (sym (total t below)) (c.requires.ready.fits t j below c.loop-j-test.true)

pub loop-j-preserved : goal.loop-j-preserved
loop-j-preserved c =
    let p = c.args.p.now in
    let s = c.args.shape in
    let w = s.w in
    let marks = c.args.border.marks.now in
    let border = c.args.border.sizes.now in
    let old = c.args.values.now in
    let j = c.loop-j.j in
    let before = c.loop-j.invariant.others in
    let room = c.row_fluxes-used.new.room in
    let low_is = λ (i : ℕ) (h : i < w). ap (λ es. slice_index_or es i (pos 0)) c.row_fluxes-used.ensures.below ∙ c.loop-j.invariant.low i h in
    let total = row_total p s.level s.row s.column w s.h marks border old c.loop-j.values j before room.x.items room.low.items room.high.items c.row_fluxes-used.ensures.row low_is c.row_fluxes-used.ensures.above in
    let f : ℕ → ℕ → ℤ = λ i k. pos (value w old (i + 1) (k + 1)) +ℤ net_inflow (x_through p s.level s.row w marks border old) (y_through p s.level s.column w s.h marks border old) i k in
    let stays = c.update_patch_row.ensures.others in
    record {
      columns = search rules;
      width = (λ t. length ((c.swap.ensures.x_after t).items)) ∙ omega (arith, ap length c.row_fluxes-used.ensures.below, c.row_fluxes-used.new.room.high_count, c.loop-j.invariant.width);
      used = c.row_fluxes-used.ensures.used;
      low = λ i k. (λ t. slice_index_or ((c.swap.ensures.x_after t).items) i (pos 0)) ∙ c.row_fluxes-used.ensures.above i k ∙ y_same p s.level s.row s.column w s.h marks border old c.loop-j.values j before i k;
      made = rows_more w j c.loop-j.values c.update_patch_row.new.values old f stays (λ i k. c.update_patch_row.ensures.made i k ∙ total i k) c.loop-j.invariant.made;
      others = others_more w j c.loop-j.values c.update_patch_row.new.values old f stays before;
    }

pub returns-clause-masses : goal.returns-clause-masses
returns-clause-masses c = record {
  made = λ i j hi hj. c.loop-j.invariant.made i j hi (omega (arith, hj, c.loop-j.auto.j-end));
  others = λ k other. c.loop-j.invariant.others k (λ i j hi hj. other i j hi (omega (arith, hj, c.loop-j.auto.j-end)));
}
