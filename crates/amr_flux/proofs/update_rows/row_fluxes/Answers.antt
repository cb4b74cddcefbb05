use Rattle.std.proofs.Common.{◌≡◌, ℕ, ◌+◌, ◌≤◌, ◌∙◌, pos, sym, ap, length-drop, arith, rules}
use Rattle.std.specs.Prelude.{cond, slice_index_or}
use Rattle.std.specs.Vec.{with_items}
use Rattle.std.proofs.lemmas.List.{take_rest, with_items_is}
use Rattle.amr_flux.proofs.Parts.{rest_small}
use Rattle.amr_flux.specs.Tables.{count_below, x_marked}
use Rattle.amr_flux.proofs.Borders.{count_grows, count_more}
use Rattle.amr_flux.proofs.Throughs.{x_made, y_made}
use Rattle.amr_flux.proofs.update_rows.row_fluxes.Goals as goal

pub y_row-requires-clause-low_small : goal.y_row-requires-clause-low_small
y_row-requires-clause-low_small c = λ i h. c.requires.here_small (i + 1) (omega (arith, h))

pub y_row-requires-clause-high_small : goal.y_row-requires-clause-high_small
y_row-requires-clause-high_small c = λ i h. c.requires.above_small i h

pub set_end-used-requires-clause-enough : goal.set_end-used-requires-clause-enough
set_end-used-requires-clause-enough c =
    let w = c.args.shape.w in
    let j = c.args.j in
    let marks = c.args.border.marks.now in
    let all : count_below (x_marked w marks) (j + 1) ≤ count_below (x_marked w marks) c.args.shape.h = count_grows (x_marked w marks) (j + 1) c.args.shape.h (omega (arith, c.requires.row)) in
    omega (arith, all, c.requires.used, count_more (x_marked w marks) j, c.requires.sizes.enough, ap {B = ℕ} (λ b. cond b 1 0) c.is_end_marked-marked.ensures)

pub set_top-requires-clause-enough : goal.set_top-requires-clause-enough
set_top-requires-clause-enough c = λ last.
    let w = c.args.shape.w in
    let marks = c.args.border.marks.now in
    let used : c.set_end-used.result ≡ count_below (x_marked w marks) c.args.shape.h = c.set_end-used.ensures.count ∙ (λ t. c.requires.used t + cond (c.is_end_marked-marked.ensures t) 1 0) ∙ sym (count_more (x_marked w marks) c.args.j) ∙ ap (count_below (x_marked w marks)) last in
    omega (arith, used, c.requires.sizes.enough, length-drop c.set_end-used.result c.args.border.sizes.now)

pub set_top-requires-clause-small : goal.set_top-requires-clause-small
set_top-requires-clause-small c = rest_small c.args.border.sizes.now c.set_end-used.result c.requires.sizes.small

pub returns-clause-used : goal.returns-clause-used
returns-clause-used c = c.set_end-used.ensures.count ∙ (λ t. c.requires.used t + cond (c.is_end_marked-marked.ensures t) 1 0) ∙ sym (count_more (x_marked c.args.shape.w c.args.border.marks.now) c.args.j)

pub returns-clause-row : goal.returns-clause-row
returns-clause-row c = λ i h.
    let s = c.args.shape in
    let room = c.args.room.now in
    let one = c.deref_mut-2.ensures.value ∙ with_items_is room.x c.x_row.new.fluxes (search rules) in
    let two = with_items_is (with_items room.x c.x_row.new.fluxes) c.set_end-used.new.fluxes (search rules) in
    ap (λ es. slice_index_or es i (pos 0)) two
    ∙ x_made c.args.p.now s.level s.row s.w c.args.border.marks.now c.args.border.sizes.now c.args.values.now c.args.j c.deref_mut-2.result.now c.set_end-used.new.fluxes _ _ _ (λ k h. ap (λ es. slice_index_or es k (pos 0)) one ∙ c.x_row.ensures k h) (search rules) c.is_end_marked-marked.ensures c.requires.used c.set_end-used.ensures.last c.set_end-used.ensures.others i h

pub returns-clause-above : goal.returns-clause-above
returns-clause-above c = λ i h.
    let s = c.args.shape in
    let room = c.args.room.now in
    let marks = c.args.border.marks.now in
    let border = c.args.border.sizes.now in
    let next : c.set_end-used.result ≡ count_below (x_marked s.w marks) (c.args.j + 1) = c.set_end-used.ensures.count ∙ (λ t. c.requires.used t + cond (c.is_end_marked-marked.ensures t) 1 0) ∙ sym (count_more (x_marked s.w marks) c.args.j) in
    let one = c.deref_mut-4.ensures.value ∙ with_items_is room.high c.y_row.new.fluxes (search rules) in
    let two = with_items_is (with_items room.high c.y_row.new.fluxes) c.set_top.new.fluxes (search rules) in
    ap (λ es. slice_index_or es i (pos 0)) two
    ∙ y_made c.args.p.now s.level s.column s.w s.h marks border c.args.values.now c.args.j i c.set_end-used.result _ (take_rest border c.set_end-used.result) next (ap (λ es. slice_index_or es i (pos 0)) one ∙ c.y_row.ensures i h) (c.set_top.ensures i h)
