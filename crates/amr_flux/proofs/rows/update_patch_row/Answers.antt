use Rattle.std.proofs.Common.{◌≡◌, ℤ, pos, ◌+◌, ◌-◌, ◌*◌, ◌^◌, ◌<◌, ◌+ℤ◌, ◌≤ℤ◌, ◌<ℤ◌, ◌∙◌, ap, sym, subst, take, drop, length-take, refl, arith, rules}
use Rattle.std.specs.Prelude.{slice_index}
use Rattle.amr_flux.specs.Rows.{net_in_row}
use Rattle.amr_flux.proofs.Parts.{entry_written, inflow_part, kept, read}
use Rattle.amr_flux.proofs.rows.update_patch_row.Goals as goal

pub update_row-requires-clause-kept : goal.update_row-requires-clause-kept
update_row-requires-clause-kept c = λ t below.
    let w = c.args.shape.w in
    let j = c.args.j in
    let values = c.args.values.now in
    let room = c.args.room.now in
    let from = (j + 1) * (w + 2) + 1 in
    let h : t < w = omega (arith, below, length-take (from + w - from) (drop from values)) in
    let flows : net_in_row (take (w + 1) c.deref.result.now) (take w c.deref-2.result.now) (take w c.deref-3.result.now) t ≡ net_in_row room.x.items room.low.items room.high.items t = inflow_part _ _ _ w t h ∙ (λ i. net_in_row (c.deref.ensures.value i) (c.deref-2.ensures.value i) (c.deref-3.ensures.value i) t) in
    let mass : slice_index (take (from + w - from) (drop from values)) t ≡ slice_index values ((j + 1) * (w + 2) + (t + 1)) = read values from (from + w) t (omega (arith, h)) ∙ ap (slice_index values) (omega arith) in
    let P : ℤ → Type 0 = λ z. pos 0 ≤ℤ z in
    subst P (λ i. pos (sym mass i) +ℤ sym flows i) (c.requires.kept t h)

pub update_row-requires-clause-fits : goal.update_row-requires-clause-fits
update_row-requires-clause-fits c = λ t below.
    let w = c.args.shape.w in
    let j = c.args.j in
    let values = c.args.values.now in
    let room = c.args.room.now in
    let from = (j + 1) * (w + 2) + 1 in
    let h : t < w = omega (arith, below, length-take (from + w - from) (drop from values)) in
    let flows : net_in_row (take (w + 1) c.deref.result.now) (take w c.deref-2.result.now) (take w c.deref-3.result.now) t ≡ net_in_row room.x.items room.low.items room.high.items t = inflow_part _ _ _ w t h ∙ (λ i. net_in_row (c.deref.ensures.value i) (c.deref-2.ensures.value i) (c.deref-3.ensures.value i) t) in
    let mass : slice_index (take (from + w - from) (drop from values)) t ≡ slice_index values ((j + 1) * (w + 2) + (t + 1)) = read values from (from + w) t (omega (arith, h)) ∙ ap (slice_index values) (omega arith) in
    let P : ℤ → Type 0 = λ z. z <ℤ pos (2 ^ 32) in
    subst P (λ i. pos (sym mass i) +ℤ sym flows i) (c.requires.fits t h)

pub returns-clause-made : goal.returns-clause-made
returns-clause-made c = λ t h.
    let w = c.args.shape.w in
    let j = c.args.j in
    let values = c.args.values.now in
    let room = c.args.room.now in
    let from = (j + 1) * (w + 2) + 1 in
    let flows : net_in_row (take (w + 1) c.deref.result.now) (take w c.deref-2.result.now) (take w c.deref-3.result.now) t ≡ net_in_row room.x.items room.low.items room.high.items t = inflow_part _ _ _ w t h ∙ (λ i. net_in_row (c.deref.ensures.value i) (c.deref-2.ensures.value i) (c.deref-3.ensures.value i) t) in
    let mass : slice_index (take (from + w - from) (drop from values)) t ≡ slice_index values ((j + 1) * (w + 2) + (t + 1)) = read values from (from + w) t (omega (arith, h)) ∙ ap (slice_index values) (omega arith) in
    ap pos (entry_written (w + 2) (j + 1) 1 from _ values c.update_row.new.masses 0 refl (omega arith) (search rules) (search rules) (t + 1) t (omega arith) (omega (arith, h)))
    ∙ c.update_row.ensures t (search rules)
    ∙ (λ i. pos (mass i) +ℤ flows i)

pub returns-clause-others : goal.returns-clause-others
returns-clause-others c = λ k apart.
    let w = c.args.shape.w in
    let from = (c.args.j + 1) * (w + 2) + 1 in
    kept from _ c.args.values.now c.update_row.new.masses 0 (search rules) (search rules) k (λ t h e. apart t (omega (arith, h)) (e ∙ omega arith))
