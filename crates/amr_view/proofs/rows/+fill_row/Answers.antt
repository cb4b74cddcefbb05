use Rattle.std.proofs.Common.{◌≡◌, ◌∙◌, ℕ, suc, ◌+◌, ◌-◌, ◌*◌, ◌/◌, ◌++◌, List, length, take, drop, to_z, of_z, w32, refl, sym, ap, subst, arith}
use Rattle.std.specs.Prelude.{slice_index}
use Rattle.std.proofs.lemmas.Int.{ints}
use Rattle.std.proofs.lemmas.List.{length-take, take_at}
use Rattle.amr_box.specs.Cells.{width}
use Rattle.amr_def.specs.Regrid.{odd}
use Rattle.amr_def.specs.State.{level_at}
use Rattle.amr_patch.proofs.Entries.{replicated}
use Rattle.amr_patch.specs.Meshes.{state_of}
use Rattle.amr_transfer.proofs.Halves.{near_parents}
use Rattle.amr_view.specs.Rows.{AreFinest, AreLaid, HasWholeColumns}
use Rattle.amr_view.proofs.WidenedRows.{half_wide, laid_finest, laid_first, shares_are, parents_whole}
use Rattle.amr_view.proofs.rows.+fill_row.Goals as goal

pub fill_row-requires : goal.fill_row-requires
fill_row-requires t c =
    let row = c.args.row.now in
    let l : ℕ = c.args.l - 1 in
    let next : suc l ≡ c.args.l = omega (arith, c.if-l-eq0.false) in
    let up = c.coarsen2-parents.result in
    let half = length c.args.masses.now / 2 in
    let columns = subst (λ (n : ℕ). HasWholeColumns n row) (sym next) c.requires.columns in
    let corners = c.coarsen2-parents.ensures.corners in
    let near = near_parents row row up refl c.requires.near corners in
    let wide = half_wide l row up columns corners c.requires.near near in
    let count = length-take half c.args.spare.now in
    (omega arith, (c.requires.whole, (near, (parents_whole l row up columns corners, (omega (arith, count, wide, c.requires.width, c.requires.spare), omega (arith, count))))))

pub share_row-requires-clause-twice : goal.share_row-requires-clause-twice
share_row-requires-clause-twice t c =
    let row = c.args.row.now in
    let l : ℕ = c.args.l - 1 in
    let next : suc l ≡ c.args.l = omega (arith, c.if-l-eq0.false) in
    let up = c.coarsen2-parents.result in
    let half = length c.args.masses.now / 2 in
    let filled = c.fill_row.new.masses in
    let rest = drop half c.args.spare.now in
    let columns = subst (λ (n : ℕ). HasWholeColumns n row) (sym next) c.requires.columns in
    let corners = c.coarsen2-parents.ensures.corners in
    let wide = half_wide l row up columns corners c.requires.near (near_parents row row up refl c.requires.near corners) in
    let count : length filled ≡ half = omega (arith, c.fill_row.auto.masses, length-take half c.args.spare.now, c.requires.spare) in
    omega (arith, c.fill_row.auto.spare, ap length (take_at filled rest half count), count, wide, c.requires.width)

pub returns-then-l-eq0 : goal.returns-then-l-eq0
returns-then-l-eq0 t c =
    let s = state_of c.args.mesh.now in
    let row = c.args.row.now in
    let all = c.fill.ensures.after (λ y e. e) in
    subst (λ (n : ℕ). AreFinest s n row c.lay.new.masses) (sym c.if-l-eq0.true)
    (laid_first s row c.fill.new.self c.lay.new.masses c.lay.ensures (λ k lt. ap (λ (xs : List ℕ). slice_index xs k) all ∙ replicated (length c.args.masses.now) k 0))

pub returns : goal.returns
returns t c =
    let s = state_of c.args.mesh.now in
    let row = c.args.row.now in
    let l : ℕ = c.args.l - 1 in
    let next : suc l ≡ c.args.l = omega (arith, c.if-l-eq0.false) in
    let up = c.coarsen2-parents.result in
    let half = length c.args.masses.now / 2 in
    let filled = c.fill_row.new.masses in
    let count : length filled ≡ half = omega (arith, c.fill_row.auto.masses, length-take half c.args.spare.now, c.requires.spare) in
    let part : take half (filled ++ drop half c.args.spare.now) ≡ filled = take_at filled (drop half c.args.spare.now) half count in
    let finest = subst (λ (xs : List ℕ). AreFinest s l up xs) (sym part) c.fill_row.ensures in
    let columns = subst (λ (n : ℕ). HasWholeColumns n row) (sym next) c.requires.columns in
    let y : to_z w32 (of_z w32 c.lo.result.y) ≡ row.lo.y = omega (arith, ints, c.lo.ensures.y, c.requires.near.south, c.requires.near.north, c.requires.near.high) in
    let wide = half_wide l row up columns c.coarsen2-parents.ensures.corners c.requires.near (near_parents row row up refl c.requires.near c.coarsen2-parents.ensures.corners) in
    let twice : length c.share_row.new.shares ≡ 2 * length (take half (filled ++ drop half c.args.spare.now)) =
    omega (arith, c.share_row.auto.shares, c.fill_row.auto.spare, ap length part, count, wide, c.requires.width) in
    let shares = shares_are l row up columns c.coarsen2-parents.ensures.corners s (take half (filled ++ drop half c.args.spare.now)) c.share_row.new.shares c.odd.result finest twice (c.odd.ensures.value ∙ ap odd y) c.share_row.ensures in
    let laid = subst (λ (n : ℕ). AreLaid (level_at s n).masses row c.share_row.new.shares c.lay-2.new.masses) (sym next) c.lay-2.ensures in
    subst (λ (n : ℕ). AreFinest s n row c.lay-2.new.masses) next
    (laid_finest s l row c.share_row.new.shares c.lay-2.new.masses laid (λ k lt. shares k (omega (arith, lt, c.lay-2.auto.masses))))
