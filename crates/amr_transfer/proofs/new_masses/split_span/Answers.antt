use Rattle.std.proofs.Common.{◌≡◌, ◌∙◌, ℕ, ◌+◌, ◌-◌, ◌*◌, ◌/◌, ◌%◌, ◌<◌, ◌≤◌, ◌++◌, pos, ◌+ℤ◌, length, take, drop, is_some, IsTrue, to_z, of_z, w32, sym, ap, subst, arith}
use Rattle.std.specs.Prelude.{slice_index}
use Rattle.std.specs.declared.option.Option.TheVariants.{Some}
use Rattle.std.proofs.lemmas.Int.{ints}
use Rattle.std.proofs.lemmas.List.{get_or-take, length-take}
use Rattle.amr_box.specs.declared.Cell.{Cell}
use Rattle.amr_box.specs.Cells.{Extent, IsNear, cell, holds, parent}
use Rattle.amr_def.specs.Regrid.{odd, child_share, split_mass}
use Rattle.amr_patch.specs.Levels.{level_of}
use Rattle.amr_patch.specs.Patches.{box}
use Rattle.amr_patch.proofs.Rows.{inside}
use Rattle.amr_transfer.specs.Given.{IsGiven, span}
use Rattle.amr_transfer.proofs.GivenCells.{written_at, written_count}
use Rattle.amr_transfer.proofs.Halves.{share_is}
use Rattle.amr_transfer.proofs.new_masses.split_span.Goals as goal

pub parents_from-parents-requires : goal.parents_from-parents-requires
parents_from-parents-requires c = ap (λ (d : Cell). is_some ((level_of c.args.coarse.now).masses d)) c.parent.ensures.value ∙ c.requires.parent

pub overflow_sub-reach : goal.overflow_sub-reach
overflow_sub-reach c = omega (arith, c.min.ensures, c.parents_from-parents.ensures.some, c.odd-first.ensures.bit)

pub cells_from-requires-clause-near : goal.cells_from-requires-clause-near
cells_from-requires-clause-near c = subst (λ (b : Extent). IsNear b) (sym c.bx.ensures.value) c.bx.ensures.near

pub cells_from-requires-clause-inside : goal.cells_from-requires-clause-inside
cells_from-requires-clause-inside c = subst (λ (b : Extent). IsTrue (holds b c.args.c)) (sym c.bx.ensures.value) c.requires.inside

pub slice_bounds-share_row-end : goal.slice_bounds-share_row-end
slice_bounds-share_row-end c = omega (arith, length-take ((c.odd-first.result + c.min-count.result + 1) / 2) c.parents_from-parents.result.now, c.min-count.ensures, c.min.ensures, c.parents_from-parents.ensures.some, c.odd-first.ensures.bit)

pub share_row-requires-clause-twice : goal.share_row-requires-clause-twice
share_row-requires-clause-twice c =
    let pairs = (c.odd-first.result + c.min-count.result + 1) / 2 in
    omega (arith, length-take (2 * pairs) c.args.room.now, length-take pairs c.parents_from-parents.result.now, c.requires.room, c.min-count.ensures, c.min.ensures, c.parents_from-parents.ensures.some, c.odd-first.ensures.bit)

pub give-requires-clause-room : goal.give-requires-clause-room
give-requires-clause-room c =
    let n = c.min-count.result in
    let first = c.odd-first.result in
    let pairs = (first + n + 1) / 2 in
    let room = c.args.room.now in
    let fits : first + n ≤ length c.share_row.new.shares = omega (arith, c.share_row.auto.shares, length-take (2 * pairs) room, c.requires.room, c.min-count.ensures, c.min.ensures, c.odd-first.ensures.bit, c.parents_from-parents.ensures.some) in
    let whole = written_count first n c.share_row.new.shares (drop (2 * pairs) room) fits in
    omega (arith, ints, whole, c.min-count.ensures, c.cells_from.ensures.count, ap (λ (b : Extent). b.hi.x) c.bx.ensures.value)

pub returns-clause-within : goal.returns-clause-within
returns-clause-within c = omega (arith, ints, c.min-count.ensures, c.cells_from.ensures.count, ap (λ (b : Extent). b.hi.x) c.bx.ensures.value)

pub returns-clause-given : goal.returns-clause-given
returns-clause-given c =
    let n = c.min-count.result in
    let room = c.args.room.now in
    let parents = c.parents_from-parents.result.now in
    let coarse = (level_of c.args.coarse.now).masses in
    let near = c.bx.ensures.near in
    let at = inside (box c.args.patch.now) c.args.c c.requires.inside in
    let odds = c.odd-first.result in
    let pairs = (odds + n + 1) / 2 in
    let made = c.share_row.new.shares in
    let fits : odds + n ≤ length made = omega (arith, c.share_row.auto.shares, length-take (2 * pairs) room, c.requires.room, c.min-count.ensures, c.min.ensures, c.odd-first.ensures.bit, c.parents_from-parents.ensures.some) in
    let rest = drop (2 * pairs) room in
    let whole = written_count odds n made rest fits in
    let x : to_z w32 (of_z w32 c.args.c.x) ≡ c.args.c.x = omega (arith, ints, at.west, at.east, near.west, near.east) in
    let y : to_z w32 (of_z w32 c.args.c.y) ≡ c.args.c.y = omega (arith, ints, at.south, at.north, near.south, near.north) in
    let first : c.odd-first.result ≡ odd c.args.c.x = c.odd-first.ensures.value ∙ ap odd x in
    let second : c.odd.result ≡ odd c.args.c.y = c.odd.ensures.value ∙ ap odd y in
    let reach : c.odd-first.result + n ≤ 2 * length parents = omega (arith, c.min-count.ensures, c.min.ensures, c.parents_from-parents.ensures.some, c.odd-first.ensures.bit) in
    let masses : (j : ℕ) → j < length parents → coarse (cell ((parent c.args.c).x +ℤ pos j) (parent c.args.c).y) ≡ Some (slice_index parents j) =
    λ j lt. ap (λ (d : Cell). coarse (cell (d.x +ℤ pos j) d.y)) (sym c.parent.ensures.value) ∙ c.parents_from-parents.ensures.masses j lt in
    let shares : (k : ℕ) → k < length (take (odds + n - odds) (drop odds (made ++ rest))) → slice_index (take (odds + n - odds) (drop odds (made ++ rest))) k ≡ split_mass coarse (cell (c.args.c.x +ℤ pos k) c.args.c.y) =
    λ k lt.
    written_at odds n made rest k fits (omega (arith, lt, whole))
    ∙ c.share_row.ensures (odds + k) (omega (arith, lt, whole, fits))
    ∙ ap (λ (m : ℕ). child_share m (2 * c.odd.result + (odds + k) % 2)) (get_or-take pairs parents ((odds + k) / 2) 0 (omega (arith, lt, whole)))
    ∙ (λ i. child_share (slice_index parents ((first i + k) / 2)) (2 * second i + (first i + k) % 2))
    ∙ share_is coarse c.args.c parents k masses (omega (arith, lt, whole, reach, first)) in
    subst (λ (m : ℕ). IsGiven (holds (span c.args.c m)) (split_mass coarse) c.args.patch.now c.give.new.patch) whole (c.give.ensures (split_mass coarse) shares)
