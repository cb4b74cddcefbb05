use Rattle.std.proofs.Common.{◌≡◌, ◌∙◌, [], ℕ, true, List, map, drop, sym, ap, subst, arith}
use Rattle.std.specs.List.{All}
use Rattle.amr_codec.specs.Forms.{form_of}
use Rattle.amr_def.specs.State.{Level}
use Rattle.amr_payload.specs.Tests as tests
use Rattle.amr_payload.specs.Tests.{Reading, is_box_count, read, read_grids, read_level, tested, then_read}
use Rattle.amr_payload.proofs.Readings.{AreBytes}
use Rattle.amr_decoder.specs.declared.grid.Grid.{Grid}
use Rattle.amr_decoder.specs.Grids.{IsWhole, grid_of}
use Rattle.amr_decoder.specs.Lefts.{left_of, whole_of}
use Rattle.amr_decoder.proofs.LevelReadings.{bytes_after, level_read}
use Rattle.amr_decoder.proofs.levels.read_level.Goals as goal

pub level_of_grids-requires-clause-read : goal.level_of_grids-requires-clause-read
unfolding left_of whole_of
level_of_grids-requires-clause-read c =
    let f = form_of c.args.form.now in
    let p = c.args.p.now in
    let r = c.read_u32.new.self in
    let count : is_box_count p c.args.kind.level c.in_ok-count.count ≡ true = sym c.is_box_count.ensures ∙ c.if-not-is_box_count.false in
    let small : AreBytes (left_of r).bytes = subst (λ (bs : List ℕ). AreBytes (drop r.place bs)) c.bytes-bytes.ensures (bytes_after r.place c.bytes-bytes.result.now (λ k. let f = c.type_inv.bytes k in omega (arith, f))) in
    let here = c.in_ok-grids.ensures.read ∙ (λ i. read (map (grid_of (sym c.bytes-bytes.ensures i)) (sym c.deref.ensures.value i)) (left_of c.read_grids.new.reader)) in
    level_read f p c.args.kind.step c.args.kind.level c.in_ok-count.count (left_of r) (left_of c.read_grids.new.reader) (map (grid_of c.bytes-bytes.result.now) c.deref.result.now) c.requires.form small count here

pub level_of_grids-requires-clause-masses : goal.level_of_grids-requires-clause-masses
level_of_grids-requires-clause-masses c =
    subst (λ (bs : List ℕ). All (IsWhole bs) c.deref.result.now) (sym c.bytes-bytes.ensures) (subst (λ (gs : List Grid). All (IsWhole (whole_of c.read_u32.new.self)) gs) (sym c.deref.ensures.value) c.in_ok-grids.ensures.masses)

pub returns-clause-read : goal.returns-clause-read
unfolding read_level
returns-clause-read c =
    let f = form_of c.args.form.now in
    let p = c.args.p.now in
    let n = c.args.kind.step in
    let l = c.args.kind.level in
    let r = left_of c.args.reader.now in
    let e = left_of c.read_grids.new.reader in
    let count : is_box_count p l c.in_ok-count.count ≡ true = sym c.is_box_count.ensures ∙ c.if-not-is_box_count.false in
    ap (λ (q : Reading ℕ). then_read q (λ k a. then_read (tested (is_box_count p l k) r.place k a) (λ k a. then_read (read_grids f p n l k [] a) (λ gs b. read (tests.level_of gs) b)))) c.in_ok-count.ensures.read
    ∙ ap (λ t. then_read (tested t r.place c.in_ok-count.count (left_of c.read_u32.new.self)) (λ k a. then_read (read_grids f p n l k [] a) (λ gs b. read (tests.level_of gs) b))) count
    ∙ ap (λ (q : Reading (List tests.Grid)). then_read q (λ gs b. read (tests.level_of gs) b)) c.in_ok-grids.ensures.read
    ∙ (λ i. read (tests.level_of (map (grid_of (sym c.bytes-bytes.ensures i)) (sym c.deref.ensures.value i))) e)
    ∙ ap (λ (k : Level). read k e) (sym c.in_ok-level.ensures.value)
