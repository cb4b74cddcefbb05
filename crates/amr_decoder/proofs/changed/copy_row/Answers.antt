use Rattle.std.proofs.Common.{◌≡◌, sym, arith}
use Rattle.std.proofs.lemmas.Int.{ints}
use Rattle.amr_box.specs.Cells.{width}
use Rattle.amr_codec.proofs.KeptRows.{none_from}
use Rattle.amr_patch.specs.Levels.{level_of}
use Rattle.amr_decoder.proofs.ChangedRows.{all_copied, more_copied, none_copied, one_missing}
use Rattle.amr_decoder.proofs.changed.copy_row.Goals as goal

pub loop-first-init : goal.loop-first-init
loop-first-init c = record { copied = none_copied (level_of c.args.level.now).masses c.args.b.now c.args.j c.args.masses.now.items; within = omega arith }

pub cell_in-requires-clause-column : goal.cell_in-requires-clause-column
cell_in-requires-clause-column c = omega (arith, ints, c.width-columns.ensures.corners, c.loop-first-test.true)

pub returns-in-None-clause-cells : goal.returns-in-None-clause-cells
returns-in-None-clause-cells c =
    sym (one_missing (level_of c.args.level.now).masses c.args.b.now c.args.j c.loop-first.first c.cell_in.result c.cell_in.ensures.place (none_from ((level_of c.args.level.now).masses c.cell_in.result) (sym c.in-None.ensures.there))
    (omega (arith, c.loop-first-test.true, c.width-columns.ensures.value)))

pub loop-first-preserved : goal.loop-first-preserved
loop-first-preserved c =
    let l = c.loop-first in
    let n = c.min-count.result in
    let span = c.in-Some.span.now in
    record {
      copied = more_copied (level_of c.args.level.now).masses c.args.b.now c.args.j l.first n c.cell_in.result c.args.masses.now.items l.masses.items c.extend_from_slice.new.self.items span c.cell_in.ensures.place (omega (arith, c.min-count.ensures))
          c.in-Some.ensures.masses l.invariant.copied c.in_ok-extend_from_slice-in-Some.ensures.items;
      within = omega (arith, c.min-count.ensures, c.loop-first-test.true, c.width-columns.ensures.value);
    }

pub returns-clause-cells : goal.returns-clause-cells
returns-clause-cells c =
    let l = c.loop-first in
    let all : l.first ≡ width c.args.b.now = omega (arith, c.loop-first-test.false, l.invariant.within, c.width-columns.ensures.value) in
    sym (all_copied (level_of c.args.level.now).masses c.args.b.now c.args.j l.first c.args.masses.now.items l.masses.items all l.invariant.copied).1

pub returns-clause-masses : goal.returns-clause-masses
returns-clause-masses c kept =
    let l = c.loop-first in
    let all : l.first ≡ width c.args.b.now = omega (arith, c.loop-first-test.false, l.invariant.within, c.width-columns.ensures.value) in
    (all_copied (level_of c.args.level.now).masses c.args.b.now c.args.j l.first c.args.masses.now.items l.masses.items all l.invariant.copied).0
