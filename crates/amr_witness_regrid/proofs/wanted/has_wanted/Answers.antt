use Rattle.std.proofs.Common.{◌∙◌, pos, sym, refl, arith}
use Rattle.std.proofs.lemmas.List.Elements.{All-get_or}
use Rattle.amr_box.specs.Cells.{cell}
use Rattle.amr_witness.specs.Maps.{masses_of, old_of}
use Rattle.amr_witness_regrid.specs.Places.{IsUpTo}
use Rattle.amr_witness_regrid.specs.Wanted.{is_wanted_by}
use Rattle.amr_witness_regrid.proofs.Loops.{found, none_more, none_at_all}
use Rattle.amr_witness_regrid.proofs.wanted.has_wanted.Goals as goal

pub loop-c-init : goal.loop-c-init
loop-c-init c = refl

pub is_wanted-requires-clause-cell : goal.is_wanted-requires-clause-cell
is_wanted-requires-clause-cell c = All-get_or (IsUpTo 4098) c.args.cells.now c.loop-c.c-index _ c.loop-c-test.true c.requires.cells

pub returns-then-is_wanted : goal.returns-then-is_wanted
returns-then-is_wanted c =
    let g = is_wanted_by c.args.p.now c.args.here.level (masses_of c.args.here.masses.now) (old_of c.args.here.coarse) c.args.finer.now in
    found g c.args.cells.now c.args.cells.now c.loop-c.c-index (cell (pos 0) (pos 0)) refl c.loop-c-test.true (sym c.is_wanted.ensures ∙ c.if-is_wanted.true)

pub loop-c-preserved : goal.loop-c-preserved
loop-c-preserved c =
    let g = is_wanted_by c.args.p.now c.args.here.level (masses_of c.args.here.masses.now) (old_of c.args.here.coarse) c.args.finer.now in
    none_more g c.args.cells.now c.loop-c.c-index (cell (pos 0) (pos 0)) c.loop-c-test.true c.loop-c.invariant (sym c.is_wanted.ensures ∙ c.if-is_wanted.false)

pub returns : goal.returns
returns c =
    let g = is_wanted_by c.args.p.now c.args.here.level (masses_of c.args.here.masses.now) (old_of c.args.here.coarse) c.args.finer.now in
    none_at_all g c.args.cells.now c.args.cells.now c.loop-c.c-index refl (omega (arith, c.loop-c-test.false)) c.loop-c.invariant
