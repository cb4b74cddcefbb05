use Rattle.std.proofs.Common.{◌∙◌, pos, sym, ap, refl, arith}
use Rattle.amr_box.specs.Cells.{cell, moved, square}
use Rattle.amr_def.specs.Domain.{domain, home_cell}
use Rattle.amr_def.specs.Tags.{is_tagged_by}
use Rattle.amr_witness.specs.Maps.{masses_of, old_of}
use Rattle.amr_witness_regrid.proofs.Loops.{found, none_more, none_at_all}
use Rattle.amr_witness_regrid.proofs.Near.{square_small}
use Rattle.amr_witness_regrid.proofs.tagged.is_grown.Goals as goal

pub loop-o-init : goal.loop-o-init
loop-o-init c = refl

pub moved-requires-clause-offset : goal.moved-requires-clause-offset
moved-requires-clause-offset c = square_small c.args.p.now.n_error_buf 8 c.args.buffer.now c.loop-o.o-index _ c.args.p.now.limits.greatest_n_error_buf c.requires.buffer c.loop-o-test.true

pub domain-dom-requires : goal.domain-dom-requires
domain-dom-requires c = omega (arith, c.requires.known, c.args.p.now.limits.greatest_max_level)

pub returns-then-is_tagged : goal.returns-then-is_tagged
returns-then-is_tagged c =
    let d = domain c.args.p.now c.args.here.level in
    let test = is_tagged_by c.args.p.now c.args.here.level (masses_of c.args.here.masses.now) (old_of c.args.here.coarse) in
    let at = c.is_tagged.ensures ∙ ap test (c.home_cell.ensures ∙ (λ i. home_cell (c.domain-dom.ensures i) (c.moved.ensures.value i))) in
    found (λ o. test (home_cell d (moved c.args.c o))) c.args.buffer.now (square c.args.p.now.n_error_buf) c.loop-o.o-index (cell (pos 0) (pos 0)) c.requires.buffer c.loop-o-test.true (sym at ∙ c.if-is_tagged.true)

pub loop-o-preserved : goal.loop-o-preserved
loop-o-preserved c =
    let d = domain c.args.p.now c.args.here.level in
    let test = is_tagged_by c.args.p.now c.args.here.level (masses_of c.args.here.masses.now) (old_of c.args.here.coarse) in
    let at = c.is_tagged.ensures ∙ ap test (c.home_cell.ensures ∙ (λ i. home_cell (c.domain-dom.ensures i) (c.moved.ensures.value i))) in
    none_more (λ o. test (home_cell d (moved c.args.c o))) c.args.buffer.now c.loop-o.o-index (cell (pos 0) (pos 0)) c.loop-o-test.true c.loop-o.invariant (sym at ∙ c.if-is_tagged.false)

pub returns : goal.returns
returns c =
    let d = domain c.args.p.now c.args.here.level in
    let test = is_tagged_by c.args.p.now c.args.here.level (masses_of c.args.here.masses.now) (old_of c.args.here.coarse) in
    none_at_all (λ o. test (home_cell d (moved c.args.c o))) c.args.buffer.now (square c.args.p.now.n_error_buf) c.loop-o.o-index c.requires.buffer (omega (arith, c.loop-o-test.false)) c.loop-o.invariant
