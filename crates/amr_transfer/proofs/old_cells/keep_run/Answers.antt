use Rattle.std.proofs.Common.{◌∙◌, IsTrue, sym, ap, subst, arith}
use Rattle.std.proofs.lemmas.Int.{ints}
use Rattle.amr_box.specs.Cells.{Extent, IsNear, holds}
use Rattle.amr_patch.specs.declared.patches.Patch.{Patch}
use Rattle.amr_patch.specs.Patches.{box, masses_in}
use Rattle.amr_patch.proofs.Rows.{inside}
use Rattle.amr_transfer.specs.Given.{span}
use Rattle.amr_transfer.proofs.KeptCells.{kept_none, kept_span}
use Rattle.amr_transfer.proofs.RowSpans.{span_none}
use Rattle.amr_transfer.proofs.old_cells.keep_run.Goals as goal

pub returns-in-None-clause-within : goal.returns-in-None-clause-within
returns-in-None-clause-within c = let at = inside (box c.args.patch.now) c.args.c c.requires.inside in omega (arith, ints, at.east)

pub returns-in-None-clause-kept : goal.returns-in-None-clause-kept
returns-in-None-clause-kept c = kept_none (masses_in c.args.old.now) (holds (span c.args.c 0)) c.args.patch.now (λ d h. span_none c.args.c d)

pub cells_from-requires-clause-near : goal.cells_from-requires-clause-near
cells_from-requires-clause-near c = subst (λ (b : Extent). IsNear b) (sym c.bx.ensures.value) c.bx.ensures.near

pub cells_from-requires-clause-inside : goal.cells_from-requires-clause-inside
cells_from-requires-clause-inside c = subst (λ (b : Extent). IsTrue (holds b c.args.c)) (sym c.bx.ensures.value) (ap (λ (q : Patch). holds (box q) c.args.c) c.index-old-k.is ∙ c.in-Some.ensures.found.holds_it c.index-old-k.result)

pub cells_from-requires-in-Some-clause-near : goal.cells_from-requires-in-Some-clause-near
cells_from-requires-in-Some-clause-near c = subst (λ (b : Extent). IsNear b) (sym c.bx-in-Some.ensures.value) c.bx-in-Some.ensures.near

pub cells_from-requires-in-Some-clause-inside : goal.cells_from-requires-in-Some-clause-inside
cells_from-requires-in-Some-clause-inside c = subst (λ (b : Extent). IsTrue (holds b c.args.c)) (sym c.bx-in-Some.ensures.value) c.requires.inside

pub keep_span-requires-clause-of_old : goal.keep_span-requires-clause-of_old
keep_span-requires-clause-of_old c = ap (λ (q : Patch). holds (box q) c.args.c) c.index-old-k.is ∙ c.in-Some.ensures.found.holds_it c.index-old-k.result

pub keep_span-requires-clause-old_room : goal.keep_span-requires-clause-old_room
keep_span-requires-clause-old_room c = omega (arith, ints, c.min-count.ensures, c.cells_from.ensures.count, ap (λ (b : Extent). b.hi.x) c.bx.ensures.value)

pub keep_span-requires-clause-room : goal.keep_span-requires-clause-room
keep_span-requires-clause-room c = omega (arith, ints, c.min-count.ensures, c.cells_from-in-Some.ensures.count, ap (λ (b : Extent). b.hi.x) c.bx-in-Some.ensures.value)

pub returns-in-Some-clause-within : goal.returns-in-Some-clause-within
returns-in-Some-clause-within c = omega (arith, ints, c.min-count.ensures, c.cells_from-in-Some.ensures.count, ap (λ (b : Extent). b.hi.x) c.bx-in-Some.ensures.value)

pub returns-in-Some-clause-kept : goal.returns-in-Some-clause-kept
returns-in-Some-clause-kept c =
    let q = c.index-old-k.result in
    kept_span c.args.old.now c.in-Some.k q c.args.patch.now c.keep_span.new.patch c.args.c c.min-count.result c.requires.apart c.in-Some.ensures.found.inside c.index-old-k.is
    (ap (λ (o : Patch). holds (box o) c.args.c) c.index-old-k.is ∙ c.in-Some.ensures.found.holds_it q)
    (omega (arith, ints, c.min-count.ensures, c.cells_from.ensures.count, ap (λ (b : Extent). b.hi.x) c.bx.ensures.value))
    c.keep_span.ensures
