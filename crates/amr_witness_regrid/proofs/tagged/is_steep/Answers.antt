use Rattle.std.proofs.Common.{◌≡◌, ◌∙◌, ◌+◌, ◌-◌, ◌&&◌, List, ℕ, length, ap, arith, slice_index_or}
use Rattle.std.specs.Prelude.{nat_le}
use Rattle.std.specs.Int.{abs_diff}
use Rattle.amr_box.specs.Cells.{moved}
use Rattle.amr_def.specs.Domain.{domain, home_cell, in_domain}
use Rattle.amr_def.specs.Value.{value_at}
use Rattle.amr_witness.specs.Maps.{masses_of, old_of}
use Rattle.amr_witness_regrid.proofs.Near.{inside_up, up_more}
use Rattle.amr_witness_regrid.proofs.tagged.is_steep.Goals as goal

pub moved-d-requires-clause-near : goal.moved-d-requires-clause-near
moved-d-requires-clause-near c = inside_up c.args.p.now c.args.here.level c.args.c (omega (arith, c.requires.known, c.args.p.now.limits.greatest_max_level)) c.requires.inside 10000 (omega arith)

pub moved-d-requires-clause-offset : goal.moved-d-requires-clause-offset
moved-d-requires-clause-offset c = up_more 1 8 c.args.o (omega arith) c.requires.beside

pub value_at-own-requires : goal.value_at-own-requires
value_at-own-requires c = omega (arith, c.requires.known, c.args.p.now.limits.greatest_max_level)

pub value_at-there-requires : goal.value_at-there-requires
value_at-there-requires c = omega (arith, c.requires.known, c.args.p.now.limits.greatest_max_level)

pub domain-dom-requires : goal.domain-dom-requires
domain-dom-requires c = omega (arith, c.requires.known, c.args.p.now.limits.greatest_max_level)

pub bounds-entries-here : goal.bounds-entries-here
bounds-entries-here c = omega (arith, c.requires.known, c.args.p.now.limits.tag_count, ap (λ (xs : List ℕ). length xs) c.entries.ensures)

difference : (a b x y : ℕ) → a ≡ x → b ≡ y → abs_diff a b ≡ (x - y) + (y - x)
difference a b x y e f = λ i. abs_diff (e i) (f i)

pub returns : goal.returns
returns c =
    let d = domain c.args.p.now c.args.here.level in
    let v = value_at c.args.p.now c.args.here.level (masses_of c.args.here.masses.now) (old_of c.args.here.coarse) in
    let at = c.home_cell.ensures ∙ (λ i. home_cell (c.domain-dom.ensures i) (c.moved-d.ensures.value i)) in
    let there : c.in_domain-is_there.result ≡ in_domain d (home_cell d (moved c.args.c c.args.o)) = c.in_domain-is_there.ensures ∙ (λ i. in_domain (c.domain-dom.ensures i) (at i)) in
    let far : c.value_at-there.result ≡ v (moved c.args.c c.args.o) = c.value_at-there.ensures ∙ ap v c.moved-d.ensures.value in
    let least : slice_index_or c.entries.result.now c.args.here.level 0 ≡ slice_index_or c.args.p.now.tag c.args.here.level 0 = ap (λ (ts : List ℕ). slice_index_or ts c.args.here.level 0) c.entries.ensures in
    let apart : c.abs_diff.result ≡ (v c.args.c - v (moved c.args.c c.args.o)) + (v (moved c.args.c c.args.o) - v c.args.c) = c.abs_diff.ensures ∙ difference _ _ _ _ c.value_at-own.ensures far in
    λ i. there i && nat_le (least i) (apart i)
