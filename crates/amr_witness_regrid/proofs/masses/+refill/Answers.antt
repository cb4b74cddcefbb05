use Rattle.std.proofs.Common.{◌≡◌, ◌∙◌, ◌<◌, List, length, sym, ap, subst, arith}
use Rattle.std.specs.List.{All}
use Rattle.amr_box.specs.Cells.{Extent, IsNear}
use Rattle.amr_def.specs.State.{Level}
use Rattle.amr_def.specs.Regrid.{first_masses, refill, refilled}
use Rattle.amr_witness.specs.declared.PlainLevel.{PlainLevel}
use Rattle.amr_witness.specs.Maps.{levels_of, masses_of}
use Rattle.amr_regrid.specs.Outlines.{lists_in}
use Rattle.amr_witness_regrid.proofs.Regridded.{head_near, items_empty, items_some, level_on, nil_of, refill_empty, refill_none, tail_near}
use Rattle.amr_witness_regrid.proofs.masses.+refill.Goals as goal

pub returns-in_default : goal.returns-in_default
returns-in_default t c =
    ap levels_of c.new.ensures.items ∙ refill_none (masses_of c.args.coarse.now) (levels_of c.args.olds.now) (lists_in c.args.boxes.now) (ap lists_in (nil_of c.args.boxes.now c.in_default.ensures.cases))

pub returns-then-is_empty : goal.returns-then-is_empty
returns-then-is_empty t c =
    let none = sym c.as_slice-here.ensures.value ∙ items_empty c.as_slice-here.result.now (sym c.if-is_empty.true ∙ c.is_empty.ensures) in
    ap levels_of c.new-then-is_empty.ensures.items
    ∙ refill_empty (masses_of c.args.coarse.now) (levels_of c.args.olds.now) (lists_in c.args.boxes.now) (lists_in c.in-Some.more.now) c.in-Some.here.now.items (ap lists_in c.in-Some.ensures.cases.0) none

pub refilled-requires : goal.refilled-requires
refilled-requires t c = subst (All IsNear) (sym c.as_slice-here.ensures.value) (head_near c.args.boxes.now c.in-Some.more.now c.in-Some.here.now c.in-Some.ensures.cases.0 c.requires)

pub refill-requires : goal.refill-requires
refill-requires t c = (omega (arith, c.decreases, c.in-Some.ensures.cases.1), tail_near c.args.boxes.now c.in-Some.more.now c.in-Some.here.now c.in-Some.ensures.cases.0 c.requires)

pub returns : goal.returns
returns t c =
    let new : PlainLevel = record { boxes = c.in_ok-copies.copies; masses = c.in_ok-masses.masses } in
    let olds = levels_of c.args.olds.now in
    let m = masses_of c.args.coarse.now in
    let here = c.in-Some.here.now.items in
    let slice = c.as_slice-here.ensures.value in
    let filled : masses_of c.in_ok-masses.masses ≡ refilled m (first_masses olds) here = (λ i q. c.in_ok-masses.ensures.at q i) ∙ (λ i. refilled m (c.first_masses.ensures i) (slice i)) in
    let same = c.in_ok-copies.ensures.items ∙ slice in
    let some = subst (λ (xs : List Extent). 0 < length xs) slice (items_some c.as_slice-here.result.now (sym c.if-is_empty.false ∙ c.is_empty.ensures)) in
    let above = c.in_ok-all.ensures ∙ ap (λ (ks : List Level). refill (masses_of c.in_ok-masses.masses) ks (lists_in c.in-Some.more.now)) c.rest_of.ensures in
    ap levels_of c.in_ok-insert.ensures.items
    ∙ level_on m (masses_of c.in_ok-masses.masses) olds (lists_in c.args.boxes.now) (lists_in c.in-Some.more.now) here _ _ (ap lists_in c.in-Some.ensures.cases.0) some filled same above
