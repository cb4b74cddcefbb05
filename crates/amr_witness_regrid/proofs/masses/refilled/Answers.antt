use Rattle.std.proofs.Common.{◌≡◌, ◌∙◌, ◌+◌, ◌||◌, ℕ, List, subst, cond, sym, ap, take}
use Rattle.std.specs.declared.option.Option.{Option}
use Rattle.std.specs.declared.option.Option.TheVariants.{None, Some}
use Rattle.std.specs.Option.{unwrap_or}
use Rattle.std.proofs.lemmas.List.{take_all}
use Rattle.std.proofs.lemmas.List.Folds.{list_any_more}
use Rattle.amr_box.specs.declared.Cell.{Cell}
use Rattle.amr_box.specs.Cells.{Extent, holds, IsNear, in_boxes}
use Rattle.amr_def.specs.Regrid.{refilled, split_mass}
use Rattle.amr_witness.specs.Maps.{masses_of, old_of}
use Rattle.amr_witness_regrid.proofs.Filled.{box_more}
use Rattle.amr_witness_regrid.proofs.masses.refilled.Goals as goal

pub fill-requires : goal.fill-requires
fill-requires c = subst IsNear (sym c.b-item.is) (c.requires c.loop-b.b-index c.b-item.result c.loop-b-test.true)

pub loop-b-preserved : goal.loop-b-preserved
loop-b-preserved c =
    let bs = c.args.boxes.now in
    let i = c.loop-b.b-index in
    let b = c.b-item.result in
    let f : Cell → ℕ = λ q. unwrap_or (old_of c.args.old q) (split_mass (masses_of c.args.coarse.now) q) in
    λ q.
    let more : in_boxes (take (i + 1) bs) q ≡ (in_boxes (take i bs) q || holds b q) = list_any_more (λ (e : Extent). holds e q) bs i b c.loop-b-test.true ∙ ap (λ (e : Extent). in_boxes (take i bs) q || holds e q) (sym c.b-item.is) in
    c.in_ok-fill.ensures q ∙ ap (λ (o : Option ℕ). cond (holds b q) (Some (f q)) o) (c.loop-b.invariant q) ∙ box_more (in_boxes (take i bs) q) (holds b q) (in_boxes (take (i + 1) bs) q) (Some (f q)) None more

pub returns : goal.returns
returns c = record { at = λ q. c.loop-b.invariant q ∙ ap (λ (bs : List Extent). refilled (masses_of c.args.coarse.now) (old_of c.args.old) bs q) (take_all c.loop-b.b-index c.args.boxes.now c.loop-b-test.false) }
