use Rattle.std.proofs.Common.{◌≡◌, ◌∙◌, ◌+◌, ◌||◌, ℕ, List, cond, subst, sym, ap, take}
use Rattle.std.specs.declared.option.Option.{Option}
use Rattle.std.specs.declared.option.Option.TheVariants.{None, Some}
use Rattle.std.specs.List.{All}
use Rattle.std.proofs.lemmas.List.{take_all}
use Rattle.std.proofs.lemmas.List.Folds.{list_any_more}
use Rattle.amr_box.specs.declared.Cell.{Cell}
use Rattle.amr_box.specs.Cells.{Extent, holds, IsNear, in_boxes}
use Rattle.amr_def.specs.State.{mass_of}
use Rattle.amr_patch.specs.Levels.{level_of}
use Rattle.amr_witness_regrid.proofs.Filled.{box_more, given_there}
use Rattle.amr_witness_regrid.proofs.mesh.masses_of.Goals as goal

pub copy_box-requires : goal.copy_box-requires
copy_box-requires c =
    let near : All IsNear c.boxes-b-items.result.now = subst (All IsNear) (sym c.boxes-b-items.ensures) c.requires.near in
    subst IsNear (sym c.b-item.is) (near c.loop-b.b-index c.b-item.result c.loop-b-test.true)

pub loop-b-preserved : goal.loop-b-preserved
loop-b-preserved c =
    let bs = c.boxes-b-items.result.now in
    let i = c.loop-b.b-index in
    let b = c.b-item.result in
    let f : Cell → ℕ = λ q. mass_of (level_of c.args.level.now).masses q in
    λ q.
    let more : in_boxes (take (i + 1) bs) q ≡ (in_boxes (take i bs) q || holds b q) = list_any_more (λ (e : Extent). holds e q) bs i b c.loop-b-test.true ∙ ap (λ (e : Extent). in_boxes (take i bs) q || holds e q) (sym c.b-item.is) in
    c.in_ok-copy_box.ensures q ∙ ap (λ (o : Option ℕ). cond (holds b q) (Some (f q)) o) (c.loop-b.invariant q) ∙ box_more (in_boxes (take i bs) q) (holds b q) (in_boxes (take (i + 1) bs) q) (Some (f q)) None more

pub returns : goal.returns
returns c =
    let k = level_of c.args.level.now in
    let all = take_all c.loop-b.b-index c.boxes-b-items.result.now c.loop-b-test.false ∙ c.boxes-b-items.ensures in
    record { at = λ q. c.loop-b.invariant q ∙ ap (λ (bs : List Extent). cond (in_boxes bs q) (Some (mass_of k.masses q)) None) all ∙ given_there (k.masses q) (in_boxes k.boxes q) (c.requires.at q) }
