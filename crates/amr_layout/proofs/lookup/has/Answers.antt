use Rattle.std.proofs.Common.{◌≡◌, ◌∙◌, sym, ap, to_z, of_z, w32, arith}
use Rattle.std.specs.Prelude.{is_some}
use Rattle.std.proofs.lemmas.Int.{ints}
use Rattle.amr_box.specs.Cells.{cell}
use Rattle.amr_def.specs.State.{Masses}
use Rattle.amr_patch.proofs.Lookups.{some_mass}
use Rattle.amr_patch.specs.Levels.{level_of}
use Rattle.amr_layout.proofs.lookup.has.Goals as goal

pub returns : goal.returns
returns c =
    let m = (level_of c.args.level.now).masses in
    let ps = c.patches.result.now in
    let k = cell (to_z w32 (of_z w32 c.args.x)) (to_z w32 (of_z w32 c.args.y)) in
    let ex : to_z w32 (of_z w32 c.args.x) ≡ c.args.x = omega (arith, ints) in
    let ey : to_z w32 (of_z w32 c.args.y) ≡ c.args.y = omega (arith, ints) in
    c.is_some.ensures ∙ c.find_near.ensures.some ∙ sym (some_mass ps k) ∙ ap (λ (f : Masses). is_some (f k)) (sym c.patches.ensures.masses) ∙ (λ i. is_some (m (cell (ex i) (ey i))))
