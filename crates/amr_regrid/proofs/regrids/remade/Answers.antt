use Rattle.std.proofs.Common.{◌∙◌, ◌≤◌, List, ◌∷◌, length, map, sym, ap, arith}
use Rattle.std.specs.Prelude.{min}
use Rattle.amr_def.specs.State as defined
use Rattle.amr_def.specs.Regrid.{new_level_count, regridded_levels}
use Rattle.amr_patch.specs.declared.levels.Level.{Level}
use Rattle.amr_patch.specs.Levels.{level_of}
use Rattle.amr_regrid.specs.declared.masses.Remade.{Remade}
use Rattle.amr_regrid.specs.declared.masses.Remade.TheVariants.{Kept}
use Rattle.amr_regrid.specs.Outlines.{lists_in, with_levels}
use Rattle.amr_regrid.specs.Remade.{IsChoppedIfMade, remade_levels}
use Rattle.amr_regrid.proofs.Bases.{base_level, base_whole, olds_filled}
use Rattle.amr_regrid.proofs.Remaking.{all_more, remade_kept}
use Rattle.amr_regrid.proofs.Standing.{base_stands}
use Rattle.amr_regrid.proofs.regrids.remade.Goals as goal

pub refill-requires-clause-stands : goal.refill-requires-clause-stands
refill-requires-clause-stands g c =
    let p = c.args.p.now in
    let ks = c.args.levels.now in
    let base = c.in-Some.base.now in
    let olds = c.in-Some.olds.now in
    let parts = c.in-Some.ensures.cases.0 in
    let few : min (length (map level_of ks)) p.max_level ≤ 4 = omega (arith, p.limits.greatest_max_level) in
    (0, base_stands p c.requires.boxes.0 (new_level_count p (with_levels ks)) (level_of base) (lists_in c.args.boxes.now) few c.requires.boxes.1 (base_level p ks c.requires.sound base olds parts) (base_whole p ks c.requires.sound base olds parts))

pub refill-requires-clause-filled : goal.refill-requires-clause-filled
refill-requires-clause-filled g c = olds_filled c.args.p.now c.args.levels.now c.requires.sound c.in-Some.base.now c.in-Some.olds.now c.in-Some.ensures.cases.0

pub returns-clause-levels : goal.returns-clause-levels
returns-clause-levels g c =
    let ks = c.args.levels.now in
    let base = c.in-Some.base.now in
    let olds = c.in-Some.olds.now in
    let parts = c.in-Some.ensures.cases.0 in
    let r = c.in_ok-all-in-Some.all.items in
    ap (λ (rs : List Remade). map level_of (remade_levels ks rs)) c.in_ok-insert-in-Some.ensures.items
    ∙ ap (λ (js : List Level). map level_of (remade_levels js (Kept ∷ r))) parts
    ∙ remade_kept base olds r
    ∙ ap (λ (ls : List defined.Level). level_of base ∷ ls) c.in_ok-all-in-Some.ensures.levels
    ∙ ap (λ (js : List Level). regridded_levels (map level_of js) (lists_in c.args.boxes.now)) (sym parts)

pub returns-clause-chopped : goal.returns-clause-chopped
returns-clause-chopped g c = all_more (IsChoppedIfMade c.args.p.now.max_grid_size) Kept c.in_ok-all-in-Some.all.items c.insert.new.self.items c.in_ok-insert-in-Some.ensures.items tt c.in_ok-all-in-Some.ensures.chopped
