use Rattle.std.proofs.Common.{◌∙◌, List, [], map, sym, ap, arith}
use Rattle.amr_def.specs.NewBoxes.{new_boxes}
use Rattle.amr_def.specs.Regrid.{new_level_count, regridded_levels}
use Rattle.amr_def.specs.State as defined
use Rattle.amr_patch.specs.declared.levels.Level.{Level}
use Rattle.amr_patch.specs.Levels.{level_of}
use Rattle.amr_patch.specs.Meshes.{state_of}
use Rattle.amr_regrid.specs.Outlines.{lists_in}
use Rattle.amr_regrid.specs.Remade.{remade_levels}
use Rattle.amr_regrid.proofs.regrids.plan.Goals as goal

pub remade-requires-clause-sound : goal.remade-requires-clause-sound
remade-requires-clause-sound g c = record { state = state_of c.args.mesh.now; levels_are = sym c.levels.ensures.levels; sound = c.requires.sound }

pub remade-requires-clause-boxes : goal.remade-requires-clause-boxes
remade-requires-clause-boxes g c =
    let p = c.args.p.now in (
      c.requires.boxes.0,
      c.requires.boxes.1 ∙ ap (λ (ls : List defined.Level). new_boxes p c.requires.boxes.0 (new_level_count p (record { step = 0; rows = []; levels = ls })) 0) (sym c.levels.ensures.levels),
    )

pub returns : goal.returns
returns g c =
    let rs = c.in_ok-remade.remade.items in
    record {
      room = record { empty = c.in_ok-room.ensures.items; fits = omega (arith, c.in_ok-room.ensures.exact, c.len.ensures) };
      levels = ap (λ (ks : List Level). map level_of (remade_levels ks rs)) (sym c.levels.ensures.all) ∙ c.in_ok-remade.ensures.levels ∙ ap (λ (ls : List defined.Level). regridded_levels ls (lists_in c.args.boxes.now)) c.levels.ensures.levels;
      chopped = c.in_ok-remade.ensures.chopped;
    }
