use Rattle.std.proofs.Common.{◌≡◌, of_z, rules, to_z, w32, SFits}
use Rattle.std.proofs.lemmas.Int.{to_z-of_z}
use Rattle.amr_drive.proofs.SpeciesParts.{Parts, limits_with, parts_of, same_parts, species_with}
use Rattle.amr_drive.proofs.species.of_species.Goals as goal
use Rattle.amr_drive.proofs.species.of_species.Goals.{After-sides_of-y_sides}

-- what is made anew is that of the species
abbrev made : (c : After-sides_of-y_sides) → Parts
made c =
    let p = c.args.p.now in
    record {
      name = c.in_ok-name.name;
      cx = to_z w32 (of_z w32 p.cx);
      cy = to_z w32 (of_z w32 p.cy);
      shear_x = c.in_ok-shear_x.shear_x;
      shear_y = c.in_ok-shear_y.shear_y;
      x_sides = c.sides_of-x_sides.result;
      y_sides = c.sides_of-y_sides.result;
      tag = c.in_ok-tag.tag;
      blocks = c.in_ok-blocks.blocks;
    }

same : (c : After-sides_of-y_sides) → made c ≡ parts_of c.args.p.now c.args.k
same c =
    let p = c.args.p.now in
    let fits_x : SFits w32 p.cx = search rules in
    let fits_y : SFits w32 p.cy = search rules in
    same_parts p c.args.k (made c) c.in_ok-name.ensures (to_z-of_z w32 p.cx fits_x) (to_z-of_z w32 p.cy fits_y) c.in_ok-shear_x.ensures c.in_ok-shear_y.ensures c.sides_of-x_sides.ensures
    c.sides_of-y_sides.ensures c.in_ok-tag.ensures c.in_ok-blocks.ensures

pub invariant_of-result : goal.invariant_of-result
invariant_of-result c =
    let d = (goal.at.invariant_of-result c).After-sides_of-y_sides in
    record { limits = limits_with c.args.p.now c.args.k (made d) (same d) }

pub returns : goal.returns
returns c =
    let d = (goal.at.returns c).After-sides_of-y_sides in
    species_with c.args.p.now c.args.k (made d) (same d) _
