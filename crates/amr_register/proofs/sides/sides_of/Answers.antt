use Rattle.std.proofs.Common.{ap, ◌∙◌}
use Rattle.amr_box.specs.declared.Cell.{Cell}
use Rattle.amr_def.specs.Domain.{domain_of, home_cell}
use Rattle.amr_register.specs.Covers.{covers}
use Rattle.amr_register.proofs.Homes.{beside_domain}
use Rattle.amr_register.proofs.sides.sides_of.Goals as goal

pub west_of-requires : goal.west_of-requires
west_of-requires c = beside_domain c.args.c c.requires.near

pub returns-clause-sides : goal.returns-clause-sides
returns-clause-sides c =
    let test = covers c.args.cover.now in
    let d = domain_of c.args.dom.now in
    record {
      west = c.is_home_covered.ensures.value ∙ ap (λ (q : Cell). test (home_cell d q)) c.west_of.ensures;
      east = c.is_home_covered-2.ensures.value ∙ ap (λ (q : Cell). test (home_cell d q)) c.east_of.ensures;
      south = c.is_home_covered-3.ensures.value ∙ ap (λ (q : Cell). test (home_cell d q)) c.south_of.ensures;
      north = c.is_home_covered-4.ensures.value ∙ ap (λ (q : Cell). test (home_cell d q)) c.north_of.ensures;
    }
