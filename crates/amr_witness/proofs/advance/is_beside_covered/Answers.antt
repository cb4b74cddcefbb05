use Rattle.std.proofs.Common.{◌∙◌, sym, ap, subst}
use Rattle.amr_def.specs.Domain.{Domain, home_cell}
use Rattle.amr_witness.specs.Ready.{IsNearby}
use Rattle.amr_witness.proofs.Values.{home_nearby}
use Rattle.amr_witness.proofs.advance.is_beside_covered.Goals as goal

pub is_covered-low-requires : goal.is_covered-low-requires
is_covered-low-requires c =
    let is = c.home_cell.ensures ∙ ap (λ (d : Domain). home_cell d c.low_cell.result) c.domain-dom.ensures in
    subst IsNearby (sym is) (home_nearby c.args.p.now c.args.level c.low_cell.result c.requires.known c.low_cell.ensures.near)

pub is_covered-high-requires : goal.is_covered-high-requires
is_covered-high-requires c =
    let is = c.home_cell-in-Some.ensures ∙ ap (λ (d : Domain). home_cell d c.high_cell.result) c.domain-dom.ensures in
    subst IsNearby (sym is) (home_nearby c.args.p.now c.args.level c.high_cell.result c.requires.known c.high_cell.ensures.near)
