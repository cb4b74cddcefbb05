use Rattle.std.proofs.Common.{◌≡◌, ◌∙◌, Bool, List, length, ap, subst, sym}
use Rattle.std.specs.List.{All}
use Rattle.amr_box.specs.declared.Cell.{Cell}
use Rattle.amr_def.specs.Domain.{Domain, domain, domain_of}
use Rattle.amr_def.specs.State.{is_covered}
use Rattle.amr_patch.specs.Levels.{level_of}
use Rattle.amr_register.specs.Beside.{HaveSides, IsDomainCell}
use Rattle.amr_register.specs.Bands.{cells_between}
use Rattle.amr_register.specs.Covers.{covers}
use Rattle.amr_register.proofs.bands.band_of.Goals as goal

pub sides_of_all-requires : goal.sides_of_all-requires
sides_of_all-requires c = subst (λ (xs : List Cell). All IsDomainCell xs) (sym c.deref.ensures.value) c.in_ok-cells.ensures.near

pub returns : goal.returns
returns c =
    let d = domain c.args.pair.now.p.now c.args.pair.now.l in
    let test = is_covered (level_of c.args.pair.now.fine.now).masses in
    let same : covers c.args.pair.now.cover.now ≡ test = λ i q. c.args.pair.now.covered q i in
    let cells : List Cell = c.in_ok-cells.cells.items in
    let sides = c.in_ok-sides.sides.items in
    let at = c.belt_at.ensures in
    record {
      cells = c.in_ok-cells.ensures.cells ∙ (λ i. cells_between c.args.pair.now.p.now c.args.pair.now.l (level_of c.args.pair.now.coarse.now).masses (level_of c.args.pair.now.fine.now).masses (at.first i) (at.last i));
      sides = subst (λ (t : Cell → Bool). HaveSides d t cells sides) same
          (subst (λ (x : Domain). HaveSides x (covers c.args.pair.now.cover.now) cells sides) c.domain.ensures
          (subst (λ (xs : List Cell). HaveSides (domain_of c.domain.result) (covers c.args.pair.now.cover.now) xs sides) c.deref.ensures.value c.in_ok-sides.ensures.sides));
      side_count = c.in_ok-sides.ensures.count ∙ ap (λ (xs : List Cell). length xs) c.deref.ensures.value;
    }
