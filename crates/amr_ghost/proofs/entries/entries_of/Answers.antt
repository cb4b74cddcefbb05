use Rattle.std.proofs.Common.{◌≡◌, ℕ, ◌+◌, ◌*◌, sym, ap, ◌∙◌, arith}
use Rattle.std.proofs.lemmas.Int.{ints}
use Rattle.amr_box.specs.declared.Axis.{Axis}
use Rattle.amr_patch.specs.Places.{grown, place}
use Rattle.amr_patch.proofs.Rows.{inside, place_is}
use Rattle.amr_ghost.specs.Strips.{step}
use Rattle.amr_ghost.proofs.StripPlaces.{along_x, along_y}
use Rattle.amr_ghost.proofs.entries.entries_of.Goals as goal

pub distance-row-requires : goal.distance-row-requires
distance-row-requires c =
    let i = inside (grown c.args.b.now) c.args.c c.requires.inside in
    omega (arith, ints, i.south, c.lo-lo.ensures.y)

pub distance-column-requires : goal.distance-column-requires
distance-column-requires c =
    let i = inside (grown c.args.b.now) c.args.c c.requires.inside in
    omega (arith, ints, i.west, c.lo-lo.ensures.x)

pub returns-in-X-clause-places : goal.returns-in-X-clause-places
returns-in-X-clause-places c k =
    let b = c.args.b.now in
    let first : c.distance-row.result * (c.width.result + 2) + c.distance-column.result ≡ place b c.args.c = place_is b c.args.c c.distance-row.result c.distance-column.result c.width.result (omega (arith, ints, c.distance-row.ensures.value, c.lo-lo.ensures.y)) (omega (arith, ints, c.distance-column.ensures.value, c.lo-lo.ensures.x)) c.width.ensures.value in
    along_x b c.args.c (c.distance-row.result * (c.width.result + 2) + c.distance-column.result) k c.requires.inside first
    ∙ ap (λ (axis : Axis). place b (step axis c.args.c k)) (sym c.in-X.is)

pub returns-in-Y-clause-places : goal.returns-in-Y-clause-places
returns-in-Y-clause-places c k =
    let b = c.args.b.now in
    let first : c.distance-row.result * (c.width.result + 2) + c.distance-column.result ≡ place b c.args.c = place_is b c.args.c c.distance-row.result c.distance-column.result c.width.result (omega (arith, ints, c.distance-row.ensures.value, c.lo-lo.ensures.y)) (omega (arith, ints, c.distance-column.ensures.value, c.lo-lo.ensures.x)) c.width.ensures.value in
    along_y b c.args.c (c.distance-row.result * (c.width.result + 2) + c.distance-column.result) (c.width.result + 2) k c.requires.inside first (ap (λ (w : ℕ). w + 2) c.width.ensures.value)
    ∙ ap (λ (axis : Axis). place b (step axis c.args.c k)) (sym c.in-Y.is)
