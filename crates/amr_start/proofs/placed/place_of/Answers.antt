use Rattle.std.proofs.Common.{◌≡◌, ◌+◌, ◌*◌, ◌∙◌, to_z, of_z, w32, ap, arith}
use Rattle.std.specs.Prelude.{unsigned_abs}
use Rattle.std.proofs.lemmas.Int.{ints}
use Rattle.amr_start.proofs.placed.place_of.Goals as goal

pub returns : goal.returns
returns c =
    let x : to_z w32 (of_z w32 c.args.c.x) ≡ c.args.c.x = omega (arith, ints) in
    let y : to_z w32 (of_z w32 c.args.c.y) ≡ c.args.c.y = omega (arith, ints) in
    let vx : c.unsigned_abs-2.result ≡ unsigned_abs c.args.c.x = c.unsigned_abs-2.ensures.value ∙ ap unsigned_abs x in
    let vy : c.unsigned_abs.result ≡ unsigned_abs c.args.c.y = c.unsigned_abs.ensures.value ∙ ap unsigned_abs y in
    λ i. vy i * c.args.columns + vx i
