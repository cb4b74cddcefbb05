use Rattle.std.proofs.Common.{◌<◌, length, arith}
use Rattle.amr_flux.proofs.Words.{share_small}
use Rattle.amr_flux.proofs.rows.face_fluxes.Goals as goal

pub turn-requires : goal.turn-requires
turn-requires c = record {
  at = λ k h.
      let inside : k < length c.args.fluxes.now = omega (arith, h, c.sizes.auto.sizes) in
      let below : k < length c.args.high.now = omega (arith, inside, c.requires.high_count) in
      rw (c.sizes.ensures k inside) (share_small c.args.share.number c.args.share.parts _ c.args.share.slow (c.requires.high_small.at k below));
}
