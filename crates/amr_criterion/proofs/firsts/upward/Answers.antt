use Rattle.std.proofs.Common.{◌≡◌, ◌∙◌, ℕ, ℤ, pos, ◌≤ℤ◌, ◌<ℤ◌, ap, arith}
use Rattle.std.proofs.lemmas.Int.{ints}
use Rattle.amr_box.specs.Cells.{Extent}
use Rattle.amr_def.specs.Domain.{Domain, domain_of}
use Rattle.amr_criterion.specs.Tagged.{reach_high, reach_low}
use Rattle.amr_criterion.proofs.Compared.{IsReach, is_reach}
use Rattle.amr_criterion.proofs.firsts.upward.Goals as goal

abbrev AreEnds : Domain → Extent → ℤ → ℤ → Type 0
AreEnds d b first last = IsReach b.lo.y b.hi.y first last

ends : (d : Domain) (b : Extent) (first last low high : ℤ) (n : ℕ) → first ≡ reach_low d.wrap_y low → last ≡ reach_high d.wrap_y n high → low ≡ b.lo.y → high ≡ b.hi.y → n ≡ d.rows → pos 0 ≤ℤ b.lo.y → b.hi.y <ℤ pos d.rows → AreEnds d b first last
ends d b first last low high n f g lo hi size from to =
    let f' : first ≡ reach_low d.wrap_y b.lo.y = f ∙ ap (reach_low d.wrap_y) lo in
    let g' : last ≡ reach_high d.wrap_y d.rows b.hi.y = g ∙ (λ i. reach_high d.wrap_y (size i) (hi i)) in
    let r = is_reach d.wrap_y d.rows b.lo.y b.hi.y from to in
    record { below = omega (arith, ints, f', r.below); from = omega (arith, ints, f', r.from); above = omega (arith, ints, g', r.above); to = omega (arith, ints, g', r.to) }

pub distance-requires : goal.distance-requires
distance-requires c =
    let b = c.args.b.now in
    let d = domain_of c.args.dom.now in
    let r = ends d b c.reach_low-south.result c.reach_high-north.result _ _ c.rows.result c.reach_low-south.ensures c.reach_high-north.ensures (omega (arith, ints, c.lo-lo.ensures.y)) (omega (arith, ints, c.hi-hi.ensures.y)) c.rows.ensures.value c.requires.inside.south c.requires.inside.north in
    record { order = omega (arith, ints, r.below, r.above, c.requires.near.high) }

pub returns-clause-few : goal.returns-clause-few
returns-clause-few c =
    let b = c.args.b.now in
    let d = domain_of c.args.dom.now in
    let r = ends d b c.reach_low-south.result c.reach_high-north.result _ _ c.rows.result c.reach_low-south.ensures c.reach_high-north.ensures (omega (arith, ints, c.lo-lo.ensures.y)) (omega (arith, ints, c.hi-hi.ensures.y)) c.rows.ensures.value c.requires.inside.south c.requires.inside.north in
    omega (arith, ints, c.distance.ensures.value, r.from, r.to, c.requires.near.south, c.requires.near.north)

pub returns-clause-reached : goal.returns-clause-reached
returns-clause-reached c =
    let b = c.args.b.now in
    let d = domain_of c.args.dom.now in
    let r = ends d b c.reach_low-south.result c.reach_high-north.result _ _ c.rows.result c.reach_low-south.ensures c.reach_high-north.ensures (omega (arith, ints, c.lo-lo.ensures.y)) (omega (arith, ints, c.hi-hi.ensures.y)) c.rows.ensures.value c.requires.inside.south c.requires.inside.north in
    record {
      firsts = λ k h. record {
        west = omega (arith, ints, c.lo-lo.ensures.x);
        south = omega (arith, ints, r.from);
        east = omega (arith, ints, c.lo-lo.ensures.x, c.width.ensures.corners);
        north = omega (arith, ints, c.distance.ensures.value, r.to, h);
      };
      seconds = λ k h. record {
        west = omega (arith, ints, c.lo-lo.ensures.x);
        south = omega (arith, ints, r.from);
        east = omega (arith, ints, c.lo-lo.ensures.x, c.width.ensures.corners);
        north = omega (arith, ints, c.distance.ensures.value, r.to, h);
      };
    }
