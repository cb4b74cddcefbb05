use Rattle.std.proofs.Common.{◌≡◌, ◌∙◌, ℕ, ℤ, pos, ◌≤ℤ◌, ◌<ℤ◌, ap, arith}
use Rattle.std.proofs.lemmas.Int.{ints}
use Rattle.amr_box.specs.Cells.{Extent}
use Rattle.amr_def.specs.Domain.{Domain, domain_of}
use Rattle.amr_criterion.specs.Tagged.{reach_high, reach_low}
use Rattle.amr_criterion.proofs.Compared.{IsReach, is_reach}
use Rattle.amr_criterion.proofs.firsts.across.Goals as goal

abbrev AreEnds : Domain → Extent → ℤ → ℤ → Type 0
AreEnds d b first last = IsReach b.lo.x b.hi.x first last

ends : (d : Domain) (b : Extent) (first last low high : ℤ) (n : ℕ) → first ≡ reach_low d.wrap_x low → last ≡ reach_high d.wrap_x n high → low ≡ b.lo.x → high ≡ b.hi.x → n ≡ d.columns → pos 0 ≤ℤ b.lo.x → b.hi.x <ℤ pos d.columns → AreEnds d b first last
ends d b first last low high n f g lo hi size from to =
    let f' : first ≡ reach_low d.wrap_x b.lo.x = f ∙ ap (reach_low d.wrap_x) lo in
    let g' : last ≡ reach_high d.wrap_x d.columns b.hi.x = g ∙ (λ i. reach_high d.wrap_x (size i) (hi i)) in
    let r = is_reach d.wrap_x d.columns b.lo.x b.hi.x from to in
    record { below = omega (arith, ints, f', r.below); from = omega (arith, ints, f', r.from); above = omega (arith, ints, g', r.above); to = omega (arith, ints, g', r.to) }

pub distance-requires : goal.distance-requires
distance-requires c =
    let b = c.args.b.now in
    let d = domain_of c.args.dom.now in
    let r = ends d b c.reach_low-west.result c.reach_high-east.result _ _ c.columns.result c.reach_low-west.ensures c.reach_high-east.ensures (omega (arith, ints, c.lo-lo.ensures.x)) (omega (arith, ints, c.hi-hi.ensures.x)) c.columns.ensures.value c.requires.inside.west c.requires.inside.east in
    record { order = omega (arith, ints, r.below, r.above, c.requires.near.wide) }

pub returns-clause-reached : goal.returns-clause-reached
returns-clause-reached c =
    let b = c.args.b.now in
    let d = domain_of c.args.dom.now in
    let r = ends d b c.reach_low-west.result c.reach_high-east.result _ _ c.columns.result c.reach_low-west.ensures c.reach_high-east.ensures (omega (arith, ints, c.lo-lo.ensures.x)) (omega (arith, ints, c.hi-hi.ensures.x)) c.columns.ensures.value c.requires.inside.west c.requires.inside.east in
    record {
      firsts = λ k h. record {
        west = omega (arith, ints, r.from);
        south = omega (arith, ints, c.lo-lo.ensures.y);
        east = omega (arith, ints, c.distance.ensures.value, r.to);
        north = omega (arith, ints, c.lo-lo.ensures.y, c.height.ensures.corners, h);
      };
      seconds = λ k h. record {
        west = omega (arith, ints, r.from);
        south = omega (arith, ints, c.lo-lo.ensures.y);
        east = omega (arith, ints, c.distance.ensures.value, r.to);
        north = omega (arith, ints, c.lo-lo.ensures.y, c.height.ensures.corners, h);
      };
    }
