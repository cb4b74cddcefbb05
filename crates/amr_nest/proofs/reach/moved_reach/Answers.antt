use Rattle.std.proofs.Common.{◌≡◌, ◌∙◌, ap, arith, ℕ}
use Rattle.std.proofs.lemmas.Int.{ints}
use Rattle.amr_def.specs.Domain.{domain_of}
use Rattle.amr_nest.specs.Reach.{shift}
use Rattle.amr_nest.proofs.Reaches.{corners_are}
use Rattle.amr_nest.proofs.reach.moved_reach.Goals as goal

pub unwrap-requires : goal.unwrap-requires
unwrap-requires c = c.try_new.ensures.proper.1 (omega (arith, ints, c.lo-low.ensures.proper.wide, c.lo-low.ensures.x, c.hi-high.ensures.x), omega (arith, ints, c.lo-low.ensures.proper.high, c.lo-low.ensures.y, c.hi-high.ensures.y))

pub returns : goal.returns
returns c =
    let is = rw c.unwrap.ensures at c.try_new.ensures.some in
    let x : c.shift-x.result ≡ shift (domain_of c.args.dom.now).columns c.args.i = c.shift-x.ensures.value ∙ ap (λ (n : ℕ). shift n c.args.i) c.columns.ensures.value in
    let y : c.shift-y.result ≡ shift (domain_of c.args.dom.now).rows c.args.j = c.shift-y.ensures.value ∙ ap (λ (n : ℕ). shift n c.args.j) c.rows.ensures.value in
    corners_are c.unwrap.result _ _ _ _
    (record {
      west_is = ap (λ b. b.lo.x) is ∙ omega (arith, ints, x, c.lo-low.ensures.x);
      south_is = ap (λ b. b.lo.y) is ∙ omega (arith, ints, y, c.lo-low.ensures.y);
      east_is = ap (λ b. b.hi.x) is ∙ omega (arith, ints, x, c.hi-high.ensures.x);
      north_is = ap (λ b. b.hi.y) is ∙ omega (arith, ints, y, c.hi-high.ensures.y);
    })
