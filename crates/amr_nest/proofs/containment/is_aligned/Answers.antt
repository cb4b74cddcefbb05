use Rattle.std.proofs.Common.{◌≡◌, ◌∙◌, ◌&&◌, ℕ, ℤ, pos, ◌+ℤ◌, sym, ap, arith, to_z, of_z, w32}
use Rattle.std.specs.Int.{int_rem_euclid}
use Rattle.std.proofs.lemmas.Bool.{and_parts}
use Rattle.std.proofs.lemmas.Int.{ints}
use Rattle.std.proofs.lemmas.Bool.{and_from}
use Rattle.amr_nest.proofs.containment.is_aligned.Goals as goal

begins : (n : ℕ) (x y : ℤ) → int_rem_euclid x (pos n) ≡ pos 0 → x ≡ y → int_rem_euclid y (pos n) ≡ pos 0
begins n x y h e = ap (λ (z : ℤ). int_rem_euclid z (pos n)) (sym e) ∙ h

ends : (n : ℕ) (x y : ℤ) → int_rem_euclid (x +ℤ pos 1) (pos n) ≡ pos 0 → x ≡ y → int_rem_euclid (y +ℤ pos 1) (pos n) ≡ pos 0
ends n x y h e = ap (λ (z : ℤ). int_rem_euclid (z +ℤ pos 1) (pos n)) (sym e) ∙ h

pub returns : goal.returns
returns c =
    let w = c.begins_block-west.result in
    let s = c.begins_block-south.result in
    let e = c.ends_block-east.result in
    let n = c.ends_block-north.result in
    let x0 = to_z w32 (of_z w32 c.lo-lo.result.x) in
    let y0 = to_z w32 (of_z w32 c.lo-lo.result.y) in
    let x1 = to_z w32 (of_z w32 c.hi-hi.result.x) in
    let y1 = to_z w32 (of_z w32 c.hi-hi.result.y) in
    let west_is : x0 ≡ c.args.b.now.lo.x = omega (arith, ints, c.lo-lo.ensures.x) in
    let south_is : y0 ≡ c.args.b.now.lo.y = omega (arith, ints, c.lo-lo.ensures.y) in
    let east_is : x1 ≡ c.args.b.now.hi.x = omega (arith, ints, c.hi-hi.ensures.x) in
    let north_is : y1 ≡ c.args.b.now.hi.y = omega (arith, ints, c.hi-hi.ensures.y) in (
      λ h.
          let k = and_parts (w && s) (e && n) h in
          let low = and_parts w s k.0 in
          let high = and_parts e n k.1 in
          record {
            west = begins c.args.blocking x0 c.args.b.now.lo.x (c.begins_block-west.ensures.0 low.0) west_is;
            south = begins c.args.blocking y0 c.args.b.now.lo.y (c.begins_block-south.ensures.0 low.1) south_is;
            east = ends c.args.blocking x1 c.args.b.now.hi.x (c.ends_block-east.ensures.0 high.0) east_is;
            north = ends c.args.blocking y1 c.args.b.now.hi.y (c.ends_block-north.ensures.0 high.1) north_is;
          },
      λ a.
          and_from (w && s) (e && n)
          (and_from w s (c.begins_block-west.ensures.1 (begins c.args.blocking c.args.b.now.lo.x x0 a.west (sym west_is))) (c.begins_block-south.ensures.1 (begins c.args.blocking c.args.b.now.lo.y y0 a.south (sym south_is))))
          (and_from e n (c.ends_block-east.ensures.1 (ends c.args.blocking c.args.b.now.hi.x x1 a.east (sym east_is))) (c.ends_block-north.ensures.1 (ends c.args.blocking c.args.b.now.hi.y y1 a.north (sym north_is)))),
    )
