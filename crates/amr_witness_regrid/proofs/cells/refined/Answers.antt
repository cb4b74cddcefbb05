use Rattle.std.proofs.Common.{◌≡◌, ◌∙◌, pos, ◌*ℤ◌, sym, ap, subst, arith}
use Rattle.std.proofs.lemmas.Int.{ints}
use Rattle.amr_box.specs.Cells.{IsNear}
use Rattle.amr_witness_regrid.proofs.CellRows.{product_up, product_low, product_high, corners_are}
use Rattle.amr_witness_regrid.proofs.cells.refined.Goals as goal

pub unwrap-requires : goal.unwrap-requires
unwrap-requires c =
    let b = c.args.b.now in
    let n = c.args.n in
    let x = product_up n b.lo.x b.hi.x c.requires.low.west c.lo.ensures.proper.wide in
    let y = product_up n b.lo.y b.hi.y c.requires.low.south c.lo.ensures.proper.high in
    let west : c.times.result ≡ pos n *ℤ b.lo.x = c.times.ensures.value ∙ ap (λ z. pos n *ℤ z) (omega (arith, ints, c.lo.ensures.x)) in
    let south : c.times-2.result ≡ pos n *ℤ b.lo.y = c.times-2.ensures.value ∙ ap (λ z. pos n *ℤ z) (omega (arith, ints, c.lo-2.ensures.y)) in
    let east : c.times-3.result ≡ pos n *ℤ b.hi.x = c.times-3.ensures.value ∙ ap (λ z. pos n *ℤ z) (omega (arith, ints, c.hi.ensures.x)) in
    let north : c.times-4.result ≡ pos n *ℤ b.hi.y = c.times-4.ensures.value ∙ ap (λ z. pos n *ℤ z) (omega (arith, ints, c.hi-2.ensures.y)) in
    c.try_new.ensures.proper.1 (
      omega (arith, ints, x, west, east, c.requires.some, c.requires.few, c.times.ensures.low, c.times.ensures.high, c.times-3.ensures.low, c.times-3.ensures.high),
      omega (arith, ints, y, south, north, c.requires.some, c.requires.few, c.times-2.ensures.low, c.times-2.ensures.high, c.times-4.ensures.low, c.times-4.ensures.high),
    )

pub returns-clause-value : goal.returns-clause-value
returns-clause-value c =
    let is = rw c.unwrap.ensures at c.try_new.ensures.some in
    let b = c.args.b.now in
    let n = c.args.n in
    let west : c.times.result ≡ pos n *ℤ b.lo.x = c.times.ensures.value ∙ ap (λ z. pos n *ℤ z) (omega (arith, ints, c.lo.ensures.x)) in
    let south : c.times-2.result ≡ pos n *ℤ b.lo.y = c.times-2.ensures.value ∙ ap (λ z. pos n *ℤ z) (omega (arith, ints, c.lo-2.ensures.y)) in
    let east : c.times-3.result ≡ pos n *ℤ b.hi.x = c.times-3.ensures.value ∙ ap (λ z. pos n *ℤ z) (omega (arith, ints, c.hi.ensures.x)) in
    let north : c.times-4.result ≡ pos n *ℤ b.hi.y = c.times-4.ensures.value ∙ ap (λ z. pos n *ℤ z) (omega (arith, ints, c.hi-2.ensures.y)) in
    corners_are c.unwrap.result _ _ _ _ _ _ _ _ is
    (omega (arith, ints, west, c.times.ensures.low, c.times.ensures.high))
    (omega (arith, ints, south, c.times-2.ensures.low, c.times-2.ensures.high))
    (omega (arith, ints, east, c.requires.some, c.requires.few, c.times-3.ensures.low, c.times-3.ensures.high))
    (omega (arith, ints, north, c.requires.some, c.requires.few, c.times-4.ensures.low, c.times-4.ensures.high))

pub returns-clause-near : goal.returns-clause-near
returns-clause-near c =
    let b = c.args.b.now in
    let n = c.args.n in
    let x = product_up n b.lo.x b.hi.x c.requires.low.west c.lo.ensures.proper.wide in
    let y = product_up n b.lo.y b.hi.y c.requires.low.south c.lo.ensures.proper.high in
    subst IsNear (sym (returns-clause-value c)) (record {
      west = omega (arith, ints, product_low n b.lo.x c.requires.low.west);
      east = omega (arith, ints, product_high n b.hi.x c.requires.few c.requires.low.east, c.requires.few);
      south = omega (arith, ints, product_low n b.lo.y c.requires.low.south);
      north = omega (arith, ints, product_high n b.hi.y c.requires.few c.requires.low.north, c.requires.few);
      wide = omega (arith, ints, x, c.requires.some);
      high = omega (arith, ints, y, c.requires.some);
    })

pub overflow_add-high : goal.overflow_add-high
overflow_add-high c = omega (arith, ints, c.times-3.ensures.low, c.times-3.ensures.high, c.requires.some, c.requires.few)

pub overflow_add-high-2 : goal.overflow_add-high-2
overflow_add-high-2 c = omega (arith, ints, c.times-4.ensures.low, c.times-4.ensures.high, c.requires.some, c.requires.few)
