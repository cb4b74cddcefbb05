use Rattle.std.proofs.Common.{◌≡◌, ◌<◌, arith}
use Rattle.amr_box.specs.Cells.{width}
use Rattle.amr_def.specs.Domain.{domain_of}
use Rattle.amr_register.specs.Covers.{covers}
use Rattle.amr_register.proofs.CollectLaws.{all_columns, covered_at, north_ready, more_columns, near_at, no_columns, column_high, column_low, south_ready}
use Rattle.amr_register.proofs.Homes.{size_of}
use Rattle.amr_register.proofs.beside.push_below_and_above.Goals as goal

pub loop-i-init : goal.loop-i-init
loop-i-init c = record { done = no_columns _ _ _ _; south = tt; north = tt }

pub south_of-requires : goal.south_of-requires
south_of-requires c =
    let b = c.args.b.now in
    let d = domain_of c.args.dom.now in
    let covered = covers c.args.cover.now in
    let lt : c.loop-i.i < width b = omega (arith, c.width-i-end.ensures.value) in
    near_at d covered c.column_first.result (size_of c.args.dom.now) (covered_at d covered b c.column_first.result _ c.requires.inside c.requires.covered c.column_first.ensures (column_low b c.loop-i.i c.requires.near lt))

pub push_uncovered-requires-clause-beside : goal.push_uncovered-requires-clause-beside
push_uncovered-requires-clause-beside c =
    let b = c.args.b.now in
    let d = domain_of c.args.dom.now in
    let covered = covers c.args.cover.now in
    let lt : c.loop-i.i < width b = omega (arith, c.width-i-end.ensures.value) in
    let at = covered_at d covered b c.column_first.result _ c.requires.inside c.requires.covered c.column_first.ensures (column_low b c.loop-i.i c.requires.near lt) in
    (south_ready d covered (size_of c.args.dom.now) c.column_first.result at.inside at.here c.south_of.result c.south_of.ensures).beside

pub north_of-requires : goal.north_of-requires
north_of-requires c =
    let b = c.args.b.now in
    let d = domain_of c.args.dom.now in
    let covered = covers c.args.cover.now in
    let lt : c.loop-i.i < width b = omega (arith, c.width-i-end.ensures.value) in
    near_at d covered c.column_last.result (size_of c.args.dom.now) (covered_at d covered b c.column_last.result _ c.requires.inside c.requires.covered c.column_last.ensures (column_high b c.loop-i.i c.requires.near lt))

pub push_uncovered-requires-in-loop-i-clause-beside : goal.push_uncovered-requires-in-loop-i-clause-beside
push_uncovered-requires-in-loop-i-clause-beside c =
    let b = c.args.b.now in
    let d = domain_of c.args.dom.now in
    let covered = covers c.args.cover.now in
    let lt : c.loop-i.i < width b = omega (arith, c.width-i-end.ensures.value) in
    let at = covered_at d covered b c.column_last.result _ c.requires.inside c.requires.covered c.column_last.ensures (column_high b c.loop-i.i c.requires.near lt) in
    (north_ready d covered (size_of c.args.dom.now) c.column_last.result at.inside at.here c.north_of.result c.north_of.ensures).beside

pub loop-i-preserved : goal.loop-i-preserved
loop-i-preserved c =
    record {
      done = more_columns _ _ c.args.b.now _ _ _ _ c.loop-i.i c.column_first.result c.column_last.result c.south_of.result c.north_of.result c.loop-i.invariant.done c.in_ok-push_uncovered.ensures.collects c.in_ok-push_uncovered-2.ensures.collects
          c.column_first.ensures c.south_of.ensures c.in_ok-push_uncovered.ensures.finds c.column_last.ensures c.north_of.ensures c.in_ok-push_uncovered-2.ensures.finds;
      south = c.in_ok-push_uncovered.ensures.last;
      north = c.in_ok-push_uncovered-2.ensures.last;
    }

pub returns : goal.returns
returns c =
    let all : c.loop-i.i ≡ width c.args.b.now = omega (arith, c.width-i-end.ensures.value) in
    record { collects = c.loop-i.invariant.done.collects; finds = all_columns _ _ c.args.b.now _ _ c.loop-i.i all c.loop-i.invariant.done }
