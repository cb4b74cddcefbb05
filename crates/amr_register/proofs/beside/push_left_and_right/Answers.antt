use Rattle.std.proofs.Common.{◌≡◌, ◌<◌, arith}
use Rattle.amr_box.specs.Cells.{height}
use Rattle.amr_def.specs.Domain.{domain_of}
use Rattle.amr_register.specs.Covers.{covers}
use Rattle.amr_register.proofs.CollectLaws.{all_rows, covered_at, east_ready, more_rows, near_at, no_rows, row_high, row_low, west_ready}
use Rattle.amr_register.proofs.Homes.{size_of}
use Rattle.amr_register.proofs.beside.push_left_and_right.Goals as goal

pub loop-j-init : goal.loop-j-init
loop-j-init c = record { done = no_rows _ _ _ _; west = tt; east = tt }

pub west_of-requires : goal.west_of-requires
west_of-requires c =
    let b = c.args.b.now in
    let d = domain_of c.args.dom.now in
    let covered = covers c.args.cover.now in
    let lt : c.loop-j.j < height b = omega (arith, c.height-j-end.ensures.value) in
    near_at d covered c.row_first.result (size_of c.args.dom.now) (covered_at d covered b c.row_first.result _ c.requires.inside c.requires.covered c.row_first.ensures (row_low b c.loop-j.j c.requires.near lt))

pub push_uncovered-requires-clause-beside : goal.push_uncovered-requires-clause-beside
push_uncovered-requires-clause-beside c =
    let b = c.args.b.now in
    let d = domain_of c.args.dom.now in
    let covered = covers c.args.cover.now in
    let lt : c.loop-j.j < height b = omega (arith, c.height-j-end.ensures.value) in
    let at = covered_at d covered b c.row_first.result _ c.requires.inside c.requires.covered c.row_first.ensures (row_low b c.loop-j.j c.requires.near lt) in
    (west_ready d covered (size_of c.args.dom.now) c.row_first.result at.inside at.here c.west_of.result c.west_of.ensures).beside

pub east_of-requires : goal.east_of-requires
east_of-requires c =
    let b = c.args.b.now in
    let d = domain_of c.args.dom.now in
    let covered = covers c.args.cover.now in
    let lt : c.loop-j.j < height b = omega (arith, c.height-j-end.ensures.value) in
    near_at d covered c.row_last.result (size_of c.args.dom.now) (covered_at d covered b c.row_last.result _ c.requires.inside c.requires.covered c.row_last.ensures (row_high b c.loop-j.j c.requires.near lt))

pub push_uncovered-requires-in-loop-j-clause-beside : goal.push_uncovered-requires-in-loop-j-clause-beside
push_uncovered-requires-in-loop-j-clause-beside c =
    let b = c.args.b.now in
    let d = domain_of c.args.dom.now in
    let covered = covers c.args.cover.now in
    let lt : c.loop-j.j < height b = omega (arith, c.height-j-end.ensures.value) in
    let at = covered_at d covered b c.row_last.result _ c.requires.inside c.requires.covered c.row_last.ensures (row_high b c.loop-j.j c.requires.near lt) in
    (east_ready d covered (size_of c.args.dom.now) c.row_last.result at.inside at.here c.east_of.result c.east_of.ensures).beside

pub loop-j-preserved : goal.loop-j-preserved
loop-j-preserved c =
    record {
      done = more_rows _ _ c.args.b.now _ _ _ _ c.loop-j.j c.row_first.result c.row_last.result c.west_of.result c.east_of.result c.loop-j.invariant.done c.in_ok-push_uncovered.ensures.collects c.in_ok-push_uncovered-2.ensures.collects
          c.row_first.ensures c.west_of.ensures c.in_ok-push_uncovered.ensures.finds c.row_last.ensures c.east_of.ensures c.in_ok-push_uncovered-2.ensures.finds;
      west = c.in_ok-push_uncovered.ensures.last;
      east = c.in_ok-push_uncovered-2.ensures.last;
    }

pub returns : goal.returns
returns c =
    let all : c.loop-j.j ≡ height c.args.b.now = omega (arith, c.height-j-end.ensures.value) in
    record { collects = c.loop-j.invariant.done.collects; finds = all_rows _ _ c.args.b.now _ _ c.loop-j.j all c.loop-j.invariant.done }
