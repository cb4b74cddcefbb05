use Rattle.std.proofs.Common.{◌≡◌, ◌<◌, List, [], ◌∷◌, map, sym, subst, arith}
use Rattle.std.specs.List.{All}
use Rattle.std.proofs.lemmas.Result.{IfOk-weaker}
use Rattle.amr_box.specs.Cells.{Extent}
use Rattle.amr_def.specs.Domain.{domain, domain_box}
use Rattle.amr_def.specs.Facts.{IsAligned, IsLevel}
use Rattle.amr_def.specs.State as defined
use Rattle.amr_patch.specs.declared.levels.Level.{Level}
use Rattle.amr_patch.specs.Levels.{level_of}
use Rattle.amr_patch.specs.Patches.{ArePairwiseApart, AreNear}
use Rattle.amr_payload.specs.Tests as tests
use Rattle.amr_decoder.specs.Filled.{IsPlaced}
use Rattle.amr_decoder.specs.Grids.{grid_of}
use Rattle.amr_decoder.proofs.GridBoxes.{level_boxes}
use Rattle.amr_decoder.proofs.LevelReadings.{all_near, all_placed}
use Rattle.amr_decoder.proofs.levels.level_of_grids.Goals as goal

pub make_level-requires-clause-some : goal.make_level-requires-clause-some
make_level-requires-clause-some c = omega (arith, c.args.p.now.limits.least_max_grid_size)

pub make_level-requires-clause-disjoint : goal.make_level-requires-clause-disjoint
make_level-requires-clause-disjoint c =
    subst (λ (bs : List Extent). ArePairwiseApart bs) (level_boxes c.args.bytes.now c.args.grids.now) c.requires.read.level.disjoint

pub make_level-requires-clause-near : goal.make_level-requires-clause-near
make_level-requires-clause-near c =
    let gs = map (grid_of c.args.bytes.now) c.args.grids.now in
    subst (λ (bs : List Extent). AreNear bs) (level_boxes c.args.bytes.now c.args.grids.now) (all_near c.args.p.now c.args.kind.level (tests.level_of gs) c.requires.level c.requires.read.level)

pub make_level-requires-clause-placed : goal.make_level-requires-clause-placed
make_level-requires-clause-placed c =
    let gs = map (grid_of c.args.bytes.now) c.args.grids.now in
    subst (λ (bs : List Extent). All IsPlaced bs) (level_boxes c.args.bytes.now c.args.grids.now) (all_placed c.args.p.now c.args.kind.level (tests.level_of gs) c.requires.level c.requires.read.level)

pub returns-clause-level : goal.returns-clause-level
returns-clause-level c =
    let gs = map (grid_of c.args.bytes.now) c.args.grids.now in
    IfOk-weaker c.make_level.result (λ (k : Level). level_of k ≡ tests.level_of gs) (λ (k : Level). IsLevel c.args.p.now c.args.kind.level (level_of k))
    (λ k is. subst (λ (e : defined.Level). IsLevel c.args.p.now c.args.kind.level e) (sym is) c.requires.read.level) c.make_level.ensures.level

pub returns-clause-aligned : goal.returns-clause-aligned
returns-clause-aligned c =
    let gs = map (grid_of c.args.bytes.now) c.args.grids.now in
    IfOk-weaker c.make_level.result (λ (k : Level). level_of k ≡ tests.level_of gs) (λ (k : Level). 0 < c.args.kind.level → All (IsAligned c.args.p.now.blocking) (level_of k).boxes)
    (λ k is. subst (λ (e : defined.Level). 0 < c.args.kind.level → All (IsAligned c.args.p.now.blocking) e.boxes) (sym is) c.requires.read.aligned) c.make_level.ensures.level

pub returns-clause-base : goal.returns-clause-base
returns-clause-base c =
    let gs = map (grid_of c.args.bytes.now) c.args.grids.now in
    IfOk-weaker c.make_level.result (λ (k : Level). level_of k ≡ tests.level_of gs) (λ (k : Level). c.args.kind.level ≡ 0 → (level_of k).boxes ≡ domain_box (domain c.args.p.now 0) ∷ [])
    (λ k is. subst (λ (e : defined.Level). c.args.kind.level ≡ 0 → e.boxes ≡ domain_box (domain c.args.p.now 0) ∷ []) (sym is) c.requires.read.base) c.make_level.ensures.level
