use Rattle.std.proofs.Common.{[], ◌∷◌}
use Rattle.amr_patch.specs.Levels.{level_of}
use Rattle.amr_samples.proofs.OneBox.{finer_ring, nested_ring, whole_ring}
use Rattle.amr_tests_levels.proofs.OneBoxLevels.{cells_of}
use Rattle.amr_tests_levels.proofs.register.given_back.Goals as goal

pub make-requires-clause-coarse : goal.make-requires-clause-coarse
make-requires-clause-coarse c =
    let k = level_of c.in_ok-coarse.coarse in
    let f = level_of c.in_ok-fine.fine in
    let b = c.whole_box.result in
    let e = c.fine_box.result in
    whole_ring c.in_ok-p.p k f b e c.in_ok-p.ensures.columns c.in_ok-p.ensures.rows c.in_ok-p.ensures.blocking c.whole_box.ensures.value c.fine_box.ensures.value c.in_ok-coarse.ensures.boxes (cells_of k.masses (b ∷ []) c.in_ok-coarse.ensures.masses) c.in_ok-fine.ensures.boxes (cells_of f.masses (e ∷ []) c.in_ok-fine.ensures.masses)

pub make-requires-clause-fine : goal.make-requires-clause-fine
make-requires-clause-fine c =
    let k = level_of c.in_ok-coarse.coarse in
    let f = level_of c.in_ok-fine.fine in
    let b = c.whole_box.result in
    let e = c.fine_box.result in
    finer_ring c.in_ok-p.p k f b e c.in_ok-p.ensures.columns c.in_ok-p.ensures.rows c.in_ok-p.ensures.blocking c.whole_box.ensures.value c.fine_box.ensures.value c.in_ok-coarse.ensures.boxes (cells_of k.masses (b ∷ []) c.in_ok-coarse.ensures.masses) c.in_ok-fine.ensures.boxes (cells_of f.masses (e ∷ []) c.in_ok-fine.ensures.masses)

pub make-requires-clause-nested : goal.make-requires-clause-nested
make-requires-clause-nested c =
    let k = level_of c.in_ok-coarse.coarse in
    let f = level_of c.in_ok-fine.fine in
    let b = c.whole_box.result in
    let e = c.fine_box.result in
    nested_ring c.in_ok-p.p k f b e c.in_ok-p.ensures.columns c.in_ok-p.ensures.rows c.in_ok-p.ensures.blocking c.whole_box.ensures.value c.fine_box.ensures.value c.in_ok-coarse.ensures.boxes (cells_of k.masses (b ∷ []) c.in_ok-coarse.ensures.masses) c.in_ok-fine.ensures.boxes (cells_of f.masses (e ∷ []) c.in_ok-fine.ensures.masses)
