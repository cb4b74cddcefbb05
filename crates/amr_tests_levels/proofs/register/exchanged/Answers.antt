use Rattle.std.proofs.Common.{◌≡◌, ◌∙◌, ◌<◌, ◌==◌, List, [], ◌∷◌, length, false, sym, arith}
use Rattle.amr_def.specs.Domain.{domain}
use Rattle.amr_patch.specs.declared.patches.Patch.{Patch}
use Rattle.amr_tests_levels.proofs.ApartPatches.{each_inside}
use Rattle.amr_tests_levels.proofs.register.exchanged.Goals as goal

-- a list that is not empty has a first element
some_there : (ps : List Patch) → (length ps == 0) ≡ false → 0 < length ps
some_there [] h = absurd (cc)
some_there (p ∷ ps) h = omega arith

pub coarse_part-requires-clause-inside : goal.coarse_part-requires-clause-inside
coarse_part-requires-clause-inside c =
    each_inside (domain c.args.p.now 0) c.args.patches.now c.fill_frames.new.patches (c.are_of_level.ensures.inside c.if-not-are_of_level.false) c.fill_frames.ensures 0 c.index-patches-0.result
    (some_there c.fill_frames.new.patches (sym c.is_empty.ensures ∙ c.if-is_empty.false))
