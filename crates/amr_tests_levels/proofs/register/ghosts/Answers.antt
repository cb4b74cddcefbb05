use Rattle.std.proofs.Common.{◌∙◌, List, subst, sym}
use Rattle.amr_def.specs.Domain.{domain}
use Rattle.amr_patch.specs.declared.patches.Patch.{Patch}
use Rattle.amr_ghost.specs.Frames.{AreInDomain}
use Rattle.amr_tests_levels.proofs.register.ghosts.Goals as goal

pub fill_frames-requires-clause-inside : goal.fill_frames-requires-clause-inside
fill_frames-requires-clause-inside c =
    subst (λ (ps : List Patch). AreInDomain (domain c.args.p.now 1) ps) (c.deref.ensures.value ∙ sym c.deref_mut.ensures.value) (c.are_of_level.ensures.inside c.if-not-are_of_level.false)
