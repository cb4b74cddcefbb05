use Rattle.std.proofs.Common.{sym, ◌∙◌}
use Rattle.amr_tests_levels.proofs.ApartPatches.{apart_boxes}
use Rattle.amr_tests_levels.proofs.frames.meet.Goals as goal

pub returns : goal.returns
returns c none k s t = apart_boxes c.meet.result c.bx.result c.bx-2.result c.meet.ensures.none (sym c.is_some.ensures ∙ none) k (rw c.bx.ensures.value s) (rw c.bx-2.ensures.value t)
