use Rattle.std.proofs.Common.{◌∙◌, Bool, false, List, ap, rules}
use Rattle.std.specs.Prelude.{slice_index_or}
use Rattle.amr_patch.proofs.Entries.{replicated}
use Rattle.amr_patch.proofs.lists.no_marks.Goals as goal

pub returns-clause-none : goal.returns-clause-none
returns-clause-none c = λ k. ap (λ (xs : List Bool). slice_index_or xs k false) (c.in_ok-marks.ensures.items_if_clones_equal (λ y h. search rules)) ∙ replicated c.args.count k false
