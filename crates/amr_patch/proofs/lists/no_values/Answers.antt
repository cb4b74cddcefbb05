use Rattle.std.proofs.Common.{◌∙◌, ℕ, List, ap, rules}
use Rattle.std.specs.Prelude.{slice_index_or}
use Rattle.amr_patch.proofs.Entries.{replicated}
use Rattle.amr_patch.proofs.lists.no_values.Goals as goal

pub returns-clause-none : goal.returns-clause-none
returns-clause-none c = λ k. ap (λ (xs : List ℕ). slice_index_or xs k 0) (c.in_ok-values.ensures.items_if_clones_equal (λ y h. search rules)) ∙ replicated c.args.count k 0
