use Rattle.std.proofs.Common.{◌∙◌, ℤ, pos, List, ap, rules}
use Rattle.std.specs.Prelude.{slice_index_or}
use Rattle.amr_patch.proofs.Entries.{replicated}
use Rattle.amr_patch.proofs.lists.no_fluxes.Goals as goal

pub returns-clause-none : goal.returns-clause-none
returns-clause-none c = λ k. ap (λ (xs : List ℤ). slice_index_or xs k (pos 0)) (c.in_ok-fluxes.ensures.items_if_clones_equal (λ y h. search rules)) ∙ replicated c.args.count k (pos 0)
