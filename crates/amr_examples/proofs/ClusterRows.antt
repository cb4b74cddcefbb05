-- Worked rows of clusters.
use Rattle.std.proofs.Common.{◌≡◌, refl, [], ◌∷◌, map}
use Rattle.std.specs.declared.option.Option.TheVariants.{None}
use Rattle.amr_box.specs.declared.Axis.TheVariants.{X, Y}
use Rattle.amr_def.specs.Signature.{signature}
use Rattle.amr_def.specs.Cut.{best_cut}
use Rattle.amr_def.specs.Cluster.{cluster, cluster_within}
use Rattle.amr_examples.proofs.Examples.{box, at}

no_tags_no_boxes : cluster 70 2 [] ≡ []
unfolding cluster cluster_within best_cut
no_tags_no_boxes = refl

hole_cut_breaks_tie_low : cluster 80 1 (at 0 0 ∷ at 5 0 ∷ []) ≡ box 0 0 0 0 ∷ box 5 0 5 0 ∷ []
unfolding cluster cluster_within best_cut
hole_cut_breaks_tie_low = refl

corner_signatures : map (λ a. signature a (at 0 0 ∷ at 1 0 ∷ at 2 0 ∷ at 3 0 ∷ at 0 1 ∷ at 1 1 ∷ at 0 2 ∷ at 1 2 ∷ at 0 3 ∷ at 1 3 ∷ at 0 4 ∷ at 1 4 ∷ []) (box 0 0 3 4)) (X ∷ Y ∷ []) ≡ (5 ∷ 5 ∷ 1 ∷ 1 ∷ []) ∷ (4 ∷ 2 ∷ 2 ∷ 2 ∷ 2 ∷ []) ∷ []
corner_signatures = refl

inflection_cut : cluster 70 2 (at 0 0 ∷ at 1 0 ∷ at 2 0 ∷ at 3 0 ∷ at 0 1 ∷ at 1 1 ∷ at 0 2 ∷ at 1 2 ∷ at 0 3 ∷ at 1 3 ∷ at 0 4 ∷ at 1 4 ∷ []) ≡ box 0 0 1 4 ∷ box 2 0 3 0 ∷ []
unfolding cluster cluster_within best_cut
inflection_cut = refl

diagonal_is_halved : cluster 100 2 (at 0 0 ∷ at 1 1 ∷ at 2 2 ∷ at 3 3 ∷ []) ≡ box 0 0 1 1 ∷ box 2 2 3 3 ∷ []
unfolding cluster cluster_within best_cut
diagonal_is_halved = refl

halves_have_no_cut : map (λ cs. best_cut 2 (signature X cs (box 0 0 1 1)) (signature Y cs (box 0 0 1 1))) ((at 0 0 ∷ at 1 1 ∷ []) ∷ []) ≡ None ∷ []
unfolding best_cut
halves_have_no_cut = refl

diagonal_in_single_cells : cluster 100 1 (at 0 0 ∷ at 1 1 ∷ at 2 2 ∷ at 3 3 ∷ []) ≡ box 0 0 0 0 ∷ box 1 1 1 1 ∷ box 2 2 2 2 ∷ box 3 3 3 3 ∷ []
unfolding cluster cluster_within best_cut
diagonal_in_single_cells = refl

long_row_is_cut_at_holes : cluster 100 1 (at 0 0 ∷ at 63 0 ∷ at 64 0 ∷ at 129 0 ∷ []) ≡ box 0 0 0 0 ∷ box 63 0 64 0 ∷ box 129 0 129 0 ∷ []
unfolding cluster cluster_within best_cut
long_row_is_cut_at_holes = refl
