-- Clusters: boxes round a set of cells, which is given as the list of its cells, row by row. (Berger and Rigoutsos)
use Rattle.std.specs.Prelude.{ℕ, zero, suc, cond, ℤ, pos, ◌+ℤ◌, int_le, int_lt, List, [], ◌∷◌, ◌++◌, length}
use Rattle.std.specs.declared.option.Option.{Option}
use Rattle.std.specs.declared.option.Option.TheVariants.{None, Some}
use Rattle.std.specs.List.{filter}
use Rattle.amr_box.specs.declared.Cell.{Cell}
use Rattle.amr_box.specs.declared.Axis.TheVariants.{X, Y}
use Rattle.amr_box.specs.Cells.{Extent, along}
use Rattle.amr_def.specs.Signature.{bounding, is_efficient, signature}
use Rattle.amr_def.specs.Cut.{Cut, best_cut}

-- the first coordinate of the high part
abbrev pub edge : Extent → Cut → ℤ
edge b k = along k.axis b.lo +ℤ pos k.at

abbrev pub cells_below : Extent → Cut → List Cell → List Cell
cells_below b k cs = filter (λ c. int_lt (along k.axis c) (edge b k)) cs

abbrev pub cells_from : Extent → Cut → List Cell → List Cell
cells_from b k cs = filter (λ c. int_le (edge b k) (along k.axis c)) cs

-- where the box b round the cells is cut: nowhere where it is efficient
abbrev pub cut_of : ℕ → ℕ → List Cell → Extent → Option Cut
cut_of efficiency w cs b = cond (is_efficient efficiency (length cs) b) None (best_cut w (signature X cs b) (signature Y cs b))

-- one box where there is no cut, and else the boxes of the low part and then those of the rest
abbrev pub parts : (List Cell → List Extent) → List Cell → Extent → Option Cut → List Extent
parts boxes cs b None = b ∷ []
parts boxes cs b (Some k) = boxes (cells_below b k cs) ++ boxes (cells_from b k cs)

-- the boxes of a set, cut at most n times on each way down
unfoldable pub cluster_within : ℕ → ℕ → ℕ → List Cell → List Extent
cluster_within efficiency w zero [] = []
cluster_within efficiency w zero (c ∷ cs) = bounding c cs ∷ []
cluster_within efficiency w (suc n) [] = []
cluster_within efficiency w (suc n) (c ∷ cs) = parts (cluster_within efficiency w n) (c ∷ cs) (bounding c cs) (cut_of efficiency w (c ∷ cs) (bounding c cs))

-- as many cuts as there are cells are enough, since no part is empty
unfoldable pub cluster : ℕ → ℕ → List Cell → List Extent
cluster efficiency w cs = cluster_within efficiency w (length cs) cs
