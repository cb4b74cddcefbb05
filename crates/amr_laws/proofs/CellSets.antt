-- Sets of cells as lists: what holds of each cell of a list, and which cells a list has.
use Rattle.std.proofs.Common.{◌≡◌, ℕ, Bool, true, false, ◌||◌, refl, sym, subst, ◌∙◌, List, [], ◌∷◌}
use Rattle.std.specs.List.{list_any}
pub use Rattle.std.proofs.lemmas.Bool.{and_parts as both_parts, or_left as left, or_right as right}
use Rattle.amr_box.specs.declared.Cell.{Cell}
use Rattle.amr_box.specs.Cells.{Extent, holds, cells_of, in_boxes}
pub use Rattle.amr_box.proofs.CellEquality.{cell_itself, cell_same, is_cell}
use Rattle.amr_box.proofs.CellLists.{among_cells_of}
pub use Rattle.amr_box.proofs.CellLists.{any_in_box}
use Rattle.amr_def.specs.Domain.{Domain, domain_box, cells_where}
use Rattle.amr_def.specs.Cluster.{cluster}
pub use Rattle.amr_def.proofs.ClusterLaws.{each_then}
use Rattle.amr_def.proofs.ClusterLaws.{Each, each_kept, each_from_kept, cluster-covers}

-- ---- members

-- what holds of each cell holds of one that is among them
pub each_at : (P : Cell → Type 0) (cs : List Cell) (q : Cell) → Each P cs → list_any (is_cell q) cs ≡ true → P q
each_at P [] q e h = cc
each_at P (c ∷ cs) q e h = choose (is_cell q c) refl h (each_at P cs q e.1)
  where
    choose : (t : Bool) → is_cell q c ≡ t → (t || list_any (is_cell q) cs) ≡ true → (list_any (is_cell q) cs ≡ true → P q) → P q
    choose true is h rest = subst P (sym (cell_same q c is)) e.0
    choose false is h rest = rest h

more_among : (c : Cell) (cs ds : List Cell) → Each (λ q. list_any (is_cell q) ds ≡ true) cs → Each (λ q. list_any (is_cell q) (c ∷ ds) ≡ true) cs
more_among c cs ds e = each_then (λ q. list_any (is_cell q) ds ≡ true) (λ q. list_any (is_cell q) (c ∷ ds) ≡ true) (λ q h. right (is_cell q c) (list_any (is_cell q) ds) h) cs e

each_among : (cs : List Cell) → Each (λ q. list_any (is_cell q) cs ≡ true) cs
each_among [] = tt
each_among (c ∷ cs) = (left (is_cell c c) (list_any (is_cell c) cs) (cell_itself c), more_among c cs cs (each_among cs))

-- each cell of a box's list is in the box
pub each_held : (b : Extent) → Each (λ q. holds b q ≡ true) (cells_of b)
each_held b = each_then (λ q. list_any (is_cell q) (cells_of b) ≡ true) (λ q. holds b q ≡ true) (λ q h. sym (among_cells_of b q) ∙ h) (cells_of b) (each_among (cells_of b))

-- ---- clusters of the cells of a domain that pass a test

-- the boxes hold each of them
pub clustered : (efficiency w : ℕ) (d : Domain) (test : Cell → Bool) (q : Cell) → holds (domain_box d) q ≡ true → test q ≡ true → in_boxes (cluster efficiency w (cells_where d test)) q ≡ true
clustered efficiency w d test q held passes =
    let all = cells_of (domain_box d) in
    each_at (λ c. test c ≡ true → in_boxes (cluster efficiency w (cells_where d test)) c ≡ true) all q
    (each_from_kept (λ c. in_boxes (cluster efficiency w (cells_where d test)) c ≡ true) test all (cluster-covers efficiency w (cells_where d test)))
    (among_cells_of (domain_box d) q ∙ held) passes

-- each of them is in the domain's box
pub each_inside : (d : Domain) (test : Cell → Bool) → Each (λ q. holds (domain_box d) q ≡ true) (cells_where d test)
each_inside d test = each_kept (λ q. holds (domain_box d) q ≡ true) test (cells_of (domain_box d)) (each_held (domain_box d))
