-- The patches of a level together take each plain flow through a coarse-fine edge away once.
use Rattle.std.proofs.Common.{◌≡◌, ◌∙◌, ℕ, suc, ◌<◌, ◌≤◌, Bool, true, false, cond, ◌&&◌, ℤ, pos, negsuc, ◌+ℤ◌, ◌-ℤ◌, List, refl, sym, ap, arith}
use Rattle.std.specs.Prelude.{is_some, slice_index_or}
use Rattle.std.specs.List.{All}
use Rattle.std.proofs.lemmas.List.Folds.{Any-from_list_any}
use Rattle.std.proofs.lemmas.Int.{ints}
use Rattle.std.proofs.lemmas.Bool.{cond-false, cond-true, false_from_ne_true, true_from_ne_false}
use Rattle.amr_box.specs.declared.Cell.{Cell}
use Rattle.amr_box.specs.declared.Axis.{Axis}
use Rattle.amr_box.specs.declared.Axis.TheVariants.{X, Y}
use Rattle.amr_box.specs.Cells.{cell, holds}
use Rattle.amr_box.proofs.CellEquality.{same_cell}
use Rattle.amr_box.proofs.Numbers.{minus_one, more_and_less}
use Rattle.amr_def.specs.declared.problem.Problem.{Problem}
use Rattle.amr_def.specs.Domain.{Domain, domain, home_cell, in_domain, wrapped}
use Rattle.amr_def.specs.State.{Level, Masses, is_covered}
use Rattle.amr_def.specs.Facts.{IsLevel, IsNestedLevel}
use Rattle.amr_def.specs.Flux.{Fluxes, courant, courant_in, face, flow, flux_at, low_cell, net}
use Rattle.amr_def.proofs.Nesting.{covered_there, wrapped_shift}
use Rattle.amr_def.proofs.Values.{value_same}
use Rattle.amr_patch.specs.declared.patches.Patch.{Patch}
use Rattle.amr_patch.specs.Patches.{ArePatchesApart, box, in_patches, masses_in}
use Rattle.amr_patch.proofs.LevelLaws.{none_here}
use Rattle.amr_faces.specs.Faces.{ShowsValues, flux_beside}
use Rattle.amr_faces.proofs.Shown.{flux_is}
use Rattle.amr_register.specs.CoarseFlows.{coarse_flows, edge_flows, has_high_cell, high_face, home_face, low_face, sum_over}
use Rattle.amr_register.specs.RegisterCells.{is_coarse_fine, is_register_cell}
use Rattle.amr_register.specs.Laws.{net_of_all}
use Rattle.amr_register.proofs.CellLists.{of_level}
use Rattle.amr_register.proofs.CollectLaws.{none_covered}
use Rattle.amr_register.proofs.Homes.{HasSize, home_inside, size_at}
use Rattle.amr_register.proofs.NetOver.{high_tells}
use Rattle.amr_register.proofs.OwnedFlows.{low_face_of_box}
use Rattle.amr_register.proofs.PatchSums.{net-all, no_sum, one_there}

-- ---- the flux through a face that stands for another

twice : (s : Bool) (n : ℕ) (z : ℤ) → 0 < n → wrapped s n (wrapped s n z) ≡ wrapped s n z
twice s n z some = ap (wrapped s n) (sym (plus (wrapped s n z))) ∙ wrapped_shift s n z (pos 0) 1 some refl ∙ ap (wrapped s n) (plus z)
  where
    plus : (z : ℤ) → z +ℤ pos 0 ≡ z
    plus z = omega (arith, ints)

before : (s : Bool) (n : ℕ) (z : ℤ) → 0 < n → wrapped s n (wrapped s n z -ℤ pos 1) ≡ wrapped s n (z -ℤ pos 1)
before s n z some = ap (wrapped s n) (minus_one (wrapped s n z)) ∙ wrapped_shift s n z (negsuc 0) 0 some refl ∙ ap (wrapped s n) (sym (minus_one z))

pub low_home : (d : Domain) (a : Axis) (x y : ℤ) → HasSize d → home_cell d (low_cell (home_face d (face a x y))) ≡ home_cell d (low_cell (face a x y))
low_home d X x y size = same_cell (before d.wrap_x d.columns x size.some_columns) (twice d.wrap_y d.rows y size.some_rows)
low_home d Y x y size = same_cell (twice d.wrap_x d.columns x size.some_columns) (before d.wrap_y d.rows y size.some_rows)

pub same_flux : (p : Problem) (l : ℕ) (m old : Masses) (a : Axis) (x y : ℤ) → HasSize (domain p l) → flux_at p l m old (home_face (domain p l) (face a x y)) ≡ flux_at p l m old (face a x y)
unfolding flux_at courant
same_flux p l m old a x y size =
    let d = domain p l in
    let high : home_cell d (home_cell d (cell x y)) ≡ home_cell d (cell x y) = same_cell (twice d.wrap_x d.columns x size.some_columns) (twice d.wrap_y d.rows y size.some_rows) in
    (λ i. flow (courant_in p l a (high i)) p.d (value_same p l m old (low_cell (home_face d (face a x y))) (low_cell (face a x y)) (low_home d a x y size) i) (value_same p l m old (home_cell d (cell x y)) (cell x y) high i))

-- ---- each edge

net-same : (a b : Fluxes) (c : Cell) → a (low_face X c) ≡ b (low_face X c) → a (high_face X c) ≡ b (high_face X c) → a (low_face Y c) ≡ b (low_face Y c) → a (high_face Y c) ≡ b (high_face Y c) → net a c ≡ net b c
unfolding net
net-same a b c west east south north i = (west i -ℤ east i) +ℤ (south i -ℤ north i)

module _ (p : Problem) (l : ℕ) (k fine : Level) (old : Masses) (ps : List Patch) (few : l ≤ 3) (klevel : IsLevel p l k) (flevel : IsLevel p (suc l) fine) (nested : IsNestedLevel p l k fine) (apart : ArePatchesApart ps) (of_patches : masses_in ps ≡ k.masses) (shown : All (ShowsValues p l k.masses old) ps) where
  size : HasSize (domain p l)
  size = size_at p l (omega arith)

  at_edge : (a : Axis) (x y : ℤ) → is_coarse_fine (domain p l) fine.masses (face a x y) ≡ true → is_some (k.masses (home_cell (domain p l) (cell x y))) ≡ true → sum_over (λ q. coarse_flows p l fine.masses q (face a x y)) ps ≡ flux_at p l k.masses old (face a x y)
  unfolding coarse_flows
  at_edge a x y edge some =
      let d = domain p l in
      let h = home_cell d (cell x y) in
      let v : Patch → ℤ = λ q. flux_beside p l q (home_face d (face a x y)) in
      let in_one : in_patches ps h ≡ true = true_from_ne_false (in_patches ps h) (none_here ps h (ap (λ (m : Masses). is_some (m h)) of_patches ∙ some)) in
      let one = Any-from_list_any (λ q. holds (box q) h) ps in_one in
      let q = one.1 in
      let held : holds (box (slice_index_or ps one.0 q)) h ≡ true = ap (λ (r : Patch). holds (box r) h) one.3 ∙ one.4 in
      ap (λ (b : Bool). sum_over (λ r. cond (b && holds (box r) h) (v r) (pos 0)) ps) edge
      ∙ one_there h v ps one.0 q apart one.2 held
      ∙ flux_is p l k.masses old (slice_index_or ps one.0 q) (shown one.0 q one.2) (home_face d (face a x y)) (low_face_of_box (box (slice_index_or ps one.0 q)) a h held)
      ∙ same_flux p l k.masses old a x y size

  each_face : (a : Axis) (x y : ℤ) (t : Bool) → is_coarse_fine (domain p l) fine.masses (face a x y) ≡ t → (t ≡ true → is_some (k.masses (home_cell (domain p l) (cell x y))) ≡ true) → sum_over (λ q. coarse_flows p l fine.masses q (face a x y)) ps ≡ edge_flows p l k.masses old fine.masses (face a x y)
  unfolding coarse_flows edge_flows
  each_face a x y true e some = at_edge a x y e (some refl) ∙ sym (cond-true _ _ _ e)
  each_face a x y false e some =
      no_sum (λ q. coarse_flows p l fine.masses q (face a x y)) ps (λ q. ap (λ (b : Bool). cond (b && has_high_cell (domain p l) (box q) (face a x y)) (flux_beside p l q (home_face (domain p l) (face a x y))) (pos 0)) e)
      ∙ sym (cond-false _ _ _ e)

  module _ (c : Cell) (passes : is_register_cell (domain p l) k.masses fine.masses c ≡ true) where
    inside_c : in_domain (domain p l) c ≡ true
    inside_c = klevel.inside c (sym (klevel.filled c) ∙ of_level (domain p l) k.masses fine.masses c passes)

    free : is_covered fine.masses c ≡ false
    free = false_from_ne_true (is_covered fine.masses c) (λ h. none_covered (domain p l) k.masses fine.masses c h passes)

    itself : is_some (k.masses (home_cell (domain p l) c)) ≡ true
    itself = ap (λ (q : Cell). is_some (k.masses q)) (home_inside (domain p l) c inside_c) ∙ of_level (domain p l) k.masses fine.masses c passes

    -- the cell on the high side of an edge at the high side of c is covered, so it is one of the level
    beyond : (a : Axis) (x y : ℤ) → home_cell (domain p l) (low_cell (face a x y)) ≡ c → is_coarse_fine (domain p l) fine.masses (face a x y) ≡ true → is_some (k.masses (home_cell (domain p l) (cell x y))) ≡ true
    unfolding is_coarse_fine
    beyond a x y low e =
        covered_there p l k fine klevel flevel nested (home_cell (domain p l) (cell x y))
        (sym (high_tells (is_covered fine.masses (home_cell (domain p l) (low_cell (face a x y)))) (is_covered fine.masses (home_cell (domain p l) (cell x y))) (ap (is_covered fine.masses) low ∙ free)) ∙ e)

    low_x : home_cell (domain p l) (low_cell (high_face X c)) ≡ c
    low_x = ap (home_cell (domain p l)) (same_cell (more_and_less c.x) refl) ∙ home_inside (domain p l) c inside_c

    low_y : home_cell (domain p l) (low_cell (high_face Y c)) ≡ c
    low_y = ap (home_cell (domain p l)) (same_cell refl (more_and_less c.y)) ∙ home_inside (domain p l) c inside_c

    pub taken_once : net_of_all p l fine.masses ps c ≡ net (edge_flows p l k.masses old fine.masses) c
    taken_once =
        net-all p l fine.masses ps c
        ∙ net-same (λ f. sum_over (λ q. coarse_flows p l fine.masses q f) ps) (edge_flows p l k.masses old fine.masses) c
        (each_face X c.x c.y _ refl (λ e. itself))
        (each_face X (c.x +ℤ pos 1) c.y _ refl (λ e. beyond X (c.x +ℤ pos 1) c.y low_x e))
        (each_face Y c.x c.y _ refl (λ e. itself))
        (each_face Y c.x (c.y +ℤ pos 1) _ refl (λ e. beyond Y c.x (c.y +ℤ pos 1) low_y e))
