-- What the patches of a level add to the words of the ledger.
use Rattle.std.proofs.Common.{◌≡◌, ℕ, ◌+◌, Bool, true, false, ◌&&◌, cond, ℤ, pos, ◌-ℤ◌, is_some, refl, ap, ◌∙◌}
use Rattle.std.specs.Prelude.{not, slice_index_or}
use Rattle.amr_box.specs.declared.Cell.{Cell}
use Rattle.amr_box.specs.declared.Face.{Face}
use Rattle.amr_box.specs.declared.Axis.TheVariants.{X, Y}
use Rattle.amr_box.specs.Cells.{Extent, at_least_zero, cell}
use Rattle.amr_def.specs.declared.problem.Sides.{Sides}
use Rattle.amr_def.specs.declared.problem.Sides.TheVariants.{Periodic, Open}
use Rattle.amr_def.specs.Domain.{columns, is_periodic, rows}
use Rattle.amr_def.specs.State.{Masses, is_covered}
use Rattle.amr_def.specs.Flux.{Fluxes, face, flux_at}
use Rattle.amr_def.specs.Ledger.{below_zero, if_open, sum_to}
use Rattle.amr_laws.specs.Sides.{inflow_beside, is_uncovered, outflow_beside, x_beside, y_beside}
use Rattle.amr_laws.proofs.Sides.{sum_same}
use Rattle.amr_patch.specs.declared.patches.Patch.{Patch}
use Rattle.amr_patch.specs.Patches.{box, in_patches}
use Rattle.amr_phase.specs.Plans.{total}
use Rattle.amr_layout.specs.Surroundings.{Around, around_masses, edge_count, edge_face}
use Rattle.amr_layout.specs.Adds.{flows_of, word_total}
use Rattle.amr_flows.specs.Words.{level_total}
use Rattle.amr_flows.specs.Laws.{ArePatchesOf, InflowIsOfLevel, OutflowIsOfLevel, plain_size}
use Rattle.amr_layout.proofs.Totals.{total_add, total_each}
use Rattle.amr_flows.proofs.LedgerFlowsSums.{cells_total, sum_none}
use Rattle.amr_flows.proofs.LedgerFlowsWays.{IsWay, is_in, is_out, way_in, way_out}
use Rattle.amr_flows.proofs.LedgerFlowsOpen.{placed}
use Rattle.amr_flows.proofs.LedgerFlowsSides.{side_flow, way_size}
use Rattle.amr_flows.proofs.LedgerFlowsBoxes.{east_sum, first_word, north_sum, on_edges, second_word, side_sum, south_sum, west_sum}

axis_sum : (sides : Sides) (a b : ℕ) → cond (is_periodic sides) 0 a + cond (is_periodic sides) 0 b ≡ if_open sides (a + b)
axis_sum Periodic a b = refl
axis_sum (Open low high) a b = refl

both_axes : (xs ys : Sides) (a b c d : ℕ) → (cond (is_periodic xs) 0 a + cond (is_periodic xs) 0 b) + (cond (is_periodic ys) 0 c + cond (is_periodic ys) 0 d) ≡ if_open xs (a + b) + if_open ys (c + d)
both_axes xs ys a b c d i = axis_sum xs a b i + axis_sum ys c d i

module _ (s : Around) (m : Masses) (of : ArePatchesOf s.problem s.level m s.patches) (e : Fluxes) where
  -- one side of the domain, over all patches
  one_side : (wraps : Bool) (part : ℤ → ℕ) (at : ℕ → Cell) (g : ℕ → Face) (n : ℕ)
      → total (λ (q : Patch). side_sum s e wraps part at g n (box q)) s.patches ≡ cond wraps 0 (sum_to (λ y. cond (is_uncovered m s.finer (at y)) (part (e (g y))) 0) n)
  one_side wraps part at g n = cells_total s.patches of.apart at (λ y. side_flow s e wraps part (at y) (g y)) n ∙ from wraps
    where
      nothing : (t : Bool) → cond {A = ℕ} t 0 0 ≡ 0
      nothing true = refl
      nothing false = refl

      both : (a b : Bool) (v : ℕ) → cond a (cond b v 0) 0 ≡ cond (a && b) v 0
      both true b v = refl
      both false b v = refl

      from : (w : Bool) → sum_to (λ y. cond (in_patches s.patches (at y)) (side_flow s e w part (at y) (g y)) 0) n ≡ cond w 0 (sum_to (λ y. cond (is_uncovered m s.finer (at y)) (part (e (g y))) 0) n)
      from true = sum_none _ n (λ y lt. nothing (in_patches s.patches (at y)))
      from false = sum_same _ _ n (λ y lt. ap (λ (t : Bool). cond t (cond (not (is_covered s.finer (at y))) (part (e (g y))) 0) 0) (of.cells (at y)) ∙ both (is_some (m (at y))) (not (is_covered s.finer (at y))) (part (e (g y))))

  pub four_sides : (low high : ℤ → ℕ)
      → total (λ (q : Patch). (west_sum s e low (box q) + east_sum s e high (box q)) + (south_sum s e low (box q) + north_sum s e high (box q))) s.patches
      ≡ if_open s.problem.x_sides (x_beside s.problem s.level (is_uncovered m s.finer) low high e) + if_open s.problem.y_sides (y_beside s.problem s.level (is_uncovered m s.finer) low high e)
  four_sides low high =
      let wraps_x : Bool = is_periodic s.problem.x_sides in
      let wraps_y : Bool = is_periodic s.problem.y_sides in
      let n : ℕ = columns s.problem s.level in
      let k : ℕ = rows s.problem s.level in
      let west = one_side wraps_x low (λ y. cell (pos 0) (pos y)) (λ y. face X (pos 0) (pos y)) k in
      let east = one_side wraps_x high (λ y. cell (pos n -ℤ pos 1) (pos y)) (λ y. face X (pos n) (pos y)) k in
      let south = one_side wraps_y low (λ x. cell (pos x) (pos 0)) (λ x. face Y (pos x) (pos 0)) n in
      let north = one_side wraps_y high (λ x. cell (pos x) (pos k -ℤ pos 1)) (λ x. face Y (pos x) (pos k)) n in
      total_add (λ (q : Patch). west_sum s e low (box q) + east_sum s e high (box q)) (λ (q : Patch). south_sum s e low (box q) + north_sum s e high (box q)) s.patches
      ∙ (λ i. total_add (λ (q : Patch). west_sum s e low (box q)) (λ (q : Patch). east_sum s e high (box q)) s.patches i + total_add (λ (q : Patch). south_sum s e low (box q)) (λ (q : Patch). north_sum s e high (box q)) s.patches i)
      ∙ (λ i. (west i + east i) + (south i + north i))
      ∙ both_axes s.problem.x_sides s.problem.y_sides _ _ _ _

module _ (s : Around) (m old : Masses) (of : ArePatchesOf s.problem s.level m s.patches) (sign : ℤ → Bool) (low high : ℤ → ℕ) (way : IsWay sign low high) where
  abbrev e : Fluxes
  e = flux_at s.problem s.level m old

  -- a word to which the flows of one way go
  of_level : (word : ℕ) → ((b : Extent) → word_total (plain_size s.problem s.level m old) word (flows_of s b) ≡ sum_to (λ n. way_size s e sign b (edge_face b n)) (edge_count b))
      → level_total s (plain_size s.problem s.level m old) word ≡ if_open s.problem.x_sides (x_beside s.problem s.level (is_uncovered m s.finer) low high e) + if_open s.problem.y_sides (y_beside s.problem s.level (is_uncovered m s.finer) low high e)
  of_level word goes =
      total_each (λ (q : Patch). word_total (plain_size s.problem s.level m old) word (flows_of s (box q)))
      (λ (q : Patch). (west_sum s e low (box q) + east_sum s e high (box q)) + (south_sum s e low (box q) + north_sum s e high (box q))) s.patches
      (λ k d lt. let q : Patch = slice_index_or s.patches k d in goes (box q) ∙ on_edges s m old sign low high way (box q) (placed s.problem s.level (box q) q.near (of.inside k d lt)))
      ∙ four_sides s m of e low high

pub inflow_of_level : InflowIsOfLevel
unfolding inflow_beside
inflow_of_level p l m old fine ps cells of =
    let s : Around = around_masses p l ps cells fine in
    of_level s m old of is_in at_least_zero below_zero way_in 0 (first_word s m old)

pub outflow_of_level : OutflowIsOfLevel
unfolding outflow_beside
outflow_of_level p l m old fine ps cells of =
    let s : Around = around_masses p l ps cells fine in
    of_level s m old of is_out below_zero at_least_zero way_out 1 (second_word s m old)
