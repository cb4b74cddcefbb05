-- What a patch takes from the entry of a register cell is the net flow through those of its coarse-fine edges that it owns.
use Rattle.std.proofs.Common.{◌≡◌, ◌∙◌, ℕ, ◌<◌, Bool, true, false, cond, ℤ, pos, ◌+ℤ◌, ◌-ℤ◌, List, length, sym, ap, subst, arith}
use Rattle.std.specs.Prelude.{not, slice_index_or}
use Rattle.std.specs.List.{Contains}
use Rattle.std.proofs.lemmas.Int.{ints}
use Rattle.std.proofs.lemmas.Bool.{false_from_ne_true}
use Rattle.amr_box.specs.declared.Cell.{Cell}
use Rattle.amr_box.specs.declared.Axis.TheVariants.{X, Y}
use Rattle.amr_box.specs.Cells.{cell}
use Rattle.amr_def.specs.declared.problem.Problem.{Problem}
use Rattle.amr_def.specs.Domain.{domain, home_cell, in_domain}
use Rattle.amr_def.specs.State.{Masses, is_covered}
use Rattle.amr_def.specs.Flux.{net}
use Rattle.amr_patch.specs.declared.patches.Patch.{Patch}
use Rattle.amr_register.specs.declared.sides.CoveredSides.{CoveredSides}
use Rattle.amr_register.specs.declared.register.Register.{Register}
use Rattle.amr_register.specs.RegisterCells.{is_coarse_fine, is_register_cell}
use Rattle.amr_register.specs.Beside.{HasSides}
use Rattle.amr_register.specs.Entries.{AreRising, entry_at}
use Rattle.amr_register.specs.CoarseFlows.{coarse_flows, high_face, low_face, net_owned, owned_flow}
use Rattle.amr_register.specs.Fields.{IsRegisterOf, cells_in, sides_in}
use Rattle.amr_register.proofs.CellLists.{where_inside, where_passes}
use Rattle.amr_register.proofs.CollectLaws.{none_covered}
use Rattle.amr_register.proofs.EntryLaws.{entry_of_place}
use Rattle.amr_register.proofs.Homes.{home_inside}
use Rattle.amr_register.proofs.Taken.{no_sides}

-- a face between covered cells or none is no edge: which side counts
pub low_tells : (low high : Bool) → high ≡ false → cond low (not high) high ≡ low
low_tells true high e = ap not e
low_tells false high e = e

pub high_tells : (low high : Bool) → low ≡ false → cond low (not high) high ≡ high
high_tells low high e = ap (λ (b : Bool). cond b (not high) high) e

module _ (p : Problem) (l : ℕ) (fine : Masses) (c : Cell) (s : CoveredSides) (inside : in_domain (domain p l) c ≡ true) (free : is_covered fine c ≡ false) (sides : HasSides (domain p l) (is_covered fine) c s) where
  here : is_covered fine (home_cell (domain p l) c) ≡ false
  here = ap (is_covered fine) (home_inside (domain p l) c inside) ∙ free

  back_x : is_covered fine (home_cell (domain p l) (cell (c.x +ℤ pos 1 -ℤ pos 1) c.y)) ≡ false
  back_x = ap (λ (z : ℤ). is_covered fine (home_cell (domain p l) (cell z c.y))) (omega (arith, ints)) ∙ here

  back_y : is_covered fine (home_cell (domain p l) (cell c.x (c.y +ℤ pos 1 -ℤ pos 1))) ≡ false
  back_y = ap (λ (z : ℤ). is_covered fine (home_cell (domain p l) (cell c.x z))) (omega (arith, ints)) ∙ here

  pub west : s.west ≡ is_coarse_fine (domain p l) fine (low_face X c)
  unfolding is_coarse_fine
  west = sides.west ∙ sym (low_tells _ _ here)

  pub south : s.south ≡ is_coarse_fine (domain p l) fine (low_face Y c)
  unfolding is_coarse_fine
  south = sides.south ∙ sym (low_tells _ _ here)

  pub east : s.east ≡ is_coarse_fine (domain p l) fine (high_face X c)
  unfolding is_coarse_fine
  east = sides.east ∙ sym (high_tells _ _ back_x)

  pub north : s.north ≡ is_coarse_fine (domain p l) fine (high_face Y c)
  unfolding is_coarse_fine
  north = sides.north ∙ sym (high_tells _ _ back_y)

  pub net_of_edges : (q : Patch) → net_owned p l q s c ≡ net (coarse_flows p l fine q) c
  unfolding net coarse_flows
  net_of_edges q i = (owned_flow p l q (west i) (low_face X c) -ℤ owned_flow p l q (east i) (high_face X c)) +ℤ (owned_flow p l q (south i) (low_face Y c) -ℤ owned_flow p l q (north i) (high_face Y c))

-- the same of lists that are these
pub along : (part : CoveredSides → Cell → ℤ) (cs cs' : List Cell) (ss ss' : List CoveredSides) (es es' new : List ℤ) → cs' ≡ cs → ss' ≡ ss → es' ≡ es
    → ((k : ℕ) (c : Cell) (s : CoveredSides) → k < length cs' → slice_index_or new k (pos 0) ≡ slice_index_or es' k (pos 0) -ℤ part (slice_index_or ss' k s) (slice_index_or cs' k c))
    → (k : ℕ) (c : Cell) (s : CoveredSides) → k < length cs → slice_index_or new k (pos 0) ≡ slice_index_or es k (pos 0) -ℤ part (slice_index_or ss k s) (slice_index_or cs k c)
along part cs cs' ss ss' es es' new e f g h k c s lt =
    h k c s (subst (λ (xs : List Cell). k < length xs) (sym e) lt) ∙ (λ i. slice_index_or (g i) k (pos 0) -ℤ part (slice_index_or (f i) k s) (slice_index_or (e i) k c))

-- the entry of a register cell after a patch has taken its part
pub parts_taken : (p : Problem) (l : ℕ) (m fine : Masses) (q : Patch) (r : Register) (es es' : List ℤ) → IsRegisterOf p l m fine r → AreRising (cells_in r) → length es ≡ length (cells_in r) → length es' ≡ length (cells_in r)
    → ((k : ℕ) (c : Cell) (s : CoveredSides) → k < length (cells_in r) → slice_index_or es' k (pos 0) ≡ slice_index_or es k (pos 0) -ℤ net_owned p l q (slice_index_or (sides_in r) k s) (slice_index_or (cells_in r) k c))
    → (c : Cell) → Contains (cells_in r) c → entry_at (cells_in r) es' c ≡ entry_at (cells_in r) es c -ℤ net (coarse_flows p l fine q) c
parts_taken p l m fine q r es es' of rises count count' taken c (k, lt, at) =
    let d = domain p l in
    let test = is_register_cell d m fine in
    let s : CoveredSides = slice_index_or (sides_in r) k no_sides in
    let listed = subst (λ (cs : List Cell). Contains cs c) of.cells (k, lt, at) in
    let passes = where_passes d test c listed in
    let free = false_from_ne_true (is_covered fine c) (λ h. none_covered d m fine c h passes) in
    let sides = subst (λ (x : Cell). HasSides d (is_covered fine) x s) at (of.sides k c no_sides lt) in
    let was = sym (ap (entry_at (cells_in r) es) at) ∙ entry_of_place (cells_in r) es k c rises count lt in
    let is = sym (ap (entry_at (cells_in r) es') at) ∙ entry_of_place (cells_in r) es' k c rises count' lt in
    is ∙ taken k c no_sides lt ∙ (λ i. sym was i -ℤ (ap (net_owned p l q s) at ∙ net_of_edges p l fine c s (where_inside d test c listed) free sides q) i)
