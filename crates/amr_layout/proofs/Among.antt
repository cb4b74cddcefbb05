-- Some of a level's patches.
use Rattle.std.proofs.Common.{◌≡◌, ℕ, suc, ◌<◌, Bool, true, false, ◌||◌, List, [], ◌∷◌, length, get_or, IsTrue, refl, sym, ap, subst, ◌∙◌, zero, arith}
use Rattle.std.specs.List.{All, Contains, flat_map}
use Rattle.std.specs.declared.option.Option.TheVariants.{Some}
use Rattle.amr_box.specs.declared.Cell.{Cell}
use Rattle.amr_box.specs.Cells.{holds}
use Rattle.amr_def.specs.Domain.{Domain, in_domain}
use Rattle.amr_patch.specs.declared.patches.Patch.{Patch}
use Rattle.amr_patch.specs.Patches.{ArePatchesApart, box, in_patches, mass_in, masses_in}
use Rattle.amr_patch.proofs.Lookups.{holder, in_one, masses_in-at}
use Rattle.amr_layout.specs.Adds.{HasCellsBeyond, HasRegisterCells, cell_beyond, flows_of, goes_on, is_ledger_face, word_of}
use Rattle.amr_layout.specs.LevelFlowLists.{level_flows}
use Rattle.amr_layout.specs.Surroundings.{AreAmong, Around, among, edge_face, is_coarse_fine, is_open}

-- all of them are
pub all_among : (ps : List Patch) → AreAmong ps ps
all_among ps = λ k q lt. (k, lt, same ps k q lt)
  where
    same : (ps : List Patch) (k : ℕ) (q : Patch) → k < length ps → get_or ps k (get_or ps k q) ≡ get_or ps k q
    same [] k q lt = absurd (omega (arith, lt))
    same (p ∷ ps) zero q lt = refl
    same (p ∷ ps) (suc k) q lt = same ps k q (omega (arith, lt))

-- a patch of the level has the level's masses
pub mass_among : (whole : List Patch) (q : Patch) → ArePatchesApart whole → Contains whole q → (c : Cell) → IsTrue (holds (box q) c) → masses_in whole c ≡ Some (mass_in q c)
mass_among whole q apart there c held =
    masses_in-at whole c there.0 q apart (holder whole c there.0 q there.1 (sym there.2) held) ∙ ap (λ (r : Patch). Some (mass_in r c)) there.2

-- and its cells are the level's
pub in_whole : (whole ps : List Patch) → AreAmong whole ps → (c : Cell) → IsTrue (in_patches ps c) → IsTrue (in_patches whole c)
in_whole whole [] among c h = absurd (no h)
  where
    no : {X : Type 0} → false ≡ true → X
    no e = cc
in_whole whole (q ∷ ps) among c h = by_case (holds (box q) c) refl (in_whole whole ps (λ k d lt. among (suc k) d (omega (arith, lt))) c) h
  where
    by_case : (t : Bool) → holds (box q) c ≡ t → (IsTrue (in_patches ps c) → IsTrue (in_patches whole c)) → IsTrue (t || in_patches ps c) → IsTrue (in_patches whole c)
    by_case true held rest h = let there = among 0 q (omega arith) in in_one whole c there.0 (holder whole c there.0 q there.1 (sym there.2) held)
    by_case false held rest h = rest h

-- so they lie in the domain where all of the level does
pub inside_among : (d : Domain) (whole ps : List Patch) → AreAmong whole ps → ((c : Cell) → IsTrue (in_patches whole c) → IsTrue (in_domain d c)) → (c : Cell) → IsTrue (in_patches ps c) → IsTrue (in_domain d c)
inside_among d whole ps among inside c h = inside c (in_whole whole ps among c h)

-- ---- where their flows go: as the level has it

pub coarse_fine_among : (s : Around) (qs : List Patch) → is_coarse_fine (among s qs) ≡ is_coarse_fine s
unfolding is_coarse_fine
coarse_fine_among s qs = refl

pub beyond_among : (s : Around) (qs : List Patch) → cell_beyond (among s qs) ≡ cell_beyond s
unfolding cell_beyond
beyond_among s qs = refl

pub flows_among : (s : Around) (qs : List Patch) → flows_of (among s qs) ≡ flows_of s
unfolding flows_of goes_on word_of is_ledger_face is_coarse_fine cell_beyond is_open
flows_among s qs = refl

pub level_flows_among : (s : Around) (qs rs : List Patch) → level_flows (among s qs) rs ≡ level_flows s rs
unfolding level_flows
level_flows_among s qs rs = λ i. flat_map (λ (q : Patch). flows_among s qs i (box q)) rs

-- and the register has the cells beyond their edges
pub register_cells_among : (s : Around) (qs : List Patch) → HasRegisterCells s → All (λ q. HasCellsBeyond s (box q)) qs → HasRegisterCells (among s qs)
register_cells_among s qs h each = record {
  ordered = h.ordered;
  inside = h.inside;
  each = λ k q lt n below edge.
      let here = each k q lt n below (ap (λ f. f (box (get_or qs k q)) (edge_face (box (get_or qs k q)) n)) (sym (coarse_fine_among s qs)) ∙ edge) in
      subst (λ f. Contains s.cells (f (box (get_or qs k q)) (edge_face (box (get_or qs k q)) n))) (sym (beyond_among s qs)) here;
}
