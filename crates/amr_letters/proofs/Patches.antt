-- The patches of a level whose frames are filled one after another.
use Rattle.std.proofs.Common.{◌≡◌, ◌≢◌, ◌∙◌, ℕ, ◌+◌, ◌<◌, List, length, get_or, set, IsTrue, refl, sym, subst, arith, below_more}
use Rattle.std.specs.List.{AllZip}
use Rattle.std.proofs.lemmas.List.{get_or-set_other, get_or-set_same}
use Rattle.std.proofs.lemmas.List.Elements.{AllZip-get_or, length_all_zip}
use Rattle.amr_box.specs.Cells.{Extent}
use Rattle.amr_def.specs.declared.problem.Problem.{Problem}
use Rattle.amr_def.specs.State.{Masses}
use Rattle.amr_patch.specs.declared.patches.Patch.{Patch}
use Rattle.amr_patch.specs.Places.{in_frame}
use Rattle.amr_patch.specs.Patches.{box}
use Rattle.amr_ghost.specs.Frames.{HasGhostValues}
use Rattle.amr_ghost.proofs.Zips.{keeps_refl, keeps_trans, zip_refl, zip_set, zip_trans}
use Rattle.amr_ranks.specs.Nodes.{NodeOf}
use Rattle.amr_letters.specs.Told.{TellsFrame}
use Rattle.amr_letters.specs.Filled.{KeepsAllButValues}

kept_refl : (q : Patch) → KeepsAllButValues q q
kept_refl q = record { cells = keeps_refl q; marks = λ c frame. refl }

kept_trans : (p q r : Patch) → KeepsAllButValues p q → KeepsAllButValues q r → KeepsAllButValues p r
kept_trans p q r h k = record {
  cells = keeps_trans p q r h.cells k.cells;
  marks = λ c frame. k.marks c (subst (λ (b : Extent). IsTrue (in_frame b c)) (sym h.cells.of_box) frame) ∙ h.marks c frame;
}

pub all_kept : (ps : List Patch) → AllZip KeepsAllButValues ps ps
all_kept ps = zip_refl KeepsAllButValues kept_refl ps

-- one more patch is filled
module _ (ps qs : List Patch) (k : ℕ) (q r : Patch) (there : k < length qs) (kept : AllZip KeepsAllButValues ps qs) where
  pub one_kept : KeepsAllButValues (get_or qs k q) r → AllZip KeepsAllButValues ps (set qs k r)
  one_kept h = zip_trans KeepsAllButValues kept_trans ps qs (set qs k r) kept (zip_set KeepsAllButValues kept_refl qs k q r h)

  pub first_there : k < length ps
  first_there = let e = length_all_zip KeepsAllButValues ps qs kept in omega (arith, e, there)

  same_box : box (get_or ps k q) ≡ box (get_or qs k q)
  same_box = sym (AllZip-get_or KeepsAllButValues ps qs k q q kept first_there).cells.of_box

  module _ (p : Problem) (l : ℕ) (m old : Masses) (node : NodeOf) (tells : TellsFrame p l m old k (box (get_or ps k q)) node) (filled : (j : ℕ) (d : Patch) → j < k → HasGhostValues p l m old (get_or qs j d)) (now : TellsFrame p l m old k (box (get_or qs k q)) node → HasGhostValues p l m old r) where
    before : (j : ℕ) → j < k → (d : Patch) → HasGhostValues p l m old (get_or (set qs k r) j d)
    before j t d =
        let other : j ≢ k = λ e. omega (arith, e, t) in
        subst (λ (x : Patch). HasGhostValues p l m old x) (sym (get_or-set_other qs k j r d other)) (filled j d t)

    this : (d : Patch) → HasGhostValues p l m old (get_or (set qs k r) k d)
    this d = subst (λ (x : Patch). HasGhostValues p l m old x) (sym (get_or-set_same qs k r d there)) (now (subst (λ (b : Extent). TellsFrame p l m old k b node) same_box tells))

    pub one_filled : (j : ℕ) (d : Patch) → j < k + 1 → HasGhostValues p l m old (get_or (set qs k r) j d)
    one_filled j d lt = below_more (λ i. (e : Patch) → HasGhostValues p l m old (get_or (set qs k r) i e)) k before this j (omega (arith, lt)) d
