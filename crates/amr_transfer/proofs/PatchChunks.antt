-- Lists of patches that were gone over chunk by chunk.
use Rattle.std.proofs.Common.{◌≡◌, ◌∙◌, ℕ, suc, ◌+◌, ◌<◌, List, [], ◌∷◌, length, get_or, IsTrue, sym, ap, subst, arith}
use Rattle.std.specs.Prelude.{slice_index_or}
use Rattle.std.specs.Fork.{IsChunk}
use Rattle.std.proofs.lemmas.List.Folds.{Any-from_list_any, list_any_at}
use Rattle.amr_box.specs.declared.Cell.{Cell}
use Rattle.amr_box.specs.Cells.{holds}
use Rattle.amr_patch.specs.declared.patches.Patch.{Patch}
use Rattle.amr_patch.specs.Pairwise.{Pairwise}
use Rattle.amr_patch.specs.Patches.{box, in_patches}
use Rattle.amr_patch.proofs.LevelLaws.{pairwise_at, pairwise_length}

-- a cell of a chunk is one of the list
pub in_chunk : (ps qs : List Patch) (size start : ℕ) (c : Cell) → IsChunk ps size start qs → IsTrue (in_patches qs c) → IsTrue (in_patches ps c)
in_chunk ps qs size start c chunk h =
    let has = λ (q : Patch). holds (box q) c in
    let found = Any-from_list_any has qs h in
    list_any_at has ps (start + found.0) found.1 (omega (arith, found.2, chunk.in_bounds)) (ap has (sym (chunk.elements found.0 found.1 found.2) ∙ found.3) ∙ found.4)

-- what holds of a chunk's patches at a place holds of the list's at theirs
pub pair_at : (R : Patch → Patch → Type 0) (ps qs vs ws : List Patch) (i j : ℕ) (d : Patch) → get_or vs j d ≡ slice_index_or ps i d → get_or ws j d ≡ slice_index_or qs i d → j < length vs → Pairwise R vs ws → R (slice_index_or ps i d) (slice_index_or qs i d)
pair_at R ps qs vs ws i j d old new lt h =
    subst (λ (p : Patch). R p (slice_index_or qs i d)) old (subst (λ (q : Patch). R (get_or vs j d) q) new (pairwise_at R vs ws j d d h (omega (arith, lt, pairwise_length R vs ws h))))

-- two lists of the same length, by their places
pub pairwise_by : (R : Patch → Patch → Type 0) (ps qs : List Patch) → length qs ≡ length ps → ((i : ℕ) (d : Patch) → i < length ps → R (slice_index_or ps i d) (slice_index_or qs i d)) → Pairwise R ps qs
pairwise_by R [] [] len h = tt
pairwise_by R [] (q ∷ qs) len h = absurd (omega (arith, len))
pairwise_by R (p ∷ ps) [] len h = absurd (omega (arith, len))
pairwise_by R (p ∷ ps) (q ∷ qs) len h = (h 0 p (omega arith), pairwise_by R ps qs (omega (arith, len)) (λ i d lt. h (suc i) d (omega (arith, lt))))
