-- Patches that show the values of their level: they may make their step, and what flows by their values is the level's.
use Rattle.std.proofs.Common.{◌≡◌, ◌∙◌, ℕ, suc, ◌+◌, ◌^◌, ◌<◌, ◌≤◌, true, pos, ◌+ℤ◌, ◌≤ℤ◌, ◌<ℤ◌, List, [], ◌∷◌, get_or, IsSome, refl, sym, ap, subst, arith}
use Rattle.std.specs.Prelude.{◌==◌, if◌then◌else◌, unsigned_abs}
use Rattle.std.specs.declared.option.Option.{Option}
use Rattle.std.specs.declared.option.Option.TheVariants.{Some}
use Rattle.std.specs.List.{All, AllZip}
use Rattle.std.specs.Option.{unwrap_or}
use Rattle.amr_box.specs.declared.Cell.{Cell}
use Rattle.amr_box.specs.declared.Face.{Face}
use Rattle.amr_box.specs.Cells.{Extent, holds}
use Rattle.amr_def.specs.declared.problem.Problem.{Problem}
use Rattle.amr_def.specs.Domain.{domain}
use Rattle.amr_def.specs.State.{Masses, mass_of}
use Rattle.amr_def.specs.Flux.{flux_at, net}
use Rattle.amr_patch.specs.declared.patches.Patch.{Patch}
use Rattle.amr_patch.specs.Patches.{box, mass_in}
use Rattle.amr_patch.specs.Places.{is_face_of}
use Rattle.amr_faces.specs.Faces.{IsInDomain, ShowsValues, flux_beside}
use Rattle.amr_faces.proofs.EdgeFaces.{edge_is_face}
use Rattle.amr_faces.proofs.Shown.{flux_is, net_alike}
use Rattle.amr_ghost.specs.Frames.{SameMasses}
use Rattle.amr_layout.specs.declared.FlowTo.{FlowTo}
use Rattle.amr_layout.specs.Adds.{size_to, word_total}
use Rattle.amr_lots.specs.Lots.{AreEdgeFlows, HasStepped, IsStepped, LevelStepFits, MayStep, adds_to, lot_total}
use Rattle.amr_lots.specs.Works.{flows_to}
use Rattle.amr_layout.proofs.Totals.{total_each}

-- ---- one patch

module _ (p : Problem) (l : ℕ) (m old : Masses) (q : Patch) (shows : ShowsValues p l m old q) where
  pub plain_at : (f : Face) → is_face_of (box q) f ≡ true → flux_beside p l q f ≡ flux_at p l m old f
  plain_at f h = flux_is p l m old q shows f h

  pub size_at : (f : Face) → is_face_of (box q) f ≡ true → unsigned_abs (flux_beside p l q f) ≡ unsigned_abs (flux_at p l m old f)
  size_at f h = ap unsigned_abs (plain_at f h)

  module _ (here : (c : Cell) → holds (box q) c ≡ true → m c ≡ Some (mass_in q c)) where
    -- its masses to come are the level's
    sum_is : (c : Cell) → holds (box q) c ≡ true → pos (mass_in q c) +ℤ net (flux_beside p l q) c ≡ pos (mass_of m c) +ℤ net (flux_at p l m old) c
    sum_is c h =
        let mass : mass_of m c ≡ mass_in q c = ap (λ (o : Option ℕ). unwrap_or o 0) (here c h) in
        λ i. pos (sym mass i) +ℤ net_alike (box q) (flux_beside p l q) (flux_at p l m old) plain_at c h i

    is_there : (c : Cell) → holds (box q) c ≡ true → IsSome (m c)
    is_there c h = subst IsSome (sym (here c h)) refl

    -- so its step may be made
    pub may_step : l ≤ 4 → IsInDomain (domain p l) (box q) → LevelStepFits p l m old → MayStep p l q
    may_step shallow lies fits = record {
      level = shallow;
      inside = lies;
      small = λ c h. subst (λ n. n < 2 ^ 31) (sym (shows.at c h)) (fits.values c);
      kept = λ c h. subst (λ z. pos 0 ≤ℤ z) (sym (sum_is c h)) (fits.kept c (is_there c h));
      fits = λ c h. subst (λ z. z <ℤ pos (2 ^ 32)) (sym (sum_is c h)) (fits.fits c (is_there c h));
    }

  -- after its step, seen from one with the same masses
  pub steps : (a r : Patch) → box q ≡ box a → SameMasses a q → HasStepped p l q r → IsStepped (flux_at p l m old) a r
  steps a r of_box same h = record {
    of_box = h.of_box ∙ of_box;
    masses = λ c in_a.
        let held : holds (box q) c ≡ true = ap (λ (b : Extent). holds b c) of_box ∙ in_a in
        h.masses c held ∙ (λ i. pos (same c in_a i) +ℤ net_alike (box q) (flux_beside p l q) (flux_at p l m old) plain_at c held i);
  }

  -- what it adds to a word
  pub adds_are : (word : ℕ) (xs : List FlowTo) → AreEdgeFlows q xs → adds_to p l word q xs ≡ word_total (λ f. unsigned_abs (flux_at p l m old f)) word xs
  adds_are word xs own =
      total_each (size_to (λ f. unsigned_abs (flux_beside p l q f)) word) (size_to (λ f. unsigned_abs (flux_at p l m old f)) word) xs (λ k d lt.
      let x = get_or xs k d in
      ap (λ n. if x.word == word then n else 0) (size_at x.face (edge_is_face (box q) x.face q.near (own k d lt))))

-- ---- all patches of a lot

pub totals_are : (p : Problem) (l : ℕ) (m old : Masses) (word : ℕ) (qs : List Patch) (xss : List (List FlowTo)) → All (ShowsValues p l m old) qs → AllZip AreEdgeFlows qs xss
    → lot_total p l qs xss word ≡ flows_to (λ f. unsigned_abs (flux_at p l m old f)) xss word
totals_are p l m old word [] [] shows own = refl
totals_are p l m old word [] (xs ∷ xss) shows own = absurd own
totals_are p l m old word (q ∷ qs) [] shows own = absurd own
totals_are p l m old word (q ∷ qs) (xs ∷ xss) shows own =
    let first = adds_are p l m old q (shows 0 q (omega arith)) word xs own.0 in
    let rest = totals_are p l m old word qs xss (λ k d lt. shows (suc k) d (omega (arith, lt))) own.1 in
    λ i. first i + rest i
