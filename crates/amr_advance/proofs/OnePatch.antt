-- A patch of a level that shows the level's values may make its step by itself.
use Rattle.std.proofs.Common.{◌≡◌, ℕ, ◌^◌, ◌<◌, ◌≤◌, Bool, true, false, ◌&&◌, ◌||◌, pos, ◌+ℤ◌, ◌≤ℤ◌, ◌<ℤ◌, List, length, get_or, IsSome, IsTrue, refl, sym, ap, subst, ◌∙◌}
use Rattle.std.specs.Prelude.{not}
use Rattle.std.specs.declared.option.Option.{Option}
use Rattle.std.specs.declared.option.Option.TheVariants.{Some}
use Rattle.std.specs.Option.{unwrap_or}
use Rattle.amr_box.specs.declared.Cell.{Cell}
use Rattle.amr_box.specs.declared.Face.{Face}
use Rattle.amr_box.specs.Cells.{Extent, holds, within}
use Rattle.amr_def.specs.declared.problem.Problem.{Problem}
use Rattle.amr_def.specs.Domain.{domain}
use Rattle.amr_def.specs.State.{Masses, mass_of}
use Rattle.amr_def.specs.Flux.{Fluxes, flux_at, net}
use Rattle.amr_def.specs.Value.{value_at}
use Rattle.amr_patch.specs.declared.patches.Patch.{Patch}
use Rattle.amr_patch.specs.Patches.{ArePatchesApart, box, mass_in, masses_in, value_in}
use Rattle.amr_patch.specs.Places.{grown, is_face_of}
use Rattle.amr_patch.proofs.Lookups.{in_one, masses_in-at, same_default}
use Rattle.amr_faces.specs.Faces.{IsInDomain, ShowsValues, flux_beside, in_reach}
use Rattle.amr_faces.proofs.Shown.{flux_is, net_alike}
use Rattle.amr_ghost.specs.Frames.{AreInDomain, HasGhostValues, SameMasses}
use Rattle.amr_ghost.proofs.Reach.{own_value}
use Rattle.amr_lots.specs.Lots.{IsStepped, LevelStepFits, MayStep}

module _ (p : Problem) (l : ℕ) (old : Masses) (ps : List Patch) (apart : ArePatchesApart ps) (inside : AreInDomain (domain p l) ps) (k : ℕ) (r : Patch) (lt : k < length ps)
    (q : Patch) (of_box : box q ≡ box (get_or ps k r)) (same : SameMasses (get_or ps k r) q) where
  abbrev m : Masses
  m = masses_in ps

  abbrev e : Fluxes
  e = flux_at p l (masses_in ps) old

  -- a cell of the patch is one of that patch of the level
  there : (c : Cell) → holds (box q) c ≡ true → (g : Patch) → holds (box (get_or ps k g)) c ≡ true
  there c h g = ap (λ (x : Patch). holds (box x) c) (same_default ps k g r lt) ∙ ap (λ (b : Extent). holds b c) (sym of_box) ∙ h

  pub lies : IsInDomain (domain p l) (box q)
  lies = record { at = λ c h. inside c (in_one ps c k (record { inside = lt; holds_it = there c h })) }

  pub mass_here : (c : Cell) → holds (box q) c ≡ true → m c ≡ Some (mass_in q c)
  mass_here c h = masses_in-at ps c k r apart (record { inside = lt; holds_it = there c h }) ∙ ap Some (sym (same c (there c h r)))

  -- where its frame is filled, it shows the level's values
  module _ (frame : HasGhostValues p l (masses_in ps) old q) where
    pub frame_shows : ShowsValues p l (masses_in ps) old q
    frame_shows = record { at = λ c reach. by_box c (holds (box q) c) refl reach }
      where
        ghost_of : (g h r : Bool) → h ≡ false → IsTrue (g && r) → IsTrue ((g && not h) && r)
        ghost_of true false r e t = t
        ghost_of true true r e t = absurd (cc)
        ghost_of false h r e t = t

        by_box : (c : Cell) (t : Bool) → holds (box q) c ≡ t → IsTrue (in_reach (box q) c) → value_in q c ≡ value_at p l (masses_in ps) old c
        by_box c true held reach = same c (there c held r) ∙ sym (own_value p l old ps k r c apart inside lt (there c held))
        by_box c false held reach = frame c (ghost_of (holds (grown (box q)) c) (holds (box q) c) (within (box q).lo.x (box q).hi.x c.x || within (box q).lo.y (box q).hi.y c.y) held reach)

  module _ (shows : ShowsValues p l (masses_in ps) old q) where
    pub plain_at : (f : Face) → is_face_of (box q) f ≡ true → flux_beside p l q f ≡ e f
    plain_at f h = flux_is p l m old q shows f h

    -- its masses to come are the level's
    pub sum_is : (c : Cell) → holds (box q) c ≡ true → pos (mass_in q c) +ℤ net (flux_beside p l q) c ≡ pos (mass_of m c) +ℤ net e c
    sum_is c h =
        let mass : mass_of m c ≡ mass_in q c = ap (λ (o : Option ℕ). unwrap_or o 0) (mass_here c h) in
        λ i. pos (sym mass i) +ℤ net_alike (box q) (flux_beside p l q) e plain_at c h i

    is_there : (c : Cell) → holds (box q) c ≡ true → IsSome (m c)
    is_there c h = subst IsSome (sym (mass_here c h)) refl

    -- so its step may be made
    pub may_step : l ≤ 4 → LevelStepFits p l (masses_in ps) old → MayStep p l q
    may_step shallow fits = record {
      level = shallow;
      inside = lies;
      small = λ c h. subst (λ n. n < 2 ^ 31) (sym (shows.at c h)) (fits.values c);
      kept = λ c h. subst (λ z. pos 0 ≤ℤ z) (sym (sum_is c h)) (fits.kept c (is_there c h));
      fits = λ c h. subst (λ z. z <ℤ pos (2 ^ 32)) (sym (sum_is c h)) (fits.fits c (is_there c h));
    }

    -- after its step
    pub steps : (x : Patch) → box x ≡ box q → ((c : Cell) → holds (box q) c ≡ true → pos (mass_in x c) ≡ pos (mass_in q c) +ℤ net (flux_beside p l q) c) → IsStepped e (get_or ps k r) x
    steps x x_box masses = record {
      of_box = x_box ∙ of_box;
      masses = λ c h.
          let held : holds (box q) c ≡ true = ap (λ (b : Extent). holds b c) of_box ∙ h in
          masses c held ∙ (λ i. pos (same c h i) +ℤ net_alike (box q) (flux_beside p l q) e plain_at c held i);
    }
