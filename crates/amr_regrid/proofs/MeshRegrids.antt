-- Meshes regridded.
use Rattle.std.proofs.Common.{◌≡◌, ℕ, zero, suc, ◌<◌, Bool, false, refl, sym, ap, subst, ◌∙◌, arith, List, [], ◌∷◌, length, map, get_or}
use Rattle.std.specs.List.{All, AllZip}
use Rattle.std.proofs.Math.ListN.{get_or-map}
use Rattle.std.proofs.lemmas.List.Elements.{All-cons, All-head, All-nil, All-tail}
use Rattle.std.proofs.lemmas.Simd.{map-map}
use Rattle.amr_box.specs.declared.Cell.{Cell}
use Rattle.amr_box.specs.Cells.{Extent}
use Rattle.amr_def.specs.declared.problem.Problem.{Problem}
use Rattle.amr_def.specs.Facts.{IsSound}
use Rattle.amr_def.specs.NewBoxes.{new_boxes}
use Rattle.amr_def.specs.Regrid.{new_level_count, regrid, regrid_by, regridded_levels}
use Rattle.amr_def.specs.Species.{AreAlike, boxes_in, is_tagged_in_some, regrid_all}
use Rattle.amr_def.specs.State.{State}
use Rattle.amr_laws.specs.Species.{AreHeld}
use Rattle.amr_laws.proofs.FlockOfOne.{regrid_of_one}
use Rattle.amr_laws.proofs.FlockRegrid.{regrid_all-alike, regrid_all-held}
use Rattle.amr_patch.specs.declared.levels.Level.{Level}
use Rattle.amr_patch.specs.declared.meshes.Mesh.{Mesh}
use Rattle.amr_patch.specs.Levels.{level_of}
use Rattle.amr_patch.specs.Meshes.{is_spent, levels_of, state_of}
use Rattle.amr_start.specs.PatchBoxes.{IsChopped}
use Rattle.amr_regrid.specs.declared.plans.Plan.{Plan}
use Rattle.amr_regrid.specs.Outlines.{AreAlikeMeshes, MeshOutline, mesh_outline, outlines, shared_boxes}
use Rattle.amr_regrid.specs.Plans.{HasRoom, IsInstalled, IsPlanFor}
use Rattle.amr_regrid.specs.Remade.{AreChoppedOrKept, remade_levels}
use Rattle.amr_regrid.proofs.Bases.{chopped_or_kept}
use Rattle.amr_regrid.proofs.MeshOutlines.{count_at, outline_at, same_many}
use Rattle.amr_regrid.proofs.OutlineLaws.{all_chopped}

-- ---- a plan, put in place

-- a mesh regridded by tags, which may be of several
record IsShared (p : Problem) (tagged : ℕ → Cell → Bool) (old new : Mesh) : Type 0 where
  value : state_of new ≡ regrid_by p tagged (state_of old)
  patches : AreChoppedOrKept p.max_grid_size (levels_of new) (outlines (levels_of old))
  whole : is_spent new ≡ false

shared : (p : Problem) (tagged : ℕ → Cell → Bool) (boxes : List (List Extent)) (old mid new : Mesh) (r : Plan) → mesh_outline mid ≡ mesh_outline old → boxes ≡ new_boxes p tagged (new_level_count p (state_of old)) 0 → IsPlanFor p boxes mid r → IsInstalled r mid new
    → IsShared p tagged old new
unfolding regrid_by
shared p tagged boxes old mid new r stays same plan is =
    let levels : map level_of (levels_of new) ≡ regridded_levels (state_of mid).levels boxes = ap (map level_of) is.levels ∙ plan.levels in
    record {
      value = is.state ∙ (λ i. record { step = (state_of mid).step; rows = (state_of mid).rows; levels = levels i })
          ∙ ap (λ (o : MeshOutline). record { step = o.state.step; rows = o.state.rows; levels = regridded_levels o.state.levels boxes }) stays
          ∙ ap (λ (bs : List (List Extent)). record { step = (state_of old).step; rows = (state_of old).rows; levels = regridded_levels (state_of old).levels bs }) same;
      patches = subst (λ (ks : List Level). AreChoppedOrKept p.max_grid_size ks (outlines (levels_of old))) (sym is.levels)
          (subst (λ (o : MeshOutline). AreChoppedOrKept p.max_grid_size (remade_levels (levels_of mid) r.remade.items) o.levels) stays
          (chopped_or_kept p.max_grid_size (levels_of mid) r.remade.items plan.chopped));
      whole = is.whole;
    }

-- ---- what holds of each of two lists

zip_weaker : {A B : Type 0} (R S : A → B → Type 0) → ((a : A) (b : B) → R a b → S a b) → (xs : List A) (ys : List B) → AllZip R xs ys → AllZip S xs ys
zip_weaker R S f [] [] h = tt
zip_weaker R S f [] (y ∷ ys) h = h
zip_weaker R S f (x ∷ xs) [] h = h
zip_weaker R S f (x ∷ xs) (y ∷ ys) h = (f x y h.0, zip_weaker R S f xs ys h.1)

zip_all : {A B : Type 0} (R : A → B → Type 0) (P : A → Type 0) (Q : B → Type 0) → ((a : A) (b : B) → R a b → P a → Q b) → (xs : List A) (ys : List B) → AllZip R xs ys → All P xs → All Q ys
zip_all R P Q f [] [] h all = All-nil Q
zip_all R P Q f [] (y ∷ ys) h all = absurd h
zip_all R P Q f (x ∷ xs) [] h all = absurd h
zip_all R P Q f (x ∷ xs) (y ∷ ys) h all = All-cons Q y ys (f x y h.0 (All-head P x xs all)) (zip_all R P Q f xs ys h.1 (All-tail P x xs all))

zip_maps : {A B X : Type 0} (f : A → X) (g : B → X) (xs : List A) (ys : List B) → AllZip (λ a b. g b ≡ f a) xs ys → map g ys ≡ map f xs
zip_maps f g [] [] h = refl
zip_maps f g [] (y ∷ ys) h = absurd h
zip_maps f g (x ∷ xs) [] h = absurd h
zip_maps f g (x ∷ xs) (y ∷ ys) h = λ i. h.0 i ∷ zip_maps f g xs ys h.1 i

zip_by : {A : Type 0} (R : A → A → Type 0) (xs ys : List A) → length ys ≡ length xs → ((k : ℕ) (d : A) → k < length xs → R (get_or xs k d) (get_or ys k d)) → AllZip R xs ys
zip_by R [] [] many h = tt
zip_by R [] (y ∷ ys) many h = absurd (omega (arith, many))
zip_by R (x ∷ xs) [] many h = absurd (omega (arith, many))
zip_by R (x ∷ xs) (y ∷ ys) many h = (h 0 x (omega arith), zip_by R xs ys (omega (arith, many)) (λ k d f. h (suc k) d (omega (arith, f))))

-- what is related to an element
zip_at : {A B : Type 0} (R : A → B → Type 0) (xs : List A) (ys : List B) (k : ℕ) (d : A) → AllZip R xs ys → k < length xs → (b : B) × R (get_or xs k d) b × ((e : B) → get_or ys k e ≡ b)
zip_at R [] ys k d h f = absurd (omega (arith, f))
zip_at R (x ∷ xs) [] k d h f = absurd h
zip_at R (x ∷ xs) (y ∷ ys) zero d h f = (y, h.0, λ e. refl)
zip_at R (x ∷ xs) (y ∷ ys) (suc k) d h f = zip_at R xs ys k d h.1 (omega (arith, f))

-- the plans of meshes have room for their lists of levels
pub plan_rooms : (p : Problem) (boxes : List (List Extent)) (ms : List Mesh) (rs : List Plan) → AllZip (IsPlanFor p boxes) ms rs → All HasRoom rs
plan_rooms p boxes ms rs plans = zip_all (IsPlanFor p boxes) (λ m. Unit {0}) HasRoom (λ m r is h. is.room) ms rs plans (λ k d h. tt)

-- ---- meshes regridded by the tags of all

module _ (p : Problem) (olds mids news : List Mesh) (rs : List Plan) (boxes : List (List Extent)) (alike : AreAlikeMeshes p olds) (stays : map mesh_outline mids ≡ map mesh_outline olds) (are : boxes ≡ shared_boxes p (map state_of olds))
    (many : length news ≡ length mids) (plans : AllZip (IsPlanFor p boxes) mids rs) (installed : (k : ℕ) (m : Mesh) (r : Plan) → k < length mids → IsInstalled (get_or rs k r) (get_or mids k m) (get_or news k m)) where
  abbrev tagged : ℕ → Cell → Bool
  tagged = is_tagged_in_some p (map state_of olds)

  shared_at : (k : ℕ) (m : Mesh) → k < length olds → IsShared p tagged (get_or olds k m) (get_or news k m)
  shared_at k m h =
      let inside : k < length mids = (let same = same_many mids olds stays in omega (arith, h, same)) in
      let plan = zip_at (IsPlanFor p boxes) mids rs k m plans inside in
      let same : boxes ≡ new_boxes p tagged (new_level_count p (state_of (get_or olds k m))) 0 = are ∙ ap (λ (n : ℕ). new_boxes p tagged n 0) (sym (count_at p olds alike k m h)) in
      shared p tagged boxes (get_or olds k m) (get_or mids k m) (get_or news k m) plan.0 (outline_at mids olds stays k m) same plan.1
      (subst (λ (r : Plan). IsInstalled r (get_or mids k m) (get_or news k m)) (plan.2 plan.0) (installed k m plan.0 inside))

  each : AllZip (IsShared p tagged) olds news
  each = zip_by (IsShared p tagged) olds news (let same = same_many mids olds stays in omega (arith, many, same)) shared_at

  pub value_after : map state_of news ≡ regrid_all p (map state_of olds)
  unfolding regrid_all
  value_after =
      zip_maps (λ (m : Mesh). regrid_by p tagged (state_of m)) state_of olds news
      (zip_weaker (IsShared p tagged) (λ old new. state_of new ≡ regrid_by p tagged (state_of old)) (λ a b s. s.value) olds news each)
      ∙ sym (map-map (regrid_by p tagged) state_of olds)

  pub alike_after : AreAlike p (map state_of news)
  alike_after = subst (AreAlike p) (sym value_after) (regrid_all-alike p (map state_of olds) alike.alike)

  pub held_after : AreHeld p (map state_of olds) (map state_of news)
  held_after = subst (AreHeld p (map state_of olds)) (sym value_after) (regrid_all-held p (map state_of olds) alike.alike)

  pub patches_after : AllZip (λ old new. AreChoppedOrKept p.max_grid_size (levels_of new) (outlines (levels_of old))) olds news
  patches_after = zip_weaker (IsShared p tagged) (λ old new. AreChoppedOrKept p.max_grid_size (levels_of new) (outlines (levels_of old))) (λ a b s. s.patches) olds news each

  pub chopped_after : All (λ m. All (IsChopped p.max_grid_size) (levels_of m)) olds → All (λ m. All (IsChopped p.max_grid_size) (levels_of m)) news
  chopped_after = zip_all (IsShared p tagged) (λ m. All (IsChopped p.max_grid_size) (levels_of m)) (λ m. All (IsChopped p.max_grid_size) (levels_of m)) (λ a b s h. all_chopped p.max_grid_size (levels_of b) (levels_of a) s.patches h) olds news each

  pub whole_after : All (λ m. is_spent m ≡ false) news
  whole_after = zip_all (IsShared p tagged) (λ m. is_spent m ≡ false) (λ m. is_spent m ≡ false) (λ a b s h. s.whole) olds news each alike.whole

-- ---- one mesh

pub alike_alone : (p : Problem) (m : Mesh) → is_spent m ≡ false → IsSound p (state_of m) → AreAlikeMeshes p (m ∷ [])
alike_alone p m whole sound = record {
  some = omega arith;
  whole = All-cons (λ x. is_spent x ≡ false) m [] whole (All-nil (λ x. is_spent x ≡ false));
  alike = record { sound = All-cons (IsSound p) (state_of m) [] sound (All-nil (IsSound p)); same_step = one (λ s. s.step ≡ (state_of m).step) refl; same_boxes = one (λ s. boxes_in s ≡ boxes_in (state_of m)) refl };
}
  where
    one : (P : State → Type 0) → P (state_of m) → All P (state_of m ∷ [])
    one P h = All-cons P (state_of m) [] h (All-nil P)

-- what a list of one mesh has at its place, by what is said of the list
pub value_alone : (p : Problem) (old new : Mesh) (news : List Mesh) → new ≡ get_or news 0 new → map state_of news ≡ regrid_all p (state_of old ∷ []) → state_of new ≡ regrid p (state_of old)
value_alone p old new news is value = ap state_of is ∙ sym (get_or-map state_of news 0 new) ∙ ap (λ (ss : List State). get_or ss 0 (state_of new)) (value ∙ regrid_of_one p (state_of old))

pub patches_alone : (R : Mesh → Mesh → Type 0) (old new : Mesh) (news : List Mesh) → new ≡ get_or news 0 new → AllZip R (old ∷ []) news → R old new
patches_alone R old new [] is h = absurd h
patches_alone R old new (n ∷ ns) is h = subst (R old) (sym is) h.0

pub as_before_alone : {X : Type 0} (f : Mesh → X) (old new : Mesh) (news : List Mesh) → new ≡ get_or news 0 new → map f news ≡ f old ∷ [] → f new ≡ f old
as_before_alone f old new news is same = ap f is ∙ sym (get_or-map f news 0 new) ∙ ap (λ (xs : List _). get_or xs 0 (f new)) same
