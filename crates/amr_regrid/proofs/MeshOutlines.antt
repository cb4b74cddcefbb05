-- Meshes by their outlines, and meshes whose states are alike.
use Rattle.std.proofs.Common.{◌≡◌, ℕ, zero, suc, ◌+◌, ◌<◌, false, ◌||◌, refl, sym, ap, subst, ◌∙◌, arith, List, [], length, map, get_or, set, take}
use Rattle.std.specs.List.{All, list_any}
use Rattle.std.proofs.Math.ListN.{get_or-map}
use Rattle.std.proofs.Math.Seq.{map-set_same}
use Rattle.std.proofs.lemmas.List.{get_or_default, length-map}
use Rattle.std.proofs.lemmas.List.Folds.{list_any_more}
use Rattle.std.proofs.lemmas.Simd.{map-map}
use Rattle.amr_box.specs.declared.Cell.{Cell}
use Rattle.amr_def.specs.declared.problem.Problem.{Problem}
use Rattle.amr_def.specs.declared.problem.Row.{Row}
use Rattle.amr_def.specs.Facts.{IsSound}
use Rattle.amr_def.specs.Regrid.{new_level_count}
use Rattle.amr_def.specs.Species.{AreAlike, first_state}
use Rattle.amr_def.specs.State as defined
use Rattle.amr_def.specs.State.{State}
use Rattle.amr_def.specs.Tags.{is_tagged}
use Rattle.amr_laws.proofs.FlockRegrid.{level_count as box_count}
use Rattle.amr_patch.specs.declared.levels.Level.{Level}
use Rattle.amr_patch.specs.declared.meshes.Mesh.{Mesh}
use Rattle.amr_patch.specs.Levels.{level_of}
use Rattle.amr_patch.specs.Meshes.{is_spent, levels_of, state_of}
use Rattle.amr_regrid.specs.Outlines.{AreAlikeMeshes, MeshOutline, mesh_outline, outlines, with_levels}
use Rattle.amr_regrid.proofs.OutlineLaws.{same_levels}

-- ---- a mesh with the levels that it had

-- the tags of a state are those of its levels
pub tags_by : (p : Problem) (s : State) (ks : List Level) → map level_of ks ≡ s.levels → (l : ℕ) (c : Cell) → is_tagged p (with_levels ks) l c ≡ is_tagged p s l c
tags_by p s ks is l c = ap (λ (ls : List defined.Level). is_tagged p (record { step = 0; rows = []; levels = ls }) l c) is ∙ at l
  where
    at : (n : ℕ) → is_tagged p (record { step = 0; rows = []; levels = s.levels }) n c ≡ is_tagged p s n c
    at zero = refl
    at (suc n) = refl

pub as_before : (s : State) (ks js : List Level) (step : ℕ) (rows : List Row) → step ≡ s.step → rows ≡ s.rows → map level_of ks ≡ s.levels → outlines js ≡ outlines ks → record { step = step; rows = rows; levels = map level_of js } ≡ s
as_before s ks js step rows same_step same_rows same stays = λ i. record { step = same_step i; rows = same_rows i; levels = (same_levels js ks stays ∙ same) i }

pub outline_by : (new old : Mesh) → state_of new ≡ state_of old → outlines (levels_of new) ≡ outlines (levels_of old) → is_spent new ≡ is_spent old → mesh_outline new ≡ mesh_outline old
outline_by new old state levels spent = λ i. record { state = state i; levels = levels i; spent = spent i }

-- ---- meshes that keep their outlines

by_outline : {X : Type 0} (f : MeshOutline → X) (js ks : List Mesh) → map mesh_outline js ≡ map mesh_outline ks → map (λ m. f (mesh_outline m)) js ≡ map (λ m. f (mesh_outline m)) ks
by_outline f js ks e = sym (map-map f mesh_outline js) ∙ ap (map f) e ∙ map-map f mesh_outline ks

pub same_states : (js ks : List Mesh) → map mesh_outline js ≡ map mesh_outline ks → map state_of js ≡ map state_of ks
same_states = by_outline (λ (o : MeshOutline). o.state)

pub same_patches : (js ks : List Mesh) → map mesh_outline js ≡ map mesh_outline ks → map (λ (m : Mesh). outlines (levels_of m)) js ≡ map (λ (m : Mesh). outlines (levels_of m)) ks
same_patches = by_outline (λ (o : MeshOutline). o.levels)

pub same_many : (js ks : List Mesh) → map mesh_outline js ≡ map mesh_outline ks → length js ≡ length ks
same_many js ks e = sym (length-map js mesh_outline) ∙ ap length e ∙ length-map ks mesh_outline

pub outline_at : (js ks : List Mesh) → map mesh_outline js ≡ map mesh_outline ks → (k : ℕ) (m : Mesh) → mesh_outline (get_or js k m) ≡ mesh_outline (get_or ks k m)
outline_at js ks e k m = sym (get_or-map mesh_outline js k m) ∙ ap (λ (os : List MeshOutline). get_or os k (mesh_outline m)) e ∙ get_or-map mesh_outline ks k m

pub all_whole : (js ks : List Mesh) → map mesh_outline js ≡ map mesh_outline ks → All (λ m. is_spent m ≡ false) ks → All (λ m. is_spent m ≡ false) js
all_whole js ks e whole k m h = ap (λ (o : MeshOutline). o.spent) (outline_at js ks e k m) ∙ whole k m (let many = same_many js ks e in omega (arith, h, many))

pub alike_stays : (p : Problem) (js ks : List Mesh) → map mesh_outline js ≡ map mesh_outline ks → AreAlikeMeshes p ks → AreAlikeMeshes p js
alike_stays p js ks e h = record {
  some = (let many = same_many js ks e in omega (arith, h.some, many));
  whole = all_whole js ks e h.whole;
  alike = subst (AreAlike p) (sym (same_states js ks e)) h.alike;
}

-- ---- the states of meshes that are alike

pub state_at : (ms : List Mesh) (k : ℕ) (m : Mesh) → get_or (map state_of ms) k (state_of m) ≡ state_of (get_or ms k m)
state_at ms k m = get_or-map state_of ms k m

module _ (p : Problem) (ms : List Mesh) (alike : AreAlikeMeshes p ms) (k : ℕ) (m : Mesh) (inside : k < length ms) where
  inside_states : k < length (map state_of ms)
  inside_states = (let many = length-map ms state_of in omega (arith, inside, many))

  pub sound_at : IsSound p (state_of (get_or ms k m))
  sound_at = subst (IsSound p) (state_at ms k m) (alike.alike.sound k (state_of m) inside_states)

  pub levels_at : length (state_of (get_or ms k m)).levels ≡ length (first_state (map state_of ms)).levels
  levels_at =
      let same = alike.alike.same_boxes k (state_of m) inside_states in
      ap (λ (s : State). length s.levels) (sym (state_at ms k m)) ∙ sym (box_count (get_or (map state_of ms) k (state_of m))) ∙ ap length same ∙ box_count (first_state (map state_of ms))

  pub count_at : new_level_count p (state_of (get_or ms k m)) ≡ new_level_count p (first_state (map state_of ms))
  count_at = (let many = levels_at in omega (arith, many))

-- ---- a mesh of a list whose outlines stay

pub itself : (js : List Mesh) (k : ℕ) (m : Mesh) → k < length js → get_or js k m ≡ get_or js k (get_or js k m)
itself js k m h = get_or_default js k m (get_or js k m) h

module _ (p : Problem) (js ms : List Mesh) (stays : map mesh_outline js ≡ map mesh_outline ms) (alike : AreAlikeMeshes p ms) (k : ℕ) (m : Mesh) (inside : k < length js) (is : m ≡ get_or js k m) where
  pub read_whole : is_spent m ≡ false
  read_whole = ap is_spent is ∙ all_whole js ms stays alike.whole k m inside

  pub read_sound : IsSound p (state_of m)
  read_sound = subst (λ (x : Mesh). IsSound p (state_of x)) (sym is) (sound_at p js (alike_stays p js ms stays alike) k m inside)

  pub read_levels : length (state_of m).levels ≡ length (first_state (map state_of ms)).levels
  read_levels =
      ap (λ (x : Mesh). length (state_of x).levels) is
      ∙ levels_at p js (alike_stays p js ms stays alike) k m inside
      ∙ ap (λ (ss : List State). length (first_state ss).levels) (same_states js ms stays)

  pub read_count : new_level_count p (state_of m) ≡ new_level_count p (first_state (map state_of ms))
  read_count = (let many = read_levels in omega (arith, many))

  -- one more of those whose tags are joined
  pub tags_more : (l : ℕ) (c : Cell) → (list_any (λ s. is_tagged p s l c) (take k (map state_of ms)) || is_tagged p (state_of m) l c) ≡ list_any (λ s. is_tagged p s l c) (take (k + 1) (map state_of ms))
  tags_more l c =
      let test = λ (s : State). is_tagged p s l c in
      let ss = map state_of ms in
      let state : state_of m ≡ get_or ss k (state_of m) = ap state_of is ∙ sym (state_at js k m) ∙ ap (λ (xs : List State). get_or xs k (state_of m)) (same_states js ms stays) in
      let long : k < length ss = (let many = length-map ms state_of in let same = same_many js ms stays in omega (arith, inside, many, same)) in
      ap (λ (s : State). list_any test (take k ss) || test s) state ∙ sym (list_any_more test ss k (state_of m) long)

  pub outlines_stay : (new : Mesh) → mesh_outline new ≡ mesh_outline m → map mesh_outline (set js k new) ≡ map mesh_outline ms
  outlines_stay new same = map-set_same mesh_outline js k new m (same ∙ ap mesh_outline is) ∙ stays
