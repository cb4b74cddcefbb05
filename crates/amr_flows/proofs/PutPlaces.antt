-- Each border face has a place, where the patch that owns it puts its flux.
use Rattle.std.proofs.Common.{◌≡◌, ◌∙◌, ℕ, zero, suc, ◌+◌, ◌<◌, Bool, true, false, cond, List, [], ◌∷◌, length, length-append, map, take, add-one, refl, sym, ap, subst, arith}
use Rattle.std.specs.Prelude.{not, slice_index, slice_index_or}
use Rattle.std.proofs.lemmas.Bool.{and_parts, not-true}
use Rattle.std.specs.List.{All, Contains, filter, flat_map, range_with_len}
use Rattle.std.proofs.lemmas.List.{get_or-map, length-map}
use Rattle.std.proofs.lemmas.List.Concat.{get_or-flat_map}
use Rattle.std.proofs.lemmas.List.Folds.{Any-from_list_any, length-flat_map-take}
use Rattle.std.proofs.lemmas.List.FromFn.{get_or-range_with_len}
use Rattle.amr_box.specs.declared.Face.{Face}
use Rattle.amr_box.specs.Cells.{Extent, height, holds, width}
use Rattle.amr_def.specs.Domain.{Domain, home_cell}
use Rattle.amr_def.specs.Flux.{high_cell}
use Rattle.amr_patch.specs.declared.patches.Patch.{Patch}
use Rattle.amr_patch.specs.Patches.{box, in_patches}
use Rattle.amr_patch.proofs.Lookups.{same_default}
use Rattle.amr_faces.specs.Faces.{passing, x_end, y_end}
use Rattle.amr_layout.specs.declared.PutAt.{PutAt}
use Rattle.amr_layout.specs.Places.{are_grouped, border_places, borders_of, holder_of, home_face, leads_on, level_borders, placed, places_before, puts_of}
use Rattle.amr_layout.proofs.LevelPlaces.{level_more}
use Rattle.amr_flows.specs.Borders.{IsPut}
use Rattle.amr_layout.proofs.Planned.{all_passing}
use Rattle.std.proofs.lemmas.List.Elements.{All-append}

-- ---- lists

among_more : {A : Type 0} (x y : A) (xs : List A) → Contains xs y → Contains (x ∷ xs) y
among_more x y xs (k, lt, e) = (suc k, omega arith, e)

one_filtered : {A : Type 0} (test : A → Bool) (x y : A) (ys : List A) → Contains (filter test ys) x → (t : Bool) → Contains (cond t (y ∷ filter test ys) (filter test ys)) x
one_filtered test x y ys rest true = among_more y x (filter test ys) rest
one_filtered test x y ys rest false = rest

among_filtered : {A : Type 0} (test : A → Bool) (x : A) (xs : List A) → Contains xs x → test x ≡ true → Contains (filter test xs) x
among_filtered test x [] (k, lt, e) h = absurd (omega arith)
among_filtered test x (y ∷ ys) (zero, lt, e) h = subst (λ (t : Bool). Contains (cond t (y ∷ filter test ys) (filter test ys)) x) (sym (ap test e ∙ h)) (zero, omega arith, e)
among_filtered test x (y ∷ ys) (suc k, lt, e) h = one_filtered test x y ys (among_filtered test x ys (k, omega arith, e) h) (test y)

among_placed : (n : ℕ) (fs : List Face) (k : ℕ) (f : Face) → k < length fs → Contains (placed n fs) (record { place = n + k; face = slice_index_or fs k f })
among_placed n [] k f lt = absurd (omega arith)
among_placed n (g ∷ fs) zero f lt = (zero, omega arith, λ i. record { place = let e : n ≡ n + 0 = omega arith in e i; face = g })
among_placed n (g ∷ fs) (suc k) f lt =
    let here : suc n + k ≡ n + suc k = omega arith in
    among_more (record { place = n; face = g }) (record { place = n + suc k; face = slice_index_or fs k f }) (placed (suc n) fs)
    (subst (λ (m : ℕ). Contains (placed (suc n) fs) (record { place = m; face = slice_index_or fs k f })) here (among_placed (suc n) fs k f (omega arith)))

-- ---- the place of a border face

module _ (d : Domain) (ps : List Patch) (each : ℕ) where
  abbrev of : Patch → List Face
  of q = borders_of d ps each (box q)

  pub leads : (b : Extent) → All (λ f. leads_on d ps each (holder_of ps b.lo) f ≡ true) (borders_of d ps each b)
  unfolding borders_of
  leads b =
      let test = leads_on d ps each (holder_of ps b.lo) in
      All-append (λ f. test f ≡ true) (passing test (x_end b) (height b)) (passing test (y_end b) (width b))
      (all_passing (λ f. test f ≡ true) test (x_end b) (height b) (λ j lt t. t))
      (all_passing (λ f. test f ≡ true) test (y_end b) (width b) (λ j lt t. t))

  borders : level_borders d ps each ps ≡ flat_map of ps
  unfolding level_borders
  borders = refl

  before_is : (i : ℕ) → places_before d ps each i ≡ length (flat_map of (take i ps))
  unfolding places_before level_borders
  before_is i = refl

  count_is : (i : ℕ) (q : Patch) → i < length ps → places_before d ps each (suc i) ≡ places_before d ps each i + length (of (slice_index_or ps i q))
  unfolding places_before
  count_is i q lt =
      let r = slice_index_or ps i q in
      ap (λ (n : ℕ). length (level_borders d ps each (take n ps))) (sym (add-one i))
      ∙ ap length (level_more d ps each i r lt (same_default ps i q r lt))
      ∙ length-append (level_borders d ps each (take i ps)) (of r)

  pub places_count : (i : ℕ) (q : Patch) → i < length ps → border_places d ps each i ≡ range_with_len (places_before d ps each i) (length (of (slice_index_or ps i q)))
  unfolding border_places
  places_count i q lt = ap (range_with_len (places_before d ps each i)) (omega (arith, count_is i q lt))

  place_at : (i k : ℕ) (q : Patch) → i < length ps → k < length (of (slice_index_or ps i q)) → slice_index (border_places d ps each i) k ≡ places_before d ps each i + k
  place_at i k q lt below = ap (λ (xs : List ℕ). slice_index xs k) (places_count i q lt) ∙ get_or-range_with_len (places_before d ps each i) (length (of (slice_index_or ps i q))) k 0 below

  face_at : (i k : ℕ) (q : Patch) (f : Face) → i < length ps → k < length (of (slice_index_or ps i q)) → slice_index_or (level_borders d ps each ps) (places_before d ps each i + k) f ≡ slice_index_or (of (slice_index_or ps i q)) k f
  face_at i k q f lt below =
      (λ j. slice_index_or (borders j) (before_is i j + k) f)
      ∙ get_or-flat_map of ps i k q f lt below

  within : (i k : ℕ) (q : Patch) → i < length ps → k < length (of (slice_index_or ps i q)) → places_before d ps each i + k < length (level_borders d ps each ps)
  within i k q lt below =
      let most = length-flat_map-take of ps i q lt in
      let all : length (level_borders d ps each ps) ≡ length (flat_map of ps) = ap length borders in
      omega (arith, before_is i, most, all, below)

  -- a face that leads on has a cell of the level beyond, and of another group
  pub leads_is : (i : ℕ) (g : Face) → leads_on d ps each i g ≡ true → in_patches ps (home_cell d (high_cell g)) ≡ true
  unfolding leads_on
  leads_is i g e = (and_parts (in_patches ps (home_cell d (high_cell g))) (not (are_grouped each i (holder_of ps (home_cell d (high_cell g))))) e).0

  pub leads_away : (i : ℕ) (g : Face) → leads_on d ps each i g ≡ true → are_grouped each i (holder_of ps (home_cell d (high_cell g))) ≡ false
  unfolding leads_on
  leads_away i g e = not-true (are_grouped each i (holder_of ps (home_cell d (high_cell g)))) (and_parts (in_patches ps (home_cell d (high_cell g))) (not (are_grouped each i (holder_of ps (home_cell d (high_cell g))))) e).1

  pub put_there : (i k : ℕ) (q : Patch) (f : Face) → i < length ps → k < length (of (slice_index_or ps i q)) → IsPut d ps each (slice_index (border_places d ps each i) k) (home_face d (slice_index_or (of (slice_index_or ps i q)) k f))
  unfolding puts_of
  put_there i k q f lt below =
      let g = slice_index_or (of (slice_index_or ps i q)) k f in
      let h = home_cell d (high_cell g) in
      let n = places_before d ps each i + k in
      let fs = level_borders d ps each ps in
      let one = Any-from_list_any (λ (r : Patch). holds (box r) h) ps (leads_is (holder_of ps (box (slice_index_or ps i q)).lo) g (leads (box (slice_index_or ps i q)) k f below)) in
      let held : (e : Patch) → holds (box (slice_index_or ps one.0 e)) h ≡ true = λ e. ap (λ (r : Patch). holds (box r) h) (same_default ps one.0 e one.1 one.2 ∙ one.3) ∙ one.4 in
      let named : slice_index_or (map (home_face d) fs) n (home_face d f) ≡ home_face d g = get_or-map (home_face d) fs n f (home_face d f) (within i k q lt below) ∙ ap (home_face d) (face_at i k q f lt below) in
      let from_zero : 0 + n ≡ n = omega arith in
      let among : Contains (placed 0 (map (home_face d) fs)) (record { place = slice_index (border_places d ps each i) k; face = home_face d g }) =
      subst (λ (u : PutAt). Contains (placed 0 (map (home_face d) fs)) u) (λ j. record { place = (from_zero ∙ sym (place_at i k q lt below)) j; face = named j })
      (among_placed 0 (map (home_face d) fs) n (home_face d f) (omega (arith, within i k q lt below, length-map fs (home_face d)))) in
      record {
        owner = one.0;
        there = one.2;
        put = λ e. among_filtered (λ (u : PutAt). holds (box (slice_index_or ps one.0 e)) (high_cell u.face)) (record { place = slice_index (border_places d ps each i) k; face = home_face d g }) (placed 0 (map (home_face d) fs)) among (held e);
      }
