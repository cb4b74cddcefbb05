-- The plan of what the patches of a level post, one task a patch, and what the places that a patch reads have in it.
use Rattle.std.proofs.Common.{◌≡◌, ◌∙◌, ℕ, ◌+◌, ◌<◌, ◌≤◌, List, [], ◌∷◌, length, get_or, map, refl, sym, ap, subst, arith}
use Rattle.std.specs.Prelude.{IsTrue, pos, slice_index, unsigned_abs}
use Rattle.std.specs.List.{All, Contains}
use Rattle.std.proofs.lemmas.List.{get_or-map, length-map}
use Rattle.std.proofs.lemmas.List.FromFn.{get_or-map-range_with_len, length-map-range_with_len, length-range_with_len}
use Rattle.amr_box.specs.declared.Face.{Face}
use Rattle.amr_box.specs.declared.Axis.TheVariants.{X}
use Rattle.amr_def.specs.Domain.{Domain, domain}
use Rattle.amr_def.specs.State.{Masses}
use Rattle.amr_def.specs.Flux.{Fluxes, face, flux_at}
use Rattle.amr_patch.specs.declared.patches.Patch.{Patch}
use Rattle.amr_patch.specs.Patches.{ArePatchesApart, box, masses_in}
use Rattle.amr_patch.specs.Places.{is_edge_face}
use Rattle.amr_patch.proofs.Lookups.{same_default}
use Rattle.amr_faces.specs.Faces.{IsInDomain}
use Rattle.amr_flows.specs.Borders.{IsPut}
use Rattle.amr_flows.specs.Laws.{plain_size}
use Rattle.amr_flows.proofs.EdgePuts.{puts_on_edges}
use Rattle.amr_flows.proofs.PutPlaces.{places_count, put_there}
use Rattle.amr_flows.proofs.Repeats.{fluxes_repeat}
use Rattle.amr_layout.specs.declared.FlowTo.{FlowTo}
use Rattle.amr_layout.specs.declared.PatchLayout.{PatchLayout}
use Rattle.amr_layout.specs.declared.PutAt.{PutAt}
use Rattle.amr_layout.specs.Adds.{flows_of, word_total}
use Rattle.amr_layout.specs.Arounds.{all_places_read, all_puts}
use Rattle.amr_layout.specs.Places.{HasMask, border_places, borders_of, home_face, places_before, puts_of}
use Rattle.amr_layout.specs.Posts.{add_post, patch_plan, patch_task, put_post}
use Rattle.amr_layout.specs.Surroundings.{Around, domain_around}
use Rattle.amr_lots.specs.Ready.{ReadsBorder}
use Rattle.amr_lots.specs.Works.{put_by}
use Rattle.amr_phase.specs.declared.plan.Post.{Post}
use Rattle.amr_phase.specs.declared.plan.Task.{Task}
use Rattle.amr_phase.specs.Plans.{IsPlan, PlanOf, added, no_post, no_task, planned_face, put_at, puts_of as posts_at, total}
use Rattle.amr_phase.proofs.Layouts.{put_is_planned}
use Rattle.amr_advance.proofs.Begin.{IsFinePlan}
use Rattle.amr_advance.proofs.Beside.{ArePlanned}

abbrev no_face : Face
no_face = face X (pos 0) (pos 0)

-- ---- lists

puts_same : (s : Around) (each : ℕ) (e : Face → ℕ) (qs : List Patch) → map (λ (t : Task). t.puts) (map (patch_task s each e) qs) ≡ map (map (put_by e)) (map (λ (q : Patch). puts_of (domain_around s) s.patches each (box q)) qs)
puts_same s each e [] = refl
puts_same s each e (q ∷ qs) = ap (λ xs. map (put_by e) (puts_of (domain_around s) s.patches each (box q)) ∷ xs) (puts_same s each e qs)

flows_total : (e : Face → ℕ) (word : ℕ) (fs : List FlowTo) → total (added word) (map (add_post e) fs) ≡ word_total e word fs
flows_total e word [] = refl
flows_total e word (f ∷ fs) = ap (λ n. added word (add_post e f) + n) (flows_total e word fs)

adds_same : (s : Around) (each : ℕ) (e : Face → ℕ) (word : ℕ) (qs : List Patch) → map (λ (t : Task). total (added word) t.adds) (map (patch_task s each e) qs) ≡ map (λ (q : Patch). word_total e word (flows_of s (box q))) qs
adds_same s each e word [] = refl
adds_same s each e word (q ∷ qs) = λ i. flows_total e word (flows_of s (box q)) i ∷ adds_same s each e word qs i

module _ (s : Around) (old : Masses) (each : ℕ) where
  abbrev d : Domain
  d = domain s.problem s.level

  abbrev flow : Fluxes
  flow = flux_at s.problem s.level (masses_in s.whole) old

  abbrev size : Face → ℕ
  size = plain_size s.problem s.level (masses_in s.whole) old

  abbrev fine : PlanOf
  fine = patch_plan s each size

  pub fine_plan : IsPlan fine → IsFinePlan s each size fine
  fine_plan is = record { places = refl; words = refl; puts = puts_same s each size s.patches; adds = λ word. adds_same s each size word s.patches; is_plan = is }

  -- ---- what the patches put and read

  module _ (few : s.level ≤ 4) (apart : ArePatchesApart s.patches) (inside : All (λ (q : Patch). IsInDomain (domain s.problem s.level) (box q)) s.patches) (is : IsPlan fine) where
    puts_here : (i : ℕ) (q : Patch) (v : List PutAt) → i < length s.patches → All (λ (x : PutAt). IsTrue (is_edge_face (box (get_or s.patches i q)) x.face)) (get_or (all_puts s each) i v)
    puts_here i q v lt =
        let here : get_or (all_puts s each) i v ≡ puts_of d s.patches each (box (get_or s.patches i q)) = get_or-map (λ (r : Patch). puts_of d s.patches each (box r)) s.patches i q v lt in
        subst (All (λ (x : PutAt). IsTrue (is_edge_face (box (get_or s.patches i q)) x.face))) (sym here)
        (puts_on_edges s.problem s.level s.patches each few apart inside i q lt)

    module _ (i : ℕ) (q : Patch) (lt : i < length s.patches) (j : ℕ) (z : Face) (below : j < length (borders_of d s.patches each (box (get_or s.patches i q)))) where
      -- the face that is read, and the place
      abbrev g : Face
      g = get_or (borders_of d s.patches each (box (get_or s.patches i q))) j z

      abbrev place : ℕ
      place = slice_index (border_places d s.patches each i) j

      put : IsPut d s.patches each place (home_face d g)
      put = put_there d s.patches each i j q z lt below

      abbrev owner : Patch
      owner = get_or s.patches put.owner q

      abbrev x : PutAt
      x = record { place = place; face = home_face d g }

      found : Contains (puts_of d s.patches each (box owner)) x
      found = put.put q

      task : posts_at fine put.owner ≡ map (put_post size) (puts_of d s.patches each (box owner))
      task = ap (λ (t : Task). t.puts) (get_or-map (patch_task s each size) s.patches put.owner q no_task put.there)

      within : found.0 < length (posts_at fine put.owner)
      within = omega (arith, found.1, ap length task, length-map (puts_of d s.patches each (box owner)) (put_post size))

      post : put_at fine put.owner found.0 ≡ put_post size x
      post = ap (λ xs. get_or xs found.0 no_post) task ∙ get_or-map (put_post size) (puts_of d s.patches each (box owner)) found.0 x no_post found.1 ∙ ap (put_post size) found.2

      pub read_size : planned_face fine place ≡ unsigned_abs (flow g) + 1
      read_size =
          subst (λ (y : Post). planned_face fine y.at ≡ y.amount + 1) post (put_is_planned fine is put.owner found.0 within)
          ∙ ap (λ n. unsigned_abs n + 1) (fluxes_repeat s.problem s.level (masses_in s.whole) old g few)

      pub read_there : place < fine.places
      read_there = subst (λ (y : Post). y.at < fine.places) post (is.puts_in_range put.owner found.0 within)

    reads_here : (i : ℕ) (q : Patch) (t : PatchLayout) (v : List ℕ) → i < length s.patches → t.border.items ≡ get_or (all_places_read s each) i v → HasMask d s.patches each (get_or s.patches i q) t → ReadsBorder (planned_face fine) fine.places flow (box (get_or s.patches i q)) t
    reads_here i q t v lt border mask =
        let many = length (borders_of d s.patches each (box (get_or s.patches i q))) in
        let places : t.border.items ≡ border_places d s.patches each i = border ∙ get_or-map-range_with_len (border_places d s.patches each) 0 (length s.patches) i i v lt (omega arith) in
        let count : length t.border.items ≡ many = ap length (places ∙ places_count d s.patches each i q lt) ∙ length-range_with_len (places_before d s.patches each i) many in
        record {
          count = count ∙ sym (ap length mask);
          within = λ j y below.
              let there = read_there i q lt j no_face (omega (arith, below, count)) in
              let here : get_or t.border.items j y ≡ slice_index (border_places d s.patches each i) j = same_default t.border.items j y 0 below ∙ ap (λ (xs : List ℕ). slice_index xs j) places in
              omega (arith, there, here);
          sizes = λ j f below.
              ap (λ (xs : List ℕ). planned_face fine (slice_index xs j)) places ∙ read_size i q lt j f (omega (arith, below, count))
              ∙ ap (λ (fs : List Face). unsigned_abs (flow (get_or fs j f)) + 1) (sym mask);
        }

    pub are_planned : ArePlanned s each flow fine
    are_planned = record {
      put_count = length-map s.patches (λ (q : Patch). puts_of d s.patches each (box q));
      read_count = length-map-range_with_len (border_places d s.patches each) 0 (length s.patches);
      puts = puts_here;
      reads = reads_here;
    }
