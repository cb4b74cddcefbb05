-- The posts of a level's patches are a plan, whatever the fluxes are.
use Rattle.std.proofs.Common.{◌≡◌, ℕ, zero, suc, ◌+◌, ◌-◌, ◌*◌, ◌^◌, ◌<◌, ◌≤◌, ◌==◌, ◌⊎◌, inl, inr, Bool, true, false, cond, pos, List, [], ◌∷◌, length, get_or, map, refl, sym, ap, subst, ◌∙◌, arith}
use Rattle.std.specs.List.{All, filter, flat_map}
use Rattle.std.specs.Global.{Vec}
use Rattle.std.specs.Prelude.{◌&&◌, ◌||◌, int_lt, not}
use Rattle.std.proofs.lemmas.Bool.{and_parts, cases_lt}
use Rattle.std.proofs.lemmas.List.Elements.{All-append, All-cons, All-nil}
use Rattle.std.proofs.lemmas.List.{get_or-map, get_or_past, length-map}
use Rattle.amr_box.specs.declared.Face.{Face}
use Rattle.amr_box.specs.declared.Axis.TheVariants.{X}
use Rattle.amr_box.specs.Cells.{Extent, holds}
use Rattle.amr_def.specs.Domain.{Domain}
use Rattle.amr_def.specs.State.{is_covered}
use Rattle.amr_def.specs.Flux.{face, high_cell}
use Rattle.amr_patch.specs.declared.patches.Patch.{Patch}
use Rattle.amr_patch.specs.Patches.{ArePatchesApart, box}
use Rattle.amr_patch.proofs.Lookups.{one_patch}
use Rattle.amr_phase.specs.declared.plan.Post.{Post}
use Rattle.amr_phase.specs.declared.plan.Task.{Task}
use Rattle.amr_phase.specs.Plans.{IsPlan, PlanOf, PutsAreApart, added, adds_of, no_post, no_task, planned_total, put_at, puts_of as posts_at, total}
use Rattle.amr_phase.proofs.Layouts.{layout_is_plan}
use Rattle.amr_faces.specs.Faces.{passing}
use Rattle.amr_layout.specs.declared.PutAt.{PutAt}
use Rattle.amr_layout.specs.Surroundings.{Around, domain_around, edge_count, edge_face, inside, inward, is_coarse_fine, is_open}
use Rattle.amr_layout.specs.Places.{ArePut, home_face, level_borders, placed, puts_of}
use Rattle.amr_layout.specs.declared.FlowTo.{FlowTo}
use Rattle.amr_layout.specs.Adds.{AreInOrder, HasCellsBeyond, HasRegisterCells, cell_beyond, flow_to, flows_of, goes_on, is_ledger_face, number_of, size_to, word_of, word_total}
use Rattle.amr_layout.specs.Posts.{AreSmallSizes, add_post, patch_plan, patch_task, put_post}
use Rattle.amr_layout.proofs.Numbers.{number_within}
use Rattle.amr_layout.proofs.Passing.{passing_length}
use Rattle.amr_layout.proofs.Totals.{total_image, total_most}

-- ---- lists

pub nth : {A : Type 0} (xs : List A) (i : ℕ) → i < length xs → A
nth [] i lt = absurd (omega arith)
nth (x ∷ xs) zero lt = x
nth (x ∷ xs) (suc i) lt = nth xs i (omega arith)

-- lists whose images are one have one image at each place
pub image_at : {A B C : Type 0} (f : A → List C) (g : B → List C) (xs : List A) (ys : List B) (i : ℕ) (a : A) (b : B) → map f xs ≡ map g ys → i < length xs → i < length ys → f (get_or xs i a) ≡ g (get_or ys i b)
image_at f g xs ys i a b e lt lt' = sym (get_or-map f xs i a [] lt) ∙ ap (λ l. get_or l i []) e ∙ get_or-map g ys i b [] lt'

pub image_length : {A B C : Type 0} (f : A → C) (g : B → C) (xs : List A) (ys : List B) → map f xs ≡ map g ys → length xs ≡ length ys
image_length f g xs ys e = sym (length-map xs f) ∙ ap length e ∙ length-map ys g

pub images_alike : {A B C : Type 0} (f : A → C) (g : B → C) (xs : List A) (ys : List B) → length xs ≡ length ys → ((k : ℕ) (a : A) (b : B) → k < length ys → f (get_or xs k a) ≡ g (get_or ys k b)) → map f xs ≡ map g ys
images_alike f g [] [] e h = refl
images_alike f g [] (y ∷ ys) e h = absurd (omega arith)
images_alike f g (x ∷ xs) [] e h = absurd (omega arith)
images_alike f g (x ∷ xs) (y ∷ ys) e h =
    let head : f x ≡ g y = h 0 x y (omega arith) in
    let rest : map f xs ≡ map g ys = images_alike f g xs ys (omega arith) (λ k a b lt. h (suc k) a b (omega arith)) in
    λ i. head i ∷ rest i

-- ---- puts with places one after another

-- a put among those of a list of faces, numbered from n on, that are a patch's own
pub record IsOwnPut (own : PutAt → Bool) (n : ℕ) (fs : List Face) (z : Face) (x : PutAt) : Type 0 where
  pub from : n ≤ x.place
  pub within : x.place < n + length fs
  pub is_own : own x ≡ true
  pub of_face : x.face ≡ get_or fs (x.place - n) z

one_on : (own : PutAt → Bool) (n : ℕ) (f : Face) (fs : List Face) (z : Face) (x : PutAt) → IsOwnPut own (suc n) fs z x → IsOwnPut own n (f ∷ fs) z x
one_on own n f fs z x h =
    let step : x.place - n ≡ suc (x.place - suc n) = omega (arith, h.from) in
    record { from = omega (arith, h.from); within = omega (arith, h.within); is_own = h.is_own; of_face = h.of_face ∙ ap (λ k. get_or (f ∷ fs) k z) (sym step) }

own_step : (own : PutAt → Bool) (n : ℕ) (f : Face) (fs : List Face) (z : Face) (d : PutAt) (rest : List PutAt) → ((k : ℕ) → k < length rest → IsOwnPut own (suc n) fs z (get_or rest k d))
    → (t : Bool) → own (record { place = n; face = f }) ≡ t → (k : ℕ) → k < length (cond t (record { place = n; face = f } ∷ rest) rest) → IsOwnPut own n (f ∷ fs) z (get_or (cond t (record { place = n; face = f } ∷ rest) rest) k d)
own_step own n f fs z d rest ih true e zero lt =
    let none : 0 ≡ n - n = omega arith in
    let below : n < n + suc (length fs) = omega arith in
    record { from = omega arith; within = below; is_own = e; of_face = ap (λ j. get_or (f ∷ fs) j z) none }
own_step own n f fs z d rest ih true e (suc k) lt = one_on own n f fs z (get_or rest k d) (ih k (omega arith))
own_step own n f fs z d rest ih false e k lt = one_on own n f fs z (get_or rest k d) (ih k lt)

pub own_puts : (own : PutAt → Bool) (n : ℕ) (fs : List Face) (z : Face) (k : ℕ) (d : PutAt) → k < length (filter own (placed n fs)) → IsOwnPut own n fs z (get_or (filter own (placed n fs)) k d)
own_puts own n [] z k d lt = absurd (omega arith)
own_puts own n (f ∷ fs) z k d lt = own_step own n f fs z d (filter own (placed (suc n) fs)) (λ j below. own_puts own (suc n) fs z j d below) (own (record { place = n; face = f })) refl k lt

rise_step : (p d : PutAt) (rest : List PutAt) → ((k : ℕ) → k < length rest → p.place < (get_or rest k d).place) → ((j k : ℕ) → j < k → k < length rest → (get_or rest j d).place < (get_or rest k d).place)
    → (t : Bool) (j k : ℕ) → j < k → k < length (cond t (p ∷ rest) rest) → (get_or (cond t (p ∷ rest) rest) j d).place < (get_or (cond t (p ∷ rest) rest) k d).place
rise_step p d rest after ih true j zero h lt = absurd (omega arith)
rise_step p d rest after ih true zero (suc k) h lt = after k (omega arith)
rise_step p d rest after ih true (suc j) (suc k) h lt = ih j k (omega arith) (omega arith)
rise_step p d rest after ih false j k h lt = ih j k h lt

-- later puts have later places
pub puts_rise : (own : PutAt → Bool) (n : ℕ) (fs : List Face) (j k : ℕ) (d : PutAt) → j < k → k < length (filter own (placed n fs)) → (get_or (filter own (placed n fs)) j d).place < (get_or (filter own (placed n fs)) k d).place
puts_rise own n [] j k d h lt = absurd (omega arith)
puts_rise own n (f ∷ fs) j k d h lt =
    rise_step (record { place = n; face = f }) d (filter own (placed (suc n) fs))
    (λ i below. let later = own_puts own (suc n) fs f i d below in omega (arith, later.from))
    (λ i m up below. puts_rise own (suc n) fs i m d up below) (own (record { place = n; face = f })) j k h lt

-- ---- amounts

-- no more than each flow has
word_most : (size : Face → ℕ) → AreSmallSizes size → (word : ℕ) (xs : List FlowTo) → word_total size word xs ≤ 2 ^ 31 * length xs
word_most size small word [] = omega arith
word_most size small word (x ∷ xs) =
    let rest : word_total size word xs ≤ 2 ^ 31 * length xs = word_most size small word xs in
    let here : size_to size word x ≤ 2 ^ 31 = from (x.word == word) in
    let r : size_to size word x + word_total size word xs ≤ 2 ^ 31 * suc (length xs) = omega (arith, rest, here) in r
  where
    from : (t : Bool) → cond {A = ℕ} t (size x.face) 0 ≤ 2 ^ 31
    from true = let less : size x.face < 2 ^ 31 = small x.face in omega (arith, less)
    from false = omega arith

-- a box has at most one flow for each face on its edges
pub flows_few : (s : Around) (b : Extent) → length (flows_of s b) ≤ edge_count b
unfolding flows_of
flows_few s b =
    let faces = passing (goes_on s b) (edge_face b) (edge_count b) in
    omega (arith, passing_length (goes_on s b) (edge_face b) (edge_count b), length-map faces (λ f. flow_to (word_of s b f) f))

-- so a word gets at most one flow for each face on the edges of these patches
pub level_few : (s : Around) (size : Face → ℕ) → AreSmallSizes size → (word : ℕ) (qs : List Patch) → total (λ (q : Patch). word_total size word (flows_of s (box q))) qs ≤ 2 ^ 31 * total (λ q. edge_count (box q)) qs
level_few s size small word qs =
    total_most (λ (q : Patch). word_total size word (flows_of s (box q))) (λ (q : Patch). edge_count (box q)) (2 ^ 31) qs
    (λ k q lt. let xs = flows_of s (box (get_or qs k q)) in omega (arith, word_most size small word xs, flows_few s (box (get_or qs k q))))

-- ---- the plan

no_put : PutAt
no_put = record { place = 0; face = face X (pos 0) (pos 0) }

-- the faces of the domain that have places
abbrev faces_of : Domain → List Patch → ℕ → List Face
faces_of d ps each = map (home_face d) (level_borders d ps each ps)

abbrev is_own_of : List Patch → ℕ → Patch → PutAt → Bool
is_own_of ps t q x = holds (box (get_or ps t q)) (high_cell x.face)

-- the puts of task t
abbrev own_list : Domain → List Patch → ℕ → ℕ → Patch → List PutAt
own_list d ps each t q = filter (is_own_of ps t q) (placed 0 (faces_of d ps each))

same_place : (own : PutAt → Bool) (n : ℕ) (fs : List Face) (k j : ℕ) (d : PutAt) → k < length (filter own (placed n fs)) → j < length (filter own (placed n fs)) → (get_or (filter own (placed n fs)) k d).place ≡ (get_or (filter own (placed n fs)) j d).place → k ≡ j
same_place own n fs k j d kl jl e = from (cases_lt k j) (cases_lt j k)
  where
    from : ((k < j) ⊎ (j ≤ k)) → ((j < k) ⊎ (k ≤ j)) → k ≡ j
    from (inl h) m = let up = puts_rise own n fs k j d h jl in absurd (omega (arith, up, e))
    from (inr h) (inl m) = let up = puts_rise own n fs j k d m kl in absurd (omega (arith, up, e))
    from (inr h) (inr m) = omega (arith, h, m)

-- the task of a place is that of the patch with the cell at the face's high side
same_task : (d : Domain) (ps : List Patch) (each t u k j : ℕ) (q : Patch) → ArePatchesApart ps → t < length ps → u < length ps → k < length (own_list d ps each t q) → j < length (own_list d ps each u q)
    → (get_or (own_list d ps each t q) k no_put).place ≡ (get_or (own_list d ps each u q) j no_put).place → (t ≡ u) × (k ≡ j)
same_task d ps each t u k j q apart t_in u_in kl jl e =
    let a = own_puts (is_own_of ps t q) 0 (faces_of d ps each) no_put.face k no_put kl in
    let b = own_puts (is_own_of ps u q) 0 (faces_of d ps each) no_put.face j no_put jl in
    let x = get_or (own_list d ps each t q) k no_put in
    let z = get_or (own_list d ps each u q) j no_put in
    let face : x.face ≡ z.face = a.of_face ∙ ap (λ n. get_or (faces_of d ps each) (n - 0) no_put.face) e ∙ sym b.of_face in
    let on_u : holds (box (get_or ps u q)) (high_cell x.face) ≡ true = ap (λ f. holds (box (get_or ps u q)) (high_cell f)) face ∙ b.is_own in
    let same : t ≡ u = one_patch ps (high_cell x.face) t u q apart t_in u_in a.is_own on_u in
    let e' : x.place ≡ (get_or (own_list d ps each t q) j no_put).place = e ∙ ap (λ v. (get_or (own_list d ps each v q) j no_put).place) (sym same) in
    let P : ℕ → Type 0 = λ v. j < length (own_list d ps each v q) in
    let jl' : j < length (own_list d ps each t q) = subst P (sym same) jl in
    (same, same_place (is_own_of ps t q) 0 (faces_of d ps each) k j no_put kl jl' e')

-- ---- words

pub all_images : {A B : Type 0} (f : A → B) (P : B → Type 0) (xs : List A) → All (λ x. P (f x)) xs → All P (map f xs)
all_images f P [] h = All-nil P
all_images f P (x ∷ xs) h = All-cons P (f x) (map f xs) (h 0 x (omega arith)) (all_images f P xs (λ k d lt. h (suc k) d (omega arith)))

pub all_parts : {A B : Type 0} (f : A → List B) (P : B → Type 0) (xs : List A) → All (λ x. All P (f x)) xs → All P (flat_map f xs)
all_parts f P [] h = All-nil P
all_parts f P (x ∷ xs) h = All-append P (f x) (flat_map f xs) (h 0 x (omega arith)) (all_parts f P xs (λ k d lt. h (suc k) d (omega arith)))

-- each face that passes has what all those have that pass
pub all_passing : (P : Face → Type 0) (test : Face → Bool) (g : ℕ → Face) (n : ℕ) → ((k : ℕ) → k < n → test (g k) ≡ true → P (g k)) → All P (passing test g n)
all_passing P test g zero h = All-nil P
all_passing P test g (suc n) h = All-append P (passing test g n) _ (all_passing P test g n (λ k lt. h k (omega (arith, lt)))) (last (test (g n)) refl)
  where
    last : (t : Bool) → test (g n) ≡ t → All P (cond t (g n ∷ []) [])
    last true e = All-cons P (g n) [] (h n (omega arith) e) (All-nil P)
    last false e = All-nil P

-- a flow goes to a word of the ledger, or to one of the register cell beyond its face
one_word : (s : Around) (b : Extent) (f : Face) → goes_on s b f ≡ true → (is_coarse_fine s b f ≡ true → number_of s.cells (cell_beyond s b f) < length s.cells) → word_of s b f < 2 + 2 * length s.cells
unfolding goes_on word_of is_ledger_face
one_word s b f goes within = from (is_open s b f) (int_lt (pos 0) (inward s.problem s.level b f)) (int_lt (inward s.problem s.level b f) (pos 0)) (and_parts (is_ledger_face s b f || is_coarse_fine s b f) _ goes).0
  where
    from : (o t u : Bool) → (o && not (is_covered s.finer (inside b f))) || is_coarse_fine s b f ≡ true
        → cond {A = ℕ} o (cond t 0 1) (cond u (2 + 2 * number_of s.cells (cell_beyond s b f)) (3 + 2 * number_of s.cells (cell_beyond s b f))) < 2 + 2 * length s.cells
    from true true u e = omega arith
    from true false u e = omega arith
    from false t true e = omega (arith, within e)
    from false t false e = omega (arith, within e)

pub flow_words : (s : Around) (b : Extent) → AreInOrder s.cells → HasCellsBeyond s b → All (λ (x : FlowTo). x.word < 2 + 2 * length s.cells) (flows_of s b)
unfolding flows_of
flow_words s b ordered there =
    all_images (λ f. flow_to (word_of s b f) f) (λ x. x.word < 2 + 2 * length s.cells) (passing (goes_on s b) (edge_face b) (edge_count b))
    (all_passing (λ f. word_of s b f < 2 + 2 * length s.cells) (goes_on s b) (edge_face b) (edge_count b)
    (λ k lt e. one_word s b (edge_face b k) e (λ c. number_within s.cells (cell_beyond s b (edge_face b k)) ordered (there k lt c))))

-- ---- the plan

module _ (s : Around) (each : ℕ) (apart : ArePatchesApart s.patches) (cells : HasRegisterCells s) (few : total (λ q. edge_count (box q)) s.patches ≤ 2 ^ 30) (size : Face → ℕ) (small : AreSmallSizes size) where
  abbrev d : Domain
  d = domain_around s

  abbrev plan : PlanOf
  plan = patch_plan s each size

  task_at : (t : ℕ) (q : Patch) → t < length s.patches → get_or plan.tasks t no_task ≡ patch_task s each size (get_or s.patches t q)
  task_at t q lt = get_or-map (patch_task s each size) s.patches t q no_task lt

  -- what has a post is the task of a patch
  of_patch : (posts : Task → List Post) → length (posts no_task) ≡ 0 → (t k : ℕ) → k < length (posts (get_or plan.tasks t no_task)) → t < length s.patches
  of_patch posts none t k lt = from (cases_lt t (length s.patches))
    where
      from : ((t < length s.patches) ⊎ (length s.patches ≤ t)) → t < length s.patches
      from (inl l) = l
      from (inr past) =
          let e = ap (λ (x : Task). length (posts x)) (get_or_past plan.tasks t no_task (omega (arith, past, length-map s.patches (patch_task s each size)))) in
          absurd (omega (arith, lt, e, none))

  there : (t k : ℕ) → k < length (posts_at plan t) → t < length s.patches
  there t k lt = of_patch (λ x. x.puts) refl t k lt

  puts_at : (t : ℕ) (q : Patch) → t < length s.patches → posts_at plan t ≡ map (put_post size) (own_list d s.patches each t q)
  unfolding puts_of
  puts_at t q lt = ap (λ (x : Task). x.puts) (task_at t q lt)

  in_list : (t k : ℕ) (q : Patch) → k < length (posts_at plan t) → k < length (own_list d s.patches each t q)
  in_list t k q lt =
      let e : length (posts_at plan t) ≡ length (map (put_post size) (own_list d s.patches each t q)) = ap length (puts_at t q (there t k lt)) in
      omega (arith, lt, e, length-map (own_list d s.patches each t q) (put_post size))

  put_is : (t k : ℕ) (q : Patch) → k < length (posts_at plan t) → put_at plan t k ≡ put_post size (get_or (own_list d s.patches each t q) k no_put)
  put_is t k q lt = ap (λ l. get_or l k no_post) (puts_at t q (there t k lt)) ∙ get_or-map (put_post size) (own_list d s.patches each t q) k no_put no_post (in_list t k q lt)

  some : (t k : ℕ) → k < length (posts_at plan t) → Patch
  some t k lt = nth s.patches t (there t k lt)

  in_range : (t k : ℕ) → k < length (posts_at plan t) → (put_at plan t k).at < plan.places
  in_range t k lt =
      let q = some t k lt in
      let x = get_or (own_list d s.patches each t q) k no_put in
      let at : (put_at plan t k).at ≡ x.place = ap (λ (p : Post). p.at) (put_is t k q lt) in
      let known = own_puts (is_own_of s.patches t q) 0 (faces_of d s.patches each) no_put.face k no_put (in_list t k q lt) in
      let count : length (faces_of d s.patches each) ≡ plan.places = length-map (level_borders d s.patches each s.patches) (home_face d) in
      omega (arith, at, known.within, count)

  fits : (t k : ℕ) → k < length (posts_at plan t) → (put_at plan t k).amount < 2 ^ 63
  fits t k lt =
      let q = some t k lt in
      let x = get_or (own_list d s.patches each t q) k no_put in
      let at : (put_at plan t k).amount ≡ size x.face = ap (λ (p : Post). p.amount) (put_is t k q lt) in
      let less : size x.face < 2 ^ 31 = small x.face in
      omega (arith, at, less)

  are_apart : PutsAreApart plan
  are_apart t k u j kl jl e =
      let q = some t k kl in
      let a : (put_at plan t k).at ≡ (get_or (own_list d s.patches each t q) k no_put).place = ap (λ (p : Post). p.at) (put_is t k q kl) in
      let b : (put_at plan u j).at ≡ (get_or (own_list d s.patches each u q) j no_put).place = ap (λ (p : Post). p.at) (put_is u j q jl) in
      same_task d s.patches each t u k j q apart (there t k kl) (there u j jl) (in_list t k q kl) (in_list u j q jl) (sym a ∙ e ∙ b)

  words_in_range : (t k : ℕ) → k < length (adds_of plan t) → (get_or (adds_of plan t) k no_post).at < plan.words
  words_in_range t k lt =
      let l = of_patch (λ x. x.adds) refl t k lt in
      let q = nth s.patches t l in
      let xs = flows_of s (box (get_or s.patches t q)) in
      let e : adds_of plan t ≡ map (add_post size) xs = ap (λ (x : Task). x.adds) (task_at t q l) in
      let in_flows : k < length xs = omega (arith, lt, ap length e, length-map xs (add_post size)) in
      let x = nth xs k in_flows in
      let at : (get_or (adds_of plan t) k no_post).at ≡ (get_or xs k x).word = ap (λ (ps : List Post). (get_or ps k no_post).at) e ∙ ap (λ (p : Post). p.at) (get_or-map (add_post size) xs k x no_post in_flows) in
      let word : (get_or xs k x).word < 2 + 2 * length s.cells = flow_words s (box (get_or s.patches t q)) cells.ordered (cells.each t q l) k x in_flows in
      omega (arith, at, word)

  totals : (w : ℕ) → planned_total plan w < 2 ^ 63
  totals w =
      let by_patch = total_image (λ (t : Task). total (added w) t.adds) (patch_task s each size) (λ (q : Patch). word_total size w (flows_of s (box q))) (λ q. total_image (added w) (add_post size) (size_to size w) (λ x. refl) (flows_of s (box q))) s.patches in
      omega (arith, by_patch, level_few s size small w s.patches, few)

  pub planned : IsPlan plan
  planned = layout_is_plan plan (record { puts_in_range = in_range; adds_in_range = words_in_range; apart = are_apart; puts_fit = fits; totals_fit = totals })

-- each lot has the puts that are its patch's
pub lists_are : (d : Domain) (ps : List Patch) (each count : ℕ) (lists : List (Vec PutAt)) → ArePut d ps (level_borders d ps each ps) count lists → map (λ v. v.items) lists ≡ map (λ q. puts_of d ps each (box q)) ps
unfolding puts_of
lists_are d ps each count lists put = images_alike (λ (v : Vec PutAt). v.items) (λ q. puts_of d ps each (box q)) lists ps put.list_count (λ k v q lt. put.each k v q lt)
