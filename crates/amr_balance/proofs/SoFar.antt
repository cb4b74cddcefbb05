-- The first tasks shared out: what the loop of `share` keeps.
use Rattle.std.proofs.Common.{◌≡◌, ℕ, zero, suc, ◌+◌, ◌*◌, ◌-◌, ◌<◌, ◌≤◌, ◌==◌, cond, List, [], ◌∷◌, ◌++◌, length, get_or, set, take, sum, refl, sym, ap, subst, ◌∙◌, inl, inr, arith, append-nil, below_more, length-append, replicate}
use Rattle.std.proofs.lemmas.Bool.Decides.{eqb_tells}
use Rattle.std.proofs.lemmas.List.Sums.{sum_by-take-le}
use Rattle.std.proofs.lemmas.List.{length-set, get_or-set_same, get_or-set_other, take_all, map-append}
use Rattle.std.specs.Global.{Vec}
use Rattle.amr_balance.specs.Shares.{Owner, IsLeast, IsFair, IsShare, IsBalanced, tasks_of, load, load_of, largest, lists_in}
use Rattle.amr_balance.proofs.Owners.{with_owner, owner_new, owner_old, tasks_same, load_more}
use Rattle.amr_balance.proofs.Loads.{loads_together, taken_more, part_of, sum_to}
use Rattle.amr_balance.proofs.Balance.{balanced}

pub record IsSoFar (areas : List ℕ) (workers n : ℕ) (loads : List ℕ) (lots : List (List ℕ)) : Type 0 where
  pub owner : Owner
  pub fair : IsFair areas workers n owner
  pub loads_count : length loads ≡ workers
  pub lots_count : length lots ≡ workers
  pub loaded : (w : ℕ) → w < workers → get_or loads w 0 ≡ load areas owner n w
  pub lot : (w : ℕ) → w < workers → get_or lots w [] ≡ tasks_of owner w n

pub none_so_far : (areas : List ℕ) (workers : ℕ) (loads : List ℕ) (lots : List (List ℕ)) → length loads ≡ workers → length lots ≡ workers
    → ((w : ℕ) → get_or loads w 0 ≡ 0) → ((w : ℕ) → get_or lots w [] ≡ []) → IsSoFar areas workers 0 loads lots
none_so_far areas workers loads lots a b c d = record {
  owner = λ k. 0;
  fair = record { each = λ k h. absurd (omega arith) };
  loads_count = a;
  lots_count = b;
  loaded = λ w h. c w;
  lot = λ w h. d w;
}

-- the first of the least of loads that agree
least_along : (workers : ℕ) (f g : ℕ → ℕ) (w : ℕ) → ((v : ℕ) → v < workers → f v ≡ g v) → IsLeast workers f w → IsLeast workers g w
least_along workers f g w same h = record {
  there = h.there;
  least = λ v below. omega (arith, same v below, same w h.there, h.least v below);
  first = λ v under. omega (arith, same v (omega (arith, h.there)), same w h.there, h.first v under);
}

loaded_more : (areas : List ℕ) (owner : Owner) (n : ℕ) (loads : List ℕ) (w v : ℕ) {workers : ℕ} → w < length loads → owner n ≡ w
    → ((u : ℕ) → u < workers → get_or loads u 0 ≡ load areas owner n u) → w < workers → v < workers
    → get_or (set loads w (get_or loads w 0 + get_or areas n 0)) v 0 ≡ load areas owner (suc n) v
loaded_more areas owner n loads w v there new known w_below v_below =
    let a = get_or areas n 0 in
    let x = get_or loads w 0 + a in
    let more : load areas owner (suc n) v ≡ load areas owner n v + cond (w == v) a 0 = load_more areas owner n v ∙ ap (λ o. load areas owner n v + cond (o == v) a 0) new in
    elim (eqb_tells w v) [
      | inl here ↦
          let got : get_or (set loads w x) v 0 ≡ x = subst (λ (u : ℕ). get_or (set loads w x) u 0 ≡ x) here.1 (get_or-set_same loads w x 0 there) in
          let same : load areas owner n w ≡ load areas owner n v = ap (load areas owner n) here.1 in
          let is : cond (w == v) a 0 ≡ a = ap (λ b. cond b a 0) here.0 in
          omega (arith, got, same, is, more, known w w_below)
      | inr other ↦
          let got : get_or (set loads w x) v 0 ≡ get_or loads v 0 = get_or-set_other loads w v x 0 (λ e. other.1 (sym e)) in
          let is : cond (w == v) a 0 ≡ 0 = ap (λ b. cond b a 0) other.0 in
          omega (arith, got, is, more, known v v_below)
    ]

lot_more : (owner : Owner) (n : ℕ) (lots : List (List ℕ)) (w v : ℕ) {workers : ℕ} → w < length lots → owner n ≡ w
    → ((u : ℕ) → u < workers → get_or lots u [] ≡ tasks_of owner u n) → w < workers → v < workers
    → get_or (set lots w (get_or lots w [] ++ n ∷ [])) v [] ≡ tasks_of owner v (suc n)
lot_more owner n lots w v there new known w_below v_below =
    let x = get_or lots w [] ++ n ∷ [] in
    let more : tasks_of owner v n ++ cond (w == v) (n ∷ []) [] ≡ tasks_of owner v (suc n) = ap (λ o. tasks_of owner v n ++ cond (o == v) (n ∷ []) []) (sym new) in
    elim (eqb_tells w v) [
      | inl here ↦
          let got : get_or (set lots w x) v [] ≡ x = subst (λ (u : ℕ). get_or (set lots w x) u [] ≡ x) here.1 (get_or-set_same lots w x [] there) in
          let had : x ≡ tasks_of owner v n ++ n ∷ [] = ap (λ l. l ++ n ∷ []) (known w w_below) ∙ ap (λ u. tasks_of owner u n ++ n ∷ []) here.1 in
          got ∙ had ∙ ap (λ b. tasks_of owner v n ++ cond b (n ∷ []) []) (sym here.0) ∙ more
      | inr other ↦
          let got : get_or (set lots w x) v [] ≡ get_or lots v [] = get_or-set_other lots w v x [] (λ e. other.1 (sym e)) in
          got ∙ known v v_below ∙ sym (append-nil (tasks_of owner v n)) ∙ ap (λ b. tasks_of owner v n ++ cond b (n ∷ []) []) (sym other.0) ∙ more
    ]

-- what was given out is at most all
pub load_small : (areas : List ℕ) (workers n : ℕ) (loads : List ℕ) (lots : List (List ℕ)) (w : ℕ) → IsSoFar areas workers n loads lots → n < length areas → w < workers
    → get_or loads w 0 + get_or areas n 0 ≤ sum areas
load_small areas workers n loads lots w h there below =
    let together : sum_to (load areas h.owner n) workers ≡ sum (take n areas) = loads_together areas workers n h.owner (λ k under. (h.fair.each k under).there) (omega arith) in
    omega (arith, together, part_of (load areas h.owner n) w workers below, h.loaded w below, taken_more areas n there, sum_by-take-le (λ x. x) areas (suc n))

pub shared : (areas : List ℕ) (workers : ℕ) (loads : List ℕ) (lots : List (List ℕ)) → IsSoFar areas workers (length areas) loads lots → IsShare areas workers lots
shared areas workers loads lots h = record { owner = h.owner; fair = h.fair; count = h.lots_count; lot = h.lot }

pub shared_evenly : (areas : List ℕ) (workers : ℕ) (loads : List ℕ) (lots : List (List ℕ)) → 1 ≤ workers → IsSoFar areas workers (length areas) loads lots → IsBalanced areas workers lots
shared_evenly areas zero loads lots some h = absurd (omega arith)
shared_evenly areas (suc others) loads lots some h = record {
  at = λ w below.
      let others_are : others ≡ suc others - 1 = omega arith in
      let bound : suc others * load areas h.owner (length areas) w ≤ sum areas + others * largest areas =
      subst (λ (xs : List ℕ). suc others * load areas h.owner (length areas) w ≤ sum xs + others * largest xs) (take_all (length areas) areas (omega arith))
      (balanced areas others (length areas) h.owner h.fair (omega arith) w below) in
      let of_lot : suc others * load_of areas (get_or lots w []) ≤ sum areas + others * largest areas =
      subst (λ (lot : List ℕ). suc others * load_of areas lot ≤ sum areas + others * largest areas) (sym (h.lot w below)) bound in
      subst (λ (m : ℕ). suc others * load_of areas (get_or lots w []) ≤ sum areas + m * largest areas) others_are of_lot;
}

-- task n is given to the worker with the least to do
pub one_so_far : (areas : List ℕ) (workers n : ℕ) (loads : List ℕ) (lots : List (List ℕ)) (w : ℕ) → IsSoFar areas workers n loads lots → IsLeast workers (λ v. get_or loads v 0) w
    → IsSoFar areas workers (suc n) (set loads w (get_or loads w 0 + get_or areas n 0)) (set lots w (get_or lots w [] ++ n ∷ []))
one_so_far areas workers n loads lots w h least =
    let a = get_or areas n 0 in
    let owner : Owner = with_owner h.owner n w in
    let agree : (k : ℕ) → k < n → h.owner k ≡ owner k = λ k under. sym (owner_old h.owner n w k under) in
    let tasks_are : (v k : ℕ) → k ≤ n → tasks_of h.owner v k ≡ tasks_of owner v k = λ v k few. tasks_same h.owner owner v k (λ j under. agree j (omega arith)) in
    let loads_are : (v k : ℕ) → k ≤ n → load areas h.owner k v ≡ load areas owner k v = λ v k few. ap (load_of areas) (tasks_are v k few) in
    let new_least : IsLeast workers (load areas owner n) (owner n) =
    subst (IsLeast workers (load areas owner n)) (sym (owner_new h.owner n w))
    (least_along workers (λ v. get_or loads v 0) (load areas owner n) w (λ v below. h.loaded v below ∙ loads_are v n (omega arith)) least) in
    let old_least : (k : ℕ) → k < n → IsLeast workers (load areas owner k) (owner k) = λ k under.
    subst (IsLeast workers (load areas owner k)) (agree k under)
    (least_along workers (load areas h.owner k) (load areas owner k) (h.owner k) (λ v below. loads_are v k (omega arith)) (h.fair.each k under)) in
    record {
      owner = owner;
      fair = record { each = λ k under. below_more (λ j. IsLeast workers (load areas owner j) (owner j)) n old_least new_least k (omega arith) };
      loads_count = length-set loads w (get_or loads w 0 + a) ∙ h.loads_count;
      lots_count = length-set lots w (get_or lots w [] ++ n ∷ []) ∙ h.lots_count;
      loaded = λ v below. loaded_more areas owner n loads w v (omega (arith, least.there, h.loads_count)) (owner_new h.owner n w) (λ u there. h.loaded u there ∙ loads_are u n (omega arith)) least.there below;
      lot = λ v below. lot_more owner n lots w v (omega (arith, least.there, h.lots_count)) (owner_new h.owner n w) (λ u there. h.lot u there ∙ tasks_are u n (omega arith)) least.there below;
    }

still_empty : (lots : List (List ℕ)) → ((w : ℕ) → get_or lots w [] ≡ []) → (w : ℕ) → get_or (lots ++ [] ∷ []) w [] ≡ []
still_empty [] h zero = refl
still_empty [] h (suc w) = refl
still_empty (lot ∷ lots) h zero = h 0
still_empty (lot ∷ lots) h (suc w) = still_empty lots (λ v. h (suc v)) w

-- so many empty lots
pub record AreEmpty (n : ℕ) (lots : List (List ℕ)) : Type 0 where
  pub count : length lots ≡ n
  pub empty : (w : ℕ) → get_or lots w [] ≡ []

pub one_more_empty : (n : ℕ) (lots : List (List ℕ)) → AreEmpty n lots → AreEmpty (n + 1) (lots ++ [] ∷ [])
one_more_empty n lots h = record { count = simp length-append (omega (arith, h.count)); empty = still_empty lots h.empty }

-- one more list at the end
pub lists_push : (vs : List (Vec ℕ)) (v : Vec ℕ) (lot : List ℕ) → v.items ≡ lot → lists_in (vs ++ v ∷ []) ≡ lists_in vs ++ lot ∷ []
lists_push vs v lot is = map-append (λ (u : Vec ℕ). u.items) vs (v ∷ []) ∙ ap (λ (l : List ℕ). lists_in vs ++ l ∷ []) is

pub zeros : (n w : ℕ) → ◌≡◌ {A = ℕ} (get_or {A = ℕ} (replicate {A = ℕ} n 0) w 0) 0
zeros zero w = refl
zeros (suc n) zero = refl
zeros (suc n) (suc w) = zeros n w
