-- Sums over views, and over the posts of their tasks.
use Rattle.std.proofs.Common.{◌≡◌, ◌≢◌, ℕ, zero, suc, ◌+◌, ◌<◌, ◌≤◌, List, [], ◌∷◌, length, get_or, set, take, drop, refl, sym, ap, ◌∙◌, subst, ⊎_elim, arith, add-zero, zero-add}
use mathlib.Core.Logic.{dite}
use native.Mathlib.Decide.{ℕ_discrete}
use mathlib.Core.Option.{some, some-ne-none, some-injective}
use lib.ListN.{get_elem?}
use Rattle.atomic_table.proofs.Lists.{at_set}
use Rattle.amr_phase.specs.declared.plan.Post.{Post}
use Rattle.amr_phase.specs.declared.plan.Task.{Task}
use Rattle.amr_phase.specs.Plans.{PlanOf, total, no_task}
use Rattle.amr_board.specs.declared.view.Progress.{Progress}
use Rattle.amr_board.specs.declared.view.View.{View}
use Rattle.amr_phase.proofs.Sums.{total_take_drop}
use Rattle.amr_board.specs.Rule.{weigh, numbers}

module _ {X : Type 0} where
  pub sum_set : (f : X → ℕ) (xs : List X) (i : ℕ) (v w : X) → get_elem? xs i ≡ some v → total f (set xs i w) + f v ≡ total f xs + f w
  sum_set f [] i v w e = absurd (some-ne-none v (sym e))
  sum_set f (x ∷ xs) zero v w e = let same : f x ≡ f v = ap f (some-injective x v e) in let r : (f w + total f xs) + f v ≡ (f x + total f xs) + f w = omega arith in r
  sum_set f (x ∷ xs) (suc i) v w e = let h = sum_set f xs i v w e in let r : (f x + total f (set xs i w)) + f v ≡ (f x + total f xs) + f w = omega arith in r

  pub sum_le : (f g : X → ℕ) (xs : List X) → ((x : X) → f x ≤ g x) → total f xs ≤ total g xs
  sum_le f g [] le = let r : 0 ≤ 0 = omega arith in r
  sum_le f g (x ∷ xs) le = let h = sum_le f g xs le in let k = le x in let r : f x + total f xs ≤ g x + total g xs = omega arith in r

  pub sum_ext : (f g : X → ℕ) (xs : List X) → ((x : X) → f x ≡ g x) → total f xs ≡ total g xs
  sum_ext f g [] same = refl
  sum_ext f g (x ∷ xs) same = let h = sum_ext f g xs same in let k = same x in let r : f x + total f xs ≡ g x + total g xs = omega arith in r

  pub sum_both : (f g : X → ℕ) (xs : List X) → total f xs + total g xs ≡ total (λ x. f x + g x) xs
  sum_both f g [] = refl
  sum_both f g (x ∷ xs) = let h = sum_both f g xs in let r : (f x + total f xs) + (g x + total g xs) ≡ (f x + g x) + total (λ y. f y + g y) xs = omega arith in r

  -- what holds of each view holds still where one is replaced
  pub each_set : (Q : X → Type 0) (vs : List X) (id : ℕ) (w : X) → ((k : ℕ) (u : X) → get_elem? vs k ≡ some u → Q u) → Q w → (k : ℕ) (u : X) → get_elem? (set vs id w) k ≡ some u → Q u
  each_set Q vs id w all mine k u e =
      ⊎_elim
      (λ (t : (k ≡ id) × (w ≡ u)). subst Q t.1 mine)
      (λ (t : (k ≢ id) × (get_elem? vs k ≡ some u)). all k u t.1)
      (at_set vs id k w u e)

pub weigh_shift : (h : ℕ → ℕ) (t n : ℕ) → weigh h (suc t) n ≡ weigh (λ k. h (suc k)) t n
weigh_shift h t zero = refl
weigh_shift h t (suc n) = let r = weigh_shift h (suc t) n in omega arith

pub weigh_list : {X : Type 0} (f : X → ℕ) (xs : List X) (d : X) → weigh (λ t. f (get_or xs t d)) 0 (length xs) ≡ total f xs
weigh_list f [] d = refl
weigh_list f (x ∷ xs) d =
    let s : weigh (λ t. f (get_or (x ∷ xs) t d)) 1 (length xs) ≡ weigh (λ t. f (get_or xs t d)) 0 (length xs) = weigh_shift (λ t. f (get_or (x ∷ xs) t d)) 0 (length xs) in let r = weigh_list f xs d in ap (λ n. f x + n) (s ∙ r)

pub weigh_split : (h : ℕ → ℕ) (t a b : ℕ) → weigh h t (a + b) ≡ weigh h t a + weigh h (t + a) b
weigh_split h t zero b = ap (λ n. weigh h t n) (zero-add b) ∙ (ap (λ n. weigh h n b) (sym (add-zero t)) ∙ sym (zero-add (weigh h (t + 0) b)))
weigh_split h t (suc a) b =
    let r = weigh_split h (suc t) a b in
    let c : suc t + a ≡ t + suc a = omega arith in
    let d : suc a + b ≡ suc (a + b) = omega arith in
    let k : weigh h (suc t + a) b ≡ weigh h (t + suc a) b = ap (λ n. weigh h n b) c in
    ap (λ n. weigh h t n) d ∙ (let x : h t + weigh h (suc t) (a + b) ≡ (h t + weigh h (suc t) a) + weigh h (t + suc a) b = omega arith in x)

-- What is done, what is left and what isn't drawn yet are all that is planned
module _ (plan : PlanOf) (sel : Task → List Post) (count : Progress → ℕ) (f : Post → ℕ) where
  abbrev pub posts : ℕ → List Post
  posts t = sel (get_or plan.tasks t no_task)

  abbrev pub done : Progress → ℕ
  done e = total f (take (count e) (posts e.task))

  abbrev pub left : Progress → ℕ
  left e = total f (drop (count e) (posts e.task))

  abbrev pub undrawn : ℕ → ℕ → ℕ
  undrawn m r = weigh (λ t. total f (posts t)) m r

  pub whole : {P : Type 0} (m r : ℕ) → length plan.tasks ≡ m + r → (vs : List (View P)) → ((h : ℕ → ℕ) → total (numbers h) vs ≡ weigh h 0 m)
      → (total (λ (v : View P). total done v.tasks) vs + total (λ (v : View P). total left v.tasks) vs) + undrawn m r ≡ total (λ (t : Task). total f (sel t)) plan.tasks
  whole {P} m r len vs once =
      let drawn = sum_both (λ (v : View P). total done v.tasks) (λ (v : View P). total left v.tasks) vs
      ∙ (sum_ext (λ (v : View P). total done v.tasks + total left v.tasks) (numbers (λ t. total f (posts t))) vs
      (λ v. sum_both done left v.tasks ∙ sum_ext (λ e. done e + left e) (λ (e : Progress). total f (posts e.task)) v.tasks (λ e. total_take_drop f (posts e.task) (count e)))
      ∙ once (λ t. total f (posts t))) in
      let all : weigh (λ t. total f (posts t)) 0 (m + r) ≡ weigh (λ t. total f (posts t)) 0 m + undrawn (0 + m) r = weigh_split (λ t. total f (posts t)) 0 m r in
      let at : undrawn (0 + m) r ≡ undrawn m r = ap (λ n. undrawn n r) (zero-add m) in
      let list : weigh (λ t. total f (posts t)) 0 (m + r) ≡ total (λ (t : Task). total f (sel t)) plan.tasks = ap (λ n. weigh (λ t. total f (posts t)) 0 n) (sym len) ∙ weigh_list (λ (t : Task). total f (sel t)) plan.tasks no_task in
      omega arith

pub got : {X : Type 0} (xs : List X) (i : ℕ) (x d : X) → get_elem? xs i ≡ some x → get_or xs i d ≡ x
got [] i x d e = absurd (some-ne-none x (sym e))
got (y ∷ ys) zero x d e = some-injective y x e
got (y ∷ ys) (suc i) x d e = got ys i x d e

pub weigh_zero : (f g : ℕ → ℕ) (t n : ℕ) → ((k : ℕ) → f k ≡ 0 → g k ≡ 0) → weigh f t n ≡ 0 → weigh g t n ≡ 0
weigh_zero f g t zero z h = refl
weigh_zero f g t (suc n) z h =
    let h' : f t + weigh f (suc t) n ≡ 0 = h in
    let a : g t ≡ 0 = z t (omega arith) in
    let b : weigh g (suc t) n ≡ 0 = weigh_zero f g (suc t) n z (omega arith) in
    let r : g t + weigh g (suc t) n ≡ 0 = omega arith in r

pub member_le : {X : Type 0} (f : X → ℕ) (xs : List X) (i : ℕ) (v : X) → get_elem? xs i ≡ some v → f v ≤ total f xs
member_le f [] i v e = absurd (some-ne-none v (sym e))
member_le f (x ∷ xs) zero v e = let same : f x ≡ f v = ap f (some-injective x v e) in let r : f v ≤ f x + total f xs = omega arith in r
member_le f (x ∷ xs) (suc i) v e = let h = member_le f xs i v e in let r : f v ≤ f x + total f xs = omega arith in r

all_zero_in : {X : Type 0} (f g : X → ℕ) (xs : List X) → ((k : ℕ) (x : X) → get_elem? xs k ≡ some x → f x ≡ 0 → g x ≡ 0) → total f xs ≡ 0 → total g xs ≡ 0
all_zero_in f g [] z h = refl
all_zero_in f g (x ∷ xs) z h =
    let h' : f x + total f xs ≡ 0 = h in
    let a : g x ≡ 0 = z 0 x refl (omega arith) in
    let b : total g xs ≡ 0 = all_zero_in f g xs (λ k y e. z (suc k) y e) (omega arith) in
    let r : g x + total g xs ≡ 0 = omega arith in r

-- where one has all of f, and who has none of f has none of g, that one has all of g
pub only_one : {X : Type 0} (f g : X → ℕ) (xs : List X) (i : ℕ) (v : X) → ((k : ℕ) (x : X) → get_elem? xs k ≡ some x → f x ≡ 0 → g x ≡ 0) → get_elem? xs i ≡ some v → total f xs ≡ f v → total g xs ≡ g v
only_one f g [] i v z e h = absurd (some-ne-none v (sym e))
only_one f g (x ∷ xs) zero v z e h =
    let same : f x ≡ f v = ap f (some-injective x v e) in
    let same' : g x ≡ g v = ap g (some-injective x v e) in
    let h' : f x + total f xs ≡ f v = h in
    let b : total g xs ≡ 0 = all_zero_in f g xs (λ k y e'. z (suc k) y e') (omega arith) in
    let r : g x + total g xs ≡ g v = omega arith in r
only_one f g (x ∷ xs) (suc i) v z e h =
    let h' : f x + total f xs ≡ f v = h in
    let m : f v ≤ total f xs = member_le f xs i v e in
    let a : g x ≡ 0 = z 0 x refl (omega arith) in
    let b : total g xs ≡ g v = only_one f g xs i v (λ k y e'. z (suc k) y e') e (omega arith) in
    let r : g x + total g xs ≡ g v = omega arith in r

pub get_first : {X : Type 0} (xs : List X) (d : X) → 0 < length xs → get_elem? xs 0 ≡ some (get_or xs 0 d)
get_first [] d h = absurd (omega arith)
get_first (x ∷ xs) d h = refl

pub in_range_at : {X : Type 0} (xs : List X) (i : ℕ) (x : X) → get_elem? xs i ≡ some x → i < length xs
in_range_at [] i x e = absurd (some-ne-none x (sym e))
in_range_at (y ∷ ys) zero x e = let r : 0 < suc (length ys) = omega arith in r
in_range_at (y ∷ ys) (suc i) x e = let h = in_range_at ys i x e in let r : suc i < suc (length ys) = omega arith in r

pub found_at : {X : Type 0} (xs : List X) (i : ℕ) → i < length xs → (x : X) × (get_elem? xs i ≡ some x)
found_at [] i h = absurd (omega arith)
found_at (x ∷ xs) zero h = (x, refl)
found_at (x ∷ xs) (suc i) h = found_at xs i (omega arith)

-- a sum that is not 0 has a part that is not
pub some_member : {X : Type 0} (f : X → ℕ) (xs : List X) → 0 < total f xs → (i : ℕ) × (x : X) × (get_elem? xs i ≡ some x) × (0 < f x)
some_member f [] h = absurd (omega arith)
some_member f (x ∷ xs) h =
    let h' : 0 < f x + total f xs = h in
    dite (ℕ_discrete (f x) 0)
    (λ z. let r = some_member f xs (omega arith) in (suc r.0, r.1, r.2, r.3))
    (λ ne. (0, x, refl, omega arith))
