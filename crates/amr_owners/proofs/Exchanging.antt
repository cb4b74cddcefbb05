-- Items exchanged with the lists of all ranks: what the loop of `exchange` keeps.
use Rattle.std.proofs.Common.{◌≡◌, ℕ, ◌+◌, ◌<◌, ◌≤◌, List, [], length, get_or, set, map, refl, sym, ap, ◌∙◌, arith, below_more}
use Rattle.std.proofs.lemmas.List.{ext_get_or, length-map, get_or-map, get_or-set_same, get_or-set_other, map-set, set-get_or, with_items_is}
use Rattle.std.specs.Global.{Vec}
use Rattle.std.specs.Vec.{with_items}
use Rattle.amr_balance.specs.Shares.{lists_in}
use Rattle.amr_owners.specs.Owners.{AreOwners, HaveTraded, HaveExchanged, IsNoneOf, owned}
use Rattle.amr_owners.proofs.Members.{of_two}

pub list_count : {X : Type 0} (vs : List (Vec X)) → length (lists_in vs) ≡ length vs
list_count {X} vs = length-map vs (λ (v : Vec X). v.items)

pub list_at : {X : Type 0} (vs : List (Vec X)) (r : ℕ) (d : Vec X) → r < length vs → get_or (lists_in vs) r [] ≡ (get_or vs r d).items
list_at {X} vs r d there = get_or-map (λ (v : Vec X). v.items) vs r d [] there

pub list_is : {X : Type 0} (vs : List (Vec X)) (r : ℕ) (v : Vec X) → v ≡ get_or vs r v → r < length vs → get_or (lists_in vs) r [] ≡ v.items
list_is {X} vs r v is there = list_at vs r v there ∙ ap (λ (u : Vec X). u.items) (sym is)

pub list_set : {X : Type 0} (vs : List (Vec X)) (r : ℕ) (v : Vec X) (part : List X) → v.items ≡ part → lists_in (set vs r v) ≡ set (lists_in vs) r part
list_set {X} vs r v part is = map-set (λ (u : Vec X). u.items) vs r v ∙ ap (set (lists_in vs) r) is

-- a list lent out whole, and put back as long as it was
pub put_back : {X : Type 0} (v : Vec X) (lent part : List X) → lent ≡ v.items → length part ≡ length lent → (with_items v part).items ≡ part
put_back v lent part is same = with_items_is v part (let e : length lent ≡ length v.items = ap length is in omega (arith, e, same, v.ok.0))

-- lists of as many items each
pub as_many : {X Y : Type 0} (xs : List (List X)) (ys : List (List Y)) → map length xs ≡ map length ys → length xs ≡ length ys
as_many xs ys h = sym (length-map xs length) ∙ ap length h ∙ length-map ys length

pub as_long : {X Y : Type 0} (xs : List (List X)) (ys : List (List Y)) (r : ℕ) → map length xs ≡ map length ys → r < length xs
    → length (get_or xs r []) ≡ length (get_or ys r [])
as_long xs ys r h there =
    sym (get_or-map length xs r [] 0 there) ∙ ap (λ ns. get_or ns r 0) h ∙ get_or-map length ys r [] 0 (omega (arith, there, as_many xs ys h))

as_long_still : {X : Type 0} (lists : List (List X)) (r : ℕ) (part : List X) → length part ≡ length (get_or lists r []) → r < length lists
    → map length (set lists r part) ≡ map length lists
as_long_still lists r part h there =
    map-set length lists r part ∙ ap (set (map length lists) r) (h ∙ sym (get_or-map length lists r [] 0 there)) ∙ set-get_or (map length lists) r 0

-- a list that has these items in order
pub is_owned : {X : Type 0} (x : X) (xs : List X) (ns : List ℕ) (ys : List X) → length ys ≡ length ns
    → ((k : ℕ) → k < length ns → get_or ys k x ≡ get_or xs (get_or ns k 0) x) → ys ≡ owned x xs ns
is_owned x xs ns ys long each =
    let f = λ (n : ℕ). get_or xs n x in
    ext_get_or x ys (map f ns) (long ∙ sym (length-map ns f)) (λ k lt. each k (omega (arith, lt, long)) ∙ sym (get_or-map f ns k 0 x (omega (arith, lt, long))))

pub record HaveExchangedTo {X : Type 0} (numbers : List (List ℕ)) (r : ℕ) (items : List X) (lists : List (List X)) (new_items : List X)
    (new_lists : List (List X)) : Type 0 where
  pub item_count : length new_items ≡ length items
  pub list_counts : map length new_lists ≡ map length lists
  pub handed : (q : ℕ) → q < r → (x : X) → get_or new_lists q [] ≡ owned x items (get_or numbers q [])
  pub left : (q : ℕ) → r ≤ q → get_or new_lists q [] ≡ get_or lists q []
  pub back : (q : ℕ) → q < r → (x : X) → get_or lists q [] ≡ owned x new_items (get_or numbers q [])
  pub others : (n : ℕ) → ((q : ℕ) → q < r → IsNoneOf (get_or numbers q []) n) → (x : X) → get_or new_items n x ≡ get_or items n x

pub none_exchanged : {X : Type 0} (numbers : List (List ℕ)) (items : List X) (lists : List (List X)) → HaveExchangedTo numbers 0 items lists items lists
none_exchanged numbers items lists = record {
  item_count = refl;
  list_counts = refl;
  handed = λ q h. absurd (omega arith);
  left = λ q h. refl;
  back = λ q h. absurd (omega arith);
  others = λ n h x. refl;
}

pub one_exchanged : {X : Type 0} (numbers : List (List ℕ)) (items its new_its : List X) (lists ls : List (List X)) (part : List X) (r : ℕ)
    → AreOwners numbers (length lists) (length items) → map length lists ≡ map length numbers → r < length lists
    → HaveTraded (get_or numbers r []) its (get_or ls r []) new_its part → HaveExchangedTo numbers r items lists its ls
    → HaveExchangedTo numbers (r + 1) items lists new_its (set ls r part)
one_exchanged numbers items its new_its lists ls part r owners places there t h =
    let ns = get_or numbers r [] in
    let long : length (get_or lists r []) ≡ length ns = as_long lists numbers r places there in
    let in_ls : r < length ls = omega (arith, there, as_many ls lists h.list_counts) in
    let long_part : length part ≡ length ns = t.part_count ∙ ap length (h.left r (omega arith)) ∙ long in
    let fresh : (k : ℕ) → k < length ns → (q : ℕ) → q < r → IsNoneOf (get_or numbers q []) (get_or ns k 0) =
    λ k lt q below. of_two numbers (length lists) (length items) owners q r k (omega arith) there (λ e. omega (arith, e)) lt in
    record {
      item_count = t.item_count ∙ h.item_count;
      list_counts = as_long_still ls r part t.part_count in_ls ∙ h.list_counts;
      handed = λ q under. below_more (λ p. (x : _) → get_or (set ls r part) p [] ≡ owned x items (get_or numbers p [])) r
          (λ p lt x. get_or-set_other ls r p part [] (λ e. omega (arith, e)) ∙ h.handed p lt x)
          (λ x. get_or-set_same ls r part [] in_ls ∙ is_owned x items ns part long_part (λ k lt. t.handed k x lt ∙ h.others (get_or ns k 0) (fresh k lt) x)) q (omega arith);
      left = λ q over. get_or-set_other ls r q part [] (λ e. omega (arith, e)) ∙ h.left q (omega arith);
      back = λ q under. below_more (λ p. (x : _) → get_or lists p [] ≡ owned x new_its (get_or numbers p [])) r
          (λ p lt x. h.back p lt x ∙ is_owned x new_its (get_or numbers p []) (owned x its (get_or numbers p [])) (length-map (get_or numbers p []) (λ n. get_or its n x))
          (λ k k_there. get_or-map (λ n. get_or its n x) (get_or numbers p []) k 0 x k_there
          ∙ sym (t.others (get_or (get_or numbers p []) k 0) x (of_two numbers (length lists) (length items) owners r p k there (omega arith) (λ e. omega (arith, e)) k_there))))
          (λ x. is_owned x new_its ns (get_or lists r []) long (λ k lt. ap (λ l. get_or l k x) (sym (h.left r (omega arith))) ∙ sym (t.back k x lt))) q (omega arith);
      others = λ n none x. t.others n x (none r (omega arith)) ∙ h.others n (λ q lt. none q (omega arith)) x;
    }

pub all_exchanged : {X : Type 0} (numbers : List (List ℕ)) (r : ℕ) (items its : List X) (lists ls : List (List X)) → length lists ≤ r
    → HaveExchangedTo numbers r items lists its ls → HaveExchanged numbers items lists its ls
all_exchanged numbers r items its lists ls low h = record {
  item_count = h.item_count;
  list_counts = h.list_counts;
  handed = λ q x lt. h.handed q (omega arith) x;
  back = λ q x lt. sym (h.back q (omega arith) x);
}
