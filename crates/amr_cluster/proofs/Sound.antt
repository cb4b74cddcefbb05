-- The boxes of a cluster: disjoint, a cover, each the least box round its cells, and efficient or without a cut.
use Rattle.std.proofs.Common.{◌≡◌, inl, inr, ℕ, zero, suc, ◌<◌, ◌≤◌, Bool, true, false, cond, ◌&&◌, ℤ, ◌≤ℤ◌, ◌<ℤ◌, List, [], ◌∷◌, ◌++◌, length, IsTrue, slice_index_or, refl, ap, subst, ◌∙◌, arith}
use Rattle.std.specs.Prelude.{int_le, int_lt}
use Rattle.std.specs.declared.option.Option.{Option}
use Rattle.std.specs.declared.option.Option.TheVariants.{None, Some}
use Rattle.std.specs.List.{All, AllPairs, filter}
use Rattle.std.proofs.lemmas.Int.{ints}
use Rattle.amr_box.specs.declared.Cell.{Cell}
use Rattle.amr_box.specs.declared.Axis.{Axis}
use Rattle.amr_box.specs.declared.Axis.TheVariants.{X, Y}
use Rattle.amr_box.specs.Cells.{AreDisjoint, Extent, along, holds, in_boxes}
use Rattle.amr_box.proofs.Numbers.{le_from}
use Rattle.amr_def.specs.Signature.{bounding, is_efficient, signature}
use Rattle.amr_def.specs.Cut.{Cut, best_cut}
use Rattle.amr_def.specs.Cluster.{cells_below, cells_from, cluster, cluster_within, cut_of, edge, parts}
use Rattle.amr_def.proofs.ClusterLaws.{Apart, ApartFrom, BoxesBelow, BoxesFrom, Disjoint, Each, below_passes, bounding_takes, cluster-covers, cluster-disjoint, each_passes, within_below, within_from}
use Rattle.amr_cluster.specs.Laws.{IsClustering, IsRound, IsSettled}
use Rattle.amr_cluster.proofs.Fuel.{cut_inside, each_map, fewer_below, fewer_from}

-- a fact of each box
abbrev EachBox : (Extent → Type 0) → List Extent → Type 0
EachBox P [] = Unit {0}
EachBox P (b ∷ bs) = P b × EachBox P bs

boxes_append : (P : Extent → Type 0) (bs ds : List Extent) → EachBox P bs → EachBox P ds → EachBox P (bs ++ ds)
boxes_append P [] ds h g = g
boxes_append P (b ∷ bs) ds h g = (h.0, boxes_append P bs ds h.1 g)

-- ---- the cells of a box

pub filter_all : (p : Cell → Bool) (cs : List Cell) → Each (λ c. p c ≡ true) cs → filter p cs ≡ cs
filter_all p [] e = refl
filter_all p (c ∷ cs) e = choose (p c) e.0 (filter_all p cs e.1)
  where
    choose : (t : Bool) → t ≡ true → filter p cs ≡ cs → cond t (c ∷ filter p cs) (filter p cs) ≡ c ∷ cs
    choose true f same = ap (λ (ks : List Cell). c ∷ ks) same
    choose false f same = cc

pub filter_within : (p q : Cell → Bool) → ((c : Cell) → p c ≡ true → q c ≡ true) → (cs : List Cell) → filter p (filter q cs) ≡ filter p cs
filter_within p q h [] = refl
filter_within p q h (c ∷ cs) = choose (q c) (p c) refl refl (filter_within p q h cs)
  where
    choose : (s t : Bool) → q c ≡ s → p c ≡ t → filter p (filter q cs) ≡ filter p cs → filter p (cond s (c ∷ filter q cs) (filter q cs)) ≡ cond t (c ∷ filter p cs) (filter p cs)
    choose true t e f same = ap (λ (r : Bool). cond r (c ∷ filter p (filter q cs)) (filter p (filter q cs))) f ∙ ap (λ (ks : List Cell). cond t (c ∷ ks) ks) same
    choose false true e f same = let no : q c ≡ true = h c f in cc
    choose false false e f same = same

-- a box that a cluster ends with
IsLeaf : ℕ → ℕ → List Cell → Extent → Type 0
IsLeaf efficiency w cells b = IsRound b (filter (holds b) cells) × (cut_of efficiency w (filter (holds b) cells) b ≡ None)

module _ (efficiency w : ℕ) where
  leaf_here : (c : Cell) (cs : List Cell) → cut_of efficiency w (c ∷ cs) (bounding c cs) ≡ None → IsLeaf efficiency w (c ∷ cs) (bounding c cs)
  unfolding IsLeaf
  leaf_here c cs e =
      let all : filter (holds (bounding c cs)) (c ∷ cs) ≡ c ∷ cs = filter_all (holds (bounding c cs)) (c ∷ cs) (bounding_takes c cs) in
      (record { first = c; others = cs; cells_are = all; box_is = refl }, ap (λ (ks : List Cell). cut_of efficiency w ks (bounding c cs)) all ∙ e)

  leaf_wider : (q : Cell → Bool) (cells : List Cell) (b : Extent) → ((c : Cell) → holds b c ≡ true → q c ≡ true) → IsLeaf efficiency w (filter q cells) b → IsLeaf efficiency w cells b
  unfolding IsLeaf
  leaf_wider q cells b inside leaf =
      let same : filter (holds b) (filter q cells) ≡ filter (holds b) cells = filter_within (holds b) q inside cells in
      subst (λ (ks : List Cell). IsRound b ks × (cut_of efficiency w ks b ≡ None)) same leaf

  below_box : (a : Axis) (e : ℤ) (b : Extent) (c : Cell) → along a b.hi <ℤ e → holds b c ≡ true → int_lt (along a c) e ≡ true
  below_box X e b c h t = grind (arith, ints)
  below_box Y e b c h t = grind (arith, ints)

  from_box : (a : Axis) (e : ℤ) (b : Extent) (c : Cell) → e ≤ℤ along a b.lo → holds b c ≡ true → int_le e (along a c) ≡ true
  from_box X e b c h t = grind (arith, ints)
  from_box Y e b c h t = grind (arith, ints)

  leaves_below : (a : Axis) (e : ℤ) (cells : List Cell) (bs : List Extent) → BoxesBelow a e bs → EachBox (IsLeaf efficiency w (filter (λ c. int_lt (along a c) e) cells)) bs → EachBox (IsLeaf efficiency w cells) bs
  leaves_below a e cells [] h g = tt
  leaves_below a e cells (b ∷ bs) h g = (leaf_wider (λ c. int_lt (along a c) e) cells b (λ c t. below_box a e b c h.0 t) g.0, leaves_below a e cells bs h.1 g.1)

  leaves_from : (a : Axis) (e : ℤ) (cells : List Cell) (bs : List Extent) → BoxesFrom a e bs → EachBox (IsLeaf efficiency w (filter (λ c. int_le e (along a c)) cells)) bs → EachBox (IsLeaf efficiency w cells) bs
  leaves_from a e cells [] h g = tt
  leaves_from a e cells (b ∷ bs) h g = (leaf_wider (λ c. int_le e (along a c)) cells b (λ c t. from_box a e b c h.0 t) g.0, leaves_from a e cells bs h.1 g.1)

leaves_within : (efficiency w n : ℕ) (cs : List Cell) → 1 ≤ w → length cs ≤ n → EachBox (IsLeaf efficiency w cs) (cluster_within efficiency w n cs)
unfolding cluster_within
leaves_within efficiency w zero [] least h = tt
leaves_within efficiency w zero (c ∷ cs) least h = absurd (omega arith)
leaves_within efficiency w (suc n) [] least h = tt
leaves_within efficiency w (suc n) (c ∷ cs) least h = by_cut (cut_of efficiency w (c ∷ cs) (bounding c cs)) refl (λ ks d. leaves_within efficiency w n ks least d)
  where
    by_cut : (o : Option Cut) → cut_of efficiency w (c ∷ cs) (bounding c cs) ≡ o → ((ks : List Cell) → length ks ≤ n → EachBox (IsLeaf efficiency w ks) (cluster_within efficiency w n ks))
        → EachBox (IsLeaf efficiency w (c ∷ cs)) (parts (cluster_within efficiency w n) (c ∷ cs) (bounding c cs) o)
    by_cut None e leaves = (leaf_here efficiency w c cs e, tt)
    by_cut (Some k) e leaves =
        let b = bounding c cs in
        let below = cells_below b k (c ∷ cs) in
        let above = cells_from b k (c ∷ cs) in
        let inside = cut_inside efficiency w (c ∷ cs) b k least e in
        let low : length below < suc (length cs) = fewer_below c cs k inside in
        let high : length above < suc (length cs) = fewer_from c cs k inside in
        boxes_append (IsLeaf efficiency w (c ∷ cs)) (cluster_within efficiency w n below) (cluster_within efficiency w n above)
        (leaves_below efficiency w k.axis (edge b k) (c ∷ cs) (cluster_within efficiency w n below)
        (within_below efficiency w n k.axis (edge b k) below (each_map (λ q. int_lt (along k.axis q) (edge b k) ≡ true) (λ q. along k.axis q <ℤ edge b k) (λ q t. below_passes (edge b k) (along k.axis q) t) below (each_passes (λ q. int_lt (along k.axis q) (edge b k)) (c ∷ cs))))
        (leaves below (omega arith)))
        (leaves_from efficiency w k.axis (edge b k) (c ∷ cs) (cluster_within efficiency w n above)
        (within_from efficiency w n k.axis (edge b k) above (each_map (λ q. int_le (edge b k) (along k.axis q) ≡ true) (λ q. edge b k ≤ℤ along k.axis q) (λ q t. le_from (edge b k) (along k.axis q) t) above (each_passes (λ q. int_le (edge b k) (along k.axis q)) (c ∷ cs))))
        (leaves above (omega arith)))

-- ---- the same in the words of the law

pub all_cells : (P : Cell → Type 0) (cs : List Cell) → Each P cs → All P cs
all_cells P [] e k d h = absurd (omega arith)
all_cells P (c ∷ cs) e zero d h = e.0
all_cells P (c ∷ cs) e (suc k) d h = all_cells P cs e.1 k d (omega arith)

all_boxes : (P Q : Extent → Type 0) → ((b : Extent) → P b → Q b) → (bs : List Extent) → EachBox P bs → All Q bs
all_boxes P Q f [] e k d h = absurd (omega arith)
all_boxes P Q f (b ∷ bs) e zero d h = f b e.0
all_boxes P Q f (b ∷ bs) e (suc k) d h = all_boxes P Q f bs e.1 k d (omega arith)

settled_of : (efficiency w : ℕ) (cells : List Cell) (b : Extent) → cut_of efficiency w cells b ≡ None → IsSettled efficiency w b cells
settled_of efficiency w cells b e = choose (is_efficient efficiency (length cells) b) refl e
  where
    choose : (t : Bool) → is_efficient efficiency (length cells) b ≡ t → cond t None (best_cut w (signature X cells b) (signature Y cells b)) ≡ None → IsSettled efficiency w b cells
    choose true f g = inl f
    choose false f g = inr g

leaf_round : (efficiency w : ℕ) (cells : List Cell) (b : Extent) → IsLeaf efficiency w cells b → IsRound b (filter (holds b) cells)
unfolding IsLeaf
leaf_round efficiency w cells b leaf = leaf.0

leaf_settled : (efficiency w : ℕ) (cells : List Cell) (b : Extent) → IsLeaf efficiency w cells b → IsSettled efficiency w b (filter (holds b) cells)
unfolding IsLeaf
leaf_settled efficiency w cells b leaf = settled_of efficiency w (filter (holds b) cells) b leaf.1

pub apart_is : (a b : Extent) → Apart a b → AreDisjoint a b
apart_is a b h c = choose (holds a c) (holds b c) refl refl
  where
    choose : (s t : Bool) → holds a c ≡ s → holds b c ≡ t → (s && t) ≡ false
    choose true true e f = absurd (h c e f)
    choose true false e f = refl
    choose false t e f = refl

apart_from : (a : Extent) (bs : List Extent) → ApartFrom a bs → (j : ℕ) (d : Extent) → j < length bs → AreDisjoint a (slice_index_or bs j d)
apart_from a [] h j d g = absurd (omega arith)
apart_from a (b ∷ bs) h zero d g = apart_is a b h.0
apart_from a (b ∷ bs) h (suc j) d g = apart_from a bs h.1 j d (omega arith)

all_pairs : (bs : List Extent) → Disjoint bs → AllPairs AreDisjoint bs
all_pairs [] h i j d less g = absurd (omega arith)
all_pairs (b ∷ bs) h zero zero d less g = absurd (omega arith)
all_pairs (b ∷ bs) h zero (suc j) d less g = apart_from b bs h.0 j d (omega arith)
all_pairs (b ∷ bs) h (suc i) zero d less g = absurd (omega arith)
all_pairs (b ∷ bs) h (suc i) (suc j) d less g = all_pairs bs h.1 i j d (omega arith) (omega arith)

pub cluster-sound : (efficiency w : ℕ) (cells : List Cell) → 1 ≤ w → IsClustering efficiency w cells (cluster efficiency w cells)
unfolding cluster
cluster-sound efficiency w cells least =
    let leaves = leaves_within efficiency w (length cells) cells least (omega arith) in
    record {
      disjoint = all_pairs _ (cluster-disjoint efficiency w cells);
      covering = all_cells (λ c. IsTrue (in_boxes (cluster efficiency w cells) c)) cells (cluster-covers efficiency w cells);
      tight = all_boxes (IsLeaf efficiency w cells) (λ b. IsRound b (filter (holds b) cells)) (leaf_round efficiency w cells) _ leaves;
      settled = all_boxes (IsLeaf efficiency w cells) (λ b. IsSettled efficiency w b (filter (holds b) cells)) (leaf_settled efficiency w cells) _ leaves;
    }
