-- As many cuts as there are cells are enough: each part of a cut has fewer cells, so the definition is the recursion that it
-- stands for, and each box that it ends with is efficient or has no cut.
use Rattle.std.proofs.Common.{◌≡◌, ◌⊎◌, inl, inr, ℕ, zero, suc, ◌<◌, ◌≤◌, Bool, true, false, cond, ℤ, pos, negsuc, ◌+ℤ◌, ◌-ℤ◌, ◌≤ℤ◌, ◌<ℤ◌, List, [], ◌∷◌, ◌++◌, length, refl, ap, subst, ◌∙◌, arith}
use Rattle.std.specs.Prelude.{int_le, int_lt}
use Rattle.std.specs.declared.option.Option.{Option}
use Rattle.std.specs.declared.option.Option.TheVariants.{None, Some}
use Rattle.std.specs.List.{filter}
use Rattle.std.proofs.lemmas.Int.{ints}
use Rattle.std.proofs.lemmas.List.FromFn.{length-map-range_with_len}
use Rattle.amr_box.specs.declared.Cell.{Cell}
use Rattle.amr_box.specs.declared.Axis.{Axis}
use Rattle.amr_box.specs.declared.Axis.TheVariants.{X, Y}
use Rattle.amr_box.specs.Cells.{Extent, along, at_least_zero, extent}
use Rattle.amr_box.proofs.Numbers.{le_from}
use Rattle.amr_def.specs.Signature.{bounding, is_efficient, signature}
use Rattle.amr_def.specs.Cut.{Cut, best_cut}
use Rattle.amr_def.specs.Cluster.{cells_below, cells_from, cluster, cluster_within, cut_of, edge, parts}
use Rattle.amr_def.proofs.ClusterLaws.{Each, below_passes, fold_below, fold_from, own_below, own_from}
use Rattle.amr_cluster.specs.Laws.{IsInside}
use Rattle.amr_cluster.proofs.CutPlaces.{IsPlace, OnCut, counts_along, cut_place}

-- ---- parts have fewer cells

pub each_map : (P Q : Cell → Type 0) → ((c : Cell) → P c → Q c) → (cs : List Cell) → Each P cs → Each Q cs
each_map P Q f [] e = tt
each_map P Q f (c ∷ cs) e = (f c e.0, each_map P Q f cs e.1)

filter_le : (p : Cell → Bool) (cs : List Cell) → length (filter p cs) ≤ length cs
filter_le p [] = omega arith
filter_le p (c ∷ cs) = choose (p c) (filter_le p cs)
  where
    choose : (t : Bool) → length (filter p cs) ≤ length cs → length (cond t (c ∷ filter p cs) (filter p cs)) ≤ suc (length cs)
    choose true h = omega arith
    choose false h = omega arith

fewer_or_all : (p : Cell → Bool) (cs : List Cell) → (length (filter p cs) < length cs) ⊎ Each (λ c. p c ≡ true) cs
fewer_or_all p [] = inr tt
fewer_or_all p (c ∷ cs) = choose (p c) refl (filter_le p cs) (fewer_or_all p cs)
  where
    choose : (t : Bool) → p c ≡ t → length (filter p cs) ≤ length cs → (length (filter p cs) < length cs) ⊎ Each (λ c. p c ≡ true) cs → (length (cond t (c ∷ filter p cs) (filter p cs)) < suc (length cs)) ⊎ ((p c ≡ true) × Each (λ c. p c ≡ true) cs)
    choose true e h (inl less) = inl (omega arith)
    choose true e h (inr all) = inr (e, all)
    choose false e h r = inl (omega arith)

within_size : (z : ℤ) (n : ℕ) → n < at_least_zero z → pos n <ℤ z
within_size (pos m) n h = omega (arith, ints)
within_size (negsuc m) n h = absurd (omega arith)

edge_inside : (a : Axis) (cells : List Cell) (b : Extent) (n : ℕ) → n < length (counts_along a (signature X cells b) (signature Y cells b)) → (along a b.lo +ℤ pos n) ≤ℤ along a b.hi
edge_inside X cells b n h =
    let size : n < at_least_zero (b.hi.x +ℤ pos 1 -ℤ b.lo.x) = rw length-map-range_with_len at h in
    let inside : pos n <ℤ (b.hi.x +ℤ pos 1 -ℤ b.lo.x) = within_size _ n size in
    omega (arith, ints)
edge_inside Y cells b n h =
    let size : n < at_least_zero (b.hi.y +ℤ pos 1 -ℤ b.lo.y) = rw length-map-range_with_len at h in
    let inside : pos n <ℤ (b.hi.y +ℤ pos 1 -ℤ b.lo.y) = within_size _ n size in
    omega (arith, ints)

inside_of : (cells : List Cell) (b : Extent) (k : Cut) → IsPlace (counts_along k.axis (signature X cells b) (signature Y cells b)) k.at → IsInside b k
inside_of cells b k place = record { from = omega (arith, ints, place.0); to = edge_inside k.axis cells b k.at place.1 }

pub fewer_below : (c : Cell) (cs : List Cell) (k : Cut) → IsInside (bounding c cs) k → length (cells_below (bounding c cs) k (c ∷ cs)) < length (c ∷ cs)
fewer_below c cs k inside = choose (fewer_or_all (λ q. int_lt (along k.axis q) (edge (bounding c cs) k)) (c ∷ cs))
  where
    choose : (length (cells_below (bounding c cs) k (c ∷ cs)) < length (c ∷ cs)) ⊎ Each (λ q. int_lt (along k.axis q) (edge (bounding c cs) k) ≡ true) (c ∷ cs) → length (cells_below (bounding c cs) k (c ∷ cs)) < length (c ∷ cs)
    choose (inl less) = less
    choose (inr all) =
        let below = each_map _ (λ q. along k.axis q <ℤ edge (bounding c cs) k) (λ q t. below_passes (edge (bounding c cs) k) (along k.axis q) t) (c ∷ cs) all in
        let high : along k.axis (bounding c cs).hi <ℤ edge (bounding c cs) k = fold_below k.axis (edge (bounding c cs) k) (extent c c) cs (own_below k.axis (edge (bounding c cs) k) c below.0) below.1 in
        absurd (omega (arith, ints, inside.to))

pub fewer_from : (c : Cell) (cs : List Cell) (k : Cut) → IsInside (bounding c cs) k → length (cells_from (bounding c cs) k (c ∷ cs)) < length (c ∷ cs)
fewer_from c cs k inside = choose (fewer_or_all (λ q. int_le (edge (bounding c cs) k) (along k.axis q)) (c ∷ cs))
  where
    choose : (length (cells_from (bounding c cs) k (c ∷ cs)) < length (c ∷ cs)) ⊎ Each (λ q. int_le (edge (bounding c cs) k) (along k.axis q) ≡ true) (c ∷ cs) → length (cells_from (bounding c cs) k (c ∷ cs)) < length (c ∷ cs)
    choose (inl less) = less
    choose (inr all) =
        let above = each_map _ (λ q. edge (bounding c cs) k ≤ℤ along k.axis q) (λ q t. le_from (edge (bounding c cs) k) (along k.axis q) t) (c ∷ cs) all in
        let low : edge (bounding c cs) k ≤ℤ along k.axis (bounding c cs).lo = fold_from k.axis (edge (bounding c cs) k) (extent c c) cs (own_from k.axis (edge (bounding c cs) k) c above.0) above.1 in
        absurd (omega (arith, ints, inside.from))

pub cut_inside : (efficiency w : ℕ) (cells : List Cell) (b : Extent) (k : Cut) → 1 ≤ w → cut_of efficiency w cells b ≡ Some k → IsInside b k
cut_inside efficiency w cells b k least e = choose (is_efficient efficiency (length cells) b) e
  where
    place : (o : Option Cut) → OnCut (λ k. IsPlace (counts_along k.axis (signature X cells b) (signature Y cells b)) k.at) o → o ≡ Some k → IsInside b k
    place None p f = cc
    place (Some j) p f = let same : j ≡ k = cc in subst (λ (i : Cut). IsInside b i) same (inside_of cells b j p)

    choose : (t : Bool) → cond t None (best_cut w (signature X cells b) (signature Y cells b)) ≡ Some k → IsInside b k
    choose true f = cc
    choose false f = place _ (cut_place w (signature X cells b) (signature Y cells b) least) f

-- ---- enough cuts

pub enough : (efficiency w n m : ℕ) (cs : List Cell) → 1 ≤ w → length cs ≤ n → length cs ≤ m → cluster_within efficiency w n cs ≡ cluster_within efficiency w m cs
unfolding cluster_within
enough efficiency w zero zero cs least h g = refl
enough efficiency w zero (suc m) [] least h g = refl
enough efficiency w zero (suc m) (c ∷ cs) least h g = absurd (omega arith)
enough efficiency w (suc n) zero [] least h g = refl
enough efficiency w (suc n) zero (c ∷ cs) least h g = absurd (omega arith)
enough efficiency w (suc n) (suc m) [] least h g = refl
enough efficiency w (suc n) (suc m) (c ∷ cs) least h g = by_cut (cut_of efficiency w (c ∷ cs) (bounding c cs)) refl (λ ks d e. enough efficiency w n m ks least d e)
  where
    by_cut : (o : Option Cut) → cut_of efficiency w (c ∷ cs) (bounding c cs) ≡ o → ((ks : List Cell) → length ks ≤ n → length ks ≤ m → cluster_within efficiency w n ks ≡ cluster_within efficiency w m ks)
        → parts (cluster_within efficiency w n) (c ∷ cs) (bounding c cs) o ≡ parts (cluster_within efficiency w m) (c ∷ cs) (bounding c cs) o
    by_cut None e same = refl
    by_cut (Some k) e same =
        let inside = cut_inside efficiency w (c ∷ cs) (bounding c cs) k least e in
        let low : length (cells_below (bounding c cs) k (c ∷ cs)) < suc (length cs) = fewer_below c cs k inside in
        let high : length (cells_from (bounding c cs) k (c ∷ cs)) < suc (length cs) = fewer_from c cs k inside in
        ap (λ (bs : List Extent). bs ++ cluster_within efficiency w n (cells_from (bounding c cs) k (c ∷ cs))) (same (cells_below (bounding c cs) k (c ∷ cs)) (omega arith) (omega arith))
        ∙ ap (λ (bs : List Extent). cluster_within efficiency w m (cells_below (bounding c cs) k (c ∷ cs)) ++ bs) (same (cells_from (bounding c cs) k (c ∷ cs)) (omega arith) (omega arith))

pub cluster-cut : (efficiency w : ℕ) (c : Cell) (cs : List Cell) → 1 ≤ w → cluster efficiency w (c ∷ cs) ≡ parts (cluster efficiency w) (c ∷ cs) (bounding c cs) (cut_of efficiency w (c ∷ cs) (bounding c cs))
unfolding cluster cluster_within
cluster-cut efficiency w c cs least = by_cut (cut_of efficiency w (c ∷ cs) (bounding c cs)) refl
  where
    by_cut : (o : Option Cut) → cut_of efficiency w (c ∷ cs) (bounding c cs) ≡ o → parts (cluster_within efficiency w (length cs)) (c ∷ cs) (bounding c cs) o ≡ parts (cluster efficiency w) (c ∷ cs) (bounding c cs) o
    by_cut None e = refl
    by_cut (Some k) e =
        let below = cells_below (bounding c cs) k (c ∷ cs) in
        let above = cells_from (bounding c cs) k (c ∷ cs) in
        let inside = cut_inside efficiency w (c ∷ cs) (bounding c cs) k least e in
        let low : length below < suc (length cs) = fewer_below c cs k inside in
        let high : length above < suc (length cs) = fewer_from c cs k inside in
        ap (λ (bs : List Extent). bs ++ cluster_within efficiency w (length cs) above) (enough efficiency w (length cs) (length below) below least (omega arith) (omega arith))
        ∙ ap (λ (bs : List Extent). cluster_within efficiency w (length below) below ++ bs) (enough efficiency w (length cs) (length above) above least (omega arith) (omega arith))
