-- The boxes of a cluster cover its set, no two of them share a cell, and each has a cell.
use Rattle.std.proofs.Common.{◌≡◌, ℕ, zero, suc, Bool, true, false, cond, ◌||◌, ℤ, ◌≤ℤ◌, ◌<ℤ◌, refl, ◌∙◌, arith, List, [], ◌∷◌, ◌++◌}
use Rattle.std.specs.Prelude.{int_le, int_lt}
use Rattle.std.specs.declared.option.Option.{Option}
use Rattle.std.specs.declared.option.Option.TheVariants.{None, Some}
use Rattle.std.specs.List.{filter, fold}
use Rattle.std.specs.Int.{int_min, int_max}
use Rattle.std.proofs.lemmas.Int.{ints, clamps}
pub use Rattle.std.proofs.lemmas.Bool.{and_parts as both_true, and_from as and_true}
use Rattle.std.proofs.lemmas.Bool.{or_left, or_right}
use Rattle.std.proofs.lemmas.List.Elements.{All-append, All-nil, All-push}
use Rattle.std.specs.List.{All}
use Rattle.std.proofs.lemmas.List.Folds.{list_any-append}
use Rattle.amr_box.specs.declared.Cell.{Cell}
use Rattle.amr_box.specs.declared.Axis.{Axis}
use Rattle.amr_box.specs.declared.Axis.TheVariants.{X, Y}
use Rattle.amr_box.specs.Cells.{Extent, IsProper, extent, holds, in_boxes, within}
use Rattle.amr_def.specs.Cluster.{edge, cells_below, cells_from, parts, cut_of, cluster_within, cluster}
use Rattle.amr_box.specs.Cells.{along}
use Rattle.amr_box.proofs.Numbers.{le_from}
use Rattle.amr_def.specs.Signature.{grown_to, bounding}
use Rattle.amr_def.specs.Cut.{Cut}

-- a fact of each cell of a list
abbrev pub Each : (Cell → Type 0) → List Cell → Type 0
Each P [] = Unit {0}
Each P (c ∷ cs) = P c × Each P cs

module _ (P Q : Cell → Type 0) where
  pub each_then : ((c : Cell) → P c → Q c) → (cs : List Cell) → Each P cs → Each Q cs
  each_then f [] e = tt
  each_then f (c ∷ cs) e = (f c e.0, each_then f cs e.1)

pub each_both : (P Q R : Cell → Type 0) → ((c : Cell) → P c → Q c → R c) → (cs : List Cell) → Each P cs → Each Q cs → Each R cs
each_both P Q R f [] e g = tt
each_both P Q R f (c ∷ cs) e g = (f c e.0 g.0, each_both P Q R f cs e.1 g.1)

pub each_kept : (P : Cell → Type 0) (test : Cell → Bool) (cs : List Cell) → Each P cs → Each P (filter test cs)
each_kept P test [] e = tt
each_kept P test (c ∷ cs) e = kept (test c) (each_kept P test cs e.1)
  where
    kept : (t : Bool) → Each P (filter test cs) → Each P (cond t (c ∷ filter test cs) (filter test cs))
    kept true r = (e.0, r)
    kept false r = r

pub each_from_kept : (P : Cell → Type 0) (test : Cell → Bool) (cs : List Cell) → Each P (filter test cs) → Each (λ c. test c ≡ true → P c) cs
each_from_kept P test [] e = tt
each_from_kept P test (c ∷ cs) e = from (test c) e (λ r. each_from_kept P test cs r)
  where
    from : (t : Bool) → Each P (cond t (c ∷ filter test cs) (filter test cs)) → (Each P (filter test cs) → Each (λ c. test c ≡ true → P c) cs) → (t ≡ true → P c) × Each (λ c. test c ≡ true → P c) cs
    from true r rest = (λ _. r.0, rest r.1)
    from false r rest = (λ e. cc, rest r)

pub each_passes : (test : Cell → Bool) (cs : List Cell) → Each (λ c. test c ≡ true) (filter test cs)
each_passes test [] = tt
each_passes test (c ∷ cs) = passes (test c) refl (each_passes test cs)
  where
    passes : (t : Bool) → test c ≡ t → Each (λ c. test c ≡ true) (filter test cs) → Each (λ c. test c ≡ true) (cond t (c ∷ filter test cs) (filter test cs))
    passes true e r = (e, r)
    passes false e r = r

-- ---- the least box

pub low_widened : (lo c z : ℤ) → int_le lo z ≡ true → int_le (int_min lo c) z ≡ true
low_widened lo c z h = grind (arith, ints, clamps)

pub high_widened : (hi c z : ℤ) → int_le z hi ≡ true → int_le z (int_max hi c) ≡ true
high_widened hi c z h = grind (arith, ints, clamps)

pub widened : (lo hi c z : ℤ) → within lo hi z ≡ true → within (int_min lo c) (int_max hi c) z ≡ true
widened lo hi c z h =
    let parts = both_true (int_le lo z) (int_le z hi) h in
    and_true _ _ (low_widened lo c z parts.0) (high_widened hi c z parts.1)

pub grown_keeps : (b : Extent) (c q : Cell) → holds b q ≡ true → holds (grown_to b c) q ≡ true
grown_keeps b c q h =
    let parts = both_true _ _ h in
    and_true _ _ (widened b.lo.x b.hi.x c.x q.x parts.0) (widened b.lo.y b.hi.y c.y q.y parts.1)

pub grown_takes : (b : Extent) (c : Cell) → holds (grown_to b c) c ≡ true
grown_takes b c = grind (arith, ints, clamps)

pub fold_keeps : (b : Extent) (cs : List Cell) (q : Cell) → holds b q ≡ true → holds (fold grown_to b cs) q ≡ true
fold_keeps b [] q h = h
fold_keeps b (c ∷ cs) q h = fold_keeps (grown_to b c) cs q (grown_keeps b c q h)

pub fold_takes : (b : Extent) (cs : List Cell) → Each (λ q. holds (fold grown_to b cs) q ≡ true) cs
fold_takes b [] = tt
fold_takes b (c ∷ cs) = (fold_keeps (grown_to b c) cs c (grown_takes b c), fold_takes (grown_to b c) cs)

pub own_holds : (c : Cell) → holds (extent c c) c ≡ true
own_holds c = grind (arith, ints)

pub bounding_takes : (c : Cell) (cs : List Cell) → Each (λ q. holds (bounding c cs) q ≡ true) (c ∷ cs)
bounding_takes c cs = (fold_keeps (extent c c) cs c (own_holds c), fold_takes (extent c c) cs)

-- ---- cover

pub either_side : (b : Extent) (k : Cut) (q : Cell) (P : Type 0) → (int_lt (along k.axis q) (edge b k) ≡ true → P) → (int_le (edge b k) (along k.axis q) ≡ true → P) → P
either_side b k q P low high = choose (int_lt (along k.axis q) (edge b k)) refl
  where
    not_below : (y z : ℤ) → int_lt z y ≡ false → int_le y z ≡ true
    not_below y z e = grind (arith, ints)

    choose : (t : Bool) → int_lt (along k.axis q) (edge b k) ≡ t → P
    choose true e = low e
    choose false e = high (not_below (edge b k) (along k.axis q) e)

pub parts_cover : (boxes : List Cell → List Extent) → ((cs : List Cell) → Each (λ q. in_boxes (boxes cs) q ≡ true) cs) → (cs : List Cell) (b : Extent) → Each (λ q. holds b q ≡ true) cs → (k : Option Cut) → Each (λ q. in_boxes (parts boxes cs b k) q ≡ true) cs
parts_cover boxes covers cs b round None = each_then _ _ (λ q h. or_left (holds b q) false h) cs round
parts_cover boxes covers cs b round (Some k) =
    let low = boxes (cells_below b k cs) in
    let high = boxes (cells_from b k cs) in
    each_both _ _ _
    (λ q inlow inhigh. list_any-append (λ e. holds e q) low high ∙ either_side b k q ((in_boxes low q || in_boxes high q) ≡ true)
    (λ t. or_left (in_boxes low q) (in_boxes high q) (inlow t)) (λ t. or_right (in_boxes low q) (in_boxes high q) (inhigh t)))
    cs
    (each_from_kept (λ q. in_boxes low q ≡ true) (λ c. int_lt (along k.axis c) (edge b k)) cs (covers (cells_below b k cs)))
    (each_from_kept (λ q. in_boxes high q ≡ true) (λ c. int_le (edge b k) (along k.axis c)) cs (covers (cells_from b k cs)))

pub cluster_within_covers : (efficiency w n : ℕ) (cs : List Cell) → Each (λ q. in_boxes (cluster_within efficiency w n cs) q ≡ true) cs
unfolding cluster_within
cluster_within_covers efficiency w zero [] = tt
cluster_within_covers efficiency w zero (c ∷ cs) = each_then _ _ (λ q h. or_left (holds (bounding c cs) q) false h) (c ∷ cs) (bounding_takes c cs)
cluster_within_covers efficiency w (suc n) [] = tt
cluster_within_covers efficiency w (suc n) (c ∷ cs) =
    parts_cover (cluster_within efficiency w n) (cluster_within_covers efficiency w n) (c ∷ cs) (bounding c cs) (bounding_takes c cs) (cut_of efficiency w (c ∷ cs) (bounding c cs))

pub cluster-covers : (efficiency w : ℕ) (cs : List Cell) → Each (λ q. in_boxes (cluster efficiency w cs) q ≡ true) cs
unfolding cluster
cluster-covers efficiency w cs = cluster_within_covers efficiency w _ cs

-- ---- no two boxes share a cell

-- each box lies below e, or from e on
abbrev pub BoxesBelow : Axis → ℤ → List Extent → Type 0
BoxesBelow a e [] = Unit {0}
BoxesBelow a e (b ∷ bs) = (along a b.hi <ℤ e) × BoxesBelow a e bs

abbrev pub BoxesFrom : Axis → ℤ → List Extent → Type 0
BoxesFrom a e [] = Unit {0}
BoxesFrom a e (b ∷ bs) = (e ≤ℤ along a b.lo) × BoxesFrom a e bs

pub below_append : (a : Axis) (e : ℤ) (bs cs : List Extent) → BoxesBelow a e bs → BoxesBelow a e cs → BoxesBelow a e (bs ++ cs)
below_append a e [] cs h k = k
below_append a e (b ∷ bs) cs h k = (h.0, below_append a e bs cs h.1 k)

pub from_append : (a : Axis) (e : ℤ) (bs cs : List Extent) → BoxesFrom a e bs → BoxesFrom a e cs → BoxesFrom a e (bs ++ cs)
from_append a e [] cs h k = k
from_append a e (b ∷ bs) cs h k = (h.0, from_append a e bs cs h.1 k)

pub grown_below : (a : Axis) (e : ℤ) (b : Extent) (c : Cell) → along a b.hi <ℤ e → along a c <ℤ e → along a (grown_to b c).hi <ℤ e
grown_below X e b c h k = grind (arith, ints, clamps)
grown_below Y e b c h k = grind (arith, ints, clamps)

pub grown_from : (a : Axis) (e : ℤ) (b : Extent) (c : Cell) → e ≤ℤ along a b.lo → e ≤ℤ along a c → e ≤ℤ along a (grown_to b c).lo
grown_from X e b c h k = grind (arith, ints, clamps)
grown_from Y e b c h k = grind (arith, ints, clamps)

pub fold_below : (a : Axis) (e : ℤ) (b : Extent) (cs : List Cell) → along a b.hi <ℤ e → Each (λ q. along a q <ℤ e) cs → along a (fold grown_to b cs).hi <ℤ e
fold_below a e b [] h k = h
fold_below a e b (c ∷ cs) h k = fold_below a e (grown_to b c) cs (grown_below a e b c h k.0) k.1

pub fold_from : (a : Axis) (e : ℤ) (b : Extent) (cs : List Cell) → e ≤ℤ along a b.lo → Each (λ q. e ≤ℤ along a q) cs → e ≤ℤ along a (fold grown_to b cs).lo
fold_from a e b [] h k = h
fold_from a e b (c ∷ cs) h k = fold_from a e (grown_to b c) cs (grown_from a e b c h k.0) k.1

pub own_below : (a : Axis) (e : ℤ) (c : Cell) → along a c <ℤ e → along a (extent c c).hi <ℤ e
own_below X e c h = h
own_below Y e c h = h

pub own_from : (a : Axis) (e : ℤ) (c : Cell) → e ≤ℤ along a c → e ≤ℤ along a (extent c c).lo
own_from X e c h = h
own_from Y e c h = h

pub within_below : (efficiency w n : ℕ) (a : Axis) (e : ℤ) (cs : List Cell) → Each (λ q. along a q <ℤ e) cs → BoxesBelow a e (cluster_within efficiency w n cs)
unfolding cluster_within
within_below efficiency w zero a e [] h = tt
within_below efficiency w zero a e (c ∷ cs) h = (fold_below a e (extent c c) cs (own_below a e c h.0) h.1, tt)
within_below efficiency w (suc n) a e [] h = tt
within_below efficiency w (suc n) a e (c ∷ cs) h = by_cut (cut_of efficiency w (c ∷ cs) (bounding c cs)) (λ ks g. within_below efficiency w n a e ks g)
  where
    by_cut : (k : Option Cut) → ((ks : List Cell) → Each (λ q. along a q <ℤ e) ks → BoxesBelow a e (cluster_within efficiency w n ks)) → BoxesBelow a e (parts (cluster_within efficiency w n) (c ∷ cs) (bounding c cs) k)
    by_cut None g = (fold_below a e (extent c c) cs (own_below a e c h.0) h.1, tt)
    by_cut (Some k) g = below_append a e (cluster_within efficiency w n (cells_below (bounding c cs) k (c ∷ cs))) (cluster_within efficiency w n (cells_from (bounding c cs) k (c ∷ cs))) (g (cells_below (bounding c cs) k (c ∷ cs)) (each_kept (λ q. along a q <ℤ e) (λ q. int_lt (along k.axis q) (edge (bounding c cs) k)) (c ∷ cs) h)) (g (cells_from (bounding c cs) k (c ∷ cs)) (each_kept (λ q. along a q <ℤ e) (λ q. int_le (edge (bounding c cs) k) (along k.axis q)) (c ∷ cs) h))

pub within_from : (efficiency w n : ℕ) (a : Axis) (e : ℤ) (cs : List Cell) → Each (λ q. e ≤ℤ along a q) cs → BoxesFrom a e (cluster_within efficiency w n cs)
unfolding cluster_within
within_from efficiency w zero a e [] h = tt
within_from efficiency w zero a e (c ∷ cs) h = (fold_from a e (extent c c) cs (own_from a e c h.0) h.1, tt)
within_from efficiency w (suc n) a e [] h = tt
within_from efficiency w (suc n) a e (c ∷ cs) h = by_cut (cut_of efficiency w (c ∷ cs) (bounding c cs)) (λ ks g. within_from efficiency w n a e ks g)
  where
    by_cut : (k : Option Cut) → ((ks : List Cell) → Each (λ q. e ≤ℤ along a q) ks → BoxesFrom a e (cluster_within efficiency w n ks)) → BoxesFrom a e (parts (cluster_within efficiency w n) (c ∷ cs) (bounding c cs) k)
    by_cut None g = (fold_from a e (extent c c) cs (own_from a e c h.0) h.1, tt)
    by_cut (Some k) g = from_append a e (cluster_within efficiency w n (cells_below (bounding c cs) k (c ∷ cs))) (cluster_within efficiency w n (cells_from (bounding c cs) k (c ∷ cs))) (g (cells_below (bounding c cs) k (c ∷ cs)) (each_kept (λ q. e ≤ℤ along a q) (λ q. int_lt (along k.axis q) (edge (bounding c cs) k)) (c ∷ cs) h)) (g (cells_from (bounding c cs) k (c ∷ cs)) (each_kept (λ q. e ≤ℤ along a q) (λ q. int_le (edge (bounding c cs) k) (along k.axis q)) (c ∷ cs) h))

abbrev pub Apart : Extent → Extent → Type 0
Apart a b = (c : Cell) → holds a c ≡ true → holds b c ≡ true → ⊥

abbrev pub ApartFrom : Extent → List Extent → Type 0
ApartFrom a [] = Unit {0}
ApartFrom a (b ∷ bs) = Apart a b × ApartFrom a bs

abbrev pub Disjoint : List Extent → Type 0
Disjoint [] = Unit {0}
Disjoint (b ∷ bs) = ApartFrom b bs × Disjoint bs

pub apart_append : (a : Extent) (bs cs : List Extent) → ApartFrom a bs → ApartFrom a cs → ApartFrom a (bs ++ cs)
apart_append a [] cs h k = k
apart_append a (b ∷ bs) cs h k = (h.0, apart_append a bs cs h.1 k)

pub sides_apart : (x : Axis) (e : ℤ) (a b : Extent) → along x a.hi <ℤ e → e ≤ℤ along x b.lo → Apart a b
sides_apart X e a b h k = λ c p q. grind (arith, ints)
sides_apart Y e a b h k = λ c p q. grind (arith, ints)

pub from_apart : (x : Axis) (e : ℤ) (a : Extent) (bs : List Extent) → along x a.hi <ℤ e → BoxesFrom x e bs → ApartFrom a bs
from_apart x e a [] h k = tt
from_apart x e a (b ∷ bs) h k = (sides_apart x e a b h k.0, from_apart x e a bs h k.1)

pub disjoint_append : (x : Axis) (e : ℤ) (ds bs : List Extent) → Disjoint ds → Disjoint bs → BoxesBelow x e ds → BoxesFrom x e bs → Disjoint (ds ++ bs)
disjoint_append x e [] bs h k low high = k
disjoint_append x e (a ∷ ds) bs h k low high = (apart_append a ds bs h.0 (from_apart x e a bs low.0 high), disjoint_append x e ds bs h.1 k low.1 high)

pub below_passes : (e z : ℤ) → int_lt z e ≡ true → z <ℤ e
below_passes e z t = grind (arith, ints)

pub within_disjoint : (efficiency w n : ℕ) (cs : List Cell) → Disjoint (cluster_within efficiency w n cs)
unfolding cluster_within
within_disjoint efficiency w zero [] = tt
within_disjoint efficiency w zero (c ∷ cs) = (tt, tt)
within_disjoint efficiency w (suc n) [] = tt
within_disjoint efficiency w (suc n) (c ∷ cs) = by_cut (cut_of efficiency w (c ∷ cs) (bounding c cs)) (within_disjoint efficiency w n)
  where
    by_cut : (k : Option Cut) → ((ks : List Cell) → Disjoint (cluster_within efficiency w n ks)) → Disjoint (parts (cluster_within efficiency w n) (c ∷ cs) (bounding c cs) k)
    by_cut None g = (tt, tt)
    by_cut (Some k) g =
        let b = bounding c cs in
        disjoint_append k.axis (edge b k) (cluster_within efficiency w n (cells_below b k (c ∷ cs))) (cluster_within efficiency w n (cells_from b k (c ∷ cs))) (g (cells_below b k (c ∷ cs))) (g (cells_from b k (c ∷ cs)))
        (within_below efficiency w n k.axis (edge b k) (cells_below b k (c ∷ cs)) (each_then (λ q. int_lt (along k.axis q) (edge b k) ≡ true) (λ q. along k.axis q <ℤ edge b k) (λ q t. below_passes (edge b k) (along k.axis q) t) (cells_below b k (c ∷ cs)) (each_passes (λ q. int_lt (along k.axis q) (edge b k)) (c ∷ cs))))
        (within_from efficiency w n k.axis (edge b k) (cells_from b k (c ∷ cs)) (each_then (λ q. int_le (edge b k) (along k.axis q) ≡ true) (λ q. edge b k ≤ℤ along k.axis q) (λ q t. le_from (edge b k) (along k.axis q) t) (cells_from b k (c ∷ cs)) (each_passes (λ q. int_le (edge b k) (along k.axis q)) (c ∷ cs))))

pub cluster-disjoint : (efficiency w : ℕ) (cs : List Cell) → Disjoint (cluster efficiency w cs)
unfolding cluster
cluster-disjoint efficiency w cs = within_disjoint efficiency w _ cs

-- ---- each box has a cell

own_proper : (c : Cell) → IsProper (extent c c)
own_proper c = record { wide = omega (arith, ints); high = omega (arith, ints) }

grown_proper : (b : Extent) (c : Cell) → IsProper b → IsProper (grown_to b c)
grown_proper b c h =
    let wide = h.wide in
    let high = h.high in
    record { wide = omega (arith, ints, clamps, wide); high = omega (arith, ints, clamps, high) }

fold_proper : (b : Extent) (cs : List Cell) → IsProper b → IsProper (fold grown_to b cs)
fold_proper b [] h = h
fold_proper b (c ∷ cs) h = fold_proper (grown_to b c) cs (grown_proper b c h)

bounding_proper : (c : Cell) (cs : List Cell) → All IsProper (bounding c cs ∷ [])
bounding_proper c cs = All-push IsProper [] (bounding c cs) (All-nil IsProper) (fold_proper (extent c c) cs (own_proper c))

within_proper : (efficiency w n : ℕ) (cs : List Cell) → All IsProper (cluster_within efficiency w n cs)
unfolding cluster_within
within_proper efficiency w zero [] = All-nil IsProper
within_proper efficiency w zero (c ∷ cs) = bounding_proper c cs
within_proper efficiency w (suc n) [] = All-nil IsProper
within_proper efficiency w (suc n) (c ∷ cs) = by_cut (cut_of efficiency w (c ∷ cs) (bounding c cs)) (within_proper efficiency w n)
  where
    by_cut : (k : Option Cut) → ((ks : List Cell) → All IsProper (cluster_within efficiency w n ks)) → All IsProper (parts (cluster_within efficiency w n) (c ∷ cs) (bounding c cs) k)
    by_cut None g = bounding_proper c cs
    by_cut (Some k) g =
        let low = cells_below (bounding c cs) k (c ∷ cs) in
        let high = cells_from (bounding c cs) k (c ∷ cs) in
        All-append IsProper (cluster_within efficiency w n low) (cluster_within efficiency w n high) (g low) (g high)

pub cluster-proper : (efficiency w : ℕ) (cs : List Cell) → All IsProper (cluster efficiency w cs)
unfolding cluster
cluster-proper efficiency w cs = within_proper efficiency w _ cs
