-- The new boxes of a level: aligned, apart, in the domain, and over every child of a wanted cell.
use Rattle.std.proofs.Common.{◌≡◌, ℕ, zero, suc, ◌<◌, Bool, true, false, ◌||◌, inl, inr, ℤ, pos, ◌+ℤ◌, ◌-ℤ◌, ◌*ℤ◌, ◌≤ℤ◌, ◌<ℤ◌, refl, sym, ◌∙◌, arith, List, [], ◌∷◌, length, map}
use Rattle.std.specs.Prelude.{slice_index_or}
use Rattle.std.specs.List.{All, AllPairs}
use Rattle.std.proofs.lemmas.Int.{ints}
use Rattle.std.proofs.lemmas.List.Elements.{All-map}
use Rattle.amr_box.specs.declared.Cell.{Cell}
use Rattle.amr_box.specs.declared.Axis.TheVariants.{X, Y}
use Rattle.amr_box.specs.Cells.{Extent, IsProper, holds, in_boxes, within}
use Rattle.amr_def.specs.declared.problem.Problem.{Problem}
use Rattle.amr_def.specs.Domain.{Domain, domain_box, cells_where, refined}
use Rattle.amr_def.specs.Cluster.{cluster, cluster_within}
use Rattle.amr_def.specs.Facts.{IsAligned}
use Rattle.amr_def.proofs.LevelLists.{IsCellInside}
use Rattle.amr_def.proofs.Nesting.{blocking_cases}
use Rattle.amr_def.proofs.ClusterLaws.{BoxesBelow, BoxesFrom, within_below, within_from, Apart, ApartFrom, Disjoint}
use Rattle.amr_laws.proofs.Blocks.{IsSide, IsBlocking, blocking, block_of, holds-refined, refined-aligned}
use Rattle.amr_laws.proofs.CellSets.{both_parts, each_then, each_inside}

-- boxes of level l: with cells, aligned, apart, and in the domain
pub record AreNewBoxes (p : Problem) (l : ℕ) (bs : List Extent) : Type 0 where
  pub proper : All IsProper bs
  pub aligned : All (IsAligned p.blocking) bs
  pub disjoint : AllPairs (λ a b. (c : Cell) → holds a c ≡ true → holds b c ≡ true → ⊥) bs
  pub inside : (c : Cell) → in_boxes bs c ≡ true → IsCellInside p l c

pub is_blocking_of : (p : Problem) → IsBlocking p.blocking
is_blocking_of p = blocking p.blocking (blocking_cases p.blocking p.limits.blocking_factor)

-- ---- with cells

refined_axis : (n : ℕ) → IsSide n → (lo hi : ℤ) → lo ≤ℤ hi → (pos n *ℤ lo) ≤ℤ (pos n *ℤ hi +ℤ (pos n -ℤ pos 1))
refined_axis n (inl e) lo hi h = rw e (omega (arith, ints, h))
refined_axis n (inr (inl e)) lo hi h = rw e (omega (arith, ints, h))
refined_axis n (inr (inr (inl e))) lo hi h = rw e (omega (arith, ints, h))
refined_axis n (inr (inr (inr e))) lo hi h = rw e (omega (arith, ints, h))

refined_proper : (n : ℕ) → IsSide n → (b : Extent) → IsProper b → IsProper (refined n b)
refined_proper n side b h = record { wide = refined_axis n side b.lo.x b.hi.x h.wide; high = refined_axis n side b.lo.y b.hi.y h.high }

pub all_proper : (n : ℕ) → IsSide n → (bs : List Extent) → All IsProper bs → All IsProper (map (refined n) bs)
all_proper n side bs h = All-map IsProper (refined n) bs (λ k d i. refined_proper n side (slice_index_or bs k d) (h k d i))

-- ---- apart

pub all_aligned : (n : ℕ) → IsSide n → (bs : List Extent) (k : ℕ) (e : Extent) → k < length (map (refined n) bs) → IsAligned n (slice_index_or (map (refined n) bs) k e)
all_aligned n side [] k e h = absurd (omega arith)
all_aligned n side (b ∷ bs) zero e h = refined-aligned n side b
all_aligned n side (b ∷ bs) (suc k) e h = all_aligned n side bs k e (omega arith)

refined_apart : (n : ℕ) → IsSide n → (a b : Extent) → Apart a b → Apart (refined n a) (refined n b)
refined_apart n side a b apart c h k = apart (block_of n c) (sym (holds-refined n side a c) ∙ h) (sym (holds-refined n side b c) ∙ k)

refined_from : (n : ℕ) → IsSide n → (a : Extent) (bs : List Extent) → ApartFrom a bs → ApartFrom (refined n a) (map (refined n) bs)
refined_from n side a [] h = tt
refined_from n side a (b ∷ bs) h = (refined_apart n side a b h.0, refined_from n side a bs h.1)

pub refined_disjoint : (n : ℕ) → IsSide n → (bs : List Extent) → Disjoint bs → Disjoint (map (refined n) bs)
refined_disjoint n side [] h = tt
refined_disjoint n side (b ∷ bs) h = (refined_from n side b bs h.0, refined_disjoint n side bs h.1)

apart_at : (a : Extent) (bs : List Extent) → ApartFrom a bs → (j : ℕ) (d : Extent) → j < length bs → Apart a (slice_index_or bs j d)
apart_at a [] h j d k = absurd (omega arith)
apart_at a (b ∷ bs) h zero d k = h.0
apart_at a (b ∷ bs) h (suc j) d k = apart_at a bs h.1 j d (omega arith)

pub pairs_apart : (bs : List Extent) → Disjoint bs → (i j : ℕ) (d : Extent) → i < j → j < length bs → Apart (slice_index_or bs i d) (slice_index_or bs j d)
pairs_apart [] h i j d lower fits = absurd (omega arith)
pairs_apart (b ∷ bs) h zero zero d lower fits = absurd (omega arith)
pairs_apart (b ∷ bs) h zero (suc j) d lower fits = apart_at b bs h.0 j d (omega arith)
pairs_apart (b ∷ bs) h (suc i) zero d lower fits = absurd (omega arith)
pairs_apart (b ∷ bs) h (suc i) (suc j) d lower fits = pairs_apart bs h.1 i j d (omega arith) (omega arith)

-- ---- inside

-- where a box's cells lie, by the boxes' edges
pub record IsWithin (west east south north : ℤ) (c : Cell) : Type 0 where
  pub from_west : west ≤ℤ c.x
  pub to_east : c.x <ℤ east
  pub from_south : south ≤ℤ c.y
  pub to_north : c.y <ℤ north

axis_within : (lo hi z west east : ℤ) → west ≤ℤ lo → hi <ℤ east → within lo hi z ≡ true → (west ≤ℤ z) × (z <ℤ east)
axis_within lo hi z west east h k e = grind (arith, ints)

some_within : (west east south north : ℤ) (bs : List Extent) (c : Cell) → BoxesFrom X west bs → BoxesBelow X east bs → BoxesFrom Y south bs → BoxesBelow Y north bs → in_boxes bs c ≡ true → IsWithin west east south north c
some_within west east south north [] c w e s n h = cc
some_within west east south north (b ∷ bs) c w e s n h = choose (holds b c) refl h (some_within west east south north bs c w.1 e.1 s.1 n.1)
  where
    choose : (t : Bool) → holds b c ≡ t → (t || in_boxes bs c) ≡ true → (in_boxes bs c ≡ true → IsWithin west east south north c) → IsWithin west east south north c
    choose true is h rest =
        let parts = both_parts _ _ is in
        let x = axis_within b.lo.x b.hi.x c.x west east w.0 e.0 parts.0 in
        let y = axis_within b.lo.y b.hi.y c.y south north s.0 n.0 parts.1 in
        record { from_west = x.0; to_east = x.1; from_south = y.0; to_north = y.1 }
    choose false is h rest = rest h

pub box_axis : (n : ℕ) (z : ℤ) → within (pos 0) (pos n -ℤ pos 1) z ≡ true → (pos 0 ≤ℤ z) × (z <ℤ pos n)
box_axis n z h = grind (arith, ints)

axis_box : (n : ℕ) (z : ℤ) → pos 0 ≤ℤ z → z <ℤ pos n → within (pos 0) (pos n -ℤ pos 1) z ≡ true
axis_box n z h k = grind (arith, ints)

pub box_holds : (d : Domain) (c : Cell) → IsWithin (pos 0) (pos d.columns) (pos 0) (pos d.rows) c → holds (domain_box d) c ≡ true
box_holds d c i = rw (axis_box d.columns c.x i.from_west i.to_east, axis_box d.rows c.y i.from_south i.to_north)

-- the boxes of a cluster of cells of a domain lie in it
pub cluster_within_domain : (efficiency w : ℕ) (d : Domain) (test : Cell → Bool) (c : Cell) → in_boxes (cluster efficiency w (cells_where d test)) c ≡ true → IsWithin (pos 0) (pos d.columns) (pos 0) (pos d.rows) c
unfolding cluster
cluster_within_domain efficiency w d test c h =
    let cs = cells_where d test in
    let held = each_inside d test in
    let axes : (q : Cell) → holds (domain_box d) q ≡ true → (pos 0 ≤ℤ q.x) × (q.x <ℤ pos d.columns) × (pos 0 ≤ℤ q.y) × (q.y <ℤ pos d.rows) = λ q h.
    let parts = both_parts _ _ h in
    let x = box_axis d.columns q.x parts.0 in
    let y = box_axis d.rows q.y parts.1 in
    (x.0, x.1, y.0, y.1) in
    some_within (pos 0) (pos d.columns) (pos 0) (pos d.rows) (cluster_within efficiency w (length cs) cs) c
    (within_from efficiency w (length cs) X (pos 0) cs (each_then (λ q. holds (domain_box d) q ≡ true) (λ q. pos 0 ≤ℤ q.x) (λ q h. (axes q h).0) cs held))
    (within_below efficiency w (length cs) X (pos d.columns) cs (each_then (λ q. holds (domain_box d) q ≡ true) (λ q. q.x <ℤ pos d.columns) (λ q h. (axes q h).1) cs held))
    (within_from efficiency w (length cs) Y (pos 0) cs (each_then (λ q. holds (domain_box d) q ≡ true) (λ q. pos 0 ≤ℤ q.y) (λ q h. (axes q h).2) cs held))
    (within_below efficiency w (length cs) Y (pos d.rows) cs (each_then (λ q. holds (domain_box d) q ≡ true) (λ q. q.y <ℤ pos d.rows) (λ q h. (axes q h).3) cs held))
    h
