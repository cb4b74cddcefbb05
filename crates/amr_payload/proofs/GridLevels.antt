-- Boxes with masses that pass their tests make a level: disjoint boxes in the domain, each cell with its mass. And the bytes of
-- that level are those of the boxes.
use Rattle.std.proofs.Common.{◌≡◌, ℕ, zero, suc, ◌+◌, ◌*◌, ◌^◌, ◌<◌, ◌≤◌, Bool, true, false, not, ◌&&◌, ◌||◌, ℤ, pos, ◌+ℤ◌, List, [], ◌∷◌, ◌++◌, length, map, refl, sym, ap, subst, ◌∙◌, arith, flat_map, ◌⊎◌, inl, inr, All, AllPairs, unwrap_or, is_some, if◌then◌else◌, IsTrue, nat_le, mul-zero}
use Rattle.std.specs.Prelude.{slice_index, int_le}
use Rattle.std.specs.List.{list_any}
use Rattle.std.specs.Int.{w32, int_rem_euclid}
use Rattle.std.specs.declared.option.Option.{Option}
use Rattle.std.specs.declared.option.Option.TheVariants.{Some}
use Rattle.std.proofs.lemmas.List.{length-map}
use Rattle.std.proofs.lemmas.Int.{ints}
use Rattle.std.proofs.lemmas.Bool.{and_parts, and_from, or_cases, or_parts, not-true, false_from_ne_true, both_ways, leb-true, eqb-true}
use Rattle.amr_box.specs.declared.Cell.{Cell}
use Rattle.amr_box.specs.Cells.{Extent, IsProper, cells_of, common, holds, within, width, height, is_same_cell, is_proper, in_boxes}
use Rattle.amr_box.proofs.Boxes.{holds-common, int_le-yes}
use Rattle.amr_box.proofs.CellEquality.{same_number, coordinates_same}
use Rattle.amr_box.proofs.Numbers.{le_from}
use Rattle.amr_def.specs.declared.problem.Problem.{Problem}
use Rattle.amr_def.specs.Domain.{Domain, domain, domain_box, in_domain, is_inside}
use Rattle.amr_def.specs.State.{Masses, mass_of}
use Rattle.amr_def.specs.Facts.{IsAligned, IsLevel, growth}
use Rattle.amr_def.proofs.SoundRun.{domain_proper}
use Rattle.amr_def.proofs.Uncovered.{domain_box_cells}
use Rattle.amr_payload.specs.Payload.{Form, level_cells, box_bytes, level_bytes, masses_bytes, number_bytes}
use Rattle.amr_payload.specs.Tests.{Grid, is_same_box, lies_in, is_multiple, is_aligned, meets, is_box_of, is_box_count, is_mass, masses_in, level_of, place_in}
use Rattle.amr_payload.proofs.Fields.{Each}
use Rattle.amr_payload.proofs.Forms.{listed_bytes, masses_listed}
use Rattle.amr_payload.proofs.Grids.{corners, AreGrids, grid_bytes, grids_bytes}
use Rattle.amr_payload.proofs.Places.{each_cell, looked_up}

-- ---- two boxes

in_order : (lo hi z : ℤ) → within lo hi z ≡ true → int_le lo hi ≡ true
in_order lo hi z h = grind (arith, ints)

pub held_proper : (b : Extent) (c : Cell) → holds b c ≡ true → is_proper b ≡ true
held_proper b c h =
    let parts = and_parts (within b.lo.x b.hi.x c.x) (within b.lo.y b.hi.y c.y) h in
    and_from (int_le b.lo.x b.hi.x) (int_le b.lo.y b.hi.y) (in_order b.lo.x b.hi.x c.x parts.0) (in_order b.lo.y b.hi.y c.y parts.1)

low_within : (lo hi : ℤ) → int_le lo hi ≡ true → within lo hi lo ≡ true
low_within lo hi h = grind (arith, ints)

high_within : (lo hi : ℤ) → int_le lo hi ≡ true → within lo hi hi ≡ true
high_within lo hi h = grind (arith, ints)

-- a proper box has its corners
pub low_held : (b : Extent) → is_proper b ≡ true → holds b b.lo ≡ true
low_held b h =
    let parts = and_parts (int_le b.lo.x b.hi.x) (int_le b.lo.y b.hi.y) h in
    and_from (within b.lo.x b.hi.x b.lo.x) (within b.lo.y b.hi.y b.lo.y) (low_within b.lo.x b.hi.x parts.0) (low_within b.lo.y b.hi.y parts.1)

pub high_held : (b : Extent) → is_proper b ≡ true → holds b b.hi ≡ true
high_held b h =
    let parts = and_parts (int_le b.lo.x b.hi.x) (int_le b.lo.y b.hi.y) h in
    and_from (within b.lo.x b.hi.x b.hi.x) (within b.lo.y b.hi.y b.hi.y) (high_within b.lo.x b.hi.x parts.0) (high_within b.lo.y b.hi.y parts.1)

pub proper_is : (b : Extent) → is_proper b ≡ true → IsProper b
proper_is b h =
    let parts = and_parts (int_le b.lo.x b.hi.x) (int_le b.lo.y b.hi.y) h in
    record { wide = le_from b.lo.x b.hi.x parts.0; high = le_from b.lo.y b.hi.y parts.1 }

pub is_proper_from : (b : Extent) → IsProper b → is_proper b ≡ true
is_proper_from b h = and_from (int_le b.lo.x b.hi.x) (int_le b.lo.y b.hi.y) (int_le-yes b.lo.x b.hi.x h.wide) (int_le-yes b.lo.y b.hi.y h.high)

-- boxes with a common cell meet, and boxes that meet have one
pub meets_at : (a b : Extent) (c : Cell) → holds a c ≡ true → holds b c ≡ true → meets a b ≡ true
meets_at a b c in_a in_b = held_proper (common a b) c (holds-common a b c ∙ and_from (holds a c) (holds b c) in_a in_b)

pub meeting_cell : (a b : Extent) → meets a b ≡ true → (holds a (common a b).lo ≡ true) × (holds b (common a b).lo ≡ true)
meeting_cell a b h = and_parts (holds a (common a b).lo) (holds b (common a b).lo) (sym (holds-common a b (common a b).lo) ∙ low_held (common a b) h)

-- ---- a box of a level

inside_between : (n : ℕ) (lo hi z : ℤ) → is_inside n lo ≡ true → is_inside n hi ≡ true → within lo hi z ≡ true → is_inside n z ≡ true
inside_between n lo hi z a b h = grind (arith, ints)

pub box_inside : (d : Domain) (b : Extent) (c : Cell) → lies_in d b ≡ true → holds b c ≡ true → in_domain d c ≡ true
unfolding in_domain
box_inside d b c lies held =
    let ends = and_parts (is_inside d.columns b.lo.x && is_inside d.rows b.lo.y) (is_inside d.columns b.hi.x && is_inside d.rows b.hi.y) lies in
    let low = and_parts (is_inside d.columns b.lo.x) (is_inside d.rows b.lo.y) ends.0 in
    let high = and_parts (is_inside d.columns b.hi.x) (is_inside d.rows b.hi.y) ends.1 in
    let at = and_parts (within b.lo.x b.hi.x c.x) (within b.lo.y b.hi.y c.y) held in
    and_from (is_inside d.columns c.x) (is_inside d.rows c.y) (inside_between d.columns b.lo.x b.hi.x c.x low.0 high.0 at.0) (inside_between d.rows b.lo.y b.hi.y c.y low.1 high.1 at.1)

pub same_box_is : (a b : Extent) → is_same_box a b ≡ true → a ≡ b
same_box_is a b h =
    let parts = and_parts (is_same_cell a.lo b.lo) (is_same_cell a.hi b.hi) h in
    let lo = coordinates_same a.lo b.lo parts.0 in
    let hi = coordinates_same a.hi b.hi parts.1 in
    λ i. record { lo = lo i; hi = hi i }

pub record IsFineBox (p : Problem) (l : ℕ) (earlier : List Extent) (b : Extent) : Type 0 where
  pub lies : lies_in (domain p l) b ≡ true
  pub proper : is_proper b ≡ true
  pub aligned : is_aligned p.blocking b ≡ true
  pub apart : list_any (meets b) earlier ≡ false

pub fine_box : (p : Problem) (l : ℕ) (earlier : List Extent) (b : Extent) → is_box_of p (suc l) earlier b ≡ true → IsFineBox p (suc l) earlier b
unfolding is_box_of
fine_box p l earlier b h =
    let t = and_parts (lies_in (domain p (suc l)) b && is_proper b && is_aligned p.blocking b) (not (list_any (meets b) earlier)) h in
    let u = and_parts (lies_in (domain p (suc l)) b && is_proper b) (is_aligned p.blocking b) t.0 in
    let v = and_parts (lies_in (domain p (suc l)) b) (is_proper b) u.0 in
    record { lies = v.0; proper = v.1; aligned = u.1; apart = not-true (list_any (meets b) earlier) t.1 }

pub base_box : (p : Problem) (earlier : List Extent) (b : Extent) → is_box_of p 0 earlier b ≡ true → b ≡ domain_box (domain p 0)
unfolding is_box_of
base_box p earlier b h = same_box_is b (domain_box (domain p 0)) h

-- it has cells, all in the domain
pub record IsPlaced (p : Problem) (l : ℕ) (b : Extent) : Type 0 where
  pub inside : (c : Cell) → holds b c ≡ true → in_domain (domain p l) c ≡ true
  pub proper : IsProper b

pub placed : (p : Problem) (l : ℕ) (earlier : List Extent) (b : Extent) → is_box_of p l earlier b ≡ true → IsPlaced p l b
placed p zero earlier b h = subst (λ (b : Extent). IsPlaced p 0 b) (sym (base_box p earlier b h)) (record {
  inside = λ c held. sym (domain_box_cells (domain p 0) c) ∙ held;
  proper = domain_proper p 0;
})
placed p (suc l) earlier b h =
    let k = fine_box p l earlier b h in
    record { inside = λ c held. box_inside (domain p (suc l)) b c k.lies held; proper = proper_is b k.proper }

-- ---- boxes apart

abbrev pub AreGridsApart : List Grid → Type 0
AreGridsApart [] = Unit {0}
AreGridsApart (g ∷ gs) = Each (λ k. meets k.box g.box ≡ false) gs × AreGridsApart gs

module _ (p : Problem) (n l : ℕ) where
  later_apart : (e : Extent) (earlier : List Extent) (gs : List Grid) → ((b : Extent) → list_any (meets b) earlier ≡ false → meets b e ≡ false) → AreGrids p n (suc l) earlier gs → Each (λ k. meets k.box e ≡ false) gs
  later_apart e earlier [] among each = tt
  later_apart e earlier (g ∷ gs) among each = (
    among g.box (fine_box p l earlier g.box each.0.box).apart,
    later_apart e (g.box ∷ earlier) gs (λ b none. among b (or_parts (meets b g.box) (list_any (meets b) earlier) none).1) each.1,
  )

  fine_apart : (earlier : List Extent) (gs : List Grid) → AreGrids p n (suc l) earlier gs → AreGridsApart gs
  fine_apart earlier [] each = tt
  fine_apart earlier (g ∷ gs) each = (
    later_apart g.box (g.box ∷ earlier) gs (λ b none. (or_parts (meets b g.box) (list_any (meets b) earlier) none).0) each.1,
    fine_apart (g.box ∷ earlier) gs each.1,
  )

pub apart : (p : Problem) (n l : ℕ) (gs : List Grid) → is_box_count p l (length gs) ≡ true → AreGrids p n l [] gs → AreGridsApart gs
apart p n zero [] count each = tt
apart p n zero (g ∷ []) count each = (tt, tt)
apart p n zero (g ∷ h ∷ gs) count each = let one : suc (suc (length gs)) ≡ 1 = eqb-true (suc (suc (length gs))) 1 count in absurd (omega arith)
apart p n (suc l) gs count each = fine_apart p n l [] gs each

-- ---- the masses of a level's cells

abbrev pub Agrees : Masses → List Grid → Type 0
Agrees m gs = Each (λ g. (c : Cell) → holds g.box c ≡ true → m c ≡ Some (slice_index g.masses (place_in g.box c))) gs

pub agrees : (gs : List Grid) → AreGridsApart gs → Agrees (masses_in gs) gs
agrees [] h = tt
agrees (g ∷ gs) h = (
  λ c held. ap (λ (t : Bool). if t then Some (slice_index g.masses (place_in g.box c)) else masses_in gs c) held,
  others gs h.0 (agrees gs h.1),
)
  where
    others : (ks : List Grid) → Each (λ k. meets k.box g.box ≡ false) ks → Agrees (masses_in gs) ks → Agrees (masses_in (g ∷ gs)) ks
    others [] away rest = tt
    others (k ∷ ks) away rest = (
      λ c held. ap (λ (t : Bool). if t then Some (slice_index g.masses (place_in g.box c)) else masses_in gs c)
          (false_from_ne_true (holds g.box c) (λ both. both_ways (meets k.box g.box) away.0 (meets_at k.box g.box c held both))) ∙ rest.0 c held,
      others ks away.1 rest.1,
    )

pub masses_written : (f : Form) (m : Masses) (b : Extent) (ms : List ℕ) → length ms ≡ width b * height b → ((c : Cell) → holds b c ≡ true → m c ≡ Some (slice_index ms (place_in b c)))
    → masses_bytes f m b ≡ listed_bytes f b ms
masses_written f m b ms count at =
    let each = each_cell (λ c. mass_of m c ≡ slice_index ms (place_in b c)) b (λ c held. ap (λ o. unwrap_or o 0) (at c held)) in
    masses_listed f m b ∙ ap (λ (ns : List ℕ). listed_bytes f b ns) (map_same (mass_of m) (λ c. slice_index ms (place_in b c)) (cells_of b) each ∙ looked_up b ms count)
  where
    map_same : (f g : Cell → ℕ) (cs : List Cell) → Each (λ c. f c ≡ g c) cs → map f cs ≡ map g cs
    map_same f g [] h = refl
    map_same f g (c ∷ cs) h = λ i. h.0 i ∷ map_same f g cs h.1 i

pub boxes_written : (f : Form) (p : Problem) (n l : ℕ) (m : Masses) (earlier : List Extent) (gs : List Grid) → AreGrids p n l earlier gs → Agrees m gs → flat_map (box_bytes f m) (map (λ g. g.box) gs) ≡ flat_map (grid_bytes f) gs
unfolding box_bytes
boxes_written f p n l m earlier [] each at = refl
boxes_written f p n l m earlier (g ∷ gs) each at = λ i. grid_bytes_at i ++ boxes_written f p n l m (g.box ∷ earlier) gs each.1 at.1 i
  where
    grid_bytes_at : box_bytes f m g.box ≡ grid_bytes f g
    grid_bytes_at = ap (λ (bs : List ℕ). corners g.box ++ bs) (masses_written f m g.box g.masses each.0.count at.0)

pub level_written : (f : Form) (p : Problem) (n l : ℕ) (gs : List Grid) → is_box_count p l (length gs) ≡ true → AreGrids p n l [] gs → level_bytes f (level_of gs) ≡ grids_bytes f gs
unfolding level_bytes level_of
level_written f p n l gs count each =
    let boxes = boxes_written f p n l (masses_in gs) [] gs each (agrees gs (apart p n l gs count each)) in
    λ i. number_bytes w32 (length-map gs (λ (g : Grid). g.box) i) ++ boxes i

-- ---- the level is one of the problem

pub all_from : {A : Type 0} (P : A → Type 0) (xs : List A) → Each P xs → All P xs
all_from P [] h = λ k d inside. absurd (omega arith)
all_from P (x ∷ xs) h = at (all_from P xs h.1)
  where
    at : All P xs → All P (x ∷ xs)
    at rest zero d inside = h.0
    at rest (suc k) d inside = rest k d (omega arith)

each_map : {A B : Type 0} (P : B → Type 0) (f : A → B) (xs : List A) → Each (λ x. P (f x)) xs → Each P (map f xs)
each_map P f [] h = tt
each_map P f (x ∷ xs) h = (h.0, each_map P f xs h.1)

-- no cell is in both boxes
abbrev pub HaveNoCommonCell : Extent → Extent → Type 0
HaveNoCommonCell a b = (c : Cell) → IsTrue (holds a c) → IsTrue (holds b c) → ⊥

all_apart : (gs : List Grid) → AreGridsApart gs → AllPairs HaveNoCommonCell (map (λ g. g.box) gs)
all_apart [] h = λ i j d before inside. absurd (omega arith)
all_apart (g ∷ gs) h = at (all_apart gs h.1) (all_from (HaveNoCommonCell g.box) (map (λ g. g.box) gs) (each_map (HaveNoCommonCell g.box) (λ g. g.box) gs (others gs h.0)))
  where
    others : (ks : List Grid) → Each (λ k. meets k.box g.box ≡ false) ks → Each (λ k. HaveNoCommonCell g.box k.box) ks
    others [] away = tt
    others (k ∷ ks) away = (λ c a b. both_ways (meets k.box g.box) away.0 (meets_at k.box g.box c b a), others ks away.1)

    at : AllPairs HaveNoCommonCell (map (λ g. g.box) gs) → All (HaveNoCommonCell g.box) (map (λ g. g.box) gs) → AllPairs HaveNoCommonCell (map (λ g. g.box) (g ∷ gs))
    at rest first i zero d before inside = absurd (omega arith)
    at rest first zero (suc j) d before inside = first j d (omega arith)
    at rest first (suc i) (suc j) d before inside = rest i j d (omega arith) (omega arith)

in_a_box : (d : Domain) (gs : List Grid) (c : Cell) → Each (λ g. (c : Cell) → holds g.box c ≡ true → in_domain d c ≡ true) gs → in_boxes (map (λ g. g.box) gs) c ≡ true → in_domain d c ≡ true
in_a_box d [] c h held = absurd (cc)
in_a_box d (g ∷ gs) c h held = choose (or_cases (holds g.box c) (in_boxes (map (λ g. g.box) gs) c) held) (in_a_box d gs c h.1)
  where
    choose : (holds g.box c ≡ true) ⊎ (in_boxes (map (λ g. g.box) gs) c ≡ true) → (in_boxes (map (λ g. g.box) gs) c ≡ true → in_domain d c ≡ true) → in_domain d c ≡ true
    choose (inl here) rest = h.0 c here
    choose (inr there) rest = rest there

pub has_masses : (gs : List Grid) (c : Cell) → is_some (masses_in gs c) ≡ in_boxes (map (λ g. g.box) gs) c
has_masses [] c = refl
has_masses (g ∷ gs) c = by_test (holds g.box c) (masses_in gs c) (in_boxes (map (λ g. g.box) gs) c) (has_masses gs c)
  where
    by_test : (t : Bool) (o : Option ℕ) (r : Bool) → is_some o ≡ r → is_some (if t then Some (slice_index g.masses (place_in g.box c)) else o) ≡ (t || r)
    by_test true o r h = refl
    by_test false o r h = h

module _ (p : Problem) (n l : ℕ) where
  all_placed : (earlier : List Extent) (gs : List Grid) → AreGrids p n l earlier gs → Each (λ g. IsPlaced p l g.box) gs
  all_placed earlier [] h = tt
  all_placed earlier (g ∷ gs) h = (placed p l earlier g.box h.0.box, all_placed (g.box ∷ earlier) gs h.1)

  proper_ones : (gs : List Grid) → Each (λ g. IsPlaced p l g.box) gs → Each (λ g. IsProper g.box) gs
  proper_ones [] h = tt
  proper_ones (g ∷ gs) h = (h.0.proper, proper_ones gs h.1)

  inside_ones : (gs : List Grid) → Each (λ g. IsPlaced p l g.box) gs → Each (λ g. (c : Cell) → holds g.box c ≡ true → in_domain (domain p l) c ≡ true) gs
  inside_ones [] h = tt
  inside_ones (g ∷ gs) h = (h.0.inside, inside_ones gs h.1)

  count_positive : (l k : ℕ) → is_box_count p l k ≡ true → 0 < k
  count_positive zero k h = let one : k ≡ 1 = eqb-true k 1 h in omega arith
  count_positive (suc l) k h = let some : 1 ≤ k = leb-true 1 k (and_parts (nat_le 1 k) (nat_le k (level_cells p l)) h).0 in omega arith

  pub is_level : (gs : List Grid) → is_box_count p l (length gs) ≡ true → AreGrids p n l [] gs → IsLevel p l (level_of gs)
  unfolding level_of
  is_level gs count each =
      let all = all_placed [] gs each in
      let some : 0 < length gs = count_positive l (length gs) count in
      record {
        some = omega (arith, length-map gs (λ (g : Grid). g.box));
        proper = all_from IsProper (map (λ g. g.box) gs) (each_map IsProper (λ g. g.box) gs (proper_ones gs all));
        disjoint = all_apart gs (apart p n l gs count each);
        inside = λ c held. in_a_box (domain p l) gs c (inside_ones gs all) held;
        filled = λ c. has_masses gs c;
      }

  -- ---- its masses are within their bound

  mass_bound : (ms : List ℕ) (i : ℕ) → Each (λ m. is_mass p n l m ≡ true) ms → 4 ^ l * slice_index ms i ≤ 2 ^ 30 + growth p.max_level * (n + 1)
  mass_bound [] i h = omega (arith, mul-zero (4 ^ l))
  mass_bound (m ∷ ms) zero h = leb-true (4 ^ l * m) (2 ^ 30 + growth p.max_level * (n + 1)) h.0
  mass_bound (m ∷ ms) (suc i) h = mass_bound ms i h.1

  pub masses_bounded : (earlier : List Extent) (gs : List Grid) (c : Cell) → AreGrids p n l earlier gs → 4 ^ l * mass_of (masses_in gs) c ≤ 2 ^ 30 + growth p.max_level * (n + 1)
  masses_bounded earlier [] c h = omega (arith, mul-zero (4 ^ l))
  masses_bounded earlier (g ∷ gs) c h = by_test (holds g.box c) (masses_in gs c) (mass_bound g.masses (place_in g.box c) h.0.each) (masses_bounded (g.box ∷ earlier) gs c h.1)
    where
      by_test : (t : Bool) (o : Option ℕ) → 4 ^ l * slice_index g.masses (place_in g.box c) ≤ 2 ^ 30 + growth p.max_level * (n + 1) → 4 ^ l * unwrap_or o 0 ≤ 2 ^ 30 + growth p.max_level * (n + 1)
          → 4 ^ l * unwrap_or (if t then Some (slice_index g.masses (place_in g.box c)) else o) 0 ≤ 2 ^ 30 + growth p.max_level * (n + 1)
      by_test true o here rest = here
      by_test false o here rest = rest

-- ---- and above level 0 its boxes are aligned

pub multiple_is : (n : ℕ) (z : ℤ) → is_multiple n z ≡ true → int_rem_euclid z (pos n) ≡ pos 0
multiple_is n z h = same_number (int_rem_euclid z (pos n)) (pos 0) h

pub aligned_is : (n : ℕ) (b : Extent) → is_aligned n b ≡ true → IsAligned n b
aligned_is n b h =
    let t = and_parts (is_multiple n b.lo.x && is_multiple n b.lo.y && is_multiple n (b.hi.x +ℤ pos 1)) (is_multiple n (b.hi.y +ℤ pos 1)) h in
    let u = and_parts (is_multiple n b.lo.x && is_multiple n b.lo.y) (is_multiple n (b.hi.x +ℤ pos 1)) t.0 in
    let v = and_parts (is_multiple n b.lo.x) (is_multiple n b.lo.y) u.0 in
    record { west = multiple_is n b.lo.x v.0; south = multiple_is n b.lo.y v.1; east = multiple_is n (b.hi.x +ℤ pos 1) u.1; north = multiple_is n (b.hi.y +ℤ pos 1) t.1 }

aligned_ones : (p : Problem) (n l : ℕ) (earlier : List Extent) (gs : List Grid) → AreGrids p n (suc l) earlier gs → Each (λ g. IsAligned p.blocking g.box) gs
aligned_ones p n l earlier [] h = tt
aligned_ones p n l earlier (g ∷ gs) h = (aligned_is p.blocking g.box (fine_box p l earlier g.box h.0.box).aligned, aligned_ones p n l (g.box ∷ earlier) gs h.1)

pub all_aligned : (p : Problem) (n l : ℕ) (gs : List Grid) → AreGrids p n (suc l) [] gs → All (IsAligned p.blocking) (level_of gs).boxes
unfolding level_of
all_aligned p n l gs h = all_from (IsAligned p.blocking) (map (λ g. g.box) gs) (each_map (IsAligned p.blocking) (λ g. g.box) gs (aligned_ones p n l [] gs h))

-- the only box of level 0 is the domain
pub base_boxes : (p : Problem) (n : ℕ) (gs : List Grid) → is_box_count p 0 (length gs) ≡ true → AreGrids p n 0 [] gs → (level_of gs).boxes ≡ domain_box (domain p 0) ∷ []
unfolding level_of
base_boxes p n [] count h = absurd (cc)
base_boxes p n (g ∷ []) count h = ap (λ (b : Extent). b ∷ []) (base_box p [] g.box h.0.box)
base_boxes p n (g ∷ k ∷ gs) count h = let one : suc (suc (length gs)) ≡ 1 = eqb-true (suc (suc (length gs))) 1 count in absurd (omega arith)

pub level_bounded : (p : Problem) (n l : ℕ) (gs : List Grid) (c : Cell) → AreGrids p n l [] gs → 4 ^ l * mass_of (level_of gs).masses c ≤ 2 ^ 30 + growth p.max_level * (n + 1)
unfolding level_of
level_bounded p n l gs c h = masses_bounded p n l [] gs c h
