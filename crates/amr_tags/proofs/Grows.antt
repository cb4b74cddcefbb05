-- One cell more on all sides.
use Rattle.std.proofs.Common.{◌≡◌, ℕ, ◌+◌, ◌<◌, Bool, true, false, ◌&&◌, ℤ, pos, ◌+ℤ◌, ◌-ℤ◌, ◌≤ℤ◌, refl, sym, ap, ◌∙◌, subst, arith, List}
use Rattle.std.specs.Prelude.{unsigned_abs}
use Rattle.std.proofs.lemmas.Bool.{and_parts}
use Rattle.std.proofs.lemmas.Bool.Decides.{same_from_decides}
use Rattle.std.proofs.lemmas.Int.{ints}
use Rattle.amr_box.specs.declared.Cell.{Cell}
use Rattle.amr_box.specs.Cells.{Extent, cell, height, holds, moved, width}
use Rattle.amr_box.proofs.Numbers.{side-is}
use Rattle.amr_tags.specs.TagSets.{column_in, has, home, is_near_tag, row_in, tag_set, wrapped}
use Rattle.amr_tags.specs.Bits.{bit_of, words_for}
use Rattle.amr_tags.specs.Grown.{beside, grown_bit}
use Rattle.amr_tags.proofs.Offsets.{near-joined, near-more, near-none, square_box}
use Rattle.amr_tags.proofs.Places.{column_within, in_holds, is_in, row_within}
use Rattle.amr_tags.proofs.Sides.{from-beside, to-beside}

outside : (a x y : Bool) → a ≡ false → (a && x) ≡ (a && y)
outside a x y e = rw e refl

-- the tags as they stand are those grown by no cell
pub none-grown : (b : Extent) (x y : Bool) (words : List ℕ) (c : Cell) → has (tag_set b x y words) c ≡ (holds b c && is_near_tag (tag_set b x y words) 0 c)
none-grown b x y words c = step (holds b c) refl
  where
    twice : (a z : Bool) → (a && z) ≡ (a && (a && z))
    twice true z = refl
    twice false z = refl

    step : (t : Bool) → holds b c ≡ t → has (tag_set b x y words) c ≡ (holds b c && is_near_tag (tag_set b x y words) 0 c)
    step true e = twice (holds b c) _ ∙ ap (λ t. holds b c && t) (sym (near-none (tag_set b x y words) c e))
    step false e = outside (holds b c) _ _ e

pub offset-is : (lo z : ℤ) → lo ≤ℤ z → lo +ℤ pos (unsigned_abs (z -ℤ lo)) ≡ z
offset-is lo z h = grind (arith, ints)

offset-of : (lo : ℤ) (k : ℕ) → unsigned_abs (lo +ℤ pos k -ℤ lo) ≡ k
offset-of lo k = grind (arith, ints)

-- a bit with one of the nine set is near by one more
pub bit-near : (b : Extent) (x y : Bool) (first words : List ℕ) (n : ℕ) (c : Cell) → holds b c ≡ true → ((k : Cell) → has (tag_set b x y words) k ≡ (holds b k && is_near_tag (tag_set b x y first) n k)) → grown_bit x y (width b) (height b) words (column_in b c) (row_in b c) ≡ true → is_near_tag (tag_set b x y first) (n + 1) c ≡ true
bit-near b x y first words n c inside each e =
    let here = is_in b c inside in
    let up = from-beside y b.lo.y (height b) (λ r. beside x (width b) (λ k. bit_of (words_for (width b)) words k r) (column_in b c)) (row_in b c) (row_within b c here) e in
    let along = from-beside x b.lo.x (width b) (λ k. bit_of (words_for (width b)) words k up.at) (column_in b c) (column_within b c here) up.passes in
    let wide = side-is b.lo.x b.hi.x (omega (arith, ints, here.west, here.east)) in
    let high = side-is b.lo.y b.hi.y (omega (arith, ints, here.south, here.north)) in
    let q = cell (b.lo.x +ℤ pos along.at) (b.lo.y +ℤ pos up.at) in
    let q_in : holds b q ≡ true = in_holds b q (omega (arith, ints)) (omega (arith, ints, wide, along.inside)) (omega (arith, ints)) (omega (arith, ints, high, up.inside)) in
    let set : has (tag_set b x y words) q ≡ true = ap (λ t. t && bit_of (words_for (width b)) words (column_in b q) (row_in b q)) q_in ∙ ap (λ t. bit_of (words_for (width b)) words t (row_in b q)) (offset-of b.lo.x along.at) ∙ ap (bit_of (words_for (width b)) words along.at) (offset-of b.lo.y up.at) ∙ along.passes in
    let near = and_parts (holds b q) _ (sym (each q) ∙ set) in
    let ends_x = ap (λ (t : ℤ). wrapped x b.lo.x (width b) (t +ℤ along.way)) (sym (offset-is b.lo.x c.x here.west)) ∙ along.ends in
    let ends_y = ap (λ (t : ℤ). wrapped y b.lo.y (height b) (t +ℤ up.way)) (sym (offset-is b.lo.y c.y here.south)) ∙ up.ends in
    let same : home (tag_set b x y first) (moved c (cell along.way up.way)) ≡ q = λ i. cell (ends_x i) (ends_y i) in
    near-joined (tag_set b x y first) n c (cell along.way up.way) (omega (arith, along.inside)) (omega (arith, up.inside)) (in_holds (square_box 1) (cell along.way up.way) along.way_low along.way_high up.way_low up.way_high) (ap (is_near_tag (tag_set b x y first) n) same ∙ near.1)

-- and the other way
pub near-bit : (b : Extent) (x y : Bool) (first words : List ℕ) (n : ℕ) (c : Cell) → holds b c ≡ true → ((k : Cell) → has (tag_set b x y words) k ≡ (holds b k && is_near_tag (tag_set b x y first) n k)) → is_near_tag (tag_set b x y first) (n + 1) c ≡ true → grown_bit x y (width b) (height b) words (column_in b c) (row_in b c) ≡ true
near-bit b x y first words n c inside each e =
    let here = is_in b c inside in
    let s = near-more (tag_set b x y first) n c inside e in
    let q = home (tag_set b x y first) (moved c s.step) in
    let there = is_in b q s.there in
    let short = is_in (square_box 1) s.step s.short in
    let set : has (tag_set b x y words) q ≡ true = each q ∙ ap (λ t. t && is_near_tag (tag_set b x y first) n q) s.there ∙ s.on in
    let tagged = and_parts (holds b q) _ set in
    let ends_x = ap (λ (t : ℤ). wrapped x b.lo.x (width b) (t +ℤ s.step.x)) (offset-is b.lo.x c.x here.west) ∙ sym (offset-is b.lo.x q.x there.west) in
    let ends_y = ap (λ (t : ℤ). wrapped y b.lo.y (height b) (t +ℤ s.step.y)) (offset-is b.lo.y c.y here.south) ∙ sym (offset-is b.lo.y q.y there.south) in
    to-beside y b.lo.y (height b) (λ r. beside x (width b) (λ k. bit_of (words_for (width b)) words k r) (column_in b c)) (row_in b c) (row_within b c here)
    (record {
      way = s.step.y;
      at = row_in b q;
      way_low = short.south;
      way_high = short.north;
      inside = row_within b q there;
      ends = ends_y;
      passes = to-beside x b.lo.x (width b) (λ k. bit_of (words_for (width b)) words k (row_in b q)) (column_in b c) (column_within b c here)
          (record { way = s.step.x; at = column_in b q; way_low = short.west; way_high = short.east; inside = column_within b q there; ends = ends_x; passes = tagged.1 });
    })

pub one-more : (b : Extent) (x y : Bool) (first old new : List ℕ) (n w h : ℕ) → w ≡ width b → h ≡ height b → ((k : Cell) → has (tag_set b x y old) k ≡ (holds b k && is_near_tag (tag_set b x y first) n k)) → ((i j : ℕ) → i < w → j < h → bit_of (words_for w) new i j ≡ grown_bit x y w h old i j) → (c : Cell) → has (tag_set b x y new) c ≡ (holds b c && is_near_tag (tag_set b x y first) (n + 1) c)
one-more b x y first old new n w h ew eh each bits c = step (holds b c) refl
  where
    all : (i j : ℕ) → i < width b → j < height b → bit_of (words_for (width b)) new i j ≡ grown_bit x y (width b) (height b) old i j
    all = subst (λ (v : ℕ). (i j : ℕ) → i < width b → j < v → bit_of (words_for (width b)) new i j ≡ grown_bit x y (width b) v old i j) eh (subst (λ (v : ℕ). (i j : ℕ) → i < v → j < h → bit_of (words_for v) new i j ≡ grown_bit x y v h old i j) ew bits)

    step : (t : Bool) → holds b c ≡ t → has (tag_set b x y new) c ≡ (holds b c && is_near_tag (tag_set b x y first) (n + 1) c)
    step true e = ap (λ t. holds b c && t) (all (column_in b c) (row_in b c) (column_within b c (is_in b c e)) (row_within b c (is_in b c e)) ∙ same_from_decides _ _ (bit-near b x y first old n c e each, near-bit b x y first old n c e each) ((λ h. h), (λ h. h)))
    step false e = outside (holds b c) _ _ e
