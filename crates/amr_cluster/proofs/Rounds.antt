-- The least box round the cells of a set that lie in a box, and the cells of the two parts of a cut.
use Rattle.std.proofs.Common.{◌≡◌, Bool, true, false, cond, ◌&&◌, ◌||◌, ℤ, pos, ◌+ℤ◌, ◌≤ℤ◌, ◌<ℤ◌, List, [], ◌∷◌, refl, sym, ap, subst, ◌∙◌, arith}
use Rattle.std.specs.Prelude.{int_le, int_lt}
use Rattle.std.specs.List.{filter, list_any}
use Rattle.std.specs.Ordering.{eq_by_cmp}
use Rattle.std.proofs.lemmas.Int.{ints}
use Rattle.amr_box.specs.declared.Cell.{Cell}
use Rattle.amr_box.specs.declared.Axis.{Axis}
use Rattle.amr_box.specs.declared.Axis.TheVariants.{X, Y}
use Rattle.amr_box.specs.Cells.{Extent, IsBoxOf, along, below_cut, cell_cmp, cells_of, extent, from_cut, holds}
use Rattle.amr_box.proofs.CellEquality.{cell_same, same_box}
use Rattle.amr_box.proofs.CellLists.{among_cells_of}
use Rattle.amr_box.proofs.Parts.{below_cells, from_cells}
use Rattle.amr_def.specs.Signature.{bounding}
use Rattle.amr_def.specs.Cut.{Cut}
use Rattle.amr_def.specs.Cluster.{cells_below, cells_from, edge}
use Rattle.amr_def.proofs.ClusterLaws.{Each, both_true, bounding_takes, each_both, each_from_kept, each_kept, each_passes, fold_below, fold_from, own_below, own_from}
use Rattle.amr_tags.specs.TagSets.{IsLeastBox}
use Rattle.amr_cluster.specs.Laws.{IsInside, IsRound}
use Rattle.amr_tags.specs.Stored.{IsIn, IsPart}
use Rattle.amr_tags.proofs.Places.{is_in}
use Rattle.amr_cluster.specs.Work.{cells_in}
use Rattle.amr_cluster.proofs.Fuel.{each_map}
use Rattle.amr_cluster.proofs.Sound.{filter_all}
use Rattle.amr_cluster.proofs.Windows.{cells_of-window}

-- ---- filters

pub filter_same : (p q : Cell → Bool) (cs : List Cell) → Each (λ c. p c ≡ q c) cs → filter p cs ≡ filter q cs
filter_same p q [] e = refl
filter_same p q (c ∷ cs) e = ap (λ (t : Bool). cond t (c ∷ filter p cs) (filter p cs)) e.0 ∙ ap (λ (ks : List Cell). cond (q c) (c ∷ ks) ks) (filter_same p q cs e.1)

filter_filter : (p q : Cell → Bool) (cs : List Cell) → filter p (filter q cs) ≡ filter q (filter p cs)
filter_filter p q [] = refl
filter_filter p q (c ∷ cs) = choose (p c) (q c) refl refl (filter_filter p q cs)
  where
    choose : (s t : Bool) → p c ≡ s → q c ≡ t → filter p (filter q cs) ≡ filter q (filter p cs) → filter p (cond t (c ∷ filter q cs) (filter q cs)) ≡ filter q (cond s (c ∷ filter p cs) (filter p cs))
    choose true true e f same = ap (λ (r : Bool). cond r (c ∷ filter p (filter q cs)) (filter p (filter q cs))) e ∙ ap (λ (ks : List Cell). c ∷ ks) same ∙ sym (ap (λ (r : Bool). cond r (c ∷ filter q (filter p cs)) (filter q (filter p cs))) f)
    choose true false e f same = same ∙ sym (ap (λ (r : Bool). cond r (c ∷ filter q (filter p cs)) (filter q (filter p cs))) f)
    choose false true e f same = ap (λ (r : Bool). cond r (c ∷ filter p (filter q cs)) (filter p (filter q cs))) e ∙ same
    choose false false e f same = same

-- ---- the cells of a box

pub itself : (b : Extent) (larger : Extent) → IsPart larger b → IsPart b b
itself b larger i = record { west = omega (arith, ints); wide = i.wide; east = omega (arith, ints); south = omega (arith, ints); high = i.high; north = omega (arith, ints) }

pub own_cells : (b larger : Extent) → IsPart larger b → Each (λ c. holds b c ≡ true) (cells_of b)
own_cells b larger i = subst (λ (cs : List Cell). Each (λ c. holds b c ≡ true) cs) (cells_of-window b b (itself b larger i)) (each_passes (holds b) (cells_of b))

-- a part of a box, and its cells in a set
part_cells : (has test : Cell → Bool) (b part larger : Extent) → IsPart larger b → IsPart b part → IsBoxOf part (λ c. holds b c && test c) → filter test (cells_in has b) ≡ cells_in has part
part_cells has test b part larger i j is =
    let same = each_map (λ c. holds b c ≡ true) (λ c. test c ≡ holds part c) (λ c h. sym (is.at c ∙ ap (λ (t : Bool). t && test c) h)) (cells_of b) (own_cells b larger i) in
    filter_filter test has (cells_of b) ∙ ap (filter has) (filter_same test (holds part) (cells_of b) same ∙ cells_of-window b part j)

pub IsPart-below : (b : Extent) (larger : Extent) (k : Cut) → IsPart larger b → IsInside b k → IsPart b (below_cut k.axis (edge b k) b)
IsPart-below b larger k i inside = choose k.axis (edge b k) inside.from inside.to
  where
    choose : (a : Axis) (e : ℤ) → along a b.lo <ℤ e → e ≤ℤ along a b.hi → IsPart b (below_cut a e b)
    choose X e from to = record { west = omega (arith, ints); wide = omega (arith, ints); east = omega (arith, ints); south = omega (arith, ints); high = i.high; north = omega (arith, ints) }
    choose Y e from to = record { west = omega (arith, ints); wide = i.wide; east = omega (arith, ints); south = omega (arith, ints); high = omega (arith, ints); north = omega (arith, ints) }

pub IsPart-from : (b : Extent) (larger : Extent) (k : Cut) → IsPart larger b → IsInside b k → IsPart b (from_cut k.axis (edge b k) b)
IsPart-from b larger k i inside = choose k.axis (edge b k) inside.from inside.to
  where
    choose : (a : Axis) (e : ℤ) → along a b.lo <ℤ e → e ≤ℤ along a b.hi → IsPart b (from_cut a e b)
    choose X e from to = record { west = omega (arith, ints); wide = omega (arith, ints); east = omega (arith, ints); south = omega (arith, ints); high = i.high; north = omega (arith, ints) }
    choose Y e from to = record { west = omega (arith, ints); wide = i.wide; east = omega (arith, ints); south = omega (arith, ints); high = omega (arith, ints); north = omega (arith, ints) }

pub IsPart-in : (a b c : Extent) → IsPart b a → IsPart c b → IsPart c a
IsPart-in a b c i j = record { west = omega (arith, ints, i.west, j.west); wide = i.wide; east = omega (arith, ints, i.east, j.east); south = omega (arith, ints, i.south, j.south); high = i.high; north = omega (arith, ints, i.north, j.north) }

pub cells_below-in : (has : Cell → Bool) (b larger : Extent) (k : Cut) → IsPart larger b → IsInside b k → cells_below b k (cells_in has b) ≡ cells_in has (below_cut k.axis (edge b k) b)
cells_below-in has b larger k i inside = part_cells has (λ c. int_lt (along k.axis c) (edge b k)) b _ larger i (IsPart-below b larger k i inside) (below_cells k.axis (edge b k) b inside.to)

pub cells_from-in : (has : Cell → Bool) (b larger : Extent) (k : Cut) → IsPart larger b → IsInside b k → cells_from b k (cells_in has b) ≡ cells_in has (from_cut k.axis (edge b k) b)
cells_from-in has b larger k i inside = part_cells has (λ c. int_le (edge b k) (along k.axis c)) b _ larger i (IsPart-from b larger k i inside) (from_cells k.axis (edge b k) b inside.from)

-- ---- one cell of a box

any_each : (Q : Cell → Type 0) (q : Cell) (cs : List Cell) → list_any (λ c. eq_by_cmp cell_cmp q c) cs ≡ true → Each Q cs → Q q
any_each Q q [] e all = absurd (cc)
any_each Q q (c ∷ cs) e all = choose (eq_by_cmp cell_cmp q c) refl e (λ f. any_each Q q cs f all.1)
  where
    choose : (t : Bool) → eq_by_cmp cell_cmp q c ≡ t → (t || list_any (λ c. eq_by_cmp cell_cmp q c) cs) ≡ true → (list_any (λ c. eq_by_cmp cell_cmp q c) cs ≡ true → Q q) → Q q
    choose true f g rest = subst Q (sym (cell_same q c f)) all.0
    choose false f g rest = rest g

pub member : (P : Cell → Type 0) (has : Cell → Bool) (part : Extent) (q : Cell) → Each P (cells_in has part) → has q ≡ true → holds part q ≡ true → P q
member P has part q all h inside = any_each (λ c. has c ≡ true → P c) q (cells_of part) (among_cells_of part q ∙ inside) (each_from_kept P has (cells_of part) all) h

-- ---- the least box

low_same : (a b z : ℤ) → a ≤ℤ b → b ≤ℤ z → z ≡ a → a ≡ b
low_same a b z h g e = omega (arith, ints)

high_same : (a b z : ℤ) → b <ℤ (a +ℤ pos 1) → z ≤ℤ b → z ≡ a → a ≡ b
high_same a b z h g e = omega (arith, ints)

below_next : (z a : ℤ) → z ≤ℤ a → z <ℤ (a +ℤ pos 1)
below_next z a h = omega (arith, ints)

module _ (has : Cell → Bool) (part r : Extent) (least : IsLeastBox r (λ c. holds part c && has c)) where
  pub IsPart-least : IsPart part r
  IsPart-least =
      let at_west = is_in part least.west.0 (both_true _ _ least.west.1).0 in
      let at_east = is_in part least.east.0 (both_true _ _ least.east.1).0 in
      let at_south = is_in part least.south.0 (both_true _ _ least.south.1).0 in
      let at_north = is_in part least.north.0 (both_true _ _ least.north.1).0 in
      let wide = is_in r least.west.0 (least.inside least.west.0 least.west.1) in
      let high = is_in r least.south.0 (least.inside least.south.0 least.south.1) in
      record {
        west = omega (arith, ints, at_west.west, least.west.2);
        wide = omega (arith, ints, wide.east, least.west.2);
        east = omega (arith, ints, at_east.east, least.east.2);
        south = omega (arith, ints, at_south.south, least.south.2);
        high = omega (arith, ints, high.north, least.south.2);
        north = omega (arith, ints, at_north.north, least.north.2);
      }

  part_itself : IsPart part part
  part_itself =
      let i = IsPart-least in
      record {
        west = omega (arith, ints);
        wide = omega (arith, ints, i.west, i.wide, i.east);
        east = omega (arith, ints);
        south = omega (arith, ints);
        high = omega (arith, ints, i.south, i.high, i.north);
        north = omega (arith, ints);
      }

  listed_in_least : Each (λ c. holds r c ≡ true) (cells_in has part)
  listed_in_least =
      let tests = each_passes has (cells_of part) in
      let inside = each_kept (λ c. holds part c ≡ true) has (cells_of part) (own_cells part part part_itself) in
      each_both (λ c. has c ≡ true) (λ c. holds part c ≡ true) (λ c. holds r c ≡ true) (λ c t h. least.inside c (ap (λ (b : Bool). b && has c) h ∙ t)) (cells_in has part) tests inside

  pub cells_in-least : cells_in has r ≡ cells_in has part
  cells_in-least =
      ap (filter has) (sym (cells_of-window part r IsPart-least))
      ∙ filter_filter has (holds r) (cells_of part)
      ∙ filter_all (holds r) (cells_in has part) listed_in_least

  -- the box round the listed cells is the least box
  round_is : (c : Cell) (cs : List Cell) → Each (λ q. IsIn r q) (c ∷ cs) → ((q : Cell) → (holds part q && has q) ≡ true → IsIn (bounding c cs) q) → r ≡ bounding c cs
  round_is c cs cells at =
      let b = bounding c cs in
      let wests = each_map (λ q. IsIn r q) (λ q. r.lo.x ≤ℤ along X q) (λ q h. h.west) (c ∷ cs) cells in
      let souths = each_map (λ q. IsIn r q) (λ q. r.lo.y ≤ℤ along Y q) (λ q h. h.south) (c ∷ cs) cells in
      let easts = each_map (λ q. IsIn r q) (λ q. along X q <ℤ (r.hi.x +ℤ pos 1)) (λ q h. below_next q.x r.hi.x h.east) (c ∷ cs) cells in
      let norths = each_map (λ q. IsIn r q) (λ q. along Y q <ℤ (r.hi.y +ℤ pos 1)) (λ q h. below_next q.y r.hi.y h.north) (c ∷ cs) cells in
      let west = fold_from X r.lo.x (extent c c) cs (own_from X r.lo.x c wests.0) wests.1 in
      let south = fold_from Y r.lo.y (extent c c) cs (own_from Y r.lo.y c souths.0) souths.1 in
      let east = fold_below X (r.hi.x +ℤ pos 1) (extent c c) cs (own_below X (r.hi.x +ℤ pos 1) c easts.0) easts.1 in
      let north = fold_below Y (r.hi.y +ℤ pos 1) (extent c c) cs (own_below Y (r.hi.y +ℤ pos 1) c norths.0) norths.1 in
      same_box r b
      (low_same r.lo.x b.lo.x least.west.0.x west (at least.west.0 least.west.1).west least.west.2)
      (low_same r.lo.y b.lo.y least.south.0.y south (at least.south.0 least.south.1).south least.south.2)
      (high_same r.hi.x b.hi.x least.east.0.x east (at least.east.0 least.east.1).east least.east.2)
      (high_same r.hi.y b.hi.y least.north.0.y north (at least.north.0 least.north.1).north least.north.2)

  pub IsRound-least : IsRound r (cells_in has r)
  IsRound-least = subst (λ (cs : List Cell). IsRound r cs) (sym cells_in-least) (round (cells_in has part) refl listed_in_least)
    where
      round : (cs : List Cell) → cells_in has part ≡ cs → Each (λ c. holds r c ≡ true) cs → IsRound r cs
      round [] e all = absurd (member (λ c. ⊥) has part least.west.0 (subst (λ (ks : List Cell). Each (λ c. ⊥) ks) (sym e) tt) (both_true _ _ least.west.1).1 (both_true _ _ least.west.1).0)
      round (c ∷ cs) e all =
          let listed : Each (λ q. holds (bounding c cs) q ≡ true) (cells_in has part) = subst (λ (ks : List Cell). Each (λ q. holds (bounding c cs) q ≡ true) ks) (sym e) (bounding_takes c cs) in
          record {
            first = c;
            others = cs;
            cells_are = refl;
            box_is = round_is c cs (each_map (λ q. holds r q ≡ true) (λ q. IsIn r q) (λ q h. is_in r q h) (c ∷ cs) all)
                (λ q t. is_in (bounding c cs) q (member (λ q. holds (bounding c cs) q ≡ true) has part q listed (both_true _ _ t).1 (both_true _ _ t).0));
          }

-- a set with no cell in a box
pub cells_in-none : (has : Cell → Bool) (part : Extent) → ((c : Cell) → (holds part c && has c) ≡ false) → IsPart part part → cells_in has part ≡ []
cells_in-none has part none i =
    filter_same has (λ c. false) (cells_of part) (each_map (λ c. holds part c ≡ true) (λ c. has c ≡ false) (λ c h. sym (ap (λ (t : Bool). t && has c) h) ∙ none c) (cells_of part) (own_cells part part i))
    ∙ filter_nothing (cells_of part)
  where
    filter_nothing : (cs : List Cell) → filter (λ c. false) cs ≡ []
    filter_nothing [] = refl
    filter_nothing (c ∷ cs) = filter_nothing cs
