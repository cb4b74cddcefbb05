-- One box of the work list: it ends as one box of the cluster, or its two parts come in its place.
use Rattle.std.proofs.Common.{◌≡◌, ℤ, ℕ, suc, ◌+◌, ◌-◌, ◌*◌, ◌<◌, ◌≤◌, Bool, true, false, cond, List, [], ◌∷◌, ◌++◌, length, refl, sym, ap, subst, ◌∙◌, arith, append_assoc, ◌&&◌, ◌||◌, not}
use Rattle.std.specs.Prelude.{int_le, int_lt}
use Rattle.std.proofs.lemmas.Bool.{false≢true, true≢false}
use Rattle.std.specs.declared.option.Option.{Option}
use Rattle.std.specs.declared.option.Option.TheVariants.{None, Some}
use Rattle.std.specs.List.{filter}
use Rattle.std.proofs.lemmas.Int.{ints}
use Rattle.std.proofs.lemmas.List.{append-nil}
use Rattle.amr_box.specs.declared.Cell.{Cell}
use Rattle.amr_box.specs.Cells.{Extent, holds, along, below_cut, from_cut, in_boxes}
use Rattle.amr_def.specs.Signature.{bounding}
use Rattle.amr_def.specs.Cut.{Cut}
use Rattle.amr_def.specs.Cluster.{cells_below, cells_from, cluster, cluster_within, cut_of, edge, parts}
use Rattle.amr_def.proofs.ClusterLaws.{Apart, ApartFrom, Disjoint, cluster-disjoint}
use Rattle.amr_cluster.specs.Laws.{IsInside, IsRound}
use Rattle.amr_cluster.specs.declared.cut_boxes.CutBox.{CutBox}
use Rattle.amr_tags.specs.Stored.{IsPart}
use Rattle.amr_cluster.specs.Work.{IsCutAs, IsWork, cells_in, waiting, work_left}
use Rattle.amr_cluster.proofs.Fuel.{cluster-cut, cut_inside, fewer_below, fewer_from}
use Rattle.amr_cluster.proofs.Rounds.{cells_below-in, cells_from-in}
use Rattle.amr_cluster.proofs.Sound.{apart_is}

module _ (efficiency w : ℕ) (has : Cell → Bool) where
  pub waiting-push : (work : List CutBox) (p : CutBox) → waiting efficiency w has (work ++ p ∷ []) ≡ cluster efficiency w (cells_in has p.bx) ++ waiting efficiency w has work
  waiting-push [] p = sym (append-nil (cluster efficiency w (cells_in has p.bx)))
  waiting-push (d ∷ work) p =
      ap (λ (bs : List Extent). bs ++ cluster efficiency w (cells_in has d.bx)) (waiting-push work p)
      ∙ append_assoc (cluster efficiency w (cells_in has p.bx)) (waiting efficiency w has work) (cluster efficiency w (cells_in has d.bx))

  pub IsWork-push : (larger : Extent) (work : List CutBox) (p : CutBox) → IsWork efficiency w has larger work → IsRound p.bx (cells_in has p.bx) → IsPart larger p.bx → IsCutAs efficiency w has p → IsWork efficiency w has larger (work ++ p ∷ [])
  IsWork-push larger [] p h round inside cut = (round, inside, cut, tt)
  IsWork-push larger (d ∷ work) p h round inside cut = (h.0, h.1, h.2, IsWork-push larger work p h.3 round inside cut)

  pub IsWork-pop : (larger : Extent) (work : List CutBox) (p : CutBox) → IsWork efficiency w has larger (work ++ p ∷ []) → IsRound p.bx (cells_in has p.bx) × IsPart larger p.bx × IsCutAs efficiency w has p × IsWork efficiency w has larger work
  IsWork-pop larger [] p h = (h.0, h.1, h.2, tt)
  IsWork-pop larger (d ∷ work) p h = let rest = IsWork-pop larger work p h.3 in (rest.0, rest.1, rest.2, (h.0, h.1, h.2, rest.3))

module _ (has : Cell → Bool) where
  pub work_left-push : (work : List CutBox) (p : CutBox) → work_left has (work ++ p ∷ []) ≡ work_left has work + (2 * length (cells_in has p.bx) - 1)
  work_left-push [] p = refl
  work_left-push (d ∷ work) p = let rest : work_left has (work ++ p ∷ []) ≡ work_left has work + (2 * length (cells_in has p.bx) - 1) = work_left-push work p in omega arith

-- ---- what the cluster of a box's cells is

module _ (efficiency w : ℕ) (has : Cell → Bool) (b larger : Extent) (least : 1 ≤ w) (round : IsRound b (cells_in has b)) (inside : IsPart larger b) where
  at_cut : (o : Option Cut) → cut_of efficiency w (cells_in has b) b ≡ o → cluster efficiency w (cells_in has b) ≡ parts (cluster efficiency w) (cells_in has b) b o
  at_cut o e =
      let whole : cluster efficiency w (round.first ∷ round.others) ≡ parts (cluster efficiency w) (round.first ∷ round.others) (bounding round.first round.others) (cut_of efficiency w (round.first ∷ round.others) (bounding round.first round.others)) = cluster-cut efficiency w round.first round.others least in
      ap (cluster efficiency w) round.cells_are
      ∙ whole
      ∙ ap (λ (d : Extent). parts (cluster efficiency w) (round.first ∷ round.others) d (cut_of efficiency w (round.first ∷ round.others) d)) (sym round.box_is)
      ∙ ap (λ (cs : List Cell). parts (cluster efficiency w) cs b (cut_of efficiency w cs b)) (sym round.cells_are)
      ∙ ap (parts (cluster efficiency w) (cells_in has b) b) e

  pub uncut : cut_of efficiency w (cells_in has b) b ≡ None → cluster efficiency w (cells_in has b) ≡ b ∷ []
  uncut e = at_cut None e

  pub inside_cut : (k : Cut) → cut_of efficiency w (cells_in has b) b ≡ Some k → IsInside b k
  inside_cut k e = cut_inside efficiency w (cells_in has b) b k least e

  pub cut_parts : (k : Cut) → cut_of efficiency w (cells_in has b) b ≡ Some k → cluster efficiency w (cells_in has b) ≡ cluster efficiency w (cells_in has (below_cut k.axis (edge b k) b)) ++ cluster efficiency w (cells_in has (from_cut k.axis (edge b k) b))
  cut_parts k e =
      at_cut (Some k) e
      ∙ ap (λ (cs : List Cell). cluster efficiency w cs ++ cluster efficiency w (cells_from b k (cells_in has b))) (cells_below-in has b larger k inside (inside_cut k e))
      ∙ ap (λ (cs : List Cell). cluster efficiency w (cells_in has (below_cut k.axis (edge b k) b)) ++ cluster efficiency w cs) (cells_from-in has b larger k inside (inside_cut k e))

  pub fewer : (k : Cut) → IsInside b k → (length (cells_below b k (cells_in has b)) < length (cells_in has b)) × (length (cells_from b k (cells_in has b)) < length (cells_in has b))
  fewer k i =
      subst (λ (cs : List Cell). (length (cells_below b k cs) < length cs) × (length (cells_from b k cs) < length cs)) (sym round.cells_are)
      (subst (λ (d : Extent). (length (cells_below d k (round.first ∷ round.others)) < length (round.first ∷ round.others)) × (length (cells_from d k (round.first ∷ round.others)) < length (round.first ∷ round.others))) (sym round.box_is)
      (bounded (subst (λ (d : Extent). IsInside d k) round.box_is i)))
    where
      bounded : IsInside (bounding round.first round.others) k → (length (cells_below (bounding round.first round.others) k (round.first ∷ round.others)) < length (round.first ∷ round.others)) × (length (cells_from (bounding round.first round.others) k (round.first ∷ round.others)) < length (round.first ∷ round.others))
      bounded j = (fewer_below round.first round.others k j, fewer_from round.first round.others k j)

  pub some_cells : 1 ≤ length (cells_in has b)
  some_cells = subst (λ (cs : List Cell). 1 ≤ length cs) (sym round.cells_are) (omega arith)

pub cluster-none : (efficiency w : ℕ) → cluster efficiency w [] ≡ []
unfolding cluster cluster_within
cluster-none efficiency w = refl

-- ---- one turn of the loop

int_lt-not : (z e : ℤ) → int_le e z ≡ not (int_lt z e)
int_lt-not z e = grind (arith, ints)

length_parts : (p q : Cell → Bool) → ((c : Cell) → q c ≡ not (p c)) → (cs : List Cell) → length (filter p cs) + length (filter q cs) ≡ length cs
length_parts p q other [] = refl
length_parts p q other (c ∷ cs) = choose (p c) (q c) (other c) (length_parts p q other cs)
  where
    choose : (s t : Bool) → t ≡ not s → length (filter p cs) + length (filter q cs) ≡ length cs → length (cond s (c ∷ filter p cs) (filter p cs)) + length (cond t (c ∷ filter q cs) (filter q cs)) ≡ suc (length cs)
    choose true true e h = absurd (true≢false e)
    choose true false e h = omega arith
    choose false true e h = omega arith
    choose false false e h = absurd (false≢true e)

apart_in : (a : Extent) (bs : List Extent) (p : Extent) (rest : List Extent) → ApartFrom a (bs ++ p ∷ rest) → Apart a p
apart_in a [] p rest h = h.0
apart_in a (b ∷ bs) p rest h = apart_in a bs p rest h.1

pub apart_before : (bs : List Extent) (p : Extent) (rest : List Extent) → Disjoint (bs ++ p ∷ rest) → (c : Cell) → (in_boxes bs c && holds p c) ≡ false
apart_before [] p rest h c = refl
apart_before (b ∷ bs) p rest h c = choose (holds b c) (holds p c) (in_boxes bs c) (apart_is b p (apart_in b bs p rest h.0) c) (apart_before bs p rest h.1 c)
  where
    choose : (s t r : Bool) → (s && t) ≡ false → (r && t) ≡ false → ((s || r) && t) ≡ false
    choose true t r e f = e
    choose false t r e f = f

pub empty_of : {A : Type 0} (xs : List A) → length xs ≡ 0 → xs ≡ []
empty_of [] e = refl
empty_of (x ∷ xs) e = absurd (omega arith)

-- what is done, and what is left, of the boxes of all cells
pub record IsTurn (efficiency w : ℕ) (has : Cell → Bool) (larger : Extent) (boxes : List Extent) (work : List CutBox) : Type 0 where
  pub total : boxes ++ waiting efficiency w has work ≡ cluster efficiency w (cells_in has larger)
  pub listed : IsWork efficiency w has larger work

-- the box that is next, and the others
module _ (efficiency w : ℕ) (has : Cell → Bool) (larger : Extent) (least : 1 ≤ w) (boxes : List Extent) (old work : List CutBox) (p : CutBox) (turn : IsTurn efficiency w has larger boxes old) (popped : old ≡ work ++ p ∷ []) where
  pub next : IsRound p.bx (cells_in has p.bx) × IsPart larger p.bx × IsCutAs efficiency w has p × IsWork efficiency w has larger work
  next = IsWork-pop efficiency w has larger work p (subst (IsWork efficiency w has larger) popped turn.listed)

  next_total : boxes ++ (cluster efficiency w (cells_in has p.bx) ++ waiting efficiency w has work) ≡ cluster efficiency w (cells_in has larger)
  next_total = ap (λ (bs : List Extent). boxes ++ bs) (sym (ap (waiting efficiency w has) popped ∙ waiting-push efficiency w has work p)) ∙ turn.total

  next_left : work_left has old ≡ work_left has work + (2 * length (cells_in has p.bx) - 1)
  next_left = ap (work_left has) popped ∙ work_left-push has work p

  uncut_total : cut_of efficiency w (cells_in has p.bx) p.bx ≡ None → boxes ++ (p.bx ∷ waiting efficiency w has work) ≡ cluster efficiency w (cells_in has larger)
  uncut_total e = ap (λ (bs : List Extent). boxes ++ (bs ++ waiting efficiency w has work)) (sym (uncut efficiency w has p.bx larger least next.0 next.1 e)) ∙ next_total

  pub uncut_apart : cut_of efficiency w (cells_in has p.bx) p.bx ≡ None → (c : Cell) → (in_boxes boxes c && holds p.bx c) ≡ false
  uncut_apart e = apart_before boxes p.bx (waiting efficiency w has work) (subst Disjoint (sym (uncut_total e)) (cluster-disjoint efficiency w (cells_in has larger)))

  pub uncut_turn : (new : List Extent) → cut_of efficiency w (cells_in has p.bx) p.bx ≡ None → new ≡ boxes ++ p.bx ∷ [] → IsTurn efficiency w has larger new work
  uncut_turn new e f = record {
    total = ap (λ (bs : List Extent). bs ++ waiting efficiency w has work) f ∙ append_assoc boxes (p.bx ∷ []) (waiting efficiency w has work) ∙ uncut_total e;
    listed = next.3;
  }

  pub uncut_left : work_left has work < work_left has old
  uncut_left = let some : 1 ≤ length (cells_in has p.bx) = some_cells efficiency w has p.bx larger least next.0 next.1 in omega (arith, next_left)

  pub cut_turn : (k : Cut) (new : List CutBox) → cut_of efficiency w (cells_in has p.bx) p.bx ≡ Some k
      → waiting efficiency w has new ≡ (cluster efficiency w (cells_in has (below_cut k.axis (edge p.bx k) p.bx)) ++ cluster efficiency w (cells_in has (from_cut k.axis (edge p.bx k) p.bx))) ++ waiting efficiency w has work
      → IsWork efficiency w has larger new → IsTurn efficiency w has larger boxes new
  cut_turn k new e f listed = record {
    total = ap (λ (bs : List Extent). boxes ++ bs) (f ∙ ap (λ (bs : List Extent). bs ++ waiting efficiency w has work) (sym (cut_parts efficiency w has p.bx larger least next.0 next.1 k e))) ∙ next_total;
    listed = listed;
  }

  pub cut_left : (k : Cut) (left : ℕ) → cut_of efficiency w (cells_in has p.bx) p.bx ≡ Some k
      → left ≤ (work_left has work + (2 * length (cells_in has (from_cut k.axis (edge p.bx k) p.bx)) - 1)) + (2 * length (cells_in has (below_cut k.axis (edge p.bx k) p.bx)) - 1)
      → left < work_left has old
  cut_left k left e h =
      let inside = inside_cut efficiency w has p.bx larger least next.0 next.1 k e in
      let less = fewer efficiency w has p.bx larger least next.0 next.1 k inside in
      let both : length (cells_below p.bx k (cells_in has p.bx)) + length (cells_from p.bx k (cells_in has p.bx)) ≡ length (cells_in has p.bx) = length_parts (λ c. int_lt (along k.axis c) (edge p.bx k)) (λ c. int_le (edge p.bx k) (along k.axis c)) (λ c. int_lt-not (along k.axis c) (edge p.bx k)) (cells_in has p.bx) in
      let low : length (cells_below p.bx k (cells_in has p.bx)) ≡ length (cells_in has (below_cut k.axis (edge p.bx k) p.bx)) = ap length (cells_below-in has p.bx larger k next.1 inside) in
      let high : length (cells_from p.bx k (cells_in has p.bx)) ≡ length (cells_in has (from_cut k.axis (edge p.bx k) p.bx)) = ap length (cells_from-in has p.bx larger k next.1 inside) in
      omega (arith, next_left, less.0, less.1)
