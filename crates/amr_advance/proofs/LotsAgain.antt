-- Lots in place of those of a level, as many, each of the same run: they are lots of that level.
use Rattle.std.proofs.Common.{◌≡◌, ◌∙◌, ℕ, ◌+◌, ◌*◌, ◌^◌, ◌<◌, ◌≤◌, Bool, length, get_or, sym, subst, arith}
use Rattle.std.specs.Global.{Box, Vec}
use Rattle.amr_ghost.specs.Parts.{IsParted}
use Rattle.amr_ghost.specs.declared.parts.FrameParts.{FrameParts}
use Rattle.amr_layout.specs.Surroundings.{Around}
use Rattle.amr_lots.specs.declared.lot.Lot.{Lot}
use Rattle.amr_advance.specs.declared.lots.Lots.{Lots}
use Rattle.amr_advance.specs.Lots.{AreLots, AreMade, AreSeveralLots, IsLotOf, is_one}

module _ (s : Around) (t : Lots) (xs : Vec (Box Lot)) (totals : Vec ℕ) (packed valued : Bool) (same : length xs.items ≡ length t.lots.items) where
  abbrev u : Lots
  u = record t { packed = packed; valued = valued; lots = xs; totals = totals }

  pub lots_again : (h : AreLots s t) → AreMade (is_one t) s h.parts u → AreLots s u
  lots_again h made = record {
    of_level = h.of_level;
    some = h.some;
    enough = subst (λ n. length s.patches ≤ n * t.each) (sym same) h.enough;
    count = λ some. same ∙ h.count some;
    small = h.small;
    many = subst (λ n. n ≤ 2 ^ 26) (sym same) h.many;
    edges = h.edges;
    plan = h.plan;
    planned = h.planned;
    parts = h.parts;
    parted = subst (λ n. IsParted h.plan t.each n h.parts) (sym same) h.parted;
    made = made;
  }

  pub several_again : (parts : FrameParts) → length totals.items ≡ length t.totals.items → AreSeveralLots s parts t → ((k : ℕ) (x : Box Lot) → k < length t.lots.items → IsLotOf s t.each k (length t.lots.items) parts (get_or xs.items k x).value) → AreSeveralLots s parts u
  several_again parts many h lots = record {
    tight = subst (λ n. n * t.each < length s.patches + t.each) (sym same) h.tight;
    places = h.places;
    words = h.words;
    totals = many ∙ h.totals;
    plan = h.plan;
    lots = λ k x lt. subst (λ n. IsLotOf s t.each k n parts (get_or xs.items k x).value) (sym same) (lots k x (omega (arith, lt, same)));
  }
