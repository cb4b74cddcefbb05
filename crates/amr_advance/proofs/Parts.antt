-- What a step of patches leaves in its registers, and its totals.
use Rattle.std.proofs.Common.{◌≡◌, ℕ, ◌<◌, ℤ, pos, ◌+ℤ◌, ◌-ℤ◌, List, [], ◌∷◌, length, sym, ap, subst, ◌∙◌, arith, IfSome}
use Rattle.std.specs.Prelude.{Ok, Err, OnErr, is_some, neg_ℤ, slice_index, unsigned_abs}
use Rattle.std.specs.Global.{Vec}
use Rattle.std.specs.Vec.{with_items}
use Rattle.std.specs.declared.option.Option.{Option}
use Rattle.std.specs.declared.option.Option.TheVariants.{None, Some}
use Rattle.std.specs.declared.result.Result.{Result}
use Rattle.std.specs.List.{All, AllZip, Contains}
use Rattle.std.proofs.lemmas.List.{length-map, with_items_is}
use Rattle.std.proofs.lemmas.Slice.Zip.{AllZip-long}
use Rattle.std.proofs.lemmas.Int.{ints}
use Rattle.amr_box.specs.declared.Cell.{Cell}
use Rattle.amr_box.specs.Cells.{Extent}
use Rattle.amr_def.specs.declared.problem.Problem.{Problem}
use Rattle.amr_def.specs.Domain.{domain}
use Rattle.amr_def.specs.State.{Masses}
use Rattle.amr_def.specs.Flux.{net}
use Rattle.amr_patch.proofs.Lookups.{some_mass}
use Rattle.amr_patch.specs.declared.levels.Level.{Level as Held}
use Rattle.amr_patch.specs.declared.patches.Patch.{Patch}
use Rattle.amr_patch.specs.Levels.{level_of}
use Rattle.amr_ghost.specs.Frames.{AreInDomain}
use Rattle.amr_patch.specs.Patches.{ArePatchesApart, masses_in}
use Rattle.amr_flows.specs.Laws.{plain_size}
use Rattle.amr_flows.specs.Words.{level_total}
use Rattle.amr_register.specs.declared.register.Register.{Register}
use Rattle.amr_register.specs.declared.edges.EdgeCell.{EdgeCell}
use Rattle.amr_register.specs.CoarseFlows.{edge_flows}
use Rattle.amr_register.specs.EdgeCells.{AreEdges, AreEdgesIn, IsSameEdge, IsSmallNet, SameEdges, lists_of}
use Rattle.amr_register.specs.Fields.{HasEdgesOf, IsRegisterOf, SameCells, edges_in, entry_in}
use Rattle.amr_register.proofs.SameCells.{put_back, register_kept, same_itself, same_twice}
use Rattle.amr_layout.specs.Surroundings.{around, finer_masses}
use Rattle.amr_advance.specs.Registers.{AreEdgesFor, AreNetsOf, BothAreWithEdges, BothChange, BothHaveTakenNets, HasEdges, MayTakeNets, edges_of, taken}
use Rattle.amr_advance.specs.Totals.{HasTotals}
use Rattle.amr_advance.proofs.InDomain.{all_lie}

-- ---- registers

plus_none : (z : _) → z ≡ z +ℤ pos 0
plus_none z = omega (arith, ints)

pub unchanged : (r : Option Register) → BothChange (λ c. pos 0) r r
unchanged None = tt
unchanged (Some r) = record { cells = same_itself r; entries = λ c h. plus_none (entry_in r c) }

pub on_err : {A B : Type 0} {X : Type 0} (r : Result A B) → X → OnErr r X
on_err (Ok a) x = tt
on_err (Err b) x = x

minus : (a b : _) → a -ℤ b ≡ a +ℤ neg_ℤ b
minus a b = omega (arith, ints)

-- ---- the lists of register cells

for_boxes : (boxes : List Extent) (xs : List (List EdgeCell)) → AllZip AreEdgesIn boxes xs → AreEdgesFor boxes xs
for_boxes boxes [] h = tt
for_boxes boxes (x ∷ xs) h = h

pub edges_for : (boxes : List Extent) (r : Option Register) → IfSome r (HasEdgesOf boxes) → AreEdgesFor boxes (edges_of r)
edges_for boxes None h = tt
edges_for boxes (Some r) h = for_boxes boxes (edges_in r) h.lists

-- a register whose lists were taken out and became these, which were put back
pub record IsBack (ys : List (List EdgeCell)) (r s : Register) : Type 0 where
  pub cells : SameCells r s
  pub entries : (c : Cell) → entry_in s c ≡ entry_in r c
  pub edges : edges_in s ≡ ys

abbrev pub BothBack : List (List EdgeCell) → Option Register → Option Register → Type 0
BothBack ys None None = Unit {0}
BothBack ys None (Some s) = ⊥
BothBack ys (Some r) None = ⊥
BothBack ys (Some r) (Some s) = IsBack ys r s

pub back : (x y z : Option Register) (ys : List (List EdgeCell)) → BothAreWithEdges [] x y → BothAreWithEdges ys y z → SameEdges (edges_of x) ys → BothBack ys x z
back None None None ys out put same = tt
back None None (Some t) ys out put same = absurd put
back None (Some s) z ys out put same = absurd out
back (Some r) None z ys out put same = absurd out
back (Some r) (Some s) None ys out put same = absurd put
back (Some r) (Some s) (Some t) ys out put same = record { cells = put_back r s t [] ys out put same; entries = λ c. put.entries c ∙ out.entries c; edges = put.edges }

pub came_back : (x y z : Option Register) (v : Vec (Vec EdgeCell)) (lent now : List (Vec EdgeCell)) → lists_of v.items ≡ edges_of x → lent ≡ v.items → length lent ≡ v.len
    → BothAreWithEdges [] x y → SameEdges (lists_of lent) (lists_of now) → BothAreWithEdges (lists_of (with_items v now).items) y z → BothBack (lists_of now) x z
came_back x y z v lent now lists is len out same put =
    let all : lists_of lent ≡ edges_of x = ap lists_of is ∙ lists in
    let long : length (lists_of now) ≡ length (lists_of lent) = AllZip-long (AllZip IsSameEdge) (lists_of lent) (lists_of now) same in
    let items : (with_items v now).items ≡ now = with_items_is v now (omega (arith, long, len, length-map lent (λ (u : Vec EdgeCell). u.items), length-map now (λ (u : Vec EdgeCell). u.items))) in
    back x y z (lists_of now) out (subst (λ (us : List (Vec EdgeCell)). BothAreWithEdges (lists_of us) y z) items put) (subst (λ (xs : List (List EdgeCell)). SameEdges xs (lists_of now)) all same)

-- so where the step is refused its entries are as before
pub back_unchanged : (ys : List (List EdgeCell)) (x z : Option Register) → BothBack ys x z → BothChange (λ c. pos 0) x z
back_unchanged ys None None b = tt
back_unchanged ys None (Some t) b = absurd b
back_unchanged ys (Some r) None b = absurd b
back_unchanged ys (Some r) (Some t) b = record { cells = b.cells; entries = λ c there. b.entries c ∙ plus_none (entry_in r c) }

module _ (p : Problem) (l : ℕ) (m : Masses) (ys : List (List EdgeCell)) where
  -- and else they may lose what the lists tell
  pub may_take : (next : Option Held) (x z : Option Register) → HasEdges p l m next x → BothBack ys x z → All (All IsSmallNet) ys → IfSome z MayTakeNets
  may_take next x None h b small = tt
  may_take next None (Some t) h b small = absurd b
  may_take None (Some r) (Some t) h b small = absurd h.finer
  may_take (Some fine) (Some r) (Some t) h b small =
      let kept : IsRegisterOf p l h.level.masses (level_of fine).masses t = register_kept p l h.level.masses (level_of fine).masses r t b.cells h.finer.3 in
      record {
        placed = kept.placed;
        small = subst (λ (xs : List (List EdgeCell)). All (All IsSmallNet) xs) (sym b.edges) small;
        room = λ c. omega (arith, ap unsigned_abs (b.entries c), h.finer.4 c);
      }

  -- which is the net plain flow through the edges
  pub nets_taken : (old : Masses) (next : Option Held) (x z w : Option Register) → HasEdges p l m next x → BothBack ys x z → AreNetsOf p l m old (edges_of x) ys → BothHaveTakenNets z w → BothChange (taken p l m old (finer_masses next)) x w
  nets_taken old next None None None h b found t = tt
  nets_taken old next None None (Some u) h b found t = absurd t
  nets_taken old next None (Some s) w h b found t = absurd b
  nets_taken old next (Some r) None w h b found t = absurd b
  nets_taken old next (Some r) (Some s) None h b found t = absurd t
  nets_taken old None (Some r) (Some s) (Some u) h b found t = absurd h.finer
  nets_taken old (Some fine) (Some r) (Some s) (Some u) h b found t =
      let of : IsRegisterOf p l h.level.masses (level_of fine).masses r = h.finer.3 in
      let flow : Cell → ℤ = net (edge_flows p l m old (level_of fine).masses) in
      let edges : AreEdges (domain p l) m (level_of fine).masses (edges_in r) = subst (λ (n : Masses). AreEdges (domain p l) n (level_of fine).masses (edges_in r)) h.masses of.edges in
      let nets : All (All (λ (e : EdgeCell). e.net ≡ flow e.cell)) (edges_in s) = subst (λ (xs : List (List EdgeCell)). All (All (λ (e : EdgeCell). e.net ≡ flow e.cell)) xs) (sym b.edges) (found (level_of fine).masses edges) in
      record {
        cells = same_twice r s u b.cells t.cells;
        entries = λ c there. t.taken flow nets c (subst (λ (cs : List Cell). Contains cs c) (sym b.cells.cells) there) ∙ ap (λ z. z -ℤ flow c) (b.entries c) ∙ minus (entry_in r c) (flow c);
      }

-- ---- totals

pub totals_of : (p : Problem) (l : ℕ) (m old : Masses) (qs : List Patch) (cells : List Cell) (next : Option Held) (ws : List ℕ) → AreInDomain (domain p l) qs → ArePatchesApart qs → masses_in qs ≡ m
    → ((word : ℕ) → word < length ws → slice_index ws word ≡ level_total (around p l qs cells next) (plain_size p l (masses_in qs) old) word) → HasTotals p l m old (finer_masses next) cells ws
totals_of p l m old qs cells next ws inside apart same h = record {
  patches = qs;
  of_level = record { inside = all_lie p l qs inside; apart = apart; cells = λ c. sym (some_mass qs c) ∙ ap (λ (n : Masses). is_some (n c)) same };
  words = λ word below. h word below ∙ ap (λ (n : Masses). level_total (around p l qs cells next) (plain_size p l n old) word) same;
}
