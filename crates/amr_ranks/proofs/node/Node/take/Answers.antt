use Rattle.std.proofs.Common.{◌≡◌, ℕ, ◌+◌, ◌++◌, ◌≤◌, true, false, List, [], ◌∷◌, length, take, set, sym, ap, ◌∙◌, subst, arith}
use Rattle.std.specs.Prelude.{map, slice_range, slice_index}
use Rattle.std.specs.List.{range_with_len}
use Rattle.std.proofs.lemmas.List.{with_items_is, length-take-le}
use Rattle.amr_ranks.specs.declared.item.Item.{Item}
use Rattle.amr_ranks.specs.declared.item.FrameCell.{FrameCell}
use Rattle.amr_ranks.specs.declared.node.Run.{Run}
use Rattle.amr_ranks.specs.Items.{cells_in, share_in}
use Rattle.amr_ranks.specs.Nodes.{NodeOf, Fits, is_in, with_letter}
use Rattle.amr_ranks.specs.Stored.{IsStored, Rises}
use Rattle.amr_ranks.proofs.Kept.{number_own, number_new, letter_fits, front_same, node_same, run_room, stored, taken_more}
use Rattle.amr_ranks.proofs.node.Node.take.Goals as goal
use Rattle.amr_ranks.proofs.node.Node.take.Goals.{After-as_mut_slice}

-- what the node has before
abbrev held : After-as_mut_slice → NodeOf
held c = let i = c.self.inside in record { rank = i.rank; numbers = i.numbers.items; room = length i.cells.items; taken = map (λ (r : Run). r.number) (take i.count i.runs.items); cells = take i.filled i.cells.items; totals = i.totals.items }

own : (c : After-as_mut_slice) → is_in c.number-number.result c.self.inside.numbers.items ≡ true
own c = number_own _ _ c.self.view_is c.args.letter.now c.number-number.result c.number-number.ensures c.deref.result.now c.deref.ensures.value c.contains.result c.has.result c.contains.ensures.value c.if-not-contains.false c.has.ensures c.if-has.false

new : (c : After-as_mut_slice) → is_in c.number-number.result (held c).taken ≡ false
new c = number_new _ _ c.self.view_is c.args.letter.now c.number-number.result c.number-number.ensures c.deref.result.now c.deref.ensures.value c.contains.result c.has.result c.contains.ensures.value c.if-not-contains.false c.has.ensures c.if-has.false

fits : (c : After-as_mut_slice) → Fits (held c) c.args.letter.now
fits c = letter_fits _ _ c.self.view_is c.args.letter.now c.number-number.result c.number-number.ensures c.deref.result.now c.deref.ensures.value c.contains.result c.has.result c.contains.ensures.value c.if-not-contains.false c.has.ensures c.if-has.false c.requires.fits

room : (c : After-as_mut_slice) → c.self.inside.filled + length (cells_in c.items.result.now) ≤ length c.self.inside.cells.items
room c =
    let f = (fits c).cells_fit in
    let n = length-take-le c.self.inside.filled c.self.inside.cells.items c.self.invariant.inside in
    let i = ap (λ (xs : List Item). length (cells_in xs)) c.items.ensures in
    omega arith

pub copy_cells-end-requires : goal.copy_cells-end-requires
copy_cells-end-requires c = let r = room c in let v = ap length c.as_mut_slice.ensures.value in omega arith

pub add_shares-requires-clause-below : goal.add_shares-requires-clause-below
add_shares-requires-clause-below c = λ w.
    let f = (fits (goal.at.add_shares-requires-clause-below c).After-as_mut_slice).totals_fit w in
    let a = ap (λ (t : List ℕ). slice_index t w) c.as_mut_slice-2.ensures.value in
    let b = ap (share_in w) c.items-2.ensures in
    omega arith

pub index_mut-requires : goal.index_mut-requires
index_mut-requires c =
    let a = (goal.at.index_mut-requires c).After-as_mut_slice in
    let r = run_room c.self.inside.numbers.items c.self.inside.cells.items c.self.inside.filled c.self.inside.runs.items c.self.inside.count c.self.invariant c.number-number.result (own a) (new a) in
    omega arith

pub invariant_of-self : goal.invariant_of-self
invariant_of-self c =
    let a = (goal.at.invariant_of-self c).After-as_mut_slice in
    let i = c.self.inside in
    let cells : List FrameCell = c.copy_cells-end.new.into in
    let whole = with_items_is i.cells cells (c.copy_cells-end.auto.into ∙ c.as_mut_slice.ensures.len) in
    let r = room a in
    let e = c.copy_cells-end.ensures.end in
    let front = front_same cells i.cells.items (cells_in c.items.result.now) i.filled c.copy_cells-end.result (omega arith) c.self.invariant.inside
    (c.copy_cells-end.ensures.cells ∙ ap (λ (xs : List FrameCell). take i.filled xs ++ cells_in c.items.result.now) c.as_mut_slice.ensures.value) in
    let rising : c.rises-rises.result ≡ true → Rises (slice_range cells i.filled c.copy_cells-end.result) = λ t. subst Rises (ap (λ (xs : List FrameCell). slice_range xs i.filled c.copy_cells-end.result) (c.deref-2.ensures.value ∙ whole)) (c.rises-rises.ensures t) in
    subst (λ (xs : List FrameCell). IsStored i.numbers.items xs c.copy_cells-end.result (set i.runs.items i.count (record { number = c.number-number.result; end = c.copy_cells-end.result; rises = c.rises-rises.result })) (i.count + 1)) (sym whole)
    (stored i.numbers.items i.cells.items i.filled i.runs.items i.count c.self.invariant c.number-number.result (own a) (new a) cells c.copy_cells-end.result c.rises-rises.result
    (c.copy_cells-end.auto.into ∙ ap length c.as_mut_slice.ensures.value) (omega arith) (omega arith) front rising)

pub returns-clause-after : goal.returns-clause-after
returns-clause-after c =
    let a = (goal.at.returns-clause-after c).After-as_mut_slice in
    let i = c.self.inside in
    let cells : List FrameCell = c.copy_cells-end.new.into in
    let whole = with_items_is i.cells cells (c.copy_cells-end.auto.into ∙ c.as_mut_slice.ensures.len) in
    let sums = with_items_is i.totals c.add_shares.new.totals (c.add_shares.auto.totals ∙ c.as_mut_slice-2.ensures.len) in
    let r = room a in
    let e = c.copy_cells-end.ensures.end in
    let rising : c.rises-rises.result ≡ true → Rises (slice_range cells i.filled c.copy_cells-end.result) = λ t. subst Rises (ap (λ (xs : List FrameCell). slice_range xs i.filled c.copy_cells-end.result) (c.deref-2.ensures.value ∙ whole)) (c.rises-rises.ensures t) in
    let front = front_same cells i.cells.items (cells_in c.items.result.now) i.filled c.copy_cells-end.result (omega arith) c.self.invariant.inside
    (c.copy_cells-end.ensures.cells ∙ ap (λ (xs : List FrameCell). take i.filled xs ++ cells_in c.items.result.now) c.as_mut_slice.ensures.value) in
    node_same i.rank i.numbers.items _ _ _ _ _ _ _ _
    (ap length whole ∙ (c.copy_cells-end.auto.into ∙ ap length c.as_mut_slice.ensures.value))
    (taken_more i.numbers.items i.cells.items i.filled i.runs.items i.count c.self.invariant c.number-number.result (own a) (new a) cells c.copy_cells-end.result c.rises-rises.result
    (c.copy_cells-end.auto.into ∙ ap length c.as_mut_slice.ensures.value) (omega arith) (omega arith) front rising ∙ ap (λ n. map (λ (r : Run). r.number) (take i.count i.runs.items) ++ n ∷ []) c.number-number.ensures)
    (ap (take c.copy_cells-end.result) whole
    ∙ (c.copy_cells-end.ensures.cells ∙ (ap (λ (xs : List FrameCell). take i.filled xs ++ cells_in c.items.result.now) c.as_mut_slice.ensures.value ∙ ap (λ (xs : List Item). take i.filled i.cells.items ++ cells_in xs) c.items.ensures)))
    (sums ∙ (c.add_shares.ensures ∙ (ap (λ (t : List ℕ). map (λ w. slice_index t w + share_in w c.items-2.result.now) (range_with_len 0 (length t))) c.as_mut_slice-2.ensures.value
    ∙ ap (λ (xs : List Item). map (λ w. slice_index i.totals.items w + share_in w xs) (range_with_len 0 (length i.totals.items))) c.items-2.ensures)))
    ∙ ap (λ (d : NodeOf). with_letter d c.args.letter.now) c.self.view_is
