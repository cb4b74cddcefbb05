use Rattle.std.proofs.Common.{◌≡◌, ℕ, List, [], ◌++◌, length, map, reverse, take, drop, Some, None, sym, ap, ◌∙◌, arith, vec_len}
use Rattle.std.specs.Prelude.{Option}
use mathlib.Core.Logic.{dite}
use native.Mathlib.Decide.{ℕ_discrete}
use Rattle.amr_board.proofs.SlotLists.{reverse_map, front, empty_list}
use Rattle.amr_board.proofs.slots.from_slots.Goals as goal

pub returns : goal.returns
returns g c =
    let all = c.slots.invariant.0 in
    let p = c.pop.ensures in
    let none : vec_len c.slots.slots ≡ 0 = dite (ℕ_discrete (vec_len c.slots.slots) 0) (λ e. e) (λ ne. absurd (c.in_default.not-Some _ (p.value None (omega arith)))) in
    let left : c.slots.slots.items ≡ [] = empty_list c.slots.slots.items (let k = c.slots.slots.ok.0 in omega arith) in
    let turned : c.reverse.new.self ≡ reverse c.slots.pieces.items = c.reverse.ensures.after ∙ ap reverse c.as_mut_slice.ensures.value in
    let count : c.slots.pieces.len ≡ length c.reverse.new.self = (let a = c.reverse.ensures.len in let b = c.as_mut_slice.ensures.len in omega arith) in
    ap (λ (n : ℕ). map Some (take n (c.reverse.new.self ++ drop (length c.reverse.new.self) c.slots.pieces.items))) count
    ∙ (ap (map Some) (front c.reverse.new.self (drop (length c.reverse.new.self) c.slots.pieces.items) ∙ turned)
    ∙ (reverse_map Some c.slots.pieces.items
    ∙ (ap (λ (l : List (Option g.row.P.Denot)). l ++ reverse (map Some c.slots.pieces.items)) (sym left) ∙ sym all)))
