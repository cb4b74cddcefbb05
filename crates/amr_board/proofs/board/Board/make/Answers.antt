use Rattle.std.proofs.Common.{◌≡◌, suc, ◌^◌, ◌<◌, List, [], ◌∷◌, length, refl, sym, ap, ◌∙◌, subst, arith}
use Rattle.std.specs.Prelude.{Option, All, IsSome}
use Rattle.amr_board.proofs.SlotLists.{all_full, same_pieces}
use Rattle.atomic_table.specs.Table.{opening}
use Rattle.amr_phase.specs.Plans.{PlanOf}
use Rattle.amr_board.specs.Piece.{plan_of}
use Rattle.amr_board.specs.Rule.{Rule}
use Rattle.std.proofs.Common.{map}
use Rattle.amr_board.specs.Views.{first_view}
use Rattle.amr_board.proofs.Opening.{opens}
use Rattle.amr_board.proofs.board.Board.make.Goals as goal

length-map : {X Y : Type 0} (f : X → Y) (xs : List X) → length (map f xs) ≡ length xs
length-map f [] = refl
length-map f (x ∷ xs) = ap suc (length-map f xs)

pub new-requires : goal.new-requires
new-requires g c =
    let a = c.in-Ok.ensures in
    let b = c.as_slice.ensures in
    let zeros = b.value ∙ a.items_if_clones_equal (λ y e. e) in
    let len = b.len ∙ a.len in
    let ps = c.args.pieces.items in
    let plan : PlanOf = plan_of g.P.Piece.puts g.P.Piece.adds c.args.shape.places c.args.shape.words ps in
    let count : length plan.tasks ≡ length ps = length-map _ ps in
    let few : length plan.tasks < 2 ^ 32 = (let f = c.requires.few in omega arith) in
    subst
    (λ (xs : List g.row.P.Denot). Rule (plan_of g.P.Piece.puts g.P.Piece.adds c.args.shape.places c.args.shape.words xs) xs g.P.Piece.becomes
    (opening c.as_slice.result.now c.in-Ok-to_slots.slots.items (first_view (plan_of g.P.Piece.puts g.P.Piece.adds c.args.shape.places c.args.shape.words xs) xs)))
    (sym (ap (λ v. v.items) c.of.ensures))
    (subst (λ (ys : List (Option g.row.P.Denot)). Rule plan ps g.P.Piece.becomes (opening c.as_slice.result.now ys (first_view plan ps))) (sym c.in-Ok-to_slots.ensures.slots)
    (opens plan ps g.P.Piece.becomes c.as_slice.result.now c.requires.plan count few zeros len))

pub from_slots-requires-clause-full : goal.from_slots-requires-clause-full
from_slots-requires-clause-full g c = subst (λ (l : List (Option g.row.P.Denot)). All IsSome l) (sym (c.in-Err.ensures.err ∙ c.in-Ok-to_slots.ensures.slots)) (all_full c.args.pieces.items)

pub returns-in-Err-clause-back : goal.returns-in-Err-clause-back
returns-in-Err-clause-back g c = same_pieces c.from_slots.new.pieces.items c.args.pieces.items (c.from_slots.ensures ∙ (c.in-Err.ensures.err ∙ c.in-Ok-to_slots.ensures.slots))
