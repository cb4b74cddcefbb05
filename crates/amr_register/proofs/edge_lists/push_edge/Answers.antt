use Rattle.std.proofs.Common.{◌∙◌, ◌++◌, [], ◌∷◌, List, ap, set, sym}
use Rattle.std.specs.Global.{Vec}
use Rattle.std.proofs.lemmas.List.{get_or-map, map-set}
use Rattle.amr_register.specs.declared.edges.EdgeCell.{EdgeCell}
use Rattle.amr_register.specs.EdgeCells.{lists_of, new_edge}
use Rattle.amr_register.proofs.edge_lists.push_edge.Goals as goal

pub returns : goal.returns
returns c =
    let items = λ (v : Vec EdgeCell). v.items in
    let vs = c.args.lists.now in
    let k = c.args.patch in
    map-set items vs k c.push.new.self
    ∙ ap (λ (es : List EdgeCell). set (lists_of vs) k es) (c.in_ok-push.ensures.items ∙ ap (λ (es : List EdgeCell). es ++ new_edge c.args.number c.args.cell c.args.sides ∷ []) (sym (get_or-map items vs k c.index-lists-patch.result [] c.requires)))
