use Rattle.std.proofs.Common.{ℕ, ◌==◌, List, take, sym, ap, ◌∙◌}
use Rattle.std.specs.List.{list_any}
use Rattle.amr_ranks.specs.declared.node.Run.{Run}
use Rattle.amr_ranks.specs.Nodes.{NodeOf, is_in}
use Rattle.amr_ranks.proofs.Kept.{any_map, number_of}
use Rattle.amr_ranks.proofs.node.Node.has.Goals as goal

pub returns : goal.returns
returns c =
    let n : ℕ = c.args.number in
    let i = c.self.inside in
    c.has_number.ensures
    ∙ (ap (λ (rs : List Run). list_any (λ (r : Run). r.number == n) (take i.count rs)) c.deref.ensures.value
    ∙ (sym (any_map (λ m. m == n) number_of (take i.count i.runs.items)) ∙ ap (λ (d : NodeOf). is_in n d.taken) c.self.view_is))
