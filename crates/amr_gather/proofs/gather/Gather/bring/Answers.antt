use Rattle.std.proofs.Common.{◌≡◌, ◌∙◌, sym, ap, subst, rules}
use Rattle.std.specs.Prelude.{map}
use Rattle.std.specs.List.{range_with_len}
use Rattle.amr_gather.specs.Totals.{AreSumsSmall, Totals, sum_at}
use Rattle.amr_gather.specs.Held.{totals_told}
use Rattle.amr_gather.proofs.Brought.{may_bring, sums_brought}
use Rattle.amr_gather.proofs.gather.Gather.bring.Goals as goal

pub bring_rank-requires : goal.bring_rank-requires
bring_rank-requires g c = (
  search rules,
  may_bring (totals_told c.self.inside.rank) c.self.invariant.counted (subst AreSumsSmall (sym c.self.view_is) c.requires) c.self.inside.rank c.self.invariant,
)

pub returns : goal.returns
returns g c =
    sums_brought (totals_told c.self.inside.rank) c.self.invariant.counted (subst AreSumsSmall (sym c.self.view_is) c.requires) c.self.inside.rank c.self.invariant c.bring_rank.result c.bring_rank.ensures
    ∙ ap (λ (t : Totals). map (sum_at t.lists) (range_with_len 0 t.words)) c.self.view_is
