use Rattle.std.proofs.Common.{◌<◌, ◌≢◌, length, get_or-set_same, get_or-set_other, below_more, pos, arith, ap, ◌∙◌, rules}
use Rattle.amr_flux.proofs.rows.update_row.Goals as goal

pub loop-k-preserved : goal.loop-k-preserved
loop-k-preserved c = record {
  made = below_more _ _
      (λ k h. let ne : k ≢ c.loop-k.k = omega arith in ap pos (get_or-set_other c.loop-k.masses c.loop-k.k k c.mass_after.result 0 ne) ∙ c.loop-k.invariant.made k h)
      (let inside : c.loop-k.k < length c.loop-k.masses = omega arith in ap pos (get_or-set_same c.loop-k.masses c.loop-k.k c.mass_after.result 0 inside) ∙ search rules);
  left = λ k h. let ne : k ≢ c.loop-k.k = omega arith in get_or-set_other c.loop-k.masses c.loop-k.k k c.mass_after.result 0 ne ∙ c.loop-k.invariant.left k (omega arith);
}
