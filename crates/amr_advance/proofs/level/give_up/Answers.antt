use Rattle.std.proofs.Common.{sym, subst}
use Rattle.std.specs.List.{AllZip}
use Rattle.amr_lots.specs.declared.lot.Duty.TheVariants.{Step}
use Rattle.amr_advance.specs.Phases.{HasAsMany}
use Rattle.amr_advance.proofs.ServedPieces.{as_many_itself}
use Rattle.amr_advance.proofs.level.give_up.Goals as goal

pub returns : goal.returns
returns c = λ g ps es t qs ds h.
    let same = c.give_back.ensures g.basis.now g.level Step g.problem.now t.shape h.handed h.opened in
    record {
      may = h.may;
      handed = h.handed;
      given = h.given;
      as_many = subst (AllZip HasAsMany h.handed) (sym same) (as_many_itself h.handed);
      made = λ e. absurd (cc);
      unmade = λ e. same;
      rest = λ i. record (h.rest i) { lots = c.give_back.new.lots; totals = c.args.lots.now.totals };
    }
