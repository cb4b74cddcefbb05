use Rattle.std.proofs.Common.{sym, subst}
use Rattle.std.specs.Global.{Box}
use Rattle.std.specs.List.{All, AllZip}
use Rattle.amr_lots.specs.declared.lot.Duty.{Duty}
use Rattle.amr_lots.specs.declared.lot.Lot.{Lot}
use Rattle.amr_lots.specs.Duties.{IsServed, MayServe}
use Rattle.amr_advance.proofs.level.pack_lots.Goals as goal

pub serve_lots-requires-clause-may : goal.serve_lots-requires-clause-may
serve_lots-requires-clause-may g c κs within = subst (λ (d : Duty). All (λ (x : Box Lot). MayServe d x.value) c.args.lots.now.lots.items) (sym c.phase_of.ensures.duty) c.requires.may

pub returns-clause-sent : goal.returns-clause-sent
returns-clause-sent g c _ = subst (λ (d : Duty). AllZip (λ (a b : Box Lot). IsServed d a.value b.value) c.args.lots.now.lots.items c.serve_lots.new.lots.items) c.phase_of.ensures.duty c.serve_lots.ensures.served
