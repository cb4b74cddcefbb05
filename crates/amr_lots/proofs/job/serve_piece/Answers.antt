use Rattle.std.proofs.Common.{refl, sym, subst}
use Rattle.amr_lots.specs.declared.lot.Lot.{Lot}
use Rattle.amr_lots.specs.Duties.{IsServed, MayServe}
use Rattle.amr_lots.proofs.job.serve_piece.Goals as goal

pub serve-requires : goal.serve-requires
serve-requires c = subst (MayServe c.args.piece.duty) (sym c.deref_mut.ensures.value) c.requires

pub returns-clause-keeps : goal.returns-clause-keeps
returns-clause-keeps c = record { task = refl; level = refl; duty = refl; basis = refl }

pub returns-clause-served : goal.returns-clause-served
returns-clause-served c = subst (λ (x : Lot). IsServed c.args.piece.duty x c.serve.new.lot) c.deref_mut.ensures.value c.serve.ensures
