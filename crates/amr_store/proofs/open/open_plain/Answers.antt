use Rattle.std.proofs.Common.{refl}
use Rattle.amr_store.proofs.Openings.{plain_stands}
use Rattle.amr_store.proofs.open.open_plain.Goals as goal

pub returns-in-Ok-clause-told : goal.returns-in-Ok-clause-told
returns-in-Ok-clause-told g c s is held outline_is plain = plain_stands _ c.args.outline s held outline_is plain refl refl (λ whole. c.in-Ok.ensures.told s is whole) refl refl refl
