use Rattle.std.proofs.Common.{sym}
use Rattle.amr_register.specs.Covers.{covers}
use Rattle.amr_register.proofs.cover.Cover.covers.Goals as goal

pub returns-in-Some-clause-value : goal.returns-in-Some-clause-value
returns-in-Some-clause-value c = sym (c.in-Some.ensures (covers c.args.self.now) c.requires)
