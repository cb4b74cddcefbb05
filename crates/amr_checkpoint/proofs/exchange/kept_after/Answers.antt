use Rattle.std.proofs.Common.{ap, subst, Option}
use Rattle.amr_patch.specs.declared.meshes.Mesh.{Mesh}
use Rattle.amr_checkpoint.specs.Exchanges.{FitsPlace, is_kept}
use Rattle.amr_checkpoint.specs.declared.exchange.Place.TheVariants.{Older}
use Rattle.amr_checkpoint.proofs.exchange.kept_after.Goals as goal

pub returns-in-Nowhere-clause-latest : goal.returns-in-Nowhere-clause-latest
returns-in-Nowhere-clause-latest c = ap is_kept c.in-Nowhere.is

pub returns-in-Copy-clause-latest : goal.returns-in-Copy-clause-latest
returns-in-Copy-clause-latest c =
    let fits = subst (FitsPlace c.args.mesh.now c.args.old) c.in-Copy.is c.requires.fits in
    (ap is_kept c.in-Copy.is, fits.0, fits.1)

pub unreachable-requires : goal.unreachable-requires
unreachable-requires c =
    subst (λ (o : Option Mesh). FitsPlace c.args.mesh.now o (Older c.in-Older.rows)) c.in-None.is (subst (FitsPlace c.args.mesh.now c.args.old) c.in-Older.is c.requires.fits)

pub exchange-requires-clause-boxes : goal.exchange-requires-clause-boxes
exchange-requires-clause-boxes c =
    (subst (λ (o : Option Mesh). FitsPlace c.args.mesh.now o (Older c.in-Older.rows)) c.in-Some.is (subst (FitsPlace c.args.mesh.now c.args.old) c.in-Older.is c.requires.fits)).1

pub exchange-requires-clause-rows : goal.exchange-requires-clause-rows
exchange-requires-clause-rows c =
    (subst (λ (o : Option Mesh). FitsPlace c.args.mesh.now o (Older c.in-Older.rows)) c.in-Some.is (subst (FitsPlace c.args.mesh.now c.args.old) c.in-Older.is c.requires.fits)).0

pub returns-in-Some-clause-latest : goal.returns-in-Some-clause-latest
returns-in-Some-clause-latest c = (ap is_kept c.in-Older.is, c.exchange.ensures.state, c.exchange.ensures.whole)
