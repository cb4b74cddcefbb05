use Rattle.std.proofs.Common.{Bool, ap, sym, subst, ◌∙◌}
use Rattle.std.specs.Prelude.{nat_lt}
use Rattle.amr_patch.specs.Meshes.{state_of}
use Rattle.amr_store.specs.Stands.{chain_in}
use Rattle.amr_checkpoint.specs.Checkpoints.{IsCopyWhere}
use Rattle.amr_checkpoint.proofs.checkpoint.KeptStore.at.Goals as goal

pub returns-in-Ok-clause-latest : goal.returns-in-Ok-clause-latest
returns-in-Ok-clause-latest c =
    subst (λ (b : Bool). IsCopyWhere b (state_of c.args.mesh.now) c.in-Ok.latest)
    (ap (λ n. nat_lt n c.deltas-most.result) c.chain-chain.ensures.number ∙ ap (nat_lt (chain_in c.args.store)) c.deltas-most.ensures.number) c.in-Ok.ensures

pub returns-in-Ok-clause-version : goal.returns-in-Ok-clause-version
returns-in-Ok-clause-version c other = sym c.deltas-most.ensures.number ∙ c.deltas-most.ensures.none other

pub returns-in-Err-clause-version : goal.returns-in-Err-clause-version
returns-in-Err-clause-version c other = sym c.deltas-most.ensures.number ∙ c.deltas-most.ensures.none other
