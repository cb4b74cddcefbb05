use Rattle.std.proofs.Common.{◌+◌, ℕ, List, Option, Bool, refl, ap, sym, subst, ◌∙◌, arith}
use Rattle.std.specs.Prelude.{nat_lt}
use Rattle.amr_patch.specs.declared.meshes.Mesh.{Mesh}
use Rattle.amr_patch.specs.Meshes.{state_of}
use Rattle.amr_store.specs.Stands.{chain_in, deltas_in, problem_in}
use Rattle.amr_checkpoint.specs.Checkpoints.{HoldsLatest, IsCopyWhere, IsStoreAfter, KeepsLatest, renewed_version}
use Rattle.amr_checkpoint.specs.Contents.{At, Holds}
use Rattle.amr_checkpoint.proofs.Later.{may_put_kept}
use Rattle.amr_checkpoint.proofs.Puts.{is_untouched}
use Rattle.amr_checkpoint.proofs.checkpoint.put_checkpoint.Goals as goal

-- ---- as a record

pub overflow_add-chain : goal.overflow_add-chain
overflow_add-chain g c = omega (arith, c.chain.ensures.few, c.deltas-most.ensures.few, c.deltas-most.ensures.number)

pub returns-in-Err-clause-put : goal.returns-in-Err-clause-put
returns-in-Err-clause-put g c =
    is_untouched g.D.Disk.seen g.D.Disk.moment g.D.Disk.leaves g.D.Disk.faults (problem_in c.args.kept.store) c.args.p.now (state_of c.args.mesh.now) c.args.disk.now (c.requires.may.ready.settled c.requires.may.store_is.unshut)

pub put_record-requires-clause-takes : goal.put_record-requires-clause-takes
put_record-requires-clause-takes g c = (subst (λ (o : Option Mesh). KeepsLatest c.args.p.now c.args.kept.store o (state_of c.args.mesh.now)) c.in-Some.is c.requires.may.latest).0

pub put_record-requires-clause-latest : goal.put_record-requires-clause-latest
put_record-requires-clause-latest g c = (subst (λ (o : Option Mesh). KeepsLatest c.args.p.now c.args.kept.store o (state_of c.args.mesh.now)) c.in-Some.is c.requires.may.latest).1

pub put_record-requires-clause-held : goal.put_record-requires-clause-held
put_record-requires-clause-held g c = subst (λ (o : Option Mesh). HoldsLatest (g.D.Disk.seen c.args.disk.now) c.args.p.now c.args.kept.store o) c.in-Some.is c.requires.may.held

pub returns-in-Ok-put_record-clause-next : goal.returns-in-Ok-put_record-clause-next
returns-in-Ok-put_record-clause-next g c later on =
    let p = c.args.p.now in
    let s = state_of c.args.mesh.now in
    let st = c.in-Ok-put_record.store in
    let after = c.in-Ok-put_record.ensures.store in
    let most = c.deltas-most in
    let kept = c.kept_after in
    let copied : IsCopyWhere (nat_lt (chain_in st) (deltas_in st)) s kept.result.latest = subst (λ (b : Bool). IsCopyWhere b s kept.result.latest)
    (c.in-Ok.ensures.kept ∙ ap (λ n. nat_lt n most.result) (ap (λ n. n + 1) c.chain.ensures.number ∙ sym after.chain_is) ∙ ap (nat_lt (chain_in st)) (most.ensures.number ∙ sym after.deltas)) kept.ensures.latest in
    may_put_kept g.D.Disk.seen g.D.Disk.moment g.D.Disk.leaves p kept.result st s later c.put_record.new.disk kept.ensures.store after.past c.in-Ok-put_record.ensures.ready
    (λ other. after.deltas ∙ sym most.ensures.number ∙ most.ensures.none (λ three. other (after.version ∙ ap renewed_version three))) c.requires.sound on copied
    (λ image told. subst (λ (b : List ℕ). Holds image (At b p s (s.step + 1))) (sym after.problem) (c.in-Ok-put_record.ensures.put.holds refl image told))

pub returns-in-Ok-put_record-clause-settled : goal.returns-in-Ok-put_record-clause-settled
returns-in-Ok-put_record-clause-settled g c = c.in-Ok-put_record.ensures.ready.settled c.in-Ok-put_record.ensures.store.past.store_is.unshut

pub returns-in-Ok-put_record-clause-put : goal.returns-in-Ok-put_record-clause-put
returns-in-Ok-put_record-clause-put g c = c.in-Ok-put_record.ensures.put

pub returns-in-Ok-put_record-clause-store : goal.returns-in-Ok-put_record-clause-store
returns-in-Ok-put_record-clause-store g c =
    let chain = chain_in c.args.kept.store + 1 in
    (chain, subst (IsStoreAfter c.args.p.now ((state_of c.args.mesh.now).step + 1) chain c.args.kept.store) (sym c.kept_after.ensures.store) c.in-Ok-put_record.ensures.store)

pub returns-in-Some-clause-put : goal.returns-in-Some-clause-put
returns-in-Some-clause-put g c = c.in-Err-put_record.ensures.put

-- ---- whole

pub put_whole-requires-clause-no_record : goal.put_whole-requires-clause-no_record
put_whole-requires-clause-no_record g c = subst (λ (o : Option Mesh). KeepsLatest c.args.p.now c.args.kept.store o (state_of c.args.mesh.now)) c.in-None.is c.requires.may.latest

pub put_whole-requires-clause-deltas : goal.put_whole-requires-clause-deltas
put_whole-requires-clause-deltas g c other = sym c.deltas-most.ensures.number ∙ c.deltas-most.ensures.none other

pub returns-in-Err-place_beside-clause-put : goal.returns-in-Err-place_beside-clause-put
returns-in-Err-place_beside-clause-put g c =
    is_untouched g.D.Disk.seen g.D.Disk.moment g.D.Disk.leaves g.D.Disk.faults (problem_in c.args.kept.store) c.args.p.now (state_of c.args.mesh.now) c.args.disk.now (c.requires.may.ready.settled c.requires.may.store_is.unshut)

pub returns-in-Ok-put_whole-clause-next : goal.returns-in-Ok-put_whole-clause-next
returns-in-Ok-put_whole-clause-next g c later on =
    let p = c.args.p.now in
    let s = state_of c.args.mesh.now in
    let st = c.in-Ok-put_whole.store in
    let after = c.in-Ok-put_whole.ensures.store in
    let most = c.deltas-most in
    let kept = c.kept_after-in-Ok-put_whole in
    let copied : IsCopyWhere (nat_lt (chain_in st) (deltas_in st)) s kept.result.latest = subst (λ (b : Bool). IsCopyWhere b s kept.result.latest)
    (c.in-Ok-place_beside.ensures.kept ∙ ap (λ n. nat_lt n most.result) (sym after.chain_is) ∙ ap (nat_lt (chain_in st)) (most.ensures.number ∙ sym after.deltas)) kept.ensures.latest in
    may_put_kept g.D.Disk.seen g.D.Disk.moment g.D.Disk.leaves p kept.result st s later c.put_whole.new.disk kept.ensures.store after.past c.in-Ok-put_whole.ensures.ready
    (λ other. after.deltas ∙ sym most.ensures.number ∙ most.ensures.none (λ three. other (after.version ∙ ap renewed_version three))) c.requires.sound on copied
    (λ image told. subst (λ (b : List ℕ). Holds image (At b p s (s.step + 1))) (sym after.problem) (c.in-Ok-put_whole.ensures.put.holds refl image told))

pub returns-in-Ok-put_whole-clause-settled : goal.returns-in-Ok-put_whole-clause-settled
returns-in-Ok-put_whole-clause-settled g c = c.in-Ok-put_whole.ensures.ready.settled c.in-Ok-put_whole.ensures.store.past.store_is.unshut

pub returns-in-Ok-put_whole-clause-put : goal.returns-in-Ok-put_whole-clause-put
returns-in-Ok-put_whole-clause-put g c = c.in-Ok-put_whole.ensures.put

pub returns-in-Ok-put_whole-clause-store : goal.returns-in-Ok-put_whole-clause-store
returns-in-Ok-put_whole-clause-store g c =
    (0, subst (IsStoreAfter c.args.p.now ((state_of c.args.mesh.now).step + 1) 0 c.args.kept.store) (sym c.kept_after-in-Ok-put_whole.ensures.store) c.in-Ok-put_whole.ensures.store)

pub returns-clause-put : goal.returns-clause-put
returns-clause-put g c = c.in-Err-put_whole.ensures.put
