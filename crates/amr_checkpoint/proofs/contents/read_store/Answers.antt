use Rattle.std.proofs.Common.{◌≡◌, ℕ, List, Option, Some, IfSome, sym, ap, subst, ◌∙◌}
use Rattle.std.proofs.lemmas.Result.{IfOk-weaker}
use Rattle.amr_def.specs.declared.problem.Problem.{Problem}
use Rattle.amr_store.specs.Stored as store
use Rattle.amr_checkpoint.specs.Checkpoints.{content_of}
use Rattle.amr_checkpoint.specs.Contents.{IsStorable, room_for}
use Rattle.amr_checkpoint.proofs.FromDisk.{size_holds, store_holds}
use Rattle.amr_checkpoint.proofs.contents.read_store.Goals as goal

storable : (bytes : List ℕ) (o : Option Problem) (p : Problem) → o ≡ Some p → IfSome o (IsStorable bytes) → IsStorable bytes p
storable bytes o p is found = subst (λ (x : Option Problem). IfSome x (IsStorable bytes)) is found

pub returns-then-slot_size-room_for-clause-holds : goal.returns-then-slot_size-room_for-clause-holds
returns-then-slot_size-room_for-clause-holds g c =
    IfOk-weaker c.read_latest.result _ _
    (λ found read s seen shows. store_holds c.args.store (store.stored s) c.in-Ok-Some.problem c.problem.result.now (content_of found) shows c.problem.ensures (storable c.problem.result.now c.in-Ok-Some.field-0 c.in-Ok-Some.problem c.in-Ok-Some.field-0-is c.in-Ok-Some.ensures.some)
    (sym c.slot_size.ensures ∙ c.if-slot_size-room_for.true ∙ c.room_for.ensures ∙ ap (λ v. room_for v c.in-Ok-Some.problem) c.version.ensures) (λ held is h. read s held seen is h))
    c.read_latest.ensures.read

pub returns-else-slot_size-room_for-clause-holds : goal.returns-else-slot_size-room_for-clause-holds
returns-else-slot_size-room_for-clause-holds g c s seen shows =
    size_holds c.args.store (store.stored s) c.in-Ok-Some.problem c.problem.result.now shows c.problem.ensures (storable c.problem.result.now c.in-Ok-Some.field-0 c.in-Ok-Some.problem c.in-Ok-Some.field-0-is c.in-Ok-Some.ensures.some)
    (λ same. c.if-slot_size-room_for.false (c.slot_size.ensures ∙ same ∙ sym (c.room_for.ensures ∙ ap (λ v. room_for v c.in-Ok-Some.problem) c.version.ensures)))
