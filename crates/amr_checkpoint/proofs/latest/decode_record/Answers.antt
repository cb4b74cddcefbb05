use Rattle.std.proofs.Common.{◌≡◌, ◌<◌, ◌^◌, ◌+◌, Some, true, false, sym, ap, ◌∙◌, arith}
use Rattle.amr_payload.specs.Delta.{delta_decoded}
use Rattle.amr_patch.specs.Meshes.{state_of}
use Rattle.amr_store.specs.declared.part.Part.TheVariants.{Chain}
use Rattle.amr_checkpoint.proofs.Folded.{read_in_step, read_out_of_step, record_decoded}
use Rattle.amr_checkpoint.proofs.latest.decode_record.Goals as goal

pub returns-then-is_sequence_of-clause-read : goal.returns-then-is_sequence_of-clause-read
returns-then-is_sequence_of-clause-read c q is =
    let old = state_of c.args.old.now in
    let is_old : c.from.result + 1 ≡ old.step + 1 = ap (λ n. n + 1) (c.from.ensures ∙ c.step.ensures) in
    let small : c.from.result + 1 < 2 ^ 64 = omega (arith, c.from.ensures) in
    let mesh = c.in-Ok.ensures in
    read_in_step c.args.sequence q c.in-Ok.mesh (delta_decoded c.args.p.now old (old.step + 1) c.args.bytes.now) (Chain c.args.number) is
    (record_decoded c.args.p.now old (state_of c.in-Ok.mesh) (c.from.result + 1) c.args.bytes.now is_old small c.requires.old.sound mesh.sound mesh.later mesh.bytes)
    (c.is_sequence_of.ensures.0 c.if-is_sequence_of.true ∙ ap (λ n. Some (n + 1)) c.step-2.ensures)

pub returns-else-is_sequence_of-clause-read : goal.returns-else-is_sequence_of-clause-read
returns-else-is_sequence_of-clause-read c q is =
    let old = state_of c.args.old.now in
    let is_old : c.from.result + 1 ≡ old.step + 1 = ap (λ n. n + 1) (c.from.ensures ∙ c.step.ensures) in
    let small : c.from.result + 1 < 2 ^ 64 = omega (arith, c.from.ensures) in
    let mesh = c.in-Ok.ensures in
    read_out_of_step c.args.sequence q c.in-Ok.mesh (delta_decoded c.args.p.now old (old.step + 1) c.args.bytes.now) (Chain c.args.number) is
    (record_decoded c.args.p.now old (state_of c.in-Ok.mesh) (c.from.result + 1) c.args.bytes.now is_old small c.requires.old.sound mesh.sound mesh.later mesh.bytes)
    (λ same. let clash : true ≡ false = sym (c.is_sequence_of.ensures.1 (same ∙ ap (λ n. Some (n + 1)) (sym c.step-2.ensures))) ∙ c.if-is_sequence_of.false in cc)
