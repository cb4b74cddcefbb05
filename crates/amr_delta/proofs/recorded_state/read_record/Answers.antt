use Rattle.std.proofs.Common.{◌≡◌, ◌==◌, true, ◌∙◌}
use Rattle.std.proofs.lemmas.Bool.{eq-eqb}
use Rattle.std.proofs.lemmas.Result.{err_from_is_err_and}
use Rattle.amr_decoder.specs.Lefts.{left_of}
use Rattle.amr_decoder.proofs.Readings.{fault_same}
use Rattle.amr_patch.specs.Meshes.{state_of}
use Rattle.amr_payload.specs.Delta.{read_delta}
use Rattle.amr_payload.specs.Payload.{older}
use Rattle.amr_payload.specs.Tests.{read_state}
use Rattle.amr_delta.proofs.Records.{sequence_bad, sequence_read}
use Rattle.amr_delta.proofs.recorded_state.read_record.Goals as goal

pub returns-in_err-sequence-clause-bad : goal.returns-in_err-sequence-clause-bad
returns-in_err-sequence-clause-bad c =
    let q = err_from_is_err_and c.from_residual.result c.from_residual.ensures.1 in
    rw (q.1, q.2) (sequence_bad c.args.p.now (state_of c.args.old.now) c.args.old_sequence (left_of c.args.reader.now) c.in_err-sequence.field-0.0 c.in_err-sequence.ensures.bad)

pub returns-in_err-mesh-clause-bad : goal.returns-in_err-mesh-clause-bad
returns-in_err-mesh-clause-bad c =
    let p = c.args.p.now in
    let old = state_of c.args.old.now in
    let q = c.args.old_sequence in
    let r = left_of c.args.reader.now in
    let a = left_of c.read_u64.new.self in
    let m = c.in_ok-sequence.sequence in
    let same : (m == q) ≡ true = eq-eqb m q c.if-sequence-old_sequence.false in
    let e = err_from_is_err_and c.from_residual-in_err-mesh.result c.from_residual-in_err-mesh.ensures.1 in
    rw (e.1, e.2) (fault_same (read_delta p old q r) (read_state (older old) p a) c.in_err-mesh.field-0.0 (sequence_read p old q r a m true c.in_ok-sequence.ensures.read same) c.in_err-mesh.ensures.bad)

pub returns-clause-read : goal.returns-clause-read
returns-clause-read c =
    let p = c.args.p.now in
    let old = state_of c.args.old.now in
    let q = c.args.old_sequence in
    let m = c.in_ok-sequence.sequence in
    let same : (m == q) ≡ true = eq-eqb m q c.if-sequence-old_sequence.false in
    sequence_read p old q (left_of c.args.reader.now) (left_of c.read_u64.new.self) m true c.in_ok-sequence.ensures.read same ∙ c.in_ok-mesh.ensures.read
