use Rattle.std.proofs.Common.{ℕ, sym, ap, ◌∙◌, arith}
use Rattle.std.proofs.lemmas.Result.{err_from_is_err_and}
use Rattle.std.specs.declared.result.Result.{Result}
use Rattle.std.specs.declared.result.Result.TheVariants.{Err}
use Rattle.amr_def.specs.State.{State}
use Rattle.amr_patch.specs.Meshes.{state_of}
use Rattle.amr_payload.specs.Delta.{delta_decoded, read_delta}
use Rattle.amr_payload.specs.Tests.{Left}
use Rattle.amr_decoder.specs.Lefts.{left_of}
use Rattle.amr_decoder.proofs.Readings.{fault_same}
use Rattle.amr_decoder.proofs.States.{start_of}
use Rattle.amr_delta.proofs.Records.{more_follows, whole_bad, whole_read}
use Rattle.amr_delta.proofs.recorded_state.read_whole.Goals as goal

pub returns-in_err-mesh-clause-bad : goal.returns-in_err-mesh-clause-bad
unfolding delta_decoded
returns-in_err-mesh-clause-bad c =
    let reading = read_delta c.args.p.now (state_of c.args.old.now) c.args.old_sequence in
    let bytes = c.args.bytes.now in
    let q = err_from_is_err_and c.from_residual.result c.from_residual.ensures.1 in
    rw (q.1, q.2) (whole_bad (reading (start_of bytes)) c.in_err-mesh.field-0.0 (fault_same (reading (start_of bytes)) (reading (left_of c.of-reader.result)) c.in_err-mesh.field-0.0 (ap (λ (r : Left). reading r) (sym c.of-reader.ensures.left)) c.in_err-mesh.ensures.bad))

pub returns-then-count_left-gt0-clause-bad : goal.returns-then-count_left-gt0-clause-bad
unfolding delta_decoded
returns-then-count_left-gt0-clause-bad c =
    let reading = read_delta c.args.p.now (state_of c.args.old.now) c.args.old_sequence in
    let bytes = c.args.bytes.now in
    let state = ap (λ (r : Left). reading r) (sym c.of-reader.ensures.left) ∙ c.in_ok-mesh.ensures.read in
    more_follows (reading (start_of bytes)) (state_of c.in_ok-mesh.mesh) (left_of c.read_record.new.reader) state (omega (arith, c.count_left.ensures, c.if-count_left-gt0.true))
    ∙ ap {B = Result State ℕ} (λ (k : ℕ). Err k) (sym c.place.ensures.place)

pub returns-clause-read : goal.returns-clause-read
unfolding delta_decoded
returns-clause-read c =
    let reading = read_delta c.args.p.now (state_of c.args.old.now) c.args.old_sequence in
    let bytes = c.args.bytes.now in
    let state = ap (λ (r : Left). reading r) (sym c.of-reader.ensures.left) ∙ c.in_ok-mesh.ensures.read in
    whole_read (reading (start_of bytes)) (state_of c.in_ok-mesh.mesh) (left_of c.read_record.new.reader) state (omega (arith, c.count_left.ensures, c.if-count_left-gt0.false))
