use Rattle.std.proofs.Common.{ℕ, sym, ap, ◌∙◌, arith}
use Rattle.std.proofs.lemmas.Result.{err_from_is_err_and}
use Rattle.std.specs.declared.result.Result.{Result}
use Rattle.std.specs.declared.result.Result.TheVariants.{Err}
use Rattle.amr_def.specs.State.{State}
use Rattle.amr_codec.specs.MassWidths.{width_of}
use Rattle.amr_patch.specs.Meshes.{state_of}
use Rattle.amr_payload.specs.Payload.{alone}
use Rattle.amr_payload.specs.Tests.{Left, read_state}
use Rattle.amr_decoder.specs.Lefts.{left_of}
use Rattle.amr_decoder.proofs.Readings.{fault_same}
use Rattle.amr_decoder.proofs.States.{all_decoded, some_follows, start_of, state_bad}
use Rattle.amr_decoder.proofs.decoders.read_payload.Goals as goal

pub returns-in_err-mesh-clause-bad : goal.returns-in_err-mesh-clause-bad
returns-in_err-mesh-clause-bad c =
    let w = width_of c.args.width in
    let p = c.args.p.now in
    let bytes = c.args.bytes.now in
    let q = err_from_is_err_and c.from_residual.result c.from_residual.ensures.1 in
    rw (q.1, q.2) (state_bad w p bytes c.in_err-mesh.field-0.0 (fault_same (read_state (alone w) p (start_of bytes)) (read_state (alone w) p (left_of c.of-reader.result)) c.in_err-mesh.field-0.0 (ap (λ (r : Left). read_state (alone w) p r) (sym c.of-reader.ensures.left)) c.in_err-mesh.ensures.bad))

pub returns-then-count_left-gt0-clause-bad : goal.returns-then-count_left-gt0-clause-bad
returns-then-count_left-gt0-clause-bad c =
    let w = width_of c.args.width in
    let p = c.args.p.now in
    let bytes = c.args.bytes.now in
    let state = ap (λ (r : Left). read_state (alone w) p r) (sym c.of-reader.ensures.left) ∙ c.in_ok-mesh.ensures.read in
    some_follows w p bytes (state_of c.in_ok-mesh.mesh) (left_of c.read_state.new.reader) state (omega (arith, c.count_left.ensures, c.if-count_left-gt0.true))
    ∙ ap {B = Result State ℕ} (λ (k : ℕ). Err k) (sym c.place.ensures.place)

pub returns-clause-read : goal.returns-clause-read
returns-clause-read c =
    let w = width_of c.args.width in
    let p = c.args.p.now in
    let bytes = c.args.bytes.now in
    let state = ap (λ (r : Left). read_state (alone w) p r) (sym c.of-reader.ensures.left) ∙ c.in_ok-mesh.ensures.read in
    all_decoded w p bytes (state_of c.in_ok-mesh.mesh) (left_of c.read_state.new.reader) state (omega (arith, c.count_left.ensures, c.if-count_left-gt0.false))
