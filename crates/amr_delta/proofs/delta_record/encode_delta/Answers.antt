use Rattle.std.proofs.Common.{◌≤◌, ◌++◌, ℕ, List, length, ap, subst, sym, ◌∙◌}
use Rattle.std.specs.Int.{w64}
use Rattle.amr_patch.specs.Meshes.{state_of}
use Rattle.amr_payload.specs.Delta.{delta_bytes, delta_size}
use Rattle.amr_payload.specs.Payload.{number_bytes, older, state_bytes}
use Rattle.amr_payload.proofs.Room.{delta_fits}
use Rattle.amr_delta.proofs.delta_record.encode_delta.Goals as goal

pub returns-clause-bytes : goal.returns-clause-bytes
unfolding delta_bytes
returns-clause-bytes c =
    let body = state_bytes (older (state_of c.args.old.now)) (state_of c.args.new.now) in
    let head = number_bytes w64 c.args.old_sequence in
    c.in_ok-put_state.ensures ∙ ap (λ (l : List ℕ). l ++ body) (c.in_ok-put_u64.ensures ∙ ap (λ (l : List ℕ). l ++ head) c.in_ok-out.ensures.items)

pub returns-clause-fits : goal.returns-clause-fits
unfolding delta_bytes
returns-clause-fits c =
    let old = state_of c.args.old.now in
    let new = state_of c.args.new.now in
    let body = state_bytes (older old) new in
    let head = number_bytes w64 c.args.old_sequence in
    let bytes = c.in_ok-put_state.ensures ∙ ap (λ (l : List ℕ). l ++ body) (c.in_ok-put_u64.ensures ∙ ap (λ (l : List ℕ). l ++ head) c.in_ok-out.ensures.items) in
    subst (λ (l : List ℕ). length l ≤ delta_size c.args.p.now) (sym bytes) (delta_fits c.args.p.now old new c.args.old_sequence c.requires.sound)
