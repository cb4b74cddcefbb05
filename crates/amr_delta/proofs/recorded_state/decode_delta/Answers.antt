use Rattle.std.proofs.Common.{◌≡◌, ◌<◌, ◌^◌, List, ℕ, ap, ◌∙◌, arith}
use Rattle.std.specs.declared.result.Result.TheVariants.{Ok}
use Rattle.std.proofs.lemmas.Result.{IfErr-weaker, IfOk-weaker}
use Rattle.amr_def.specs.Facts.{IsSound}
use Rattle.amr_patch.specs.declared.meshes.Mesh.{Mesh}
use Rattle.amr_patch.specs.Meshes.{state_of}
use Rattle.amr_payload.specs.Delta.{IsLater, delta_bytes, delta_decoded}
use Rattle.amr_payload.proofs.Deltas.{delta_back, delta_is}
use Rattle.amr_decoder.specs.declared.faults.CodecFault.{CodecFault}
use Rattle.amr_decoder.specs.declared.faults.CodecFault.TheVariants.{NoMemory}
use Rattle.amr_decoder.specs.Faults.{IsRefusalOf}
use Rattle.amr_decoder.proofs.States.{all_bytes}
use Rattle.amr_delta.proofs.Records.{refused_for_memory}
use Rattle.amr_delta.proofs.recorded_state.decode_delta.Goals as goal

pub returns-clause-bytes : goal.returns-clause-bytes
returns-clause-bytes c =
    let p = c.args.p.now in
    let old = state_of c.args.old.now in
    let q = c.args.old_sequence in
    let bytes = c.args.bytes.now in
    IfOk-weaker c.read_whole.result (λ (m : Mesh). delta_decoded p old q bytes ≡ Ok (state_of m)) (λ (m : Mesh). bytes ≡ delta_bytes old q (state_of m))
    (λ m h. (delta_is p old q (state_of m) bytes c.requires.old_sound (all_bytes bytes (λ k. let f = c.type_inv.bytes k in omega (arith, f))) h).is) c.read_whole.ensures.read

pub returns-clause-sound : goal.returns-clause-sound
returns-clause-sound c =
    let p = c.args.p.now in
    let old = state_of c.args.old.now in
    let q = c.args.old_sequence in
    let bytes = c.args.bytes.now in
    IfOk-weaker c.read_whole.result (λ (m : Mesh). delta_decoded p old q bytes ≡ Ok (state_of m)) (λ (m : Mesh). IsSound p (state_of m))
    (λ m h. (delta_is p old q (state_of m) bytes c.requires.old_sound (all_bytes bytes (λ k. let f = c.type_inv.bytes k in omega (arith, f))) h).sound) c.read_whole.ensures.read

pub returns-clause-later : goal.returns-clause-later
returns-clause-later c =
    let p = c.args.p.now in
    let old = state_of c.args.old.now in
    let q = c.args.old_sequence in
    let bytes = c.args.bytes.now in
    IfOk-weaker c.read_whole.result (λ (m : Mesh). delta_decoded p old q bytes ≡ Ok (state_of m)) (λ (m : Mesh). IsLater old (state_of m))
    (λ m h. (delta_is p old q (state_of m) bytes c.requires.old_sound (all_bytes bytes (λ k. let f = c.type_inv.bytes k in omega (arith, f))) h).later) c.read_whole.ensures.read

pub returns-clause-complete : goal.returns-clause-complete
returns-clause-complete c s is sound later =
    let p = c.args.p.now in
    let old = state_of c.args.old.now in
    let q = c.args.old_sequence in
    let bytes = c.args.bytes.now in
    let fits : q < 2 ^ 64 = omega arith in
    IfErr-weaker c.read_whole.result (IsRefusalOf (delta_decoded p old q bytes)) (λ (e : CodecFault). e ≡ NoMemory)
    (λ e h. refused_for_memory (delta_decoded p old q bytes) s e (ap (λ (bs : List ℕ). delta_decoded p old q bs) is ∙ delta_back p old q s fits c.requires.old_sound sound later) h) c.read_whole.ensures.bad
