use Rattle.std.proofs.Common.{◌≡◌, List, ℕ, ap, ◌∙◌, arith, refl, inr}
use Rattle.std.specs.Int.{w32}
use Rattle.std.specs.declared.result.Result.TheVariants.{Ok}
use Rattle.std.proofs.lemmas.Result.{IfErr-weaker, IfOk-weaker}
use Rattle.amr_def.specs.Facts.{IsSound}
use Rattle.amr_patch.specs.declared.meshes.Mesh.{Mesh}
use Rattle.amr_patch.specs.Meshes.{state_of}
use Rattle.amr_payload.specs.Payload.{payload}
use Rattle.amr_payload.specs.Tests.{decoded}
use Rattle.amr_payload.proofs.ReadStates.{decoded_is}
use Rattle.amr_payload.proofs.WriteStates.{read_back}
use Rattle.amr_decoder.specs.declared.faults.CodecFault.{CodecFault}
use Rattle.amr_decoder.specs.declared.faults.CodecFault.TheVariants.{NoMemory}
use Rattle.amr_decoder.specs.Faults.{IsRefusalOf}
use Rattle.amr_decoder.proofs.States.{all_bytes, decoded_back}
use Rattle.amr_decoder.proofs.decoders.decode2.Goals as goal

pub returns-clause-bytes : goal.returns-clause-bytes
returns-clause-bytes c =
    let p = c.args.p.now in
    let bytes = c.args.bytes.now in
    IfOk-weaker c.read_payload.result (λ (m : Mesh). decoded w32 p bytes ≡ Ok (state_of m)) (λ (m : Mesh). bytes ≡ payload w32 (state_of m))
    (λ m h. (decoded_is w32 p (state_of m) bytes (inr refl) (all_bytes bytes (λ k. let f = c.type_inv.bytes k in omega (arith, f))) h).is) c.read_payload.ensures.read

pub returns-clause-sound : goal.returns-clause-sound
returns-clause-sound c =
    let p = c.args.p.now in
    let bytes = c.args.bytes.now in
    IfOk-weaker c.read_payload.result (λ (m : Mesh). decoded w32 p bytes ≡ Ok (state_of m)) (λ (m : Mesh). IsSound p (state_of m))
    (λ m h. (decoded_is w32 p (state_of m) bytes (inr refl) (all_bytes bytes (λ k. let f = c.type_inv.bytes k in omega (arith, f))) h).sound) c.read_payload.ensures.read

pub returns-clause-complete : goal.returns-clause-complete
returns-clause-complete c s is sound =
    let p = c.args.p.now in
    let bytes = c.args.bytes.now in
    IfErr-weaker c.read_payload.result (IsRefusalOf (decoded w32 p bytes)) (λ (e : CodecFault). e ≡ NoMemory)
    (λ e h. decoded_back w32 p s bytes e (ap (λ (bs : List ℕ). decoded w32 p bs) is ∙ read_back w32 p s (inr refl) sound) h) c.read_payload.ensures.bad
