use Rattle.std.proofs.Common.{◌≤◌, ℕ, List, length, inl, refl, subst, sym}
use Rattle.std.specs.Int.{w64}
use Rattle.std.proofs.lemmas.Result.{IfOk-weaker}
use Rattle.amr_patch.specs.Meshes.{state_of}
use Rattle.amr_payload.specs.Payload.{slot_size}
use Rattle.amr_payload.proofs.Room.{fits_slot}
use Rattle.amr_codec.proofs.encoders.encode.Goals as goal

pub returns-clause-fits : goal.returns-clause-fits
returns-clause-fits c =
    IfOk-weaker c.payload_of.result _ _
    (λ v is. subst (λ (bs : List ℕ). length bs ≤ slot_size w64 c.args.p.now) (sym is) (fits_slot w64 c.args.p.now (state_of c.args.mesh.now) (inl refl) c.requires.sound))
    c.payload_of.ensures
