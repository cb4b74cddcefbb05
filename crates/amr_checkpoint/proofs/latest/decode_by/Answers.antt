use Rattle.std.proofs.Common.{inl, inr, refl}
use Rattle.std.specs.Int.{w32, w64}
use Rattle.amr_checkpoint.proofs.FromDisk.{decoded_by, first_width, second_width}
use Rattle.amr_checkpoint.proofs.latest.decode_by.Goals as goal

pub returns-then-version-eq1-clause-read : goal.returns-then-version-eq1-clause-read
returns-then-version-eq1-clause-read c =
    decoded_by c.decode.result c.args.version w64 c.args.p.now c.args.bytes.now (first_width c.args.version c.if-version-eq1.true) (inl refl) c.decode.ensures.bytes c.decode.ensures.sound

pub returns-else-version-eq1-clause-read : goal.returns-else-version-eq1-clause-read
returns-else-version-eq1-clause-read c =
    decoded_by c.decode2.result c.args.version w32 c.args.p.now c.args.bytes.now (second_width c.args.version c.if-version-eq1.false) (inr refl) c.decode2.ensures.bytes c.decode2.ensures.sound
