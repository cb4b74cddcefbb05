use Rattle.std.proofs.Common.{◌≡◌, ◌∙◌, ℕ, ◌*◌, sym, ap, arith, length-drop}
use Rattle.std.specs.Int.{byte_len}
use Rattle.amr_codec.specs.MassWidths.{width_of}
use Rattle.amr_payload.specs.Tests.{Left, after, bad, read}
use Rattle.amr_decoder.specs.Lefts.{left_of, whole_of}
use Rattle.amr_decoder.specs.Numbers.{numbers}
use Rattle.amr_decoder.proofs.TestedMasses.{tested_bad, tested_read}
use Rattle.amr_decoder.proofs.masses.read_masses.Goals as goal

pub returns-clause-read : goal.returns-clause-read
returns-clause-read c =
    let w = width_of c.args.width in
    let r0 = left_of c.args.reader.now in
    let k = c.pass_masses-passed.result in
    let e = c.pass_masses-passed.ensures in
    let all : k ≡ c.args.count = omega (arith, e.most, c.if-passed-count.false) in
    tested_read w c.args.p.now c.args.kind.step c.args.kind.level c.greatest_mass-greatest.result c.args.count k r0 c.greatest_mass-greatest.ensures.value e.most e.inside e.within all
    ∙ ap (λ j. read (numbers w j r0.bytes) (after (byte_len w * k) r0)) all
    ∙ ap (λ (f : Left). read (numbers w c.args.count r0.bytes) f) (sym e.left)

pub returns-then-passed-count-clause-bad : goal.returns-then-passed-count-clause-bad
returns-then-passed-count-clause-bad c =
    let w = width_of c.args.width in
    let r0 = left_of c.args.reader.now in
    let k = c.pass_masses-passed.result in
    let e = c.pass_masses-passed.ensures in
    tested_bad w c.args.p.now c.args.kind.step c.args.kind.level c.greatest_mass-greatest.result c.args.count k r0 c.greatest_mass-greatest.ensures.value e.most e.inside e.within c.if-passed-count.true (e.next c.if-passed-count.true)
    ∙ ap (λ (j : ℕ). bad j) (sym (c.place-place.ensures.place ∙ ap (λ (f : Left). f.place) e.left))

pub returns-clause-inside : goal.returns-clause-inside
unfolding left_of whole_of
returns-clause-inside c =
    let w = width_of c.args.width in
    let r = c.args.reader.now in
    let k = c.pass_masses-passed.result in
    let e = c.pass_masses-passed.ensures in
    let all : k ≡ c.args.count = omega (arith, e.most, c.if-passed-count.false) in
    let bytes : byte_len w * k ≡ byte_len w * c.args.count = ap (λ (n : ℕ). byte_len w * n) all in
    omega (arith, e.inside, r.inside, bytes, length-drop r.place r.bytes.now)

pub returns-clause-small : goal.returns-clause-small
returns-clause-small c =
    λ i h. omega (arith, c.pass_masses-passed.ensures.within i (omega (arith, h, c.if-passed-count.false)), c.greatest_mass-greatest.ensures.small)
