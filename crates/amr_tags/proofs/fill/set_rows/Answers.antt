use Rattle.std.proofs.Common.{◌*◌, ◌≤◌, ◌∙◌, refl, arith}
use Rattle.std.proofs.Math.Nat.{mul-le-mul_right}
use Rattle.amr_tags.specs.Bits.{bit_of}
use Rattle.amr_tags.proofs.Fills.{first-row, last-row, next-row}
use Rattle.amr_tags.proofs.fill.set_rows.Goals as goal

pub set_row-requires-clause-there : goal.set_row-requires-clause-there
set_row-requires-clause-there c =
    let below : c.loop-j.j ≤ c.args.last = omega arith in
    let rows : c.loop-j.j * c.args.per_row ≤ c.args.last * c.args.per_row = mul-le-mul_right c.args.per_row below in
    omega (arith, rows, c.requires.there, c.loop-j.invariant.1)

pub loop-j-init : goal.loop-j-init
loop-j-init c = (λ i r _. first-row (bit_of c.args.per_row c.args.words.now.items i r) c.args.from c.args.to c.args.first i r, refl)

pub loop-j-preserved : goal.loop-j-preserved
loop-j-preserved c = (
  λ i r h. c.set_row.ensures.bits i r h ∙ next-row (bit_of c.args.per_row c.args.words.now.items i r) (bit_of c.args.per_row c.loop-j.words.items i r) c.args.from c.args.to c.args.first c.loop-j.j i r (omega arith) (c.loop-j.invariant.0 i r h),
  c.set_row.ensures.count ∙ c.loop-j.invariant.1,
)

pub returns-clause-bits : goal.returns-clause-bits
returns-clause-bits c = λ i r h. c.loop-j.invariant.0 i r h ∙ last-row (bit_of c.args.per_row c.args.words.now.items i r) c.args.from c.args.to c.args.first c.args.last i r c.loop-j.j (omega arith)
