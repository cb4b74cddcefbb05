use Rattle.std.proofs.Common.{◌∙◌, ◌||◌, arith}
use Rattle.amr_witness_regrid.proofs.Near.{up_more}
use Rattle.amr_witness_regrid.proofs.wanted.is_wanted.Goals as goal

pub is_grown-grown-requires-clause-buffer : goal.is_grown-grown-requires-clause-buffer
is_grown-grown-requires-clause-buffer c = c.as_slice.ensures.value ∙ c.requires.offsets.buffer

pub is_grown-grown-requires-clause-near : goal.is_grown-grown-requires-clause-near
is_grown-grown-requires-clause-near c = up_more 4098 10000 c.args.c (omega arith) c.requires.cell

pub is_projected-requires-clause-known : goal.is_projected-requires-clause-known
is_projected-requires-clause-known c = omega (arith, c.requires.known, c.args.p.now.limits.greatest_max_level)

pub is_projected-requires-clause-ring : goal.is_projected-requires-clause-ring
is_projected-requires-clause-ring c = c.as_slice-2.ensures.value ∙ c.requires.offsets.ring

pub returns : goal.returns
returns c =
    let e0 = c.is_grown-grown.ensures in
    let e1 = c.is_projected.ensures in λ i. e0 i || e1 i
