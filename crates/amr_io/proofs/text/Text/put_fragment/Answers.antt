use Rattle.amr_io.proofs.text.Text.put_fragment.Goals as goal

pub returns-in-Str-clause-short : goal.returns-in-Str-clause-short
returns-in-Str-clause-short g c = rw c.in-Str.is c.put_str.ensures.short

pub returns-in-Number-clause-short : goal.returns-in-Number-clause-short
returns-in-Number-clause-short g c = rw c.in-Number.is c.put_number.ensures.short
