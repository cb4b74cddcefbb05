use Rattle.amr_cli.proofs.Numerals.{taken_is_read, read_is_taken}
use Rattle.amr_cli.proofs.laws.numbers_are_read_alike.Goals as goal

pub returns : goal.returns
returns c low high text = (taken_is_read low high text, read_is_taken low high text)
