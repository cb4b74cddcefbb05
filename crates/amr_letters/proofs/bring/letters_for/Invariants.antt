use Rattle.amr_letters.specs.Shared.{sharing}
use Rattle.amr_letters.proofs.Made.{AreMade}
use Rattle.amr_letters.proofs.bring.letters_for.Given as goal

abbrev pub invariant-loop-from : goal.invariant-loop-from
invariant-loop-from l = AreMade (sharing l.s) l.ranks l.to l.from l.lists.items l.letters.items
