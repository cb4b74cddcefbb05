-- What comes back where there is no memory for a board.
use Rattle.std.specs.Prelude.{List}
use Rattle.amr_board.specs.declared.board.MakeFault.{MakeFault}
use Rattle.amr_board.specs.declared.board.MakeFault.TheVariants.{NoMemory}

abbrev pub pieces_back : {P : Type 0} → MakeFault P → List P
pieces_back (NoMemory pieces) = pieces.items
