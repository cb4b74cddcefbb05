use Rattle.amr_board.proofs.Planning.{totals_of_pieces, faces_of_pieces, put_of_piece}
use Rattle.amr_board.proofs.laws.plans_of_pieces.Goals as goal

pub returns-clause-totals : goal.returns-clause-totals
returns-clause-totals g c = λ places words pieces word. totals_of_pieces g.P.Piece.puts g.P.Piece.adds places words pieces word

pub returns-clause-faces : goal.returns-clause-faces
returns-clause-faces g c = λ places words pieces place. faces_of_pieces g.P.Piece.puts g.P.Piece.adds places words pieces place

pub returns-clause-put : goal.returns-clause-put
returns-clause-put g c = λ places words pieces task k p put ok at is. put_of_piece g.P.Piece.puts g.P.Piece.adds places words pieces task k p put ok at is
