-- What a reader has left.
use Rattle.std.specs.Prelude.{ℕ, List, drop}
use Rattle.amr_payload.specs.Tests.{Left}
use Rattle.amr_decoder.specs.declared.reader.Reader.{Reader}

unfoldable pub left_of : Reader → Left
left_of r = record { place = r.place; bytes = drop r.place r.bytes.now }

-- all its bytes, those that were read too
unfoldable pub whole_of : Reader → List ℕ
whole_of r = r.bytes.now
