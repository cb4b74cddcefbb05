use Rattle.std.proofs.Common.{◌≡◌, true}
use Rattle.std.proofs.lemmas.Bool.{and_parts}
use Rattle.amr_decoder.proofs.boxes.is_fine.Goals as goal

pub returns-clause-small : goal.returns-clause-small
returns-clause-small c h =
    let proper : c.is_proper-proper.result ≡ true = (and_parts c.is_proper-proper.result c.is_aligned-aligned.result h).0 in
    record {
      wide = c.is_proper-proper.ensures.wide proper;
      high = c.is_proper-proper.ensures.high proper;
      east = c.lies_in.ensures.east c.if-not-lies_in.false;
      north = c.lies_in.ensures.north c.if-not-lies_in.false;
    }
