use Rattle.amr_lots.proofs.Looking.{looks_on, no_look}
use Rattle.amr_lots.proofs.Reading.{still_swept}
use Rattle.amr_lots.proofs.job.finish_in_time.Goals as goal

pub looks-init : goal.looks-init
looks-init c = record { seat = c.requires.seat; looked = no_look c.args.seat.now.me.0; stands = λ raw h. h; ready = c.requires.ready }

pub looks-preserved : goal.looks-preserved
looks-preserved c = record {
  seat = c.finish-work.ensures.seat;
  looked = looks_on _ _ _ c.looks.invariant.looked c.finish-work.ensures.looked;
  stands = λ raw h. c.finish-work.ensures.stands raw (c.looks.invariant.stands raw h);
  ready = c.finish-work.ensures.again (still_swept c.finish-work.result.stage c.finish-work.ensures.stage (c.is_finished.ensures.unfinished c.if-is_finished.false));
}

pub returns-then-is_finished-clause-looked : goal.returns-then-is_finished-clause-looked
returns-then-is_finished-clause-looked c = looks_on _ _ _ c.looks.invariant.looked c.finish-work.ensures.looked

pub returns-then-is_finished-clause-stands : goal.returns-then-is_finished-clause-stands
returns-then-is_finished-clause-stands c = λ raw h. c.finish-work.ensures.stands raw (c.looks.invariant.stands raw h)
