-- Kept workers may begin in other threads, each with the pieces that come to it.
use denote.Param.Send.{sendable}
use Rattle.std.proofs.alloc.Global.TheSendSync.{the_send as global_send, the_sync as global_sync}
use Rattle.std.below.std_heap.proofs.GlobalAllocator.TheSendSync.{the_frees as frees}
use Rattle.std.proofs.vec.Vec.TheSendSync.{the_send as vec_send}
use Rattle.amr_workers.proofs.helper.Recruit.TheSendSync.{the_send as recruit_send}
use Rattle.amr_lots.proofs.job.LevelWork.TheSendSync.{the_sync as job_sync}
use Rattle.amr_advance.proofs.WorkSends.{work_send}

pub ruleset recruits_sendable = (work_send, vec_send, global_send, global_sync, frees, recruit_send, job_sync, sendable)
