-- A piece may go to another thread, with the lot that it has.
use denote.RattleType.{RattleType}
use denote.Param.Send.{IsSend, sendable}
use denote.Param.SendFields.{as_row_send, declared_send}
use Rattle.std.specs.contracts.snapshot.Snapshot.{the_row as snapshot_row}
use Rattle.std.proofs.alloc.Global.TheSendSync.{the_send as global_send, the_sync as global_sync}
use Rattle.std.below.std_heap.proofs.GlobalAllocator.TheSendSync.{the_frees as frees}
use Rattle.std.proofs.boxed.Box.TheSendSync.{the_send as box_send}
use Rattle.std.proofs.vec.Vec.TheSendSync.{the_send as vec_send}
use Rattle.amr_flux.proofs.fluxes.PatchSides.TheSendSync.{the_send as sides_send}
use Rattle.amr_flux.proofs.room.Room.TheSendSync.{the_send as room_send}
use Rattle.amr_ghost.proofs.messages.Message.TheSendSync.{the_send as message_send}
use Rattle.amr_ghost.proofs.outer.OuterGhosts.TheSendSync.{the_send as outer_send}
use Rattle.amr_ghost.proofs.parts.FrameCopy.TheSendSync.{the_send as copy_send}
use Rattle.amr_layout.proofs.level_flows.LevelFlows.TheSendSync.{the_send as flows_send}
use Rattle.amr_layout.proofs.PatchLayout.TheSendSync.{the_send as layout_send}
use Rattle.amr_lots.proofs.lot.Correction.TheSendSync.{the_send as correction_send}
use Rattle.amr_lots.proofs.lot.Duty.TheSendSync.{the_send as duty_send}
use Rattle.amr_lots.proofs.lot.LotStage.TheSendSync.{the_send as stage_send}
use Rattle.amr_lots.specs.contracts.lot.Workspace.{the_row as workspace_row, the_type as workspace_type}
use Rattle.amr_lots.specs.contracts.lot.Lot.{the_row as lot_row, the_type as lot_type}
use Rattle.amr_lots.specs.contracts.lot.Work.{the_row as work_row, the_type as work_type}
use Rattle.amr_patch.proofs.patches.Patch.TheSendSync.{the_send as patch_send}
use Rattle.amr_register.proofs.edges.EdgeCell.TheSendSync.{the_send as edge_send}

-- what a step is worked out from owns nothing
snapshot_send : (Y : RattleType) → IsSend (snapshot_row Y)
snapshot_send Y = record { owned = λ d vs. ((λ vss. (tt, ((λ uss. (tt, tt)), tt))), tt); leaving = λ k f vs. tt }

ruleset parts = (as_row_send, sendable, snapshot_send, layout_send, flows_send, sides_send, copy_send, outer_send, message_send, room_send, patch_send, edge_send, correction_send, duty_send, stage_send, box_send, vec_send, global_send, global_sync, frees)

-- field by field
workspace_send : IsSend workspace_row
workspace_send = declared_send workspace_type (search parts depth 12 fits 2000, (search parts depth 12 fits 2000, (search parts depth 12 fits 2000, (search parts depth 12 fits 2000, (search parts depth 12 fits 2000, (search parts depth 12 fits 2000, (search parts depth 12 fits 2000, (search parts depth 12 fits 2000, (search parts depth 12 fits 2000, (search parts depth 12 fits 2000, (search parts depth 12 fits 2000, tt)))))))))))

lot_send : IsSend lot_row
lot_send = declared_send lot_type (search parts depth 12 fits 2000, (search parts depth 12 fits 2000, (search parts depth 12 fits 2000, (search parts depth 12 fits 2000, (search (parts, workspace_send) depth 12 fits 2000, tt)))))

pub work_send : IsSend work_row
work_send = declared_send work_type (search parts depth 12 fits 2000, (search parts depth 12 fits 2000, (search parts depth 12 fits 2000, (search parts depth 12 fits 2000, (search (parts, lot_send) depth 12 fits 2000, (search parts depth 12 fits 2000, tt))))))

-- so that a board of pieces serves several threads
pub ruleset works_sendable = (work_send, sendable)
