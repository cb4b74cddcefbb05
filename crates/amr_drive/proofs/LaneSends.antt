-- A lane may go to another thread, with its mesh and what is kept of it.
use denote.RattleType.{RattleType}
use denote.Ref.{NamedLft}
use denote.Param.Send.{IsSend, sendable}
use denote.Param.SendFields.{as_row_send, declared_send}
use Rattle.std.specs.contracts.snapshot.Snapshot.{the_row as snapshot_row}
use Rattle.std.proofs.alloc.Global.TheSendSync.{the_send as global_send, the_sync as global_sync}
use Rattle.std.below.std_heap.proofs.GlobalAllocator.TheSendSync.{the_frees as frees}
use Rattle.std.proofs.boxed.Box.TheSendSync.{the_send as box_send}
use Rattle.std.proofs.vec.Vec.TheSendSync.{the_send as vec_send}
use Rattle.amr_board.proofs.board.Shape.TheSendSync.{the_send as shape_send}
use Rattle.amr_box.proofs.Cell.TheSendSync.{the_send as cell_send}
use Rattle.amr_box.proofs.Bx.TheSendSync.{the_send as bx_send}
use Rattle.amr_def.proofs.problem.Problem.TheSendSync.{the_sync as problem_sync}
use Rattle.amr_flux.proofs.fluxes.PatchSides.TheSendSync.{the_send as sides_send}
use Rattle.amr_flux.proofs.room.Room.TheSendSync.{the_send as room_send}
use Rattle.amr_ghost.proofs.messages.Message.TheSendSync.{the_send as message_send}
use Rattle.amr_ghost.proofs.outer.OuterGhosts.TheSendSync.{the_send as outer_send}
use Rattle.amr_ghost.proofs.parts.FrameCopy.TheSendSync.{the_send as copy_send}
use Rattle.amr_layout.proofs.level_flows.LevelFlows.TheSendSync.{the_send as flows_send}
use Rattle.amr_layout.proofs.PatchLayout.TheSendSync.{the_send as layout_send}
use Rattle.amr_lots.proofs.lot.Correction.TheSendSync.{the_send as correction_send}
use Rattle.amr_lots.specs.contracts.lot.Workspace.{the_row as workspace_row, the_type as workspace_type}
use Rattle.amr_lots.specs.contracts.lot.Lot.{the_row as lot_row, the_type as lot_type}
use Rattle.amr_advance.specs.contracts.lots.Lots.{the_row as lots_row, the_type as lots_type}
use Rattle.amr_advance.specs.contracts.kept_layout.KeptLayout.{the_row as kept_layout_row, the_type as kept_layout_type}
use Rattle.amr_cycle.specs.contracts.kept.KeptCoarser.{the_row as below_row, the_type as below_type}
use Rattle.amr_cycle.specs.contracts.kept.KeptLevel.{the_row as kept_level_row, the_type as kept_level_type}
use Rattle.amr_cycle.specs.contracts.kept.Kept.{the_row as kept_row, the_type as kept_type}
use Rattle.amr_drive.specs.contracts.lanes.Lane.{the_row as lane_row, the_type as lane_type}
use Rattle.amr_patch.proofs.patches.Patch.TheSendSync.{the_send as patch_send}
use Rattle.amr_patch.proofs.levels.Level.TheSendSync.{the_send as level_send}
use Rattle.amr_patch.proofs.meshes.Mesh.TheSendSync.{the_send as mesh_send}
use Rattle.amr_register.proofs.edges.EdgeCell.TheSendSync.{the_send as edge_send}
use Rattle.amr_register.proofs.register.Register.TheSendSync.{the_send as register_send}

-- what a step is worked out from owns nothing
snapshot_send : (Y : RattleType) → IsSend (snapshot_row Y)
snapshot_send Y = record { owned = λ d vs. ((λ vss. (tt, ((λ uss. (tt, tt)), tt))), tt); leaving = λ k f vs. tt }

ruleset parts = (as_row_send, sendable, snapshot_send, cell_send, bx_send, shape_send, layout_send, flows_send, sides_send, copy_send, outer_send, message_send, room_send, patch_send, edge_send, correction_send, level_send, register_send, box_send, vec_send, global_send, global_sync, frees)

-- field by field
workspace_send : IsSend workspace_row
workspace_send = declared_send workspace_type (search parts depth 12 fits 2000, (search parts depth 12 fits 2000, (search parts depth 12 fits 2000, (search parts depth 12 fits 2000, (search parts depth 12 fits 2000, (search parts depth 12 fits 2000, (search parts depth 12 fits 2000, (search parts depth 12 fits 2000, (search parts depth 12 fits 2000, (search parts depth 12 fits 2000, (search parts depth 12 fits 2000, tt)))))))))))

lot_send : IsSend lot_row
lot_send = declared_send lot_type (search parts depth 12 fits 2000, (search parts depth 12 fits 2000, (search parts depth 12 fits 2000, (search parts depth 12 fits 2000, (search (parts, workspace_send) depth 12 fits 2000, tt)))))

lots_send : IsSend lots_row
lots_send = declared_send lots_type (search parts depth 12 fits 2000, (search parts depth 12 fits 2000, (search parts depth 12 fits 2000, (search parts depth 12 fits 2000, (search parts depth 12 fits 2000, (search parts depth 12 fits 2000, (search (parts, lot_send) depth 12 fits 2000, (search parts depth 12 fits 2000, tt))))))))

kept_layout_send : IsSend kept_layout_row
kept_layout_send = declared_send kept_layout_type (search parts depth 12 fits 2000, (search parts depth 12 fits 2000, (search parts depth 12 fits 2000, (search parts depth 12 fits 2000, (search (parts, lots_send) depth 12 fits 2000, tt)))))

below_send : IsSend below_row
below_send = declared_send below_type (search parts depth 12 fits 2000, (search parts depth 12 fits 2000, (search parts depth 12 fits 2000, tt)))

kept_level_send : IsSend kept_level_row
kept_level_send = declared_send kept_level_type (search (parts, kept_layout_send) depth 12 fits 2000, (search (parts, below_send) depth 12 fits 2000, tt))

kept_send : IsSend kept_row
kept_send = declared_send kept_type (search (parts, kept_level_send) depth 12 fits 2000, tt)

pub lane_send : (a : NamedLft) → IsSend (lane_row a)
lane_send a = declared_send (lane_type a) (search (parts, problem_sync) depth 12 fits 2000, (search parts depth 12 fits 2000, (search (parts, kept_send) depth 12 fits 2000, (search (parts, mesh_send) depth 12 fits 2000, (search parts depth 12 fits 2000, tt)))))

pub ruleset lanes_sendable = (lane_send, sendable)
