-- What a judge holds may be sent to another thread, and what it reads may be shared with one. The services are so many that the prover's own
-- search ends before it has gone through them, so each part is shown by itself.
use mathlib.Core.List.{[], ◌∷◌}
use mir.Syntax.{Sym}
use denote.RattleType.{RattleType}
use denote.Ref.{NamedLft}
use denote.Param.Object.{Ghosts, table_of}
use denote.Param.Send.{IsSend, IsSync, recorded_send, sendable, struct_send}
use denote.Param.Sent.{Syncs}
use denote.Struct.Tuple.{TupleAt}
use Rattle.std.proofs.Crossing.{Box-sync, crosses, dyn_box_sync}
use Rattle.std.specs.contracts.alloc.Global.{the_row as heap_row}
use Rattle.std.specs.contracts.dyn_box.DynBox.{the_field as box_field}
use Rattle.std.specs.contracts.impls.GlobalAllocator.TheImpl.{ghosts}
use Rattle.std_collections.proofs.Crosses.{BTreeMap-send}
use Rattle.circular_buffer.proofs.Crosses.{Cells-send, Deed-send}
use Rattle.apex_types.specs.contracts.record.Ordered.{the_row as ordered_row}
use Rattle.apex_types.specs.contracts.service.Service.{the_field as service_field}
use Rattle.apex_machine.specs.contracts.state.Outcome.{the_field as outcome_field}
use Rattle.apex_machine.specs.contracts.state.Process.{the_field as process_field}
use Rattle.module_config.specs.contracts.config.Config.{the_row as config_row}
use Rattle.scheduling.specs.contracts.clock.Clock.{the_field as clock_field}
use Rattle.scheduling.specs.contracts.table.ProcTable.{the_field as table_field}
use Rattle.wait_set.specs.contracts.queue.MessageQueue.{the_field as queue_field}
use Rattle.wait_set.specs.contracts.set.WaitSet.{the_field as set_field}
use Rattle.partition_objects.specs.contracts.blackboard.Blackboard.{the_field as blackboard_field}
use Rattle.partition_objects.specs.contracts.buffer.Buffer.{the_field as buffer_field}
use Rattle.partition_objects.specs.contracts.event.Event.{the_field as event_field}
use Rattle.partition_objects.specs.contracts.lock.PreemptionLock.{the_field as lock_field}
use Rattle.partition_objects.specs.contracts.mutex.Mutex653.{the_field as mutex_field}
use Rattle.partition_objects.specs.contracts.port_table.PortTable.{the_field as ports_field}
use Rattle.partition_objects.specs.contracts.semaphore.Semaphore.{the_field as semaphore_field}
use Rattle.partition_objects.specs.contracts.table.ObjectTable.{the_field as objects_field}
use Rattle.channel.specs.contracts.channel.Channel.{the_field as channel_field}
use Rattle.partition_state.specs.contracts.state.PartitionState.{the_field as partition_field}
use Rattle.piece_check.specs.contracts.channel_piece.ChannelPiece.{the_field as channel_piece_field}
use Rattle.piece_check.specs.contracts.held.Held.{the_field as held_field}
use Rattle.piece_check.specs.contracts.module_piece.ModulePiece.{the_field as module_piece_field}
use Rattle.piece_check.specs.contracts.partition_piece.PartitionPiece.{the_field as partition_piece_field}
use Rattle.piece_check.specs.contracts.piece.Piece.{the_field as piece_field}
use Rattle.piece_check.specs.contracts.touched.Touched.{the_field as touched_field}
use Rattle.piece_check.specs.contracts.windows.Windows.{the_field as windows_field}
use Rattle.user_rules.proofs.relation.Relation.TheLaws.TheKnot.{sync-Relation}
use Rattle.user_rules.specs.contracts.memory.RuleMemory.{the_row as memory_row}
use Rattle.user_rules.specs.contracts.relation.Relation.{the_field as relation_field}
use Rattle.user_rules.specs.contracts.rule.Rule.{the_row as rule_row}
use Rattle.verdict_merge.specs.contracts.judge.Judge.{the_row as judge_row}
use Rattle.verdict_merge.specs.contracts.remembering.Remembering.{the_field as remembering_field}
use Rattle.report.specs.contracts.options.Options.{the_row as options_row}

-- ---- processes

service_is_sent : IsSend service_field.row
service_is_sent = search sendable depth 90 fits 5000

service_is_shared : IsSync service_field.row
service_is_shared = search sendable depth 90 fits 5000

outcome_is_sent : IsSend outcome_field.row
outcome_is_sent = search (sendable, crosses, service_is_sent) depth 60 fits 20000

process_is_sent : IsSend process_field.row
process_is_sent = search (sendable, crosses, outcome_is_sent) depth 60 fits 20000

table_is_sent : IsSend table_field.row
table_is_sent = search (sendable, crosses, process_is_sent) depth 60 fits 20000

-- ---- objects

set_is_sent : IsSend set_field.row
set_is_sent = search (sendable, crosses, BTreeMap-send) depth 60 fits 20000

queue_is_sent : IsSend queue_field.row
queue_is_sent = search (sendable, crosses, Cells-send, Deed-send, set_is_sent) depth 60 fits 20000

objects_are_sent : (Object : RattleType) → IsSend Object → IsSend (objects_field Object).row
objects_are_sent Object is = search (sendable, crosses) depth 60 fits 20000

buffer_is_sent : IsSend buffer_field.row
buffer_is_sent = search (sendable, crosses, queue_is_sent) depth 60 fits 20000

blackboard_is_sent : IsSend blackboard_field.row
blackboard_is_sent = search (sendable, crosses, set_is_sent) depth 60 fits 20000

semaphore_is_sent : IsSend semaphore_field.row
semaphore_is_sent = search (sendable, crosses, set_is_sent) depth 60 fits 20000

event_is_sent : IsSend event_field.row
event_is_sent = search (sendable, crosses, set_is_sent) depth 60 fits 20000

mutex_is_sent : IsSend mutex_field.row
mutex_is_sent = search (sendable, crosses, set_is_sent) depth 60 fits 20000

lock_is_sent : IsSend lock_field.row
lock_is_sent = search (sendable, crosses, set_is_sent) depth 60 fits 20000

ports_are_sent : IsSend ports_field.row
ports_are_sent = search (sendable, crosses, objects_are_sent) depth 60 fits 20000

-- ---- pieces

partition_is_sent : IsSend partition_field.row
partition_is_sent =
    search (
      sendable,
      crosses,
      table_is_sent,
      objects_are_sent,
      ports_are_sent,
      buffer_is_sent,
      blackboard_is_sent,
      semaphore_is_sent,
      event_is_sent,
      mutex_is_sent,
      lock_is_sent,
    ) depth 60 fits 20000

clock_is_sent : IsSend clock_field.row
clock_is_sent = search (sendable, crosses) depth 200 fits 100000

channel_is_sent : IsSend channel_field.row
channel_is_sent = search (sendable, crosses, queue_is_sent) depth 200 fits 100000

module_piece_is_sent : IsSend module_piece_field.row
module_piece_is_sent = search (sendable, crosses, clock_is_sent) depth 60 fits 20000

partition_piece_is_sent : IsSend partition_piece_field.row
partition_piece_is_sent = search (sendable, crosses, clock_is_sent, partition_is_sent) depth 60 fits 20000

channel_piece_is_sent : IsSend channel_piece_field.row
channel_piece_is_sent = search (sendable, crosses, channel_is_sent) depth 60 fits 20000

held_is_sent : IsSend held_field.row
held_is_sent = search (sendable, crosses, module_piece_is_sent, partition_piece_is_sent, channel_piece_is_sent) depth 60 fits 20000

piece_is_sent : IsSend piece_field.row
piece_is_sent = search (sendable, crosses, held_is_sent) depth 60 fits 20000

-- ---- what a closure that judges takes with it

touched_is_sent : IsSend touched_field.row
touched_is_sent = search (sendable, crosses) depth 60 fits 20000

windows_are_sent : IsSend windows_field.row
windows_are_sent = search (sendable, crosses) depth 60 fits 20000

remembering_is_sent : IsSend remembering_field.row
remembering_is_sent = search (sendable, crosses) depth 60 fits 20000

pub judge_is_sent : IsSend judge_row
judge_is_sent = search (sendable, crosses, piece_is_sent, touched_is_sent, windows_are_sent, remembering_is_sent) depth 60 fits 20000

pub config_is_shared : IsSync config_row
config_is_shared = search (sendable, crosses) depth 200 fits 100000

pub ordered_is_shared : IsSync ordered_row
ordered_is_shared = search (sendable, crosses, service_is_shared) depth 100 fits 50000

relation_is_shared : IsSync relation_field.row
relation_is_shared = sync-Relation (search sendable depth 100 fits 20000) (λ held shared. Box-sync held shared)

pub memory_is_shared : IsSync memory_row
memory_is_shared = search (sendable, crosses, relation_is_shared) depth 100 fits 50000

-- a rule is shared where the calls that its test may be are shared
pub rule_is_shared : (T : RattleType) (g : Ghosts T.Denot) (h : _)
    → IsSync T → Syncs (table_of T.Denot g) → IsSync (rule_row T g h)
rule_is_shared T g h is calls =
    let boxed : IsSync (box_field T heap_row g ghosts).row = dyn_box_sync T g calls is in
    search (sendable, relation_is_shared) depth 20

pub options_are_shared : (a : NamedLft) (Gate : RattleType) → IsSync Gate → IsSync (options_row a Gate)
options_are_shared a Gate is = search sendable depth 20

-- a closure with seven captures is sent where each of them is
pub captures_are_sent : (ν : Sym) (A B C D E F G : RattleType) → IsSend A → IsSend B → IsSend C → IsSend D → IsSend E → IsSend F → IsSend G
    → IsSend (TupleAt ν (A ∷ B ∷ C ∷ D ∷ E ∷ F ∷ G ∷ []))
captures_are_sent ν A B C D E F G a b c d e f g = search (recorded_send, struct_send) depth 20
