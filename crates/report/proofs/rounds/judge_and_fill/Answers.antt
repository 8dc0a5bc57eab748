-- The pieces are large, so each part of what goes to the other thread is shown by itself.
use denote.Exit.{no}
use denote.Param.Callables.{held_fn}
use denote.Param.Object.{Vt, ghosts_of}
use denote.Param.Send.{arg_send, mut_send, param_send, shr_send, shr_slice_send}
use denote.Param.Sent.{code_sync}
use Rattle.report.specs.contracts.rounds.judge_and_fill.dyn-1.{slots}
use Rattle.report.proofs.Sent.{captures_are_sent, config_is_shared, judge_is_sent, memory_is_shared, options_are_shared, ordered_is_shared, rule_is_shared}
use Rattle.report.proofs.rounds.judge_and_fill.Lts.{arg-2-1}
use Rattle.report.proofs.rounds.judge_and_fill.Goals as goal

pub join_mut-requires-send-F : goal.join_mut-requires-send-F
join_mut-requires-send-F g c κs within =
    let calls = slots g.row.T g.row.R g.row.C g.row.G in
    let rules_are_shared = rule_is_shared (Vt calls g.dyn-1.0) (ghosts_of calls g.dyn-1.0 g.dyn-1.1) (held_fn g.dyn-1.0) (search code_sync) g.dyn-1.3 in
    let closure = arg-2-1 g.row.T g.row.R g.row.C g.row.G g.T.laws g.R.laws g.C.laws g.G.laws g.T.Threads g.T.Threads-dict g.T.Wait g.T.Wait-dict g.R.TextSource g.R.TextSource-dict g.C.TextSource g.C.TextSource-dict g.G.Gate g.G.Gate-dict g.dyn-1 g.dyn-1-has κs in
    param_send 1 closure (arg_send _ no _ (captures_are_sent _ _ _ _ _ _ _ _
    (shr_send _ _ _ c.type_bounds.sync-T)
    (shr_send _ _ _ config_is_shared)
    (shr_slice_send _ _ _ memory_is_shared)
    (shr_slice_send _ _ _ rules_are_shared)
    (shr_send _ _ _ (options_are_shared _ _ c.type_bounds.sync-G))
    (mut_send _ _ _ judge_is_sent)
    (shr_slice_send _ _ _ ordered_is_shared)))
