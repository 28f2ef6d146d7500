use Rattle.std.{proofs.Common.List, proofs.Common.sym, proofs.Common.subst, specs.Prelude.Result, specs.Prelude.OnOk}
use Rattle.monk_history.specs.{declared.event.Event.Event, Meaning.Monitor.monitor}
use Rattle.monk_audit.specs.Replay.{IsReplayOf, replay_situation}
use Rattle.monk_completion.proofs.completing.follow.Goals as goal
use Rattle.monk_completion.proofs.Lines.{Follows, ends, fits, goes, misfits, opens}
use Rattle.monk_completion.specs.declared.blame.Blame.{Blame}
use Rattle.monk_completion.specs.declared.pending.Pending.{Pending, TheVariants.Settled}

pub loop-i-init : goal.loop-i-init
loop-i-init g c =
    let k = c.args.setting in
    let o = g.T.Guarded.meaning in
    let d = g.T.Guarded.state c.args.object in
    let m = monitor k.rules k.seats k.conds o d in
    let t = replay_situation c.in_ok-replay.replay d in
    record {
      on = subst (λ (past : List Event). Follows m c.args.lines.now 0 t Settled past) (sym c.new-events.ensures.items)
          (opens m c.args.lines.now t (c.in_ok-replay.ensures.stands k.rules o d));
      sound = c.in_ok-replay.ensures.sound g.T.Guarded.PREDICATES;
    }

pub loop-i-preserved : goal.loop-i-preserved
loop-i-preserved g c =
    let k = c.args.setting in
    let o = g.T.Guarded.meaning in
    let t = replay_situation c.loop-i.replay (g.T.Guarded.state c.loop-i.object) in
    let u = replay_situation c.judge_line.new.replay (g.T.Guarded.state c.judge_line.new.object) in
    record {
      on = goes k.rules k.seats k.conds o (g.T.Guarded.state c.args.object) c.args.lines.now c.loop-i.i t
          c.loop-i.pending c.loop-i.events.items c.loop-i.invariant.on _ u c.in_ok-left.field-0 c.loop-i-test.true
          c.in_ok-left.ensures.judged c.in-Ok.left c.judge_line.new.events.items c.in-Ok.is
          c.in_ok-left.ensures.events;
      sound =
          subst (λ (r : Result Pending Blame). OnOk r
          (IsReplayOf k.seats k.conds g.T.Guarded.PREDICATES c.judge_line.new.replay)) c.in-Ok.is
          c.in_ok-left.ensures.sound;
    }

pub returns-in-Err : goal.returns-in-Err
returns-in-Err g c =
    let k = c.args.setting in
    let o = g.T.Guarded.meaning in
    let t = replay_situation c.loop-i.replay (g.T.Guarded.state c.loop-i.object) in
    let u = replay_situation c.judge_line.new.replay (g.T.Guarded.state c.judge_line.new.object) in (
      misfits k.rules k.seats k.conds o (g.T.Guarded.state c.args.object) c.args.lines.now c.loop-i.i t
          c.loop-i.pending c.loop-i.events.items c.loop-i.invariant.on _ u c.in_ok-left.field-0 c.loop-i-test.true
          c.in_ok-left.ensures.judged c.in-Err.blame c.in-Err.is,
      tt,
    )

pub returns : goal.returns
returns g c =
    let k = c.args.setting in
    let o = g.T.Guarded.meaning in
    let t = replay_situation c.loop-i.replay (g.T.Guarded.state c.loop-i.object) in (
      fits k.rules k.seats k.conds o (g.T.Guarded.state c.args.object) c.args.lines.now c.loop-i.i t c.loop-i.pending
          c.loop-i.events.items c.loop-i.invariant.on c.loop-i-test.false,
      ends k.rules k.seats k.conds o (g.T.Guarded.state c.args.object) c.args.lines.now c.loop-i.i t c.loop-i.pending
          c.loop-i.events.items c.loop-i.invariant.on c.loop-i-test.false c.end.new.events.items c.requires.kind
          c.in_ok-end.ensures,
    )
