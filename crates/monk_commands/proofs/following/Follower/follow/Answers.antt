use Rattle.std.proofs.Common.{◌∙◌, [], get_or, arith}
use Rattle.monk_history.specs.Meaning.{Monitor.monitor, Reasons.reason_in}
use Rattle.monk_history.specs.declared.event.{Event.TheVariants.Enter, Via.TheVariants.Free}
use Rattle.monk_audit.proofs.PublicLaws.{none_by_number}
use Rattle.monk_audit.specs.{Reasons.number_or_0, Replay.replay_situation, Replay.seats_in}
use Rattle.monk_commands.proofs.following.Follower.follow.Goals as goal
use Rattle.monk_commands.proofs.Followed.{followed_more}
use Rattle.std.proofs.lemmas.Grind.{common_steps}

pub loop-index-preserved : goal.loop-index-preserved
loop-index-preserved g c =
    let o = g.T.Guarded.meaning in
    let conds = c.args.self.now.conds in
    let held = c.loop-index.invariant in
    let n = seats_in c.args.self.now.replay in
    let t = replay_situation c.loop-index.self.replay (g.T.Guarded.state c.loop-index.self.object) in
    let e = get_or c.args.events.now c.loop-index.index (Enter 0 Free) in
    let carried = c.in_ok-carry_out.ensures in
    record {
      same = held.same;
      sound = grind (arith, common_steps);
      stands = λ opening legal begun.
          followed_more c.args.rules n conds o opening c.args.events.now c.loop-index.index t
          (replay_situation c.carry_out.new.self (g.T.Guarded.state c.carry_out.new.object))
          (number_or_0 c.in_ok-carry_out.field-0) c.loop-index-test.true legal (held.stands opening legal begun)
          (carried.reason ∙ (λ i. reason_in (monitor c.args.rules (held.sound.has_seats i) (held.same i) o []) t e))
          (λ none. carried.after (none_by_number c.in_ok-carry_out.field-0 none));
    }
