use Rattle.std.proofs.Common.{◌≡◌, ◌∙◌, ◌++◌, List, ap, length, subst, sym, take, arith}
use Rattle.std.proofs.{Math.Seq.take-append_seam, lemmas.Grind.common_steps}
use Rattle.monk_history.specs.Meaning.{Legal.IsLegal, Monitor.Monitor, Monitor.monitor, Situation.situation}
use Rattle.monk_history.specs.declared.event.Event.{Event}
use Rattle.monk_audit.specs.Replay.{seats_in}
use Rattle.monk_floor.specs.View.{FloorView, monitor_of}
use Rattle.monk_world.specs.WorldViews.{state_of_view}
use Rattle.monk_commands.proofs.following.Follower.step.Goals as goal

pub follow-requires-clause-sound : goal.follow-requires-clause-sound
follow-requires-clause-sound g c κs within = grind (arith, common_steps)

pub returns-clause-behind : goal.returns-clause-behind
returns-clause-behind g c =
    let k = g.K.Kind.rules in
    let o = g.T.Guarded.meaning in
    let old = (state_of_view c.args.world.now).floor in
    let new = (state_of_view c.step-answer.new.self).floor in
    let events = c.step-answer.ensures.taken.0 in
    let taken = c.step-answer.ensures.taken.1 in
    let b = c.requires in
    let all = c.history.result.now in
    let same : monitor_of k o new ≡ monitor_of k o old = ap (λ (f : FloorView). monitor_of k o f) taken.grows in
    let grown : new.history ≡ old.history ++ events = ap (λ (f : FloorView). f.history) taken.grows in
    let m = monitor c.rules_of.result (seats_in c.args.self.now.replay) c.args.self.now.conds o old.opening in
    let named : m ≡ monitor_of k o old = grind (arith, common_steps) in
    let front : take (length c.history-done.result.now) all ≡ old.history =
    grind (arith, common_steps, take-append_seam) in
    let legal : IsLegal m all =
    subst (λ (h : List Event). IsLegal m h) (sym c.history.ensures.history)
    (subst (λ (x : Monitor). IsLegal x new.history) (same ∙ sym named) c.history.ensures.legal) in
    let stands = c.in_ok-follow.ensures.stands old.opening legal
    (b.stands ∙ sym (λ i. situation (named i) (front i))) in
    grind (arith, common_steps)
