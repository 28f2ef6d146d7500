use Rattle.std.proofs.Common.{◌≡◌, ◌∙◌, ℕ, Bool, true, false, cond, not, Some, None, refl, ap, []}
use Rattle.monk_history.specs.Meaning.{Monitor.Monitor, Monitor.monitor, Situation.Situation}
use Rattle.monk_history.specs.Meaning.Reasons.{is_in_place, is_in_range, is_in_turn, is_offered, reason_before}
use Rattle.monk_history.specs.declared.event.Event.{Event}
use Rattle.monk_audit.specs.Replay.{replay_situation}
use Rattle.monk_completion.proofs.blaming.early_blame.Goals as goal
use Rattle.monk_completion.specs.{Blame.early_blame, Blame.early_blame_of, Stand.monitor_in}
use Rattle.monk_completion.specs.declared.blame.Blame.TheVariants.{Range, Call}

of_four : (a b c d : Bool) → early_blame_of (cond (not a) 1 (cond (not b) 2 (cond (not c) 3 (cond (not d) 4 0))))
    ≡ cond (not a) (Some Range) (cond (not b) (Some Call) None)
of_four false b c d = refl
of_four true false c d = refl
of_four true true false d = refl
of_four true true true false = refl
of_four true true true true = refl

of_first : (m : Monitor) (t : Situation) (e : Event) → early_blame_of (reason_before 0 m t e) ≡ early_blame m e
of_first m t e = of_four (is_in_range m.seats m.conds m.object.codes m.object.predicates e) (is_offered m.kind e)
    (is_in_turn t e) (is_in_place m.object t e)

pub returns-in-Some : goal.returns-in-Some
returns-in-Some g c =
    let o = g.T.Guarded.meaning in
    let t = replay_situation c.args.replay.now (g.T.Guarded.state c.args.object.now) in
    c.of_early_reason.ensures
    ∙ ap early_blame_of (c.in-Some.ensures
    ∙ ap (λ (n : ℕ). reason_before 0 (monitor c.args.setting.rules n c.args.setting.conds o []) t c.args.event)
    c.requires.has_seats)
    ∙ of_first (monitor_in c.args.setting o) t c.args.event
