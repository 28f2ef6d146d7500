use Rattle.std.proofs.Common.{◌<◌, ap, sym, subst, ◌∙◌, arith}
use Rattle.monk_history.specs.{Meaning.Counts.left_of, Meaning.Events.seat_of, Meaning.Monitor.data_after}
use Rattle.monk_history.specs.{Meaning.Reasons.IsAllowed, declared.event.Event.Event}
use Rattle.monk_floor.proofs.floor.Floor.release.Goals as goal
use Rattle.monk_floor.proofs.CallLaws.{as_it_was, keeps_data, same_seat}
use Rattle.monk_floor.specs.View.{monitor_of}
use Rattle.std.proofs.lemmas.Grind.{common_steps}

pub append-requires-clause-allowed : goal.append-requires-clause-allowed
append-requires-clause-allowed g c κs within =
    subst (λ (e : Event). IsAllowed (monitor_of g.K.Kind.rules g.T.Guarded.meaning c.args.self.now)
    c.args.self.now.history e) (sym c.with_next.ensures) c.next_past-next.ensures.allowed

pub append-requires-clause-left : goal.append-requires-clause-left
append-requires-clause-left g c κs within =
    subst (λ s. 0 < left_of c.args.self.now.budget c.args.self.now.history s)
    (sym (ap seat_of c.with_next.ensures ∙ same_seat c.args.call c.next_past-next.result)) c.requires.left

pub append-requires-clause-still : goal.append-requires-clause-still
append-requires-clause-still g c κs within d =
    ap (data_after g.T.Guarded.meaning d) c.with_next.ensures
    ∙ keeps_data g.T.Guarded.meaning c.args.call c.next_past-next.result c.requires.release d

pub returns : goal.returns
returns g c =
    let old = c.args.self.now in
    grind (arith, common_steps, as_it_was)
