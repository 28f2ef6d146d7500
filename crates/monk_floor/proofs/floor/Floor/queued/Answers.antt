use Rattle.std.proofs.Common.{◌∙◌, ap, not, ◌&&◌}
use Rattle.std.specs.Prelude.{nat_lt, slice_index_or, false}
use Rattle.monk_history.proofs.PublicLaws.Meaning.{legal_placed, queued_is}
use Rattle.monk_history.specs.Meaning.{Monitor.monitor, Situation.situation, Standing.has_turn, Standing.is_queued}
use Rattle.monk_floor.proofs.floor.Floor.queued.Goals as goal
use Rattle.monk_floor.specs.View.{FloorView, monitor_of}

pub returns : goal.returns
returns g c =
    let m = monitor g.K.Kind.rules c.self.inside.seats c.self.inside.conds g.T.Guarded.meaning
    (g.T.Guarded.state c.self.inside.opening.value) in
    c.is_parked.ensures
    ∙ (ap (λ xs. slice_index_or xs c.args.seat false && not (nat_lt 0 (has_turn c.args.seat c.self.inside.ledger.turn)))
    c.deref.ensures.value
    ∙ (ap (λ t. t.inside c.args.seat && not (nat_lt 0 (has_turn c.args.seat t.turn))) c.self.invariant.stands
    ∙ (queued_is m.conds c.args.seat (situation m c.self.inside.history.items)
    (legal_placed m c.self.inside.history.items c.self.invariant.legal)
    ∙ ap (λ (f : FloorView). is_queued f.conds c.args.seat
    (situation (monitor_of g.K.Kind.rules g.T.Guarded.meaning f) f.history)) c.self.view_is)))
