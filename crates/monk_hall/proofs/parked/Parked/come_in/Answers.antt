use Rattle.std.proofs.Common.{◌≡◌, ap, subst, ◌∙◌}
use Rattle.monk_history.specs.Meaning.Turn.{turn}
use Rattle.monk_floor.specs.View.{FloorView}
use Rattle.monk_world.specs.{State.with_event, StepTable.out_event}
use Rattle.monk_hall.proofs.parked.Parked.come_in.Goals as goal
use Rattle.monk_hall.proofs.EntrySteps.{entry, entry_holds}
use Rattle.monk_hall.specs.{Calls.HasEntered, Records.the, Tokens.Token, Tokens.holder}

pub invariant_of-result : goal.invariant_of-result
invariant_of-result g c =
    let out = c.floor_out-floor in
    let entered = subst (λ (f : FloorView). c.record_entry.new.floor
    ≡ with_event f (out_event c.self.inside.numbers.seat c.args.source (turn f.history))) c.deref_mut.ensures.shows
    c.record_entry.ensures in
    entry_holds c.self.invariant.0 out.result c.record_entry.new.floor c.args.source out.ensures.finds
    (ap (λ (p : Token). p.me.place) c.self.view_is ∙ c.requires.due) entered out.new.seat.table_id
    out.new.seat.me out.ensures.table.0 out.ensures.seat

pub returns-clause-entered : goal.returns-clause-entered
returns-clause-entered g c =
    let out = c.floor_out-floor in
    let entered = subst (λ (f : FloorView). c.record_entry.new.floor
    ≡ with_event f (out_event c.self.inside.numbers.seat c.args.source (turn f.history))) c.deref_mut.ensures.shows
    c.record_entry.ensures in
    subst (λ (p : Token). HasEntered g.K.Kind.rules g.T.Guarded.meaning p
    (holder out.new.seat.table_id (the out.new.seat.me.0) c.record_entry.new.floor)) c.self.view_is
    (entry c.self.invariant.0 out.result c.record_entry.new.floor c.args.source out.ensures.finds
    (ap (λ (p : Token). p.me.place) c.self.view_is ∙ c.requires.due) entered out.new.seat.table_id
    out.new.seat.me out.ensures.table.0 out.ensures.seat)
