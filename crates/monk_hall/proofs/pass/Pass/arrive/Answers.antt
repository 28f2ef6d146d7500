use Rattle.std.proofs.Common.{◌+◌, ◌≤◌, length, sym, ap, subst, ◌∙◌}
use Rattle.monk_hall.proofs.pass.Pass.arrive.Goals as goal
use Rattle.monk_hall.proofs.EntrySteps.{token, arrival, arrival_rests}
use Rattle.monk_hall.specs.{Calls.HasArrived, Records.the, Tokens.Token, Tokens.top}

pub invariant_of-result : goal.invariant_of-result
invariant_of-result g c =
    let two = subst (λ (p : Token). length p.me.mine + 2 ≤ p.me.setting.budget) (sym c.self.view_is) c.requires.left in
    let seat = c.into_seat-seat.ensures in let drew = c.arrive-found.ensures in
    arrival_rests c.self.invariant.1 c.into_seat-seat.result.me (sym (ap top seat.2)) seat.3
    c.arrive-found.new.seat.table_id c.arrive-found.new.seat.me c.arrive-found.result c.place_after_arrive.result
    (drew.table.0 ∙ seat.0) drew.step.0 two c.place_after_arrive.ensures

pub returns : goal.returns
returns g c =
    let seat = c.into_seat-seat.ensures in let drew = c.arrive-found.ensures in
    subst (λ (p : Token). HasArrived g.K.Kind.rules g.T.Guarded.meaning p
    (token c.arrive-found.new.seat.table_id (the c.arrive-found.new.seat.me.0))) c.self.view_is
    (arrival c.self.invariant.1 c.into_seat-seat.result.me (sym (ap top seat.2)) seat.3 c.arrive-found.new.seat.table_id
    c.arrive-found.new.seat.me c.arrive-found.result (drew.table.0 ∙ seat.0) drew.step)
