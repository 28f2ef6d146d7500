use Rattle.std.proofs.Common.{ap, subst, ◌∙◌, ◌≤◌, List, ℕ, arith, rules}
use Rattle.monk_object.specs.Object.{Object}
use Rattle.monk_hall.specs.{Rule.setting_of}
use Rattle.monk_samples.proofs.running.run_over.Goals as goal
use Rattle.monk_samples.proofs.{MeetLaws.seats_differ, HistoryLaws.left_history, RunLaws.if_fault, RunLaws.if_four}
use Rattle.monk_samples.proofs.RunEndLaws.{some_pass, back_of, some_back, has_closed, close_fault}
use Rattle.monk_samples.specs.{Crews.IsClosed, Ends.HaveServed, Wholes.IsFaultOfClosing}
use Rattle.monk_samples.specs.Samples.{conds_of, budget_of}
use Rattle.std.proofs.lemmas.Grind.{common_steps}

pub close_by-requires-clause-of : goal.close_by-requires-clause-of
close_by-requires-clause-of g c κs within =
    let served =
    subst (λ (o : Object). HaveServed g.K.Kind.rules o
    (g.G.Gate.answers c.args.gate.now) c.args.rota.scenario c.args.rota.seats
    c.args.rota.rounds c.in_ok-hall.hall c.in_ok-hall.passes.items c.in_ok-passes.passes.items) c.requires.object
    c.in_ok-passes.ensures.served in
    grind (arith, common_steps, back_of)

pub close_by-requires-clause-some : goal.close_by-requires-clause-some
close_by-requires-clause-some g c κs within = grind (arith, common_steps, some_pass, some_back)

pub close_by-requires-clause-apart : goal.close_by-requires-clause-apart
close_by-requires-clause-apart g c κs within = search (rules, seats_differ)

pub returns-clause-left : goal.returns-clause-left
returns-clause-left g c =
    let served =
    subst (λ (o : Object). HaveServed g.K.Kind.rules o
    (g.G.Gate.answers c.args.gate.now) c.args.rota.scenario c.args.rota.seats
    c.args.rota.rounds c.in_ok-hall.hall c.in_ok-hall.passes.items c.in_ok-passes.passes.items) c.requires.object
    c.in_ok-passes.ensures.served in
    let setting = c.in_ok-hall.ensures.setting
    ∙ ap (λ (state : List ℕ). setting_of state c.args.rota.seats (conds_of g.K.Kind.rules)
    (budget_of c.args.rota.seats c.args.rota.rounds)) c.requires.opening in
    let some : 1 ≤ c.args.rota.seats = omega (arith, c.args.rota.seats_in_range.0) in
    if_four c.close_by.result _ _ _ _ _
    (λ v closed whole left ended. left_history g.K.Kind.rules (g.G.Gate.answers c.args.gate.now) c.args.rota.seats
    c.args.rota.rounds some v.items c.args.rota.scenario
    (has_closed g.K.Kind.rules (g.G.Gate.answers c.args.gate.now) c.args.rota.scenario
    c.args.rota.seats c.args.rota.rounds
    c.in_ok-hall.hall c.in_ok-hall.passes.items c.in_ok-hall.ensures.passes setting c.in_ok-passes.passes.items
    v.items served
    (subst (λ (o : Object). IsClosed g.K.Kind.rules o c.in_ok-hall.hall.setting v.items) c.requires.object closed)
    whole left) ended)
    c.close_by.ensures.closed c.close_by.ensures.whole c.close_by.ensures.left c.close_by.ensures.ended

pub returns-clause-fault : goal.returns-clause-fault
returns-clause-fault g c =
    let served =
    subst (λ (o : Object). HaveServed g.K.Kind.rules o
    (g.G.Gate.answers c.args.gate.now) c.args.rota.scenario c.args.rota.seats
    c.args.rota.rounds c.in_ok-hall.hall c.in_ok-hall.passes.items c.in_ok-passes.passes.items) c.requires.object
    c.in_ok-passes.ensures.served in
    let setting = c.in_ok-hall.ensures.setting
    ∙ ap (λ (state : List ℕ). setting_of state c.args.rota.seats (conds_of g.K.Kind.rules)
    (budget_of c.args.rota.seats c.args.rota.rounds)) c.requires.opening in
    if_fault c.close_by.result _ _
    (λ e is. close_fault g.K.Kind.rules (g.G.Gate.answers c.args.gate.now) c.args.rota.scenario c.args.rota.seats
    c.args.rota.rounds
    c.in_ok-hall.hall c.in_ok-hall.passes.items c.in_ok-hall.ensures.passes setting c.in_ok-passes.passes.items e
    served (subst (λ (o : Object). IsFaultOfClosing g.K.Kind.rules o c.args.rota.scenario.sample
    c.in_ok-passes.passes.items e) c.requires.object is)) c.close_by.ensures.fault
