use Rattle.std.proofs.{Common.sym, Common.subst, Common.arith, lemmas.Grind.common_steps}
use Rattle.monk_samples.proofs.crew.round.do_round.Goals as goal
use Rattle.monk_samples.specs.{Rounds.visits_of, Visits.HasVisited, declared.sample.Sample.Sample}

pub trade-requires-clause-object : goal.trade-requires-clause-object
trade-requires-clause-object g c κs within = grind (arith, common_steps)

pub returns-in-Buffer-clause-visited : goal.returns-in-Buffer-clause-visited
returns-in-Buffer-clause-visited g c = grind (arith, common_steps)

pub use_book-requires-clause-object : goal.use_book-requires-clause-object
use_book-requires-clause-object g c κs within = grind (arith, common_steps)

pub returns-in-Book-clause-visited : goal.returns-in-Book-clause-visited
returns-in-Book-clause-visited g c =
    subst (λ (s : Sample). HasVisited g.K.Kind.rules g.T.Guarded.meaning c.args.pass
    (visits_of s c.args.rota.scenario.manner g.K.Kind.rules c.args.pass.me.setting c.args.rota.seats
    c.args.pass.me.seat c.args.round)
    c.use_book.result.0 c.use_book.result.1) (sym c.in-Book.is) (c.use_book.ensures.visited c.args.round)

pub visit_shop-requires-clause-object : goal.visit_shop-requires-clause-object
visit_shop-requires-clause-object g c κs within = grind (arith, common_steps)

pub returns-in-Shop-clause-visited : goal.returns-in-Shop-clause-visited
returns-in-Shop-clause-visited g c =
    subst (λ (s : Sample). HasVisited g.K.Kind.rules g.T.Guarded.meaning c.args.pass
    (visits_of s c.args.rota.scenario.manner g.K.Kind.rules c.args.pass.me.setting c.args.rota.seats
    c.args.pass.me.seat c.args.round)
    c.visit_shop.result.0 c.visit_shop.result.1) (sym c.in-Shop.is) (c.visit_shop.ensures.visited c.args.round)
