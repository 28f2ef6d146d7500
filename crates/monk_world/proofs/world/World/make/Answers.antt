use Rattle.std.proofs.Common.{ℕ, sym, subst}
use Rattle.monk_world.proofs.WorldLaws as world
use Rattle.monk_world.proofs.world.World.make.Goals as goal
use Rattle.monk_world.specs.{Kept.IsKept, State.State, WorldViews.state_in}

pub invariant_of-result : goal.invariant_of-result
invariant_of-result g c =
    subst (λ (n : ℕ). IsKept g.K.Kind.rules g.T.Guarded.meaning n c.args.conds
    (state_in c.in_ok-words.words c.in_ok-floor.floor)) (sym c.in_ok-words.ensures.seats)
    (subst (λ (s : State). IsKept g.K.Kind.rules g.T.Guarded.meaning c.args.seats c.args.conds s)
    (sym (world.made_state c.in_ok-words.words c.in_ok-floor.floor (g.T.Guarded.state c.args.object) c.args.seats
    c.args.conds c.args.budget c.in_ok-words.ensures.shows c.in_ok-floor.ensures.made.1))
    (world.opening_kept g.K.Kind.rules g.T.Guarded.meaning (g.T.Guarded.state c.args.object) c.args.seats c.args.conds
    c.args.budget c.in_ok-floor.ensures.made.0))

pub returns-clause-made : goal.returns-clause-made
returns-clause-made g c = (
  c.in_ok-floor.ensures.made.0,
  world.made_state c.in_ok-words.words c.in_ok-floor.floor (g.T.Guarded.state c.args.object) c.args.seats c.args.conds
      c.args.budget c.in_ok-words.ensures.shows c.in_ok-floor.ensures.made.1,
)
