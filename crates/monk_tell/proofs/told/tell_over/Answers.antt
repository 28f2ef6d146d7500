use Rattle.std.proofs.Common.{◌∙◌, sym, arith}
use Rattle.monk_kinds.specs.Names.{rules_named}
use Rattle.monk_object.specs.Names.{meaning_named}
use Rattle.monk_history.proofs.PublicLaws.Meaning.{situation-none}
use Rattle.monk_history.specs.Meaning.{Monitor.monitor, Named.named_monitor, Step.opening_situation}
use Rattle.monk_tell.proofs.told.tell_over.Goals as goal
use Rattle.std.proofs.lemmas.Grind.{common_steps}

pub follow-requires-clause-begins : goal.follow-requires-clause-begins
follow-requires-clause-begins g c κs within =
    let h = c.args.history.header.now in
    record {
      stands = c.in_ok-replay.ensures.stands (rules_named h.kind) (meaning_named h.object)
          (g.T.Guarded.state c.args.object)
          ∙ (λ i. opening_situation (monitor (rules_named h.kind) (c.seats.ensures i) (c.conds.ensures i)
          (meaning_named h.object) (c.requires.opening i)))
          ∙ sym (situation-none (named_monitor h));
      sound = rw (sym c.seats.ensures, sym c.conds.ensures) (c.in_ok-replay.ensures.sound g.T.Guarded.PREDICATES);
    }

pub returns-clause-steps : goal.returns-clause-steps
returns-clause-steps g c =
    let h = c.args.history.header.now in
    let es = c.args.history.events.now in
    grind (arith, common_steps)
