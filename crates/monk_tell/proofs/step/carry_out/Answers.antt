use Rattle.std.proofs.Common.{◌∙◌, ap, sym}
use Rattle.monk_kinds.specs.Names.{rules_named}
use Rattle.monk_audit.proofs.PublicLaws.{none_by_number}
use Rattle.monk_tell.proofs.StepLaws.{judged_before, next_allowed, next_reached}
use Rattle.monk_tell.proofs.step.carry_out.Goals as goal

pub bounds-history-before : goal.bounds-history-before
bounds-history-before g c =
    judged_before c.args.history.header.now c.args.history.events.now c.args.history.verdict c.args.before
    c.args.history.judged c.requires.allowed

pub returns : goal.returns
returns g c =
    let h = c.args.history.header.now in
    let es = c.args.history.events.now in
    let v = c.args.history.verdict in
    let stands = c.requires.stands in
    let none = next_allowed h es v c.args.before _ _ _ _ _ c.args.history.judged c.requires.allowed stands.stands
    (c.rules_by_name-rules.ensures ∙ ap rules_named c.kind.ensures) stands.sound.has_seats c.conds.ensures
    c.requires.named in
    record {
      stands = next_reached h es v c.args.before _ _ _ c.args.history.judged c.requires.allowed stands.stands
          c.requires.named
          (c.in_ok-carry_out.ensures.after (none_by_number _ (c.in_ok-carry_out.ensures.reason ∙ none)));
      sound = rw (sym stands.sound.has_seats, sym c.conds.ensures) c.in_ok-carry_out.ensures.sound;
    }
