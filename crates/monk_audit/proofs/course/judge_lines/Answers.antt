use Rattle.std.proofs.Common.{◌≡◌, ◌∙◌, [], Some, Ok, ap, arith}
use Rattle.monk_history.specs.Meaning.{Monitor.monitor, Reasons.reason_in}
use Rattle.monk_history.specs.Text.{Reading.event_under, Pieces.items_with}
use Rattle.monk_audit.proofs.course.judge_lines.Goals as goal
use Rattle.monk_audit.proofs.PieceLaws.{piece_forbidden, piece_item_found, said_of_item}
use Rattle.monk_audit.proofs.ReadingLaws.{judged_more, reason_there}
use Rattle.monk_audit.proofs.ReasonLaws.{number_found, number_there}
use Rattle.monk_audit.proofs.course.judge_lines.Goals.{In_ok-found, In-Ok-Some}
use Rattle.monk_audit.specs.{Replay.replay_situation, Reasons.number_or_0}

pub judge-requires-clause-seats : goal.judge-requires-clause-seats
judge-requires-clause-seats g c = omega (arith, c.loop-event.invariant.seats, c.requires.few_seats)

result_is : (g : _) (c : In-Ok-Some g) → c.next_for.result ≡ Ok (Some c.in-Ok-Some.event)
result_is g c =
    let a = c.in-Ok-Some.is in
    let b = c.in-Ok-Some.field-0-is in
    let d = c.in-Ok-Some.event-is in
    cc

reason_is : (g : _) (c : In_ok-found g)
    → number_or_0 c.in_ok-found.found ≡ reason_in
    (monitor c.args.course.now.rules c.args.course.now.header.seats c.args.course.now.header.conds
    g.T.Guarded.meaning [])
    (replay_situation c.loop-event.course.replay (g.T.Guarded.state c.loop-event.object)) c.in-Ok-Some.event
reason_is g c =
    reason_there c.args.course.now.rules c.args.course.now.header.seats _ c.args.course.now.header.conds
    g.T.Guarded.meaning [] (replay_situation c.loop-event.course.replay (g.T.Guarded.state c.loop-event.object))
    c.in-Ok-Some.event (number_or_0 c.in_ok-found.found) c.loop-event.invariant.seats
    (rw c.conds-conds.ensures at c.in_ok-found.ensures.reason)

pub returns-in-Some-clause-step : goal.returns-in-Some-clause-step
returns-in-Some-clause-step g c =
    let some = goal.at.returns-in-Some-clause-step g c in
    let counted =
    said_of_item c.next_for.result c.in-Ok-Some.event _ (result_is g some.In-Ok-Some) c.next_for.ensures.counted in
    rw c.loop-event.invariant.header
    (piece_forbidden _ c.args.course.now.header c.loop-event.count c.number.result _ c.in-Ok-Some.event
    c.loop-event.lines c.next_for.new.self _ _
    (piece_item_found c.next_for.result (items_with (event_under c.args.course.now.header) c.loop-event.lines)
    (items_with (event_under c.args.course.now.header) c.next_for.new.self) c.in-Ok-Some.event
    (result_is g some.In-Ok-Some) c.next_for.ensures.item)
    (number_found _ _ _ _ (reason_is g some.In_ok-found) c.in-Some.is c.number.ensures)
    (number_there _ _ c.number.ensures) c.loop-event.invariant.so_far
    (omega (arith, counted.0, c.loop-event.invariant.number)) (omega (arith, counted.1, c.loop-event.invariant.room))
    c.rest-in-Some.ensures)

pub loop-event-preserved : goal.loop-event-preserved
loop-event-preserved g c =
    let some = goal.at.loop-event-preserved g c in
    let counted =
    said_of_item c.next_for.result c.in-Ok-Some.event _ (result_is g some.In-Ok-Some) c.next_for.ensures.counted in
    record {
      so_far = λ more.
          judged_more _ c.loop-event.count (number_or_0 c.in_ok-found.found) _
          (replay_situation c.judge.new.self (g.T.Guarded.state c.judge.new.object)) c.in-Ok-Some.event
          (items_with (event_under c.args.course.now.header) c.loop-event.lines more)
          (items_with (event_under c.args.course.now.header) c.next_for.new.self more) _
          (piece_item_found c.next_for.result (items_with (event_under c.args.course.now.header) c.loop-event.lines)
          (items_with (event_under c.args.course.now.header) c.next_for.new.self) c.in-Ok-Some.event
          (result_is g some.In-Ok-Some) c.next_for.ensures.item more)
          (reason_is g some.In_ok-found) (ap number_or_0 c.in_default.is)
          (c.in_ok-found.ensures.after c.in_default.is) (c.loop-event.invariant.so_far more);
      number = omega (arith, counted.0, c.loop-event.invariant.number);
      room = omega (arith, counted.1, c.loop-event.invariant.room);
      header = c.loop-event.invariant.header;
      rules = c.loop-event.invariant.rules;
      seats = c.in_ok-found.ensures.seats ∙ c.loop-event.invariant.seats;
      conds = c.in_ok-found.ensures.conds ∙ c.loop-event.invariant.conds;
      preds = c.in_ok-found.ensures.preds;
    }
