use Rattle.std.proofs.Common.{◌≡◌, false, arith}
use Rattle.monk_history.specs.Text.Device.{inner_of, has_failed}
use Rattle.monk_history.proofs.TextLaws.PagedText.{IsWritten, written_more, written_sent}
use Rattle.monk_history.proofs.text.writing.write_lines.Goals.{then-room-lt-LONGEST_LINE+in_ok-send, else-room-lt-LONGEST_LINE}
use Rattle.monk_history.proofs.text.writing.write_lines.Goals as goal
use Rattle.std.proofs.lemmas.Grind.{common_steps}

pub loop-event-preserved : goal.loop-event-preserved
loop-event-preserved g c =
    let k = g.W.Write.contents in
    let here = c.loop-event.invariant in
    let room : (has_failed c.if-room-lt-LONGEST_LINE.out ≡ false)
    × IsWritten (k (inner_of c.args.out.now))
    (k (inner_of c.if-room-lt-LONGEST_LINE.out)) c.if-room-lt-LONGEST_LINE.page
    c.args.header.now c.loop-event.lines.1 c.args.lines.1 =
    elim c.if-room-lt-LONGEST_LINE.branch [
      | then-room-lt-LONGEST_LINE+in_ok-send w ↦ grind (arith, common_steps, written_sent)
      | else-room-lt-LONGEST_LINE w ↦ rw (w.out-is, w.page-is) (here.sound, here.written)
    ] in
    record {
      sound = room.0;
      written =
          written_more _ _ _ _ _ _ _ _ _ c.in-Some.ensures.item c.put_event.ensures.line
          c.put_event.ensures.fits room.1;
    }

pub returns-clause-ok : goal.returns-clause-ok
returns-clause-ok g c = grind (arith, common_steps)
