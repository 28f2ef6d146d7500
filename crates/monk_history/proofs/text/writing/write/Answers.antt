use Rattle.std.proofs.Common.{◌≡◌, take, false, arith}
use Rattle.std.proofs.{ByRecursion.All-more, lemmas.Grind.common_steps}
use Rattle.monk_history.proofs.text.writing.write.Goals as goal
use Rattle.monk_history.proofs.text.writing.write.Goals.{then-room-lt-LONGEST_LINE+in_ok-send}
use Rattle.monk_history.proofs.text.writing.write.Goals.{else-room-lt-LONGEST_LINE}
use Rattle.monk_history.proofs.TextLaws.PagedText.{IsOnItsWay, grows, text-more, sends}
use Rattle.monk_history.specs.Text.{text, Device.inner_of, Device.has_failed}

pub loop-event-preserved : goal.loop-event-preserved
loop-event-preserved g c =
    let k = g.W.Write.contents in
    let here = c.loop-event.invariant in
    let room : (has_failed c.if-room-lt-LONGEST_LINE.out ≡ false)
    × IsOnItsWay (k (inner_of c.args.out.now))
    (k (inner_of c.if-room-lt-LONGEST_LINE.out)) c.if-room-lt-LONGEST_LINE.page
    (text c.args.header.now (take c.loop-event.event-index c.args.events.now)) =
    elim c.if-room-lt-LONGEST_LINE.branch [
      | then-room-lt-LONGEST_LINE+in_ok-send w ↦ grind (arith, common_steps, sends)
      | else-room-lt-LONGEST_LINE w ↦ rw (w.out-is, w.page-is) (here.sound, here.on_its_way)
    ] in
    let put = c.put_event.ensures.line in
    grind (arith, common_steps, grows, text-more, All-more)
