use Rattle.std.proofs.Common.{◌∙◌}
use Rattle.monk_history.specs.declared.event.Via.TheVariants as via
use Rattle.monk_history.proofs.TextLaws.EventWords.{via-next}
use Rattle.monk_history.proofs.text.event_line.via.Goals as goal

pub returns-then-takes : goal.returns-then-takes
returns-then-takes c = via-next via.Free c.args.words.now c.takes.new.self (c.takes.ensures.taken c.if-takes.true)

pub returns-then-takes-2 : goal.returns-then-takes-2
returns-then-takes-2 c =
    via-next via.Handed c.args.words.now c.takes-else-takes.new.self
    (c.takes.ensures.left c.if-takes.false ∙ c.takes-else-takes.ensures.taken c.if-takes-2.true)
