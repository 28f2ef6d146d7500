use Rattle.std.proofs.Common.{◌∙◌}
use Rattle.monk_history.specs.declared.event.From3.TheVariants as from
use Rattle.monk_history.proofs.TextLaws.EventWords.{from-next}
use Rattle.monk_history.proofs.text.event_line.from.Goals as goal

pub returns-then-takes : goal.returns-then-takes
returns-then-takes c = from-next from.Waiter c.args.words.now c.takes.new.self (c.takes.ensures.taken c.if-takes.true)

pub returns-then-takes-2 : goal.returns-then-takes-2
returns-then-takes-2 c =
    from-next from.Signaller c.args.words.now c.takes-else-takes.new.self
    (c.takes.ensures.left c.if-takes.false ∙ c.takes-else-takes.ensures.taken c.if-takes-2.true)

pub returns-then-takes-3 : goal.returns-then-takes-3
returns-then-takes-3 c =
    from-next from.Until c.args.words.now c.takes-else-takes-2.new.self
    (c.takes.ensures.left c.if-takes.false ∙ c.takes-else-takes.ensures.left c.if-takes-2.false
    ∙ c.takes-else-takes-2.ensures.taken c.if-takes-3.true)
