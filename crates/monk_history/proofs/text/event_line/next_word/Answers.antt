use Rattle.std.proofs.Common.{◌∙◌}
use Rattle.monk_history.specs.declared.text.next_word.NextWord.TheVariants as word
use Rattle.monk_history.proofs.TextLaws.EventWords.{next-next}
use Rattle.monk_history.proofs.text.event_line.next_word.Goals as goal

pub returns-then-takes : goal.returns-then-takes
returns-then-takes c = next-next word.Stay c.args.words.now c.takes.new.self (c.takes.ensures.taken c.if-takes.true)

pub returns-then-takes-2 : goal.returns-then-takes-2
returns-then-takes-2 c =
    next-next word.Entry c.args.words.now c.takes-else-takes.new.self
    (c.takes.ensures.left c.if-takes.false ∙ c.takes-else-takes.ensures.taken c.if-takes-2.true)

pub returns-then-takes-3 : goal.returns-then-takes-3
returns-then-takes-3 c =
    next-next word.Waiter c.args.words.now c.takes-else-takes-2.new.self
    (c.takes.ensures.left c.if-takes.false ∙ c.takes-else-takes.ensures.left c.if-takes-2.false
    ∙ c.takes-else-takes-2.ensures.taken c.if-takes-3.true)

pub returns-then-takes-4 : goal.returns-then-takes-4
returns-then-takes-4 c =
    next-next word.Signaller c.args.words.now c.takes-else-takes-3.new.self
    (c.takes.ensures.left c.if-takes.false ∙ c.takes-else-takes.ensures.left c.if-takes-2.false
    ∙ c.takes-else-takes-2.ensures.left c.if-takes-3.false ∙ c.takes-else-takes-3.ensures.taken c.if-takes-4.true)

pub returns-then-takes-5 : goal.returns-then-takes-5
returns-then-takes-5 c =
    next-next word.Until c.args.words.now c.takes-else-takes-4.new.self
    (c.takes.ensures.left c.if-takes.false ∙ c.takes-else-takes.ensures.left c.if-takes-2.false
    ∙ c.takes-else-takes-2.ensures.left c.if-takes-3.false ∙ c.takes-else-takes-3.ensures.left c.if-takes-4.false
    ∙ c.takes-else-takes-4.ensures.taken c.if-takes-5.true)
