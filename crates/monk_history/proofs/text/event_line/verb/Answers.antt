use Rattle.std.proofs.Common.{◌∙◌, arith}
use Rattle.monk_history.specs.declared.text.verb.Verb.TheVariants as verb
use Rattle.monk_history.proofs.TextLaws.EventWords.{verb-next, verb-none}
use Rattle.monk_history.proofs.text.event_line.verb.Goals as goal
use Rattle.std.proofs.lemmas.Grind.{common_steps}

pub returns-then-takes : goal.returns-then-takes
returns-then-takes c =
    verb-next c.args.version verb.Enter c.args.words.now c.takes.new.self c.requires
    (c.takes.ensures.taken c.if-takes.true)

pub returns-then-takes-2 : goal.returns-then-takes-2
returns-then-takes-2 c =
    verb-next c.args.version verb.Act c.args.words.now c.takes-else-takes.new.self c.requires
    (c.takes.ensures.left c.if-takes.false ∙ c.takes-else-takes.ensures.taken c.if-takes-2.true)

pub returns-then-takes-3 : goal.returns-then-takes-3
returns-then-takes-3 c =
    verb-next c.args.version verb.Leave c.args.words.now c.takes-else-takes-2.new.self c.requires
    (c.takes.ensures.left c.if-takes.false ∙ c.takes-else-takes.ensures.left c.if-takes-2.false
    ∙ c.takes-else-takes-2.ensures.taken c.if-takes-3.true)

pub returns-then-takes-4 : goal.returns-then-takes-4
returns-then-takes-4 c =
    verb-next c.args.version verb.Wait c.args.words.now c.takes-else-takes-3.new.self c.requires
    (c.takes.ensures.left c.if-takes.false ∙ c.takes-else-takes.ensures.left c.if-takes-2.false
    ∙ c.takes-else-takes-2.ensures.left c.if-takes-3.false
    ∙ c.takes-else-takes-3.ensures.taken c.if-takes-4.true)

pub returns-then-takes-5 : goal.returns-then-takes-5
returns-then-takes-5 c =
    verb-next c.args.version verb.Signal c.args.words.now c.takes-else-takes-4.new.self c.requires
    (c.takes.ensures.left c.if-takes.false ∙ c.takes-else-takes.ensures.left c.if-takes-2.false
    ∙ c.takes-else-takes-2.ensures.left c.if-takes-3.false
    ∙ c.takes-else-takes-3.ensures.left c.if-takes-4.false
    ∙ c.takes-else-takes-4.ensures.taken c.if-takes-5.true)

pub returns-then-takes-6 : goal.returns-then-takes-6
returns-then-takes-6 c =
    verb-next c.args.version verb.SignalLeave c.args.words.now c.takes-else-takes-5.new.self c.requires
    (c.takes.ensures.left c.if-takes.false ∙ c.takes-else-takes.ensures.left c.if-takes-2.false
    ∙ c.takes-else-takes-2.ensures.left c.if-takes-3.false
    ∙ c.takes-else-takes-3.ensures.left c.if-takes-4.false
    ∙ c.takes-else-takes-4.ensures.left c.if-takes-5.false
    ∙ c.takes-else-takes-5.ensures.taken c.if-takes-6.true)

pub returns-then-takes-7 : goal.returns-then-takes-7
returns-then-takes-7 c =
    verb-next c.args.version verb.Until c.args.words.now c.takes-else-takes-6.new.self c.requires
    (c.takes.ensures.left c.if-takes.false ∙ c.takes-else-takes.ensures.left c.if-takes-2.false
    ∙ c.takes-else-takes-2.ensures.left c.if-takes-3.false
    ∙ c.takes-else-takes-3.ensures.left c.if-takes-4.false
    ∙ c.takes-else-takes-4.ensures.left c.if-takes-5.false
    ∙ c.takes-else-takes-5.ensures.left c.if-takes-6.false
    ∙ c.takes-else-takes-6.ensures.taken c.if-takes-7.true)

pub returns-then-takes-8 : goal.returns-then-takes-8
returns-then-takes-8 c =
    verb-next c.args.version verb.Resume c.args.words.now c.takes-else-takes-7.new.self c.requires
    (c.takes.ensures.left c.if-takes.false ∙ c.takes-else-takes.ensures.left c.if-takes-2.false
    ∙ c.takes-else-takes-2.ensures.left c.if-takes-3.false
    ∙ c.takes-else-takes-3.ensures.left c.if-takes-4.false
    ∙ c.takes-else-takes-4.ensures.left c.if-takes-5.false
    ∙ c.takes-else-takes-5.ensures.left c.if-takes-6.false
    ∙ c.takes-else-takes-6.ensures.left c.if-takes-7.false
    ∙ c.takes-else-takes-7.ensures.taken c.if-takes-8.true)

pub returns-then-takes-9 : goal.returns-then-takes-9
returns-then-takes-9 c =
    verb-next c.args.version verb.SignalAll c.args.words.now c.takes-else-version-lt-ALL_EVENTS_VERSION.new.self
    (omega (arith, c.if-version-lt-ALL_EVENTS_VERSION.false))
    (c.takes.ensures.left c.if-takes.false ∙ c.takes-else-takes.ensures.left c.if-takes-2.false
    ∙ c.takes-else-takes-2.ensures.left c.if-takes-3.false
    ∙ c.takes-else-takes-3.ensures.left c.if-takes-4.false
    ∙ c.takes-else-takes-4.ensures.left c.if-takes-5.false
    ∙ c.takes-else-takes-5.ensures.left c.if-takes-6.false
    ∙ c.takes-else-takes-6.ensures.left c.if-takes-7.false
    ∙ c.takes-else-takes-7.ensures.left c.if-takes-8.false
    ∙ c.takes-else-version-lt-ALL_EVENTS_VERSION.ensures.taken c.if-takes-9.true)

pub returns-then-takes-10 : goal.returns-then-takes-10
returns-then-takes-10 c =
    verb-next c.args.version verb.SignalWait c.args.words.now c.takes-else-takes-9.new.self
    (omega (arith, c.if-version-lt-ALL_EVENTS_VERSION.false))
    (c.takes.ensures.left c.if-takes.false ∙ c.takes-else-takes.ensures.left c.if-takes-2.false
    ∙ c.takes-else-takes-2.ensures.left c.if-takes-3.false
    ∙ c.takes-else-takes-3.ensures.left c.if-takes-4.false
    ∙ c.takes-else-takes-4.ensures.left c.if-takes-5.false
    ∙ c.takes-else-takes-5.ensures.left c.if-takes-6.false
    ∙ c.takes-else-takes-6.ensures.left c.if-takes-7.false
    ∙ c.takes-else-takes-7.ensures.left c.if-takes-8.false
    ∙ c.takes-else-version-lt-ALL_EVENTS_VERSION.ensures.left c.if-takes-9.false
    ∙ c.takes-else-takes-9.ensures.taken c.if-takes-10.true)

pub returns-then-version-lt-ALL_EVENTS_VERSION : goal.returns-then-version-lt-ALL_EVENTS_VERSION
returns-then-version-lt-ALL_EVENTS_VERSION c = grind (arith, common_steps, verb-none)

pub returns-else-takes-10 : goal.returns-else-takes-10
returns-else-takes-10 c = grind (arith, common_steps, verb-none)
