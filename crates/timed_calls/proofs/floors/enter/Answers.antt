use Rattle.std.proofs.Common.{◌∙◌, ◌≡◌, false, true, not, sym, rules}
use Rattle.monk_history.proofs.PublicLaws.Meaning.{may_enter_begun, may_enter_first}
use Rattle.monk_history.specs.{Meaning.Signallers.is_empty, Meaning.Turn.turn, declared.event.Turn.TheVariants.Open}
use Rattle.timed_calls.proofs.floors.enter.Goals as goal

pub enter-requires-clause-call : goal.enter-requires-clause-call
enter-requires-clause-call g c κs within =
    let t : turn c.args.floor.now.history ≡ Open = search rules in
    let q : c.queued.result ≡ false = search rules in
    let b : not (is_empty c.args.floor.now.history) ≡ true = search rules in
    may_enter_begun _ c.args.floor.now.history c.args.seat c.history-history.ensures.legal t c.requires
    (sym c.queued.ensures ∙ q) b

pub enter-requires-else-has_begun-clause-call : goal.enter-requires-else-has_begun-clause-call
enter-requires-else-has_begun-clause-call g c κs within =
    let t : turn c.args.floor.now.history ≡ Open = search rules in
    let q : c.queued.result ≡ false = search rules in
    let b : not (is_empty c.args.floor.now.history) ≡ false = search rules in
    may_enter_first _ c.args.floor.now.history c.args.seat c.history-history.ensures.legal t c.requires
    (sym c.queued.ensures ∙ q) b
