-- The verdict on a history whose events are judged as they are read
use Rattle.std.specs.Prelude.{ℕ, ◌+◌, ◌<◌, ◌^◌, List, [], ◌∷◌, Result, Ok, IfOk, nat_lt, ◌==◌, if◌then◌else◌}
use Rattle.monk_object.specs.Names.{most}
use Rattle.monk_history.specs.Text.Words.{◌>>=◌}
use Rattle.monk_history.specs.{Meaning.Monitor.Monitor, Meaning.Situation.Situation, Meaning.Reasons.reason_in}
use Rattle.monk_history.specs.{Meaning.Step.after, Meaning.Named.named_monitor, declared.text.fault.ReadFault.ReadFault}
use Rattle.monk_history.specs.{declared.event.Event.Event, Text.Heading, Text.Lines.lines_of, Text.Lines.opened_at}
use Rattle.monk_history.specs.{Text.Reading.History, Text.Reading.history, Text.Reading.header_at, Text.Reading.text_at}
use Rattle.monk_audit.specs.declared.text_verdict.TextVerdict.{TextVerdict, TheVariants.Judged, TheVariants.TooBig}
use Rattle.monk_audit.specs.declared.verdict.Verdict.{Verdict, TheVariants.Legal, TheVariants.Forbidden}
use Rattle.monk_audit.specs.Verdict.{verdict_of}

-- the verdict on the events to come, after `n` that were found legal, in that situation; the law
-- `verdict_at_is` says that it is the verdict on the whole history
unfoldable pub verdict_at : Monitor → ℕ → Situation → List Event → Verdict
verdict_at m n t [] = Legal n
verdict_at m n t (e ∷ es) = if reason_in m t e == 0 then verdict_at m (n + 1) (after m.object t e) es
    else Forbidden (n + 1) (reason_in m t e)

-- the same for events that are still to be read
abbrev pub verdict_read : Monitor → ℕ → Situation → Result (List Event) ReadFault → Result Verdict ReadFault
verdict_read m n t read = read >>= λ es. Ok (verdict_at m n t es)

-- the verdict on a history, for the monitor that its header names
abbrev pub history_verdict : History → TextVerdict
history_verdict h = if nat_lt (most h.0.object) h.0.size then TooBig else Judged (verdict_of (named_monitor h.0) h.1)

-- the verdict on the events after a header
abbrev pub lines_verdict : Heading → Result (List Event) ReadFault → Result TextVerdict ReadFault
lines_verdict h read = read >>= λ es. Ok (history_verdict (history h es))

-- the verdict on a text
abbrev pub text_verdict : List ℕ → Result TextVerdict ReadFault
text_verdict bytes = text_at (2 ^ 25) bytes >>= λ h. Ok (history_verdict h)

-- no object is made to judge the text: it has no header, or the header's size is above the object's greatest
abbrev pub MakesNoObject : List ℕ → Type 0
MakesNoObject bytes = IfOk (opened_at header_at (2 ^ 25) (lines_of bytes)) (λ o. most o.0.object < o.0.size)

-- whether the events can all be read
abbrev pub read_through : Result (List Event) ReadFault → Result (Unit {0}) ReadFault
read_through read = read >>= λ es. Ok tt

-- what a function returned, unchanged
abbrev pub same : {X : Type 0} → X → X
same x = x
