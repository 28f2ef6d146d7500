-- Why an event is not allowed, in a sentence
use Rattle.std.specs.Prelude.{ℕ, List, [], ◌∷◌, codes}
use Rattle.std.specs.List.{concat}
use Rattle.std.specs.Fmt.{decimal}
use Rattle.monk_kinds.specs.Names.{kind_word}
use Rattle.monk_history.specs.Text.{from_word}
use Rattle.monk_tell.specs.declared.why.out_of_turn.OutOfTurn.{OutOfTurn}
use Rattle.monk_tell.specs.declared.why.out_of_turn.OutOfTurn.TheVariants.{Open, Due, Resumes, Active, Already}
use Rattle.monk_tell.specs.declared.why.out_of_turn.OutOfTurn.TheVariants.{Unsignalled, Inside, NotFree, FirstOfAll}
use Rattle.monk_tell.specs.declared.why.staying.Staying.{Staying}
use Rattle.monk_tell.specs.declared.why.staying.Staying.TheVariants.{NobodyWaits, HoldsAlready, GivesUp, MustYield, MustStay}
use Rattle.monk_tell.specs.declared.why.staying.Staying.TheVariants.{StepsBehind, OwnSignal}
use Rattle.monk_tell.specs.declared.why.precedence.Precedence.{Precedence}
use Rattle.monk_tell.specs.declared.why.precedence.Precedence.TheVariants.{NotFirst, NobodyIn, NotReady, NobodyReady}
use Rattle.monk_tell.specs.declared.why.precedence.Precedence.TheVariants.{WaitersFirst, SignallersFirst}
use Rattle.monk_tell.specs.declared.why.precedence.Precedence.TheVariants.{WaitersBeforeEntry, SignallersBeforeEntry, ReadyBeforeEntry}
use Rattle.monk_tell.specs.declared.why.Why.{Why}
use Rattle.monk_tell.specs.declared.why.Why.TheVariants.{NoSeat, NoCondition, NoOperation, NoPredicate}
use Rattle.monk_tell.specs.declared.why.Why.TheVariants.{Call, NoUntils, Turn, Reply, Stay, Order}

-- why a seat may not make its call now: whose turn it is, or where the seat is
abbrev pub out_of_turn_text : OutOfTurn → List ℕ
out_of_turn_text (Open seat) =
    concat (codes "seat " ∷ decimal seat ∷
    codes " isn't active, since the monitor is open to whoever enters next" ∷ [])
out_of_turn_text (Due seat other queue) =
    concat (codes "seat " ∷ decimal seat ∷ codes " isn't next, since seat " ∷ decimal other ∷
    codes " has to resume from " ∷ from_word queue ∷ codes " first" ∷ [])
out_of_turn_text (Resumes seat queue) =
    concat (codes "seat " ∷ decimal seat ∷ codes " has to resume from " ∷ from_word queue ∷
    codes " first" ∷ [])
out_of_turn_text (Active seat other) =
    concat (codes "seat " ∷ decimal seat ∷ codes " isn't next, since seat " ∷ decimal other ∷
    codes " is active" ∷ [])
out_of_turn_text (Already seat) = concat (codes "seat " ∷ decimal seat ∷ codes " is active already" ∷ [])
out_of_turn_text (Unsignalled seat cond) =
    concat (codes "seat " ∷ decimal seat ∷ codes " waits on condition " ∷ decimal cond ∷
    codes ", and nobody has signalled it" ∷ [])
out_of_turn_text (Inside seat) = concat (codes "seat " ∷ decimal seat ∷ codes " is inside already" ∷ [])
out_of_turn_text (NotFree seat) =
    concat (codes "seat " ∷ decimal seat ∷
    codes " can't find the monitor free, since somebody inside could go on" ∷ [])
out_of_turn_text (FirstOfAll seat) =
    concat (codes "nobody came before seat " ∷ decimal seat ∷ codes " who could hand the monitor over" ∷ [])

-- why the seat may not stay active, or has to
abbrev pub staying_text : Staying → List ℕ
staying_text (NobodyWaits cond seat) =
    concat (codes "seat " ∷ decimal seat ∷ codes " has to stay active, since nobody waits on condition " ∷
    decimal cond ∷ [])
staying_text (HoldsAlready pred seat) =
    concat (codes "seat " ∷ decimal seat ∷ codes " has to stay active, since predicate " ∷
    decimal pred ∷ codes " holds already" ∷ [])
staying_text (GivesUp seat) =
    concat (codes "seat " ∷ decimal seat ∷
    codes " can't stay active, since its call gives the monitor up" ∷ [])
staying_text (MustYield seat kind) =
    concat (codes "seat " ∷ decimal seat ∷ codes " can't stay active, since " ∷ kind_word kind ∷
    codes " puts waiters above signallers" ∷ [])
staying_text (MustStay seat kind) =
    concat (codes "seat " ∷ decimal seat ∷ codes " has to stay active, since " ∷ kind_word kind ∷
    codes " puts signallers above waiters" ∷ [])
staying_text (StepsBehind seat other) =
    concat (codes "seat " ∷ decimal seat ∷ codes " can't stay active, since seat " ∷
    decimal other ∷ codes " is before it in the signaller queue" ∷ [])
staying_text (OwnSignal seat) =
    concat (codes "seat " ∷ decimal seat ∷ codes " goes on after its own signal by staying active" ∷ [])

-- who goes on first, by the priorities and the queues
abbrev pub precedence_text : Precedence → List ℕ
precedence_text (NotFirst seat queue) =
    concat (codes "seat " ∷ decimal seat ∷ codes " isn't the first of the " ∷ from_word queue ∷
    codes " queue" ∷ [])
precedence_text (NobodyIn queue) = concat (codes "the " ∷ from_word queue ∷ codes " queue is empty" ∷ [])
precedence_text (NotReady seat) =
    concat (codes "seat " ∷ decimal seat ∷ codes " isn't the first of those whose predicate holds" ∷ [])
precedence_text NobodyReady = codes "there is nobody whose predicate holds"
precedence_text (WaitersFirst seat kind) =
    concat (codes "waiter " ∷ decimal seat ∷ codes " has to go on first, since " ∷ kind_word kind ∷
    codes " puts waiters above signallers" ∷ [])
precedence_text (SignallersFirst seat kind) =
    concat (codes "signaller " ∷ decimal seat ∷ codes " has to go on first, since " ∷
    kind_word kind ∷ codes " puts signallers above waiters" ∷ [])
precedence_text (WaitersBeforeEntry seat kind) =
    concat (codes "waiter " ∷ decimal seat ∷ codes " has to go on first, since " ∷ kind_word kind ∷
    codes " puts waiters above entry" ∷ [])
precedence_text (SignallersBeforeEntry seat kind) =
    concat (codes "signaller " ∷ decimal seat ∷ codes " has to go on first, since " ∷
    kind_word kind ∷ codes " puts signallers above entry" ∷ [])
precedence_text (ReadyBeforeEntry seat kind) =
    concat (codes "seat " ∷ decimal seat ∷
    codes " has to go on first, since its predicate holds and " ∷ kind_word kind ∷
    codes " puts it above entry" ∷ [])

-- the sentence that says why an event isn't allowed
abbrev pub why_text : Why → List ℕ
why_text (NoSeat seat seats) =
    concat (codes "there is no seat " ∷ decimal seat ∷ codes ", since the " ∷ decimal seats ∷
    codes " seats are counted from 0" ∷ [])
why_text (NoCondition cond conds) =
    concat (codes "there is no condition " ∷ decimal cond ∷ codes ", since the " ∷ decimal conds ∷
    codes " conditions are counted from 0" ∷ [])
why_text (NoOperation code) = concat (codes "the object has no operation " ∷ decimal code ∷ [])
why_text (NoPredicate pred) = concat (codes "the object has no predicate " ∷ decimal pred ∷ [])
why_text (Call kind) = concat (kind_word kind ∷ codes " monitors have no such call" ∷ [])
why_text (NoUntils kind) =
    concat (kind_word kind ∷ codes " monitors have nobody who waits until a predicate holds" ∷ [])
why_text (Turn w) = out_of_turn_text w
why_text (Reply right wrong) =
    concat (codes "the object replies " ∷ decimal right ∷ codes " and not " ∷ decimal wrong ∷ [])
why_text (Stay w) = staying_text w
why_text (Order w) = precedence_text w
