-- No word of an event or of a header has a byte 32 or 10.
use Rattle.std.proofs.Common.{ℕ, ◌≤◌, ◌<◌, length, refl, arith}
use Rattle.std.{specs.Fmt.decimal, proofs.lemmas.Bool.Decides.nat_tests}
use Rattle.monk_history.specs.declared.event.From3.TheVariants as from
use Rattle.monk_history.specs.declared.event.Next.TheVariants as next
use Rattle.monk_history.proofs.TextLaws.ObjectVersions.{none_newer}
use Rattle.monk_history.proofs.TextLaws.LineCuts.{AreWords, IsWord, IsWord-decimal}
use Rattle.monk_history.specs.declared.event.Next.{Next}
use Rattle.monk_history.specs.declared.event.Next.TheVariants.{Stay, Entry, Waiter, Signaller}
use Rattle.monk_history.specs.declared.event.Via.TheVariants.{Free, Handed}
use Rattle.monk_history.specs.declared.event.Event.{Event}
use Rattle.monk_history.specs.declared.event.Event.TheVariants.{Enter, Act, Leave, Wait, Signal, SignalLeave, Until}
use Rattle.monk_history.specs.declared.event.Event.TheVariants.{Resume, SignalAll, SignalWait}
use Rattle.monk_history.specs.Text.{Heading, next_words, event_words, header_words, IsHeading, NextFits, EventFits}
use Rattle.monk_kinds.specs.{declared.name.KindName.KindName, Names.kind_word}
use Rattle.monk_object.specs.{declared.name.ObjectName.ObjectName, Names.object_word}

pub decimal_word : (n : ℕ) → n ≤ 255 → IsWord (decimal n)
decimal_word n le = IsWord-decimal n (omega arith)

next_are_words : (n : Next) → NextFits n → AreWords (next_words n)
next_are_words Stay fits = refl
next_are_words Entry fits = refl
next_are_words (Waiter j) fits = rw (decimal_word j fits) refl
next_are_words (Signaller j) fits = rw (decimal_word j fits) refl
next_are_words (next.Until j) fits = rw (decimal_word j fits) refl

pub event_are_words : (e : Event) → EventFits e → AreWords (event_words e)
event_are_words (Enter s Free) fits = rw (decimal_word s fits) refl
event_are_words (Enter s Handed) fits = rw (decimal_word s fits) refl
event_are_words (Leave s n) fits = rw (decimal_word s fits.0, next_are_words n fits.1) refl
event_are_words (Wait s c n) fits = rw (decimal_word s fits.0, decimal_word c fits.1, next_are_words n fits.2) refl
event_are_words (Signal s c n) fits = rw (decimal_word s fits.0, decimal_word c fits.1, next_are_words n fits.2) refl
event_are_words (SignalLeave s c n) fits =
    rw (decimal_word s fits.0, decimal_word c fits.1, next_are_words n fits.2) refl
event_are_words (Until s c n) fits = rw (decimal_word s fits.0, decimal_word c fits.1, next_are_words n fits.2) refl
event_are_words (Act s op reply) fits =
    rw (
      decimal_word s fits.0,
      decimal_word op.code fits.1,
      IsWord-decimal op.arg (omega (arith, fits.2)),
      IsWord-decimal reply (omega (arith, fits.3)),
    ) refl
event_are_words (Resume s from.Waiter) fits = rw (decimal_word s fits) refl
event_are_words (Resume s from.Signaller) fits = rw (decimal_word s fits) refl
event_are_words (Resume s from.Until) fits = rw (decimal_word s fits) refl
event_are_words (SignalAll s c) fits = rw (decimal_word s fits.0, decimal_word c fits.1) refl
event_are_words (SignalWait s c d n) fits =
    rw (decimal_word s fits.0, decimal_word c fits.1, decimal_word d fits.2, next_are_words n fits.3) refl

pub kind_is_word : (k : KindName) → IsWord (kind_word k)
kind_is_word k = grind arith

pub object_is_word : (o : ObjectName) → IsWord (object_word o)
object_is_word o = grind arith

pub header_are_words : (h : Heading) → IsHeading h → AreWords (header_words h)
header_are_words h fits =
    rw (
      decimal_word h.version (omega (arith, fits.still_named, none_newer h.object)),
      kind_is_word h.kind,
      decimal_word h.seats (omega (arith, fits.seats)),
      decimal_word h.conds (omega (arith, fits.conds)),
      object_is_word h.object,
      decimal_word h.size fits.size,
    ) refl

pub some_word : (e : Event) → 0 < length (event_words e)
some_word e = grind (arith, nat_tests)
