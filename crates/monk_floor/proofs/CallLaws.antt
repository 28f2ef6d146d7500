-- What a release is, as its caller knows it
use Rattle.std.proofs.Common.{◌≡◌, ℕ, true, true≢false, not, List, Some, None, refl, sym, ap, ◌∙◌, arith}
use Rattle.monk_kinds.specs.declared.mode.Mode.{Mode, TheVariants.Blocking, TheVariants.ImmediateReturn}
use Rattle.monk_object.specs.Object.{Object}
use Rattle.monk_history.specs.Meaning.{Monitor.data_after, Release.with_next}
use Rattle.monk_history.specs.Meaning.Events.{seat_of, next_of, steps_back, has_conditions, is_call_of}
use Rattle.monk_history.specs.declared.event.Next.{Next, TheVariants.Stay}
use Rattle.monk_history.specs.declared.event.Event.{Event}
use Rattle.monk_history.specs.declared.event.Event.TheVariants.{Enter, Act, Leave, Wait, Signal, SignalLeave, Until}
use Rattle.monk_history.specs.declared.event.Event.TheVariants.{Resume, SignalAll, SignalWait}
use Rattle.monk_floor.specs.Releases.{IsReplyless, MakesNoSignaller, ServesNobody}
use Rattle.std.proofs.lemmas.Bool.Decides.{nat_tests}

pub replyless : (o : Object) (e : Event) → next_of e ≡ Some Stay → IsReplyless o e
replyless o e r = grind (arith, nat_tests)

-- the data stay the same, whatever it chooses
pub keeps_data : (o : Object) (e : Event) (n : Next) → next_of e ≡ Some Stay → (d : List ℕ)
    → data_after o d (with_next n e) ≡ d
keeps_data o e n r d = grind (arith, nat_tests)

pub same_seat : (e : Event) (n : Next) → seat_of (with_next n e) ≡ seat_of e
same_seat e n = grind (arith, nat_tests)

-- an event written with stay is the same with the choice to stay
pub as_it_was : (e : Event) → next_of e ≡ Some Stay → with_next Stay e ≡ e
as_it_was e r = grind (arith, nat_tests)

-- a release whose seat may step back is that signal
pub signal_is : (e : Event) (c : ℕ) → steps_back e ≡ Some c → next_of e ≡ Some Stay → e ≡ Signal (seat_of e) c Stay
signal_is e c b r = grind (arith, nat_tests)

-- if its seat doesn't step back, it makes no signaller. No release of a kind without a signaller queue steps back
pub none_steps_back : (m : Mode) (e : Event) → m ≡ ImmediateReturn → is_call_of m e ≡ true → steps_back e ≡ None
none_steps_back m e is o = grind (arith, nat_tests)

-- no kind that has conditions has an until
pub makes_no_signaller : (o : Object) (m : Mode) (e : Event) → has_conditions m ≡ true → is_call_of m e ≡ true
    → next_of e ≡ Some Stay → steps_back e ≡ None → MakesNoSignaller o e
makes_no_signaller o m (Enter s via) h k r b = absurd cc
makes_no_signaller o m (Act s op n) h k r b = absurd cc
makes_no_signaller o m (Leave s x) h k r b = record { replyless = λ d. refl; chooses = λ t. refl; signals = λ q. refl }
makes_no_signaller o m (Wait s c x) h k r b = record { replyless = λ d. refl; chooses = λ t. refl; signals = λ q. refl }
makes_no_signaller o m (Signal s c x) h k r b = absurd cc
makes_no_signaller o m (SignalLeave s c x) h k r b =
    record { replyless = λ d. refl; chooses = λ t. refl; signals = λ q. refl }
makes_no_signaller o m (Until s p x) h k r b = absurd (true≢false (sym k ∙ ap not h))
makes_no_signaller o m (Resume s q) h k r b = absurd cc
makes_no_signaller o m (SignalAll s c) h k r b = absurd cc
makes_no_signaller o m (SignalWait s c d x) h k r b =
    record { replyless = λ y. refl; chooses = λ t. refl; signals = λ q. refl }

pub serves_nobody : (o : Object) (m : Mode) (e : Event) → m ≡ Blocking → is_call_of m e ≡ true
    → next_of e ≡ Some Stay → steps_back e ≡ None → ServesNobody o e
serves_nobody o m (Enter s via) is k r b = absurd cc
serves_nobody o m (Act s op n) is k r b = absurd cc
serves_nobody o m (Leave s x) is k r b =
    record { replyless = λ d. refl; chooses = λ t. refl; signals = λ q. refl; serves = λ q. refl }
serves_nobody o m (Wait s c x) is k r b =
    record { replyless = λ d. refl; chooses = λ t. refl; signals = λ q. refl; serves = λ q. refl }
serves_nobody o m (Signal s c x) is k r b = absurd cc
serves_nobody o m (SignalLeave s c x) is k r b =
    absurd (true≢false (sym k ∙ ap (λ y. is_call_of y (SignalLeave s c x)) is))
serves_nobody o m (Until s p x) is k r b = absurd (true≢false (sym k ∙ ap (λ y. is_call_of y (Until s p x)) is))
serves_nobody o m (Resume s q) is k r b = absurd cc
serves_nobody o m (SignalAll s c) is k r b = absurd cc
serves_nobody o m (SignalWait s c d x) is k r b =
    absurd (true≢false (sym k ∙ ap (λ y. is_call_of y (SignalWait s c d x)) is))
