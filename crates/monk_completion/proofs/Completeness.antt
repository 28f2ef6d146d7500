-- The log of a legal history is judged to fit, line by line
use Rattle.std.proofs.Common.{arith, ◌≡◌, ℕ, Bool, true, cond, not, List, [], ◌∷◌, ◌++◌, Some, refl, sym, ap, subst, ◌∙◌}
use Rattle.std.specs.Prelude.{◌==◌, Result, Ok, Err}
use Rattle.std.proofs.lemmas.Bool.{and_from, eq-eqb, Decides.nat_tests}
use Rattle.monk_history.specs.declared.event.Event.TheVariants as event
use Rattle.monk_history.proofs.PublicLaws.Meaning.{history_induction, legal_front, legal_last, legal_situation-push}
use Rattle.monk_history.proofs.PublicLaws.Meaning.{situation-none, turn-push}
use Rattle.monk_history.specs.Meaning.{Choice.queues_at, Legal.IsLegal, Monitor.Monitor, Step.after, Turn.turn_by}
use Rattle.monk_history.specs.Meaning.{Situation.Situation, Situation.situation, Release.MayCallIn, Release.as_called}
use Rattle.monk_history.specs.Meaning.Reasons.{IsAllowed, IsAllowedIn, fits_turn}
use Rattle.monk_history.specs.Meaning.Events.{next_of, seat_of, has_signaller_queue, returns_at_once}
use Rattle.monk_history.specs.declared.event.{Event.Event, From3.From3, Via.Via, Next.Next, Next.TheVariants.Stay}
use Rattle.monk_logs.specs.declared.text.line.LogLine.{LogLine}
use Rattle.monk_logs.specs.declared.text.line.LogLine.TheVariants.{Enter, Resume, Leave, Wait, Signal, Broadcast, Until}
use Rattle.monk_logs.specs.declared.text.line.LogLine.TheVariants.{Act}
use Rattle.monk_completion.proofs.{Calls.called_queues, Calls.half_called, Calls.named_again, Events.erasure-push}
use Rattle.monk_completion.proofs.ToldInHistories.{chosen, erased_lines, first_line, later_lines, line_tells}
use Rattle.monk_completion.proofs.Tests.{allowed_called, passes, reason_from_allowed}
use Rattle.monk_completion.proofs.Lead.{lead, lead-append, lead_all, lead_err, lead_more, lead_none}
use Rattle.monk_completion.specs.{Erasure.erasure_of, Erasure.erasure, Fits.IsOpen, Blame.half_blame}
use Rattle.monk_completion.specs.Stand.{Stand, hold_over, line_half, line_over, line_settled, line_told, opening_stand}
use Rattle.monk_completion.specs.Stand.{release_over, settle, stand, stand_settled, via_now}
use Rattle.monk_completion.specs.declared.pending.Pending.{Pending}
use Rattle.monk_completion.specs.declared.pending.Pending.TheVariants.{Settled, Half, Release}
use Rattle.monk_completion.specs.declared.blame.Blame.{Blame}
use Rattle.monk_completion.specs.Told.{is_lapse, told_next, told_release}

-- ---- how far the judging of a legal history comes

-- a release whose choice is not yet known, in the situation of the history before it
record IsHeldAt (m : Monitor) (h : List Event) (t : Situation) (held : Event) : Type 0 where
  before : List Event
  last : Event
  choice : Next
  is : h ≡ before ++ last ∷ []
  chose : next_of last ≡ Some choice
  called : held ≡ as_called last
  same : t ≡ situation m before

abbrev IsPendingAt : Monitor → List Event → Situation → Pending → Type 0
IsPendingAt m h t Settled = t ≡ situation m h
IsPendingAt m h t (Half s c) = ⊥
IsPendingAt m h t (Release e) = IsHeldAt m h t e

-- these lines lead there
record Leads (m : Monitor) (s : Stand) (ls : List LogLine) (h : List Event) : Type 0 where
  to : Stand
  judged : lead m (Ok s) ls ≡ Ok to
  at : IsPendingAt m h to.now to.pending

-- ---- an event that passes its tests is added, or held

settle_ok : (m : Monitor) (t : Situation) (e : Event) → IsAllowedIn m t e
    → settle m t e ≡ Ok (stand_settled (after m.object t e))
settle_ok m t e a = omega (arith, passes, reason_from_allowed)

hold_ok : (m : Monitor) (t : Situation) (e : Event) (p : Pending) → MayCallIn m t e → hold_over m t e p ≡ Ok (stand t p)
hold_ok m t e p h = grind arith

one_line : (m : Monitor) (s : Stand) (l : LogLine) (d : Stand) → line_over m s l ≡ Ok d → lead m (Ok s) (l ∷ []) ≡ Ok d
one_line m s l d h = grind (arith, nat_tests, lead_more, lead_none)

two_lines : (m : Monitor) (s : Stand) (l n : LogLine) (c d : Stand) → line_over m s l ≡ Ok c → line_over m c n ≡ Ok d
    → lead m (Ok s) (l ∷ n ∷ []) ≡ Ok d
two_lines m s l n c d h k = grind (arith, nat_tests, lead_more, lead, one_line)

-- ---- an event after events that are known

-- it is known too, perhaps with another way in; only what it makes of the situation matters
known_leads : (m : Monitor) (h : List Event) (t : Situation) (f g : Event) (l : LogLine) → IsLegal m h
    → t ≡ situation m h → IsAllowedIn m t g → after m.object t g ≡ after m.object t f
    → line_settled m t l ≡ settle m t g → Leads m (stand_settled t) (l ∷ []) (h ++ f ∷ [])
known_leads m h t f g l legal same allowed alike line = record {
  to = stand_settled (after m.object t g);
  judged = one_line m (stand_settled t) l (stand_settled (after m.object t g)) (line ∙ settle_ok m t g allowed);
  at = alike ∙ ap (λ (u : Situation). after m.object u f) same ∙ sym (legal_situation-push m h f legal);
}

held_at : (m : Monitor) (h : List Event) (t : Situation) (f : Event) (x : Next) → t ≡ situation m h
    → next_of f ≡ Some x → IsHeldAt m (h ++ f ∷ []) t (as_called f)
held_at m h t f x same chose = grind (arith, nat_tests)

held_leads : (m : Monitor) (h : List Event) (t : Situation) (f : Event) (x : Next) (l : LogLine)
    → t ≡ situation m h → IsAllowedIn m t f → next_of f ≡ Some x
    → line_settled m t l ≡ release_over m t (as_called f) → Leads m (stand_settled t) (l ∷ []) (h ++ f ∷ [])
held_leads m h t f x l same allowed chose line = record {
  to = stand t (Release (as_called f));
  judged = one_line m (stand_settled t) l (stand t (Release (as_called f)))
      (line ∙ hold_ok m t (as_called f) (Release (as_called f)) (allowed_called m t f allowed));
  at = held_at m h t f x same chose;
}

-- a signal that has two lines
half_leads : (m : Monitor) (h : List Event) (t : Situation) (s c : ℕ) (f : Event) (x : Next) (n : LogLine)
    → t ≡ situation m h → returns_at_once m.kind.mode ≡ true → MayCallIn m t (event.SignalLeave s c Stay)
    → IsAllowedIn m t f → next_of f ≡ Some x → line_half m t s c n ≡ release_over m t (as_called f)
    → Leads m (stand_settled t) (Signal s c ∷ n ∷ []) (h ++ f ∷ [])
half_leads m h t s c f x n same returns may allowed chose line = record {
  to = stand t (Release (as_called f));
  judged = two_lines m (stand_settled t) (Signal s c) n (stand t (Half s c)) (stand t (Release (as_called f)))
      (ap (λ (b : Bool). cond b (hold_over m t (event.SignalLeave s c Stay) (Half s c))
      (release_over m t (event.Signal s c Stay))) returns
      ∙ hold_ok m t (event.SignalLeave s c Stay) (Half s c) may)
      (line ∙ hold_ok m t (as_called f) (Release (as_called f)) (allowed_called m t f allowed));
  at = held_at m h t f x same chose;
}

-- ---- the ways in

enter_allowed : (m : Monitor) (t : Situation) (s : ℕ) (via : Via) → IsAllowedIn m t (event.Enter s via)
    → IsAllowedIn m t (event.Enter s (via_now t))
enter_allowed m t s via h = grind arith

resume_line : (m : Monitor) (t : Situation) (s : ℕ) (q : From3) → IsAllowedIn m t (event.Resume s q)
    → line_settled m t (Resume s) ≡ settle m t (event.Resume s q)
resume_line m t s q h = grind arith

signal_line : (m : Monitor) (t : Situation) (s c : ℕ) → has_signaller_queue m.kind.mode ≡ true
    → line_settled m t (Signal s c) ≡ release_over m t (event.Signal s c Stay)
signal_line m t s c h = grind arith

same_seat : (s : ℕ) (r : Result Stand Blame) (why : Blame) → cond (s == s) r (Err why) ≡ r
same_seat s r why = grind arith

-- ---- each event after events that are known

event_leads : (m : Monitor) (h : List Event) (t : Situation) (f : Event) → IsLegal m h → t ≡ situation m h
    → IsAllowedIn m t f → Leads m (stand_settled t) (erasure_of f) (h ++ f ∷ [])
event_leads m h t (event.Enter s via) legal same a =
    known_leads m h t (event.Enter s via) (event.Enter s (via_now t)) (Enter s) legal same (enter_allowed m t s via a)
    refl refl
event_leads m h t (event.Act s op r) legal same a =
    known_leads m h t (event.Act s op r) (event.Act s op r) (Act s op r) legal same a refl refl
event_leads m h t (event.Resume s q) legal same a =
    known_leads m h t (event.Resume s q) (event.Resume s q) (Resume s) legal same a refl (resume_line m t s q a)
event_leads m h t (event.SignalAll s c) legal same a =
    known_leads m h t (event.SignalAll s c) (event.SignalAll s c) (Broadcast s c) legal same a refl refl
event_leads m h t (event.Leave s x) legal same a = held_leads m h t (event.Leave s x) x (Leave s) same a refl refl
event_leads m h t (event.Wait s c x) legal same a = held_leads m h t (event.Wait s c x) x (Wait s c) same a refl refl
event_leads m h t (event.Until s p x) legal same a = held_leads m h t (event.Until s p x) x (Until s p) same a refl refl
event_leads m h t (event.Signal s c x) legal same a =
    held_leads m h t (event.Signal s c x) x (Signal s c) same a refl (signal_line m t s c a.offered)
event_leads m h t (event.SignalLeave s c x) legal same a =
    half_leads m h t s c (event.SignalLeave s c x) x (Leave s) same a.offered
    (allowed_called m t (event.SignalLeave s c x) a) a refl
    (same_seat s (release_over m t (event.SignalLeave s c Stay)) (half_blame m (Leave s)))
event_leads m h t (event.SignalWait s c d x) legal same a =
    half_leads m h t s c (event.SignalWait s c d x) x (Wait s d) same a.offered
    (half_called m t s c d (allowed_called m t (event.SignalWait s c d x) a)) a refl
    (same_seat s (release_over m t (event.SignalWait s c d Stay)) (half_blame m (Wait s d)))

-- ---- an event after a release

-- the release has the choice that the line shows
release_told : (m : Monitor) (g : List Event) (t : Situation) (e f : Event) (x : Next) → next_of e ≡ Some x
    → IsLegal m (g ++ e ∷ []) → IsAllowed m (g ++ e ∷ []) f → t ≡ situation m g
    → told_release m.object t (as_called e) (first_line f) ≡ e
release_told m g t e f x chose legal allowed same =
    let u = situation m g in
    let turned : fits_turn (turn_by (seat_of e) (Some x)) f ≡ true = grind (arith, nat_tests, turn-push) in
    let told : told_next (queues_at m.object u e) (first_line f) ≡ x = grind (arith, nat_tests, line_tells, chosen) in
    grind (arith, nat_tests, first_line, called_queues, named_again)

no_lapse : (f : Event) → not (is_lapse (first_line f)) ≡ true
no_lapse f = grind arith

-- then the line is judged as one after events that are known
told_line : (m : Monitor) (t : Situation) (held e f : Event) → told_release m.object t held (first_line f) ≡ e
    → IsAllowedIn m t e
    → line_told m t held (first_line f) ≡ line_settled m (after m.object t e) (first_line f)
told_line m t held e f told a = grind (arith, nat_tests, first_line, and_from, no_lapse, eq-eqb, reason_from_allowed)

release_lines : (m : Monitor) (t : Situation) (held e f : Event)
    → told_release m.object t held (first_line f) ≡ e → IsAllowedIn m t e
    → lead m (Ok (stand t (Release held))) (erasure_of f)
    ≡ lead m (Ok (stand_settled (after m.object t e))) (erasure_of f)
release_lines m t held e f told a =
    grind (arith, nat_tests, lead, erased_lines, lead_more, first_line, later_lines, told_line)

-- ---- a history

follows_on : (m : Monitor) (h : List Event) (s : Stand) (p : Pending) (f : Event) → s.pending ≡ p → IsLegal m h
    → IsAllowed m h f → IsPendingAt m h s.now p → Leads m (stand s.now p) (erasure_of f) (h ++ f ∷ [])
follows_on m h s Settled f is legal a at =
    event_leads m h s.now f legal at (subst (λ (t : Situation). IsAllowedIn m t f) (sym at) a)
follows_on m h s (Half i c) f is legal a at = absurd at
follows_on m h s (Release held) f is legal a k =
    let t = s.now in
    let g = k.before in
    let e = k.last in
    let whole : IsLegal m (g ++ e ∷ []) = subst (IsLegal m) k.is legal in
    let may : IsAllowedIn m t e = subst (λ (u : Situation). IsAllowedIn m u e) (sym k.same) (legal_last m g e whole) in
    let same : after m.object t e ≡ situation m h =
    ap (λ (u : Situation). after m.object u e) k.same
    ∙ sym (legal_situation-push m g e (legal_front m g (e ∷ []) whole)) ∙ ap (situation m) (sym k.is) in
    let told : told_release m.object t held (first_line f) ≡ e =
    ap (λ (b : Event). told_release m.object t b (first_line f)) k.called
    ∙ release_told m g t e f k.choice k.chose whole (subst (λ (x : List Event). IsAllowed m x f) k.is a) k.same in
    let leads = event_leads m h (after m.object t e) f legal same
    (subst (λ (u : Situation). IsAllowedIn m u f) (sym same) a) in
    grind (arith, nat_tests, release_lines)

history_leads : (m : Monitor) (h : List Event) → IsLegal m h → Leads m (opening_stand m) (erasure h) h
history_leads m h = history_induction (λ x. IsLegal m x → Leads m (opening_stand m) (erasure x) x)
    (λ l. record {
      to = opening_stand m;
      judged = lead_none m (Ok (opening_stand m));
      at = sym (situation-none m);
    })
    (λ x e more l.
    let w = more (legal_front m x (e ∷ []) l) in
    let v = follows_on m x w.to w.to.pending e refl (legal_front m x (e ∷ []) l) (legal_last m x e l) w.at in
    record {
      to = v.to;
      judged = grind (arith, nat_tests, lead, erasure-push, lead-append);
      at = v.at;
    }) h

-- if there is a reason against a line, no legal history begins with the log
not_both : (r : Result Stand Blame) (why : Blame) (to : Stand) → r ≡ Err why → r ≡ Ok to → ⊥
not_both r why to h h2 = grind arith

pub open_judged : (m : Monitor) (log : List LogLine) (why : Blame) → IsOpen m log → lead_all m log ≡ Err why → ⊥
open_judged m log why o is =
    let w = history_leads m o.history o.legal in
    grind (arith, nat_tests, not_both, lead, lead_all, lead_err, lead-append)
