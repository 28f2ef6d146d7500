-- If a log is judged to fit, it is open: the events that were taken from it are a legal history that tells it
use Rattle.std.proofs.Common.{arith, ◌≡◌, ℕ, Bool, true, false, cond, ◌&&◌, not, List, [], ◌∷◌, ◌++◌, Some, None, refl, sym, ap, subst, ◌∙◌}
use Rattle.std.specs.Prelude.{◌==◌, Result, Ok, Err}
use Rattle.std.proofs.lemmas.{Bool.eqb-true, List.append-nil, List.append_assoc, List.same_from_push}
use Rattle.monk_kinds.specs.{Kind.IsKind, declared.mode.Pick.TheVariants.Waiter as WishWaiter}
use Rattle.monk_history.specs.declared.event.Event.TheVariants as event
use Rattle.monk_history.proofs.PublicLaws.Meaning.{allowed_from_reason, and_right, chosen_allowed, legal-push}
use Rattle.monk_history.proofs.PublicLaws.Meaning.{legal_none, legal_order, legal_situation-push, situation-none}
use Rattle.monk_history.specs.Meaning.{Choice.queues_at, Legal.IsLegal, Monitor.Monitor, Signallers.is_empty}
use Rattle.monk_history.specs.Meaning.{Situation.Situation, Situation.situation, Step.after}
use Rattle.monk_history.specs.Meaning.Reasons.{IsAllowed, is_right_reply, reason_in}
use Rattle.monk_history.specs.Meaning.Events.{next_of, returns_at_once}
use Rattle.monk_history.specs.Meaning.Release.{MayCall, choice_of, with_next}
use Rattle.monk_history.specs.declared.event.{Event.Event, Next.TheVariants.Stay}
use Rattle.monk_logs.specs.declared.text.line.LogLine.{LogLine}
use Rattle.monk_logs.specs.declared.text.line.LogLine.TheVariants.{Enter, Resume, Lapse, Leave, Wait, Signal, Broadcast}
use Rattle.monk_logs.specs.declared.text.line.LogLine.TheVariants.{Until, Act}
use Rattle.monk_completion.proofs.{Lead.lead, Lead.lead_all, Tests.called_from_tests, Tests.passed}
use Rattle.monk_completion.proofs.Events.{erased_with_next, erasure-push, handed-push, handed_enter, no_enter}
use Rattle.monk_completion.proofs.Events.{release_is_no_enter}
use Rattle.monk_completion.specs.{Blame.blame_of, Blame.half_blame, Blame.release_blame, Completion.AreHandedOver}
use Rattle.monk_completion.specs.{Completion.IsNoFreeEnter, Erasure.erasure_of, Erasure.erasure, Events.line_events}
use Rattle.monk_completion.specs.{Events.told_events, Fits.IsOpen, Told.is_lapse, Told.told_next, Told.told_release}
use Rattle.monk_completion.specs.Stand.{Stand, due_from, hold_over, line_behind, line_half, line_over, line_settled}
use Rattle.monk_completion.specs.Stand.{line_told, opening_stand, release_over, settle, stand, stand_settled}
use Rattle.monk_completion.specs.declared.blame.Blame.{Blame}
use Rattle.monk_completion.specs.declared.pending.Pending.{Pending}
use Rattle.monk_completion.specs.declared.pending.Pending.TheVariants.{Settled, Half, Release}
use Rattle.std.proofs.lemmas.Bool.Decides.{nat_tests}

-- the lines of what is not yet known
abbrev pub untold : Pending → List LogLine
untold Settled = []
untold (Half s c) = Signal s c ∷ []
untold (Release e) = erasure_of e

-- the last of the events has no choice
abbrev pub EndsSettled : List Event → Type 0
EndsSettled past = (before : List Event) (e : Event) → past ≡ before ++ e ∷ [] → next_of e ≡ None

-- what is known of the last event
abbrev pub IsStill : Monitor → List Event → Pending → Type 0
IsStill m past Settled = EndsSettled past
IsStill m past (Half s c) = MayCall m past (event.SignalLeave s c Stay)
IsStill m past (Release e) = MayCall m past e × (next_of e ≡ Some Stay)

-- the history and the pending event that a log has led to
pub record Tells (m : Monitor) (log : List LogLine) (past : List Event) (pending : Pending) : Type 0 where
  pub legal : IsLegal m past
  pub told : erasure past ++ untold pending ≡ log
  pub still : IsStill m past pending
  pub handed : AreHandedOver past

-- the lines led there, and showed these events
pub record TellsAt (m : Monitor) (log : List LogLine) (past : List Event) (s : Stand) : Type 0 where
  pub tells : Tells m log past s.pending
  pub stands : situation m past ≡ s.now

-- and no event more
none_more : (m : Monitor) (log : List LogLine) (past : List Event) (s : Stand) → Tells m log past s.pending
    → situation m past ≡ s.now → TellsAt m log (past ++ []) s
none_more m log past s t is =
    subst (λ (x : List Event). TellsAt m log x s) (sym (append-nil past)) (record { tells = t; stands = is })

-- ---- what is added

ends_with : (past : List Event) (e : Event) → next_of e ≡ None → EndsSettled (past ++ e ∷ [])
ends_with past e none = λ before x k. ap next_of (sym (same_from_push past before e x k).1) ∙ none

settled_tells : (m : Monitor) (past : List Event) (e : Event) (log : List LogLine) (s : Stand)
    → settle m (situation m past) e ≡ Ok s → next_of e ≡ None → (is_empty past ≡ false → IsNoFreeEnter e)
    → IsLegal m past → AreHandedOver past → erasure past ≡ log → TellsAt m (log ++ erasure_of e) (past ++ e ∷ []) s
settled_tells m past e log s h none one legal all told =
    let t = situation m past in
    let p = passed (reason_in m t e) (stand_settled (after m.object t e)) s (blame_of (reason_in m t e)) h in
    subst (TellsAt m (log ++ erasure_of e) (past ++ e ∷ [])) p.1 (record {
      tells = record {
        legal = legal-push m past e legal (allowed_from_reason m t e p.0);
        told = grind (arith, nat_tests, append-nil, erasure-push);
        still = ends_with past e none;
        handed = handed-push past e all one;
      };
      stands = legal_situation-push m past e legal;
    })

held_tells : (m : Monitor) (past : List Event) (e : Event) (p : Pending) (s : Stand)
    → hold_over m (situation m past) e p ≡ Ok s → MayCall m past e × (stand (situation m past) p ≡ s)
held_tells m past e p s h = grind (arith, nat_tests, passed, called_from_tests)

release_tells : (m : Monitor) (past : List Event) (e : Event) (log : List LogLine) (s : Stand)
    → release_over m (situation m past) e ≡ Ok s → next_of e ≡ Some Stay → IsLegal m past → AreHandedOver past
    → erasure past ≡ log → TellsAt m (log ++ erasure_of e) (past ++ []) s
release_tells m past e log s h stays legal all told =
    let p = held_tells m past e (Release e) s h in
    subst (TellsAt m (log ++ erasure_of e) (past ++ [])) p.1
    (none_more m (log ++ erasure_of e) past (stand (situation m past) (Release e)) (record {
      legal = legal;
      told = ap (λ (x : List LogLine). x ++ erasure_of e) told;
      still = (p.0, stays);
      handed = all;
    }) refl)

-- ---- one line

signal_tells : (m : Monitor) (past : List Event) (s c : ℕ) (log : List LogLine) (d : Stand) (b : Bool)
    → cond b (hold_over m (situation m past) (event.SignalLeave s c Stay) (Half s c))
    (release_over m (situation m past) (event.Signal s c Stay)) ≡ Ok d
    → IsLegal m past → AreHandedOver past → erasure past ≡ log → TellsAt m (log ++ Signal s c ∷ []) (past ++ []) d
signal_tells m past s c log d true h legal all told =
    let p = held_tells m past (event.SignalLeave s c Stay) (Half s c) d h in
    subst (TellsAt m (log ++ Signal s c ∷ []) (past ++ [])) p.1
    (none_more m (log ++ Signal s c ∷ []) past (stand (situation m past) (Half s c)) (record {
      legal = legal;
      told = ap (λ (x : List LogLine). x ++ Signal s c ∷ []) told;
      still = p.0;
      handed = all;
    }) refl)
signal_tells m past s c log d false h legal all told =
    release_tells m past (event.Signal s c Stay) log d h refl legal all told

settled_line_tells : (m : Monitor) (past : List Event) (log : List LogLine) (l : LogLine) (d : Stand)
    → line_settled m (situation m past) l ≡ Ok d → IsLegal m past → AreHandedOver past → erasure past ≡ log
    → TellsAt m (log ++ l ∷ []) (past ++ line_events (situation m past) l) d
settled_line_tells m past log (Enter s) d h legal all told =
    settled_tells m past _ log d h refl (handed_enter s (is_empty past)) legal all told
settled_line_tells m past log (Resume s) d h legal all told =
    let e = event.Resume s (due_from (situation m past).turn) in
    settled_tells m past e log d h refl (λ some. no_enter e refl) legal all told
settled_line_tells m past log (Lapse s) d h legal all told = absurd cc
settled_line_tells m past log (Leave s) d h legal all told =
    release_tells m past (event.Leave s Stay) log d h refl legal all told
settled_line_tells m past log (Wait s c) d h legal all told =
    release_tells m past (event.Wait s c Stay) log d h refl legal all told
settled_line_tells m past log (Signal s c) d h legal all told =
    signal_tells m past s c log d (returns_at_once m.kind.mode) h legal all told
settled_line_tells m past log (Broadcast s c) d h legal all told =
    let e = event.SignalAll s c in settled_tells m past e log d h refl (λ some. no_enter e refl) legal all told
settled_line_tells m past log (Until s p) d h legal all told =
    release_tells m past (event.Until s p Stay) log d h refl legal all told
settled_line_tells m past log (Act s op r) d h legal all told =
    let e = event.Act s op r in settled_tells m past e log d h refl (λ some. no_enter e refl) legal all told

if_ok : (b : Bool) (r : Result Stand Blame) (why : Blame) (y : Stand) → cond b r (Err why) ≡ Ok y
    → (b ≡ true) × (r ≡ Ok y)
if_ok b r why y h = grind arith

half_line_tells : (m : Monitor) (past : List Event) (s c : ℕ) (l : LogLine) (d : Stand)
    → line_half m (situation m past) s c l ≡ Ok d → IsLegal m past → AreHandedOver past
    → TellsAt m (erasure past ++ Signal s c ∷ l ∷ []) (past ++ []) d
half_line_tells m past s c (Enter j) d h legal all = absurd cc
half_line_tells m past s c (Resume j) d h legal all = absurd cc
half_line_tells m past s c (Lapse j) d h legal all = absurd cc
half_line_tells m past s c (Signal j x) d h legal all = absurd cc
half_line_tells m past s c (Broadcast j x) d h legal all = absurd cc
half_line_tells m past s c (Until j x) d h legal all = absurd cc
half_line_tells m past s c (Act j op r) d h legal all = absurd cc
half_line_tells m past s c (Leave j) d h legal all =
    let p = if_ok (j == s) (release_over m (situation m past) (event.SignalLeave s c Stay)) (half_blame m (Leave j)) d
    h in
    subst (λ (k : ℕ). TellsAt m (erasure past ++ Signal s c ∷ Leave k ∷ []) (past ++ []) d) (sym (eqb-true j s p.0))
    (release_tells m past (event.SignalLeave s c Stay) (erasure past) d p.1 refl legal all refl)
half_line_tells m past s c (Wait j x) d h legal all =
    let p = if_ok (j == s) (release_over m (situation m past) (event.SignalWait s c x Stay)) (half_blame m (Wait j x))
    d h in
    subst (λ (k : ℕ). TellsAt m (erasure past ++ Signal s c ∷ Wait k x ∷ []) (past ++ []) d) (sym (eqb-true j s p.0))
    (release_tells m past (event.SignalWait s c x Stay) (erasure past) d p.1 refl legal all refl)

release_line_tells : (m : Monitor) (past : List Event) (e : Event) (log : List LogLine) (l : LogLine) (d : Stand)
    → line_told m (situation m past) e l ≡ Ok d → next_of e ≡ Some Stay
    → IsLegal m past → AreHandedOver past → erasure past ++ erasure_of e ≡ log
    → TellsAt m (log ++ l ∷ []) (past ++ told_events m.object (situation m past) (Release e) l) d
release_line_tells m past e log l d h stays legal all told =
    let t = situation m past in
    let x = told_next (queues_at m.object t e) l in
    let f = told_release m.object t e l in
    let p = if_ok (not (is_lapse l) && (reason_in m t f == 0)) (line_settled m (after m.object t f) l)
    (release_blame m t e l) d h in
    let zero = eqb-true (reason_in m t f) 0 (and_right (not (is_lapse l)) (reason_in m t f == 0) p.0) in
    let lands : situation m (past ++ f ∷ []) ≡ after m.object t f = legal_situation-push m past f legal in
    let adds = settled_line_tells m (past ++ f ∷ []) log l d
    (subst (λ (u : Situation). line_settled m u l ≡ Ok d) (sym lands) p.1)
    (legal-push m past f legal (allowed_from_reason m t f zero))
    (handed-push past f all (λ some. no_enter f (release_is_no_enter x e stays)))
    (erasure-push past f ∙ ap (λ (y : List LogLine). erasure past ++ y) (erased_with_next x e) ∙ told) in
    grind (arith, nat_tests, append_assoc)

-- the line's events are added
pub line_tells : (m : Monitor) (log : List LogLine) (past : List Event) (pending : Pending) (l : LogLine) (d : Stand)
    → Tells m log past pending → line_behind m (situation m past) pending l ≡ Ok d
    → TellsAt m (log ++ l ∷ []) (past ++ told_events m.object (situation m past) pending l) d
line_tells m log past Settled l d t h =
    settled_line_tells m past log l d h t.legal t.handed (sym (append-nil (erasure past)) ∙ t.told)
line_tells m log past (Half s c) l d t h =
    subst (λ (x : List LogLine). TellsAt m x (past ++ []) d)
    (sym (append_assoc (erasure past) (Signal s c ∷ []) (l ∷ [])) ∙ ap (λ (x : List LogLine). x ++ l ∷ []) t.told)
    (half_line_tells m past s c l d h t.legal t.handed)
line_tells m log past (Release e) l d t h =
    release_line_tells m past e log l d h t.still.1 t.legal t.handed t.told

-- ---- a log

pub tells_on : (m : Monitor) (log : List LogLine) (past : List Event) (s : Stand) (l : LogLine) (d : Stand)
    → TellsAt m log past s → line_over m s l ≡ Ok d
    → TellsAt m (log ++ l ∷ []) (past ++ told_events m.object s.now s.pending l) d
tells_on m log past s l d at h =
    subst (λ (t : Situation). TellsAt m (log ++ l ∷ []) (past ++ told_events m.object t s.pending l) d) at.stands
    (line_tells m log past s.pending l d at.tells
    (ap (λ (t : Situation). line_behind m t s.pending l) at.stands ∙ h))

nothing_before : (before : List Event) (e : Event) → [] ≡ before ++ e ∷ [] → next_of e ≡ None
nothing_before [] e h = absurd cc
nothing_before (x ∷ before) e h = absurd cc

pub tells_nothing : (m : Monitor) → TellsAt m [] [] (opening_stand m)
tells_nothing m = record {
  tells = record {
    legal = legal_none m;
    told = refl;
    still = λ before e is. nothing_before before e is;
    handed = tt;
  };
  stands = situation-none m;
}

same_ok : (r : Result Stand Blame) (s d : Stand) → r ≡ Ok s → r ≡ Ok d → s ≡ d
same_ok r s d h h2 = grind arith

-- some events were shown in this way
abbrev TellsSome : Monitor → List LogLine → Stand → Type 0
TellsSome m log s = (past : List Event) × TellsAt m log past s

judged_tells : (m : Monitor) (log more : List LogLine) (r : Result Stand Blame) (d : Stand) → lead m r more ≡ Ok d
    → ((s : Stand) → r ≡ Ok s → TellsSome m log s) → TellsSome m (log ++ more) d
unfolding lead
judged_tells m log more (Err why) d h tells = absurd cc
judged_tells m log [] (Ok s) d h tells =
    subst (λ (x : List LogLine). TellsSome m x d) (sym (append-nil log)) (tells d h)
judged_tells m log (l ∷ more) (Ok s) d h tells =
    let at = tells s refl in
    subst (λ (x : List LogLine). TellsSome m x d) (append_assoc log (l ∷ []) more)
    (judged_tells m (log ++ l ∷ []) more (line_over m s l) d h
    (λ b is. (at.0 ++ told_events m.object s.now s.pending l, tells_on m log at.0 s l b at.1 is)))

-- ---- what is open

pub release_right : (m : Monitor) (past : List Event) (e : Event) → next_of e ≡ Some Stay
    → is_right_reply m.object (situation m past).state e ≡ true
release_right m past e h = grind arith

-- if a release may be called, it has a choice with which it is allowed
release_open : (m : Monitor) (past : List Event) (e : Event) → IsKind m.kind → IsLegal m past → MayCall m past e
    → next_of e ≡ Some Stay → IsOpen m (erasure past ++ erasure_of e)
release_open m past e kind legal may stays =
    let x = choice_of m.kind m.object (situation m past) e false WishWaiter in
    let allowed : IsAllowed m past (with_next x e) =
    chosen_allowed m (situation m past) e false WishWaiter (legal_order m past kind legal) may
    (release_right m past e stays) in
    record {
      history = past ++ with_next x e ∷ [];
      legal = legal-push m past (with_next x e) legal allowed;
      more = [];
      erases = grind (arith, nat_tests, erasure-push, erased_with_next, append-nil);
    }

-- if a log is open, it is open up to each of its lines
pub open_front : (m : Monitor) (log more : List LogLine) → IsOpen m (log ++ more) → IsOpen m log
open_front m log more o = grind (arith, nat_tests, append_assoc)

tells_open : (m : Monitor) (log : List LogLine) (past : List Event) (pending : Pending) → IsKind m.kind
    → Tells m log past pending → IsOpen m log
tells_open m log past Settled kind t =
    record {
      history = past;
      legal = t.legal;
      more = [];
      erases = sym (append-nil (erasure past)) ∙ t.told ∙ sym (append-nil log);
    }
tells_open m log past (Half s c) kind t =
    open_front m log (Leave s ∷ []) (subst (IsOpen m)
    (sym (append_assoc (erasure past) (Signal s c ∷ []) (Leave s ∷ []))
    ∙ ap (λ (x : List LogLine). x ++ Leave s ∷ []) t.told)
    (release_open m past (event.SignalLeave s c Stay) kind t.legal t.still refl))
tells_open m log past (Release e) kind t =
    subst (IsOpen m) t.told (release_open m past e kind t.legal t.still.0 t.still.1)

pub judged_open : (m : Monitor) (log : List LogLine) (d : Stand) → IsKind m.kind → lead_all m log ≡ Ok d → IsOpen m log
judged_open m log d kind h =
    let some = judged_tells m [] log (Ok (opening_stand m)) d h
    (λ s is. (
      [],
      subst (TellsAt m [] []) (same_ok (Ok (opening_stand m)) (opening_stand m) s refl is) (tells_nothing m),
    )) in
    tells_open m log some.0 d.pending kind some.1.tells
