-- What holds for a hall's table if its rule does
use Rattle.std.proofs.Common.{◌≡◌, ◌≢◌, ◌≤◌, ℕ, false, true≢false, refl, sym, ap, subst, ◌∙◌, arith}
use Rattle.monk_kinds.specs.declared.mode.Rules.{Rules}
use Rattle.monk_object.specs.Object.{Object}
use Rattle.monk_world.proofs.PublicLaws.{has_right, in_one_place, well_led}
use Rattle.monk_world.specs.{OnePlace.IsInOnePlace, State.is_quiet}
use Rattle.monk_world.specs.Places.{HoldsRight, stage, outside_stage, due_stage, passing_stage}
use Rattle.monk_world.specs.Right.{Whereabouts, Nowhere, AtTicket, With, AtSeat}
use Rattle.monk_world.specs.declared.place.Place.{Place}
use Rattle.monk_world.specs.declared.place.Place.TheVariants.{Idle, Ticket, Due, Active, Back, Passing, Inner}
use Rattle.monk_hall.proofs.{FloorIn.gives_at, FloorOut.takes_at, GrantSteps.grants_ticket_at, GrantSteps.calls_seat_at}
use Rattle.monk_hall.proofs.WordSteps.{arrives_at, looks_for_ticket_at, looks_for_call_at, peeks_at, takes_off_at}
use Rattle.monk_hall.proofs.RecordLaws.{recorded, is, desk, place, with, back}
use Rattle.monk_hall.specs.{Rule.IsHall, declared.record.SeatRecord.SeatRecord, declared.setting.Setting.Setting}
use Rattle.monk_hall.specs.Laws.{HallState, IsRecord, first_word, RightInOnePlace, IdleIsFree, ShowsWellLed}
use Rattle.monk_hall.specs.Laws.{OneHasTheRight, OneIsActive, KnownWaits, EntryWaits, ArriveSteps, TicketLookSteps}
use Rattle.monk_hall.specs.Laws.{SeatLookSteps, PeekSteps, FloorOutSteps, FloorInSteps, DropSteps, TicketGrantSteps}
use Rattle.monk_hall.specs.Laws.{SeatGrantSteps}
use Rattle.monk_hall.specs.Layout.{unpassed, floor_of, shown_state, shown_world}
use Rattle.std.proofs.lemmas.Bool.Decides.{nat_tests}

pub shows_well_led : ShowsWellLed
shows_well_led k o c s h = let kept = h.2.kept in
    well_led k o (shown_state c s.words h.0 h.2.history) kept.sound.right kept.sound.owner kept.sound.is_sound

pub right_in_one_place : RightInOnePlace
right_in_one_place k o c s h = in_one_place c.seats (shown_world s.words h.0) h.2.kept.sound.right h.2.kept.sound.owner
    h.2.kept.sound.is_sound.stands.keeps h.2.some_seat

only_idle : (p : Place) → (stage p ≢ outside_stage → p ≡ Idle) → p ≡ Idle
only_idle Idle f = refl
only_idle (Ticket t) f = f (λ e. absurd (omega arith))
only_idle (Due q) f = f (λ e. absurd (omega arith))
only_idle (Active q) f = f (λ e. absurd (omega arith))
only_idle (Back x to) f = f (λ e. absurd (omega arith))
only_idle (Passing t to) f = f (λ e. absurd (omega arith))
only_idle Inner f = f (λ e. absurd (omega arith))

pub idle_is_free : IdleIsFree
idle_is_free k o c s h idle = free one.right refl
  where
    one : IsInOnePlace c.seats (shown_world s.words h.0)
    one = right_in_one_place k o c s h

    is_idle : (j : ℕ) → (h.0 j).place ≡ Idle
    is_idle j = only_idle (h.0 j).place (λ inside. idle (h.0 j) (recorded k o c s h j inside))

    free : (r : Whereabouts) → one.right ≡ r → unpassed (first_word s) ≡ 0
    free Nowhere e = one.free.1 e
    free (AtTicket t) e =
        let taker = one.has_taker t e in
        let at = ap stage (sym taker.1 ∙ is_idle taker.0) in
        absurd (omega arith)
    free (With j) e = absurd (subst HoldsRight (is_idle j) ((one.with_seat j).1 e))
    free (AtSeat j) e =
        let called = (one.at_seat j).1 e in
        let at = ap stage (sym called.0 ∙ is_idle j) in
        absurd (omega arith)

-- two seats that have the right are the same
one : (k : Rules) (o : Object) (c : Setting) (s : HallState) → IsHall k o c s → (r q : SeatRecord)
    → (x : IsRecord s r) → (y : IsRecord s q)
    → (due_stage ≤ stage r.place) × (stage r.place ≤ passing_stage) → (due_stage ≤ stage q.place)
    × (stage q.place ≤ passing_stage) → (r ≡ q) × (x.id ≡ y.id)
one k o c s h r q x y a b =
    let mine = with k o c s h r x a.0 a.1 in
    let theirs = with k o c s h q y b.0 b.1 in
    grind (arith, nat_tests, is, desk)

pub one_has_the_right : OneHasTheRight
one_has_the_right k o c s h r q x y a b = one k o c s h r q x y (has_right r.place a) (has_right q.place b)

pub one_is_active : OneIsActive
one_is_active k o c s h r q x y a b = one k o c s h r q x y (omega arith, omega arith) (omega arith, omega arith)

pub known_waits : KnownWaits
known_waits k o c s h r x active known =
    let at = is k o c s h r x in
    grind (arith, nat_tests, place)

pub entry_waits : EntryWaits
entry_waits k o c s h r to x back_at some =
    let at = place k o c s h r x ∙ back_at in
    let history = back k o c s h r x (ap stage back_at) in
    let loud : is_quiet k o (floor_of c h.2.history) ≡ false = grind (arith, nat_tests) in
    grind (arith, nat_tests, true≢false)

pub arrival_steps : ArriveSteps
arrival_steps k o c kind s h id r here idle room = arrives_at k o c kind s h id r here idle room _ refl

pub ticket_look_steps : TicketLookSteps
ticket_look_steps k o c kind s h id r here waits = looks_for_ticket_at k o c kind s h id r here waits

pub call_look_steps : SeatLookSteps
call_look_steps k o c kind s h id r here parked = looks_for_call_at k o c kind s h id r here parked

pub peek_steps : PeekSteps
peek_steps k o c kind s h id r here active = peeks_at k o c kind s h id r here active

pub floor_out_steps : FloorOutSteps
floor_out_steps k o c kind s h id r here due = takes_at k o c kind s h id r here due

pub floor_in_steps : FloorInSteps
floor_in_steps k o c kind s h id r here f active ret = gives_at k o c kind s h id r here active f ret

pub drop_steps : DropSteps
drop_steps k o c kind s h id r here to is_back = takes_off_at k o c kind s h id r here to is_back _ refl

pub ticket_grant_steps : TicketGrantSteps
ticket_grant_steps k o c kind s h id r here passing = grants_ticket_at k o c kind s h id r here passing

pub seat_grant_steps : SeatGrantSteps
seat_grant_steps k o c kind s h id r here m names = calls_seat_at k o c kind s h id r here m names _ refl
