-- While the floor changes hands the right is with the seat that brought it home, then in a word that this seat wrote,
-- and then with the seat that has read it there
use Rattle.std.proofs.Common.{◌≡◌, ◌≢◌, ℕ, ◌+◌, ◌-◌, ◌==◌, ◌<◌, ◌⊎◌, Bool, true, false, List, [], ◌∷◌, ◌++◌}
use Rattle.std.proofs.Common.{set, sym, refl, ap, subst, ◌∙◌, inl, inr, ⊎_elim, cond, arith, get_or-set_other, get_or-set_same}
use Rattle.std.proofs.lemmas.{Bool.Decides.eqb_tells, Bool.Decides.nat_tests, Option.none-some, Option.same_Some}
use Rattle.std.specs.Prelude.{Some, None, slice_index}
use mathlib.Core.Option.{some}
use lib.ListN.{get_elem?}
use Rattle.atomic_table.proofs.Lists.{set_here}
use Rattle.monk_kinds.specs.{Kind.IsKind, declared.mode.Rules.Rules}
use Rattle.monk_object.specs.Object.{Object}
use Rattle.monk_history.specs.Meaning.Counts.{granted_of}
use Rattle.monk_history.specs.declared.event.{Event.Event, Next.TheVariants.Entry}
use Rattle.monk_floor.specs.View.{FloorView}
use Rattle.monk_world.proofs.PublicLaws.{few_drawn}
use Rattle.monk_world.specs.Steps.{place_after_arrive, place_after_ticket_look, place_after_seat_look, place_after_drop}
use Rattle.monk_world.specs.OnePlace.{IsInOnePlace}
use Rattle.monk_world.specs.declared.home.Home.{Home}
use Rattle.monk_world.specs.declared.place.Place.{Place}
use Rattle.monk_world.specs.declared.place.Place.TheVariants.{Idle, Ticket, Due, Active, Back, Passing, Inner}
use Rattle.monk_world.specs.Places.{HoldsRight, stage, ticket, place_of, outside_stage, ticketed_stage, due_stage}
use Rattle.monk_world.specs.Places.{active_stage, back_stage, passing_stage, inside_stage}
use Rattle.monk_hall.proofs.FloorIn as floor_in
use Rattle.monk_hall.proofs.Standing as standing
use Rattle.monk_hall.proofs.WordSteps as words
use Rattle.monk_hall.proofs.{GrantSteps.choosing_at, Packed.after_take_off, ScheduleLaws.IsLed, ScheduleReturns.returns}
use Rattle.monk_hall.proofs.{Seats.long, RecordLaws.is, RecordLaws.cases_le}
use Rattle.monk_hall.proofs.RuleLaws.{one_has_the_right, right_in_one_place}
use Rattle.monk_hall.proofs.GrantsTaken.{not_first, holds_due, holds_passing, holds_chosen, nobody_holds, moved_stays}
use Rattle.monk_hall.proofs.GrantsTaken.{taken_or_stands, no_second}
use Rattle.monk_hall.proofs.GrantStands.{Stands, at_next, others_stay, grant_stands}
use Rattle.monk_hall.proofs.ScheduleMoves.{step_led, led_by, led_opening}
use Rattle.monk_hall.specs.{Deeds.look_at, GrantsInTurn.IsTaken, Rule.IsHall, Rule.Homes}
use Rattle.monk_hall.specs.Layout.{tickets, unpassed, one_drawn, one_passed, ticket_word, seat_word, waiting_word_at}
use Rattle.monk_hall.specs.Layout.{floor_of, shown_state, shown_world}
use Rattle.monk_hall.specs.Laws.{HallState, IsRecord, first_word}
use Rattle.monk_hall.specs.declared.{record.SeatRecord.SeatRecord, setting.Setting.Setting}
use Rattle.monk_hall.specs.declared.deed.Deed.{Deed}
use Rattle.monk_hall.specs.declared.deed.Deed.TheVariants.{Arrive, LookForTicket, LookForCall, Peek, FloorOut, FloorIn}
use Rattle.monk_hall.specs.declared.deed.Deed.TheVariants.{Drop, GrantTicket, CallSeat, Meet}
use Rattle.monk_hall.specs.Changes.{record_after_arrive, record_after_ticket_look, record_after_seat_look}
use Rattle.monk_hall.specs.Changes.{record_after_peek, record_after_floor_out, record_after_floor_in, record_after_drop}
use Rattle.monk_hall.specs.Changes.{record_after_grant, home_at}
use Rattle.monk_hall.specs.HandOver.{written_word, read_word, takes_out, NoneTakesOut, IsFoundBetween, IsHandedOver}
use Rattle.monk_hall.specs.HandOver.{FloorChangesHands, OnlyRead, NeverByReadsAlone}
use Rattle.monk_hall.specs.Schedules.{Step, By, Deal, Part, Join, Compare, IsDone, IsStep, IsSchedule, after_step}
use Rattle.monk_hall.specs.Schedules.{opening_table}

-- a word that a step doesn't write is as it was
pub words_stay : (k : Rules) (o : Object) (c : Setting) (s : HallState) (x : Step) (t : HallState) → IsStep k o c s x t
    → (w : ℕ) → written_word c.seats x ≢ Some w → slice_index t.words w ≡ slice_index s.words w
words_stay k o c s (By i id (Arrive n m)) t (r, here, seat, (idle, room, number, last, is_t)) w ne =
    ap (λ (u : HallState). slice_index u.words w) is_t
    ∙ get_or-set_other s.words 0 w (one_drawn (first_word s)) 0 (λ e. ne (ap Some (sym e)))
words_stay k o c s (By i id (LookForTicket b)) t (r, here, seat, (found, waits, there, says, is_t)) w ne =
    ap (λ (u : HallState). slice_index u.words w) is_t
words_stay k o c s (By i id (LookForCall b)) t (r, here, seat, (found, parked, there, says, is_t)) w ne =
    ap (λ (u : HallState). slice_index u.words w) is_t
words_stay k o c s (By i id (Peek n)) t (r, here, seat, (active, number, is_t)) w ne =
    ap (λ (u : HallState). slice_index u.words w) is_t
words_stay k o c s (By i id FloorOut) t (r, here, seat, (f, due, got, is_t)) w ne =
    ap (λ (u : HallState). slice_index u.words w) is_t
words_stay k o c s (By i id (FloorIn es)) t (r, here, seat, (since, e, active, played, rel, es_is, is_t)) w ne =
    ap (λ (u : HallState). slice_index u.words w) is_t
words_stay k o c s (By i id (Drop n)) t (r, here, seat, (to, back, number, is_t)) w ne =
    ap (λ (u : HallState). slice_index u.words w) is_t
    ∙ get_or-set_other s.words 0 w (one_passed (first_word s)) 0 (λ e. ne (ap Some (sym e)))
words_stay k o c s (By i id (GrantTicket n)) t (r, here, seat, (passing, number, is_t)) w ne =
    ap (λ (u : HallState). slice_index u.words w) is_t
    ∙ get_or-set_other s.words (ticket_word c.seats n) w (n + 1) 0 (λ e. ne (ap Some (sym e)))
words_stay k o c s (By i id (CallSeat m)) t (r, here, seat, (names, is_t)) w ne =
    ap (λ (u : HallState). slice_index u.words w) is_t
    ∙ get_or-set_other s.words (seat_word m) w (granted_of r.seen m) 0 (λ e. ne (ap Some (sym e)))
words_stay k o c s (By i id Meet) t (r, here, seat, never) w ne = absurd never
words_stay k o c s (Deal id) t (r, rs, view, is_t) w ne = ap (λ (u : HallState). slice_index u.words w) is_t
words_stay k o c s (Part id) t (a, b, view, is_t) w ne = ap (λ (u : HallState). slice_index u.words w) is_t
words_stay k o c s (Join i id other) t (a, b, view, view_b, apart, idle, first, is_t) w ne =
    ap (λ (u : HallState). slice_index u.words w) is_t
words_stay k o c s (Compare i id) t (a, b, view, idle_a, idle_b, second, is_t) w ne =
    ap (λ (u : HallState). slice_index u.words w) is_t

-- a deed makes one new record, of the same seat
record IsMadeBy (s t : HallState) (id : ℕ) (r : SeatRecord) : Type 0 where
  ws : List ℕ
  hs : Homes
  made : SeatRecord
  is_t : t ≡ after_step s id ws hs made
  same : made.seat ≡ r.seat

made_by : (k : Rules) (o : Object) (c : Setting) (s : HallState) (id : ℕ) (r : SeatRecord) (d : Deed) (t : HallState)
    → IsDone k o c s id r d t → IsMadeBy s t id r
made_by k o c s id r (Arrive n m) t (idle, room, number, last, is_t) =
    record { ws = _; hs = _; made = record_after_arrive r (first_word s); is_t = is_t; same = refl }
made_by k o c s id r (LookForTicket b) t (found, waits, there, says, is_t) =
    record { ws = _; hs = _; made = record_after_ticket_look r found; is_t = is_t; same = refl }
made_by k o c s id r (LookForCall b) t (found, parked, there, says, is_t) =
    record { ws = _; hs = _; made = record_after_seat_look r found; is_t = is_t; same = refl }
made_by k o c s id r (Peek n) t (active, number, is_t) =
    record { ws = _; hs = _; made = record_after_peek r (first_word s); is_t = is_t; same = refl }
made_by k o c s id r FloorOut t (f, due, got, is_t) =
    record { ws = _; hs = _; made = record_after_floor_out r f.history; is_t = is_t; same = refl }
made_by k o c s id r (FloorIn es) t (since, e, active, played, rel, es_is, is_t) =
    record { ws = _; hs = _; made = record_after_floor_in r (r.seen ++ es); is_t = is_t; same = refl }
made_by k o c s id r (Drop n) t (to, back, number, is_t) =
    record { ws = _; hs = _; made = record_after_drop r (first_word s); is_t = is_t; same = refl }
made_by k o c s id r (GrantTicket n) t (passing, number, is_t) =
    record { ws = _; hs = _; made = record_after_grant r (GrantTicket n); is_t = is_t; same = refl }
made_by k o c s id r (CallSeat m) t (names, is_t) =
    record { ws = _; hs = _; made = record_after_grant r (CallSeat m); is_t = is_t; same = refl }
made_by k o c s id r Meet t never = absurd never

-- what a look that finds its grant says
abbrev said : List Deed → Bool
said (LookForTicket b ∷ ds) = b
said (LookForCall b ∷ ds) = b
said _ = true

says_found : (p : Place) → said (look_at p true) ≡ true
says_found Idle = refl
says_found (Ticket t) = refl
says_found (Due q) = refl
says_found (Active q) = refl
says_found (Back x to) = refl
says_found (Passing t to) = refl
says_found Inner = refl

-- 2 for what is no look
abbrev look_kind : List Deed → ℕ
look_kind [] = 0
look_kind (LookForTicket b ∷ ds) = 1
look_kind (LookForCall b ∷ ds) = 1
look_kind _ = 2

is_look : (p : Place) → look_kind (look_at p true) < 2
is_look Idle = omega arith
is_look (Ticket t) = omega arith
is_look (Due q) = omega arith
is_look (Active q) = omega arith
is_look (Back x to) = omega arith
is_look (Passing t to) = omega arith
is_look Inner = omega arith

abbrev first_deed : Deed → List Deed → Deed
first_deed d [] = d
first_deed d (x ∷ xs) = x

-- a seat that is due can do nothing but take the floor out
only_out : (k : Rules) (o : Object) (c : Setting) (s : HallState) (id : ℕ) (r : SeatRecord) (d : Deed) (t : HallState)
    → stage r.place ≡ due_stage → IsDone k o c s id r d t → takes_out (By r.seat id d) ≡ false → ⊥
only_out k o c s id r (Arrive n m) t due (idle, room, number, last, is_t) quiet =
    let a = ap stage idle in absurd (omega arith)
only_out k o c s id r (LookForTicket b) t due (found, waits, there, says, is_t) quiet = absurd (omega arith)
only_out k o c s id r (LookForCall b) t due (found, parked, there, says, is_t) quiet = absurd (omega arith)
only_out k o c s id r (Peek n) t due (active, number, is_t) quiet = absurd (omega arith)
only_out k o c s id r FloorOut t due done quiet = absurd cc
only_out k o c s id r (FloorIn es) t due (since, e, active, played, rel, es_is, is_t) quiet = absurd (omega arith)
only_out k o c s id r (Drop n) t due (to, back, number, is_t) quiet = let a = ap stage back in absurd (omega arith)
only_out k o c s id r (GrantTicket n) t due (passing, number, is_t) quiet = absurd (omega arith)
only_out k o c s id r (CallSeat m) t due (names, is_t) quiet =
    let a = ap stage (choosing_at r.place m names).is in absurd (omega arith)
only_out k o c s id r Meet t due never quiet = absurd never

-- a seat that isn't outside is one of the hall
pub near_at : (k : Rules) (o : Object) (c : Setting) (s : HallState) (h : IsHall k o c s) (j : ℕ)
    → stage (h.0 j).place ≢ outside_stage → j < c.seats
near_at k o c s h j inside = ⊎_elim (λ far. absurd (inside (h.2.kept.sound.is_sound.outside j far))) (λ low. low)
    (cases_le c.seats j)

-- while the monitor is free nobody has the right
nobody_free : (k : Rules) (o : Object) (c : Setting) (s : HallState) (h : IsHall k o c s)
    → unpassed (slice_index s.words 0) ≡ 0 → (i : ℕ) → HoldsRight (h.0 i).place → ⊥
nobody_free k o c s h free i holds =
    let one : IsInOnePlace c.seats (shown_world s.words h.0) = right_in_one_place k o c s h in
    let nowhere = one.free.0 free in
    let with_i = (one.with_seat i).0 holds in absurd cc

-- the seat has taken the floor home, and must still hand the right on
abbrev IsHanding : Place → Type 0
IsHanding p = (stage p ≡ back_stage) ⊎ (stage p ≡ passing_stage)

holds_handing : (p : Place) → IsHanding p → HoldsRight p
holds_handing Idle x = ⊎_elim (λ e. absurd (omega arith)) (λ e. absurd (omega arith)) x
holds_handing (Ticket t) x = ⊎_elim (λ e. absurd (omega arith)) (λ e. absurd (omega arith)) x
holds_handing (Due q) x = tt
holds_handing (Active q) x = tt
holds_handing (Back y to) x = tt
holds_handing (Passing t to) x = tt
holds_handing Inner x = ⊎_elim (λ e. absurd (omega arith)) (λ e. absurd (omega arith)) x

-- the right is in the word w
abbrev IsPending : Setting → HallState → (ℕ → SeatRecord) → ℕ → Type 0
IsPending c s at w =
    ((j : ℕ) × Stands c s.words at j w) ⊎ ((w ≡ 0) × (unpassed (slice_index s.words 0) ≡ 0))

-- one more step
module _ (k : Rules) (o : Object) (c : Setting) (kind : IsKind k) (steps : List Step) (s : HallState)
    (led : IsLed k o c steps s) where
  abbrev h : IsHall k o c s
  h = led.hall

  pub in_view : (id : ℕ) (r : SeatRecord) → get_elem? s.views id ≡ some (r ∷ []) → IsRecord s r
  in_view id r here = record { id = id; view = r ∷ []; at = here; there = inl refl }

  pub at_j : (j : ℕ) → j < c.seats → IsRecord s (h.0 j)
  at_j = at_next k o c kind steps s led steps s led

  -- a deed of seat r
  module _ (id : ℕ) (r : SeatRecord) (here : get_elem? s.views id ≡ some (r ∷ [])) (d : Deed) (t : HallState)
      (more : List Step) (next : IsLed k o c more t) where
    -- the other seats are where they were
    pub others : IsDone k o c s id r d t → (j : ℕ) → j < c.seats → r.seat ≢ j → next.hall.0 j ≡ h.0 j
    others done j near apart =
        let m = made_by k o c s id r d t done in
        others_stay k o c kind steps s led id r m.made here d m.ws m.hs t m.is_t m.same more next j near apart

    -- and this is its own record
    pub own : (ws : List ℕ) (hs : Homes) (w : SeatRecord) → t ≡ after_step s id ws hs w → w.seat ≡ r.seat
        → next.hall.0 r.seat ≡ w
    own ws hs w is_t same = ap next.hall.0 (sym same) ∙ is k o c t next.hall w
        (subst (λ (u : HallState). IsRecord u w) (sym is_t) (record {
          id = id;
          view = w ∷ [];
          at = set_here s.views id (w ∷ []) (long s.views id (r ∷ []) here);
          there = inl refl;
        }))

  -- a seat that is due stays so until the floor comes out
  stays_due : (j : ℕ) → j < c.seats → stage (h.0 j).place ≡ due_stage → (x : Step) (t : HallState) → IsStep k o c s x t
      → takes_out x ≡ false → (more : List Step) (next : IsLed k o c more t) → stage (next.hall.0 j).place ≡ due_stage
  stays_due j near due (By i id d) t (r, here, seat, done) quiet more next = elim (eqb_tells r.seat j) [
    | inl e ↦ grind (arith, nat_tests, only_out, is, in_view)
    | inr ne ↦ ap (λ (z : SeatRecord). stage z.place) (others id r here d t more next done j near ne.1) ∙ due
  ]
  stays_due j near due (Deal id) t step quiet more next =
      ap stage (moved_stays k o c kind steps s led (Deal id) t step tt more next j near).0 ∙ due
  stays_due j near due (Part id) t step quiet more next =
      ap stage (moved_stays k o c kind steps s led (Part id) t step tt more next j near).0 ∙ due
  stays_due j near due (Join i id other) t step quiet more next =
      ap stage (moved_stays k o c kind steps s led (Join i id other) t step tt more next j near).0 ∙ due
  stays_due j near due (Compare i id) t step quiet more next =
      ap stage (moved_stays k o c kind steps s led (Compare i id) t step tt more next j near).0 ∙ due

  -- a seat that has found its grant is due
  found_due : (id : ℕ) (r : SeatRecord) (here : get_elem? s.views id ≡ some (r ∷ [])) (d : Deed) (t : HallState)
      → look_at r.place true ≡ d ∷ [] → IsDone k o c s id r d t → (more : List Step) (next : IsLed k o c more t)
      → stage (next.hall.0 r.seat).place ≡ due_stage
  found_due id r here (LookForTicket b) t finds (found, waits, there, says, is_t) more next =
      let b_is : b ≡ true = sym (ap said finds) ∙ says_found r.place in
      ap (λ (z : SeatRecord). stage z.place) (own id r here (LookForTicket b) t more next _ _ _ is_t refl)
      ∙ ap (λ (a : Bool). stage (place_after_ticket_look (ticket r.place) a)) (sym says ∙ b_is)
  found_due id r here (LookForCall b) t finds (found, parked, there, says, is_t) more next =
      let b_is : b ≡ true = sym (ap said finds) ∙ says_found r.place in
      ap (λ (z : SeatRecord). stage z.place) (own id r here (LookForCall b) t more next _ _ _ is_t refl)
      ∙ ap (λ (a : Bool). stage (place_after_seat_look a)) (sym says ∙ b_is)
  found_due id r here (Arrive n m) t finds done more next =
      let a = is_look r.place in let e = ap look_kind finds in absurd (omega arith)
  found_due id r here (Peek n) t finds done more next =
      let a = is_look r.place in let e = ap look_kind finds in absurd (omega arith)
  found_due id r here FloorOut t finds done more next =
      let a = is_look r.place in let e = ap look_kind finds in absurd (omega arith)
  found_due id r here (FloorIn es) t finds done more next =
      let a = is_look r.place in let e = ap look_kind finds in absurd (omega arith)
  found_due id r here (Drop n) t finds done more next =
      let a = is_look r.place in let e = ap look_kind finds in absurd (omega arith)
  found_due id r here (GrantTicket n) t finds done more next =
      let a = is_look r.place in let e = ap look_kind finds in absurd (omega arith)
  found_due id r here (CallSeat m) t finds done more next =
      let a = is_look r.place in let e = ap look_kind finds in absurd (omega arith)
  found_due id r here Meet t finds done more next = absurd done

  module _ (w : ℕ) (y : Step) (x : IsTaken s w y) where
    taken_due : (t : HallState) → IsStep k o c s y t → (more : List Step) (next : IsLed k o c more t)
        → stage (next.hall.0 x.seat.seat).place ≡ due_stage
    taken_due t step more next = due_at (subst (λ (z : Step). IsStep k o c s z t) x.is step)
      where
        due_at : IsStep k o c s (By x.seat.seat x.id x.deed) t → stage (next.hall.0 x.seat.seat).place ≡ due_stage
        due_at (r, here, seat, done) =
            let same : r ≡ x.seat = sym (is k o c s h r (in_view x.id r here)) ∙ ap h.0 seat
            ∙ is k o c s h x.seat x.recorded in
            subst (λ (n : ℕ). stage (next.hall.0 n).place ≡ due_stage) seat
            (found_due x.id r here x.deed t (ap (λ (z : SeatRecord). look_at z.place true) same ∙ x.finds) done
            more next)

    -- and the word that it has read is w
    taken_reads : read_word c.seats x.seat x.deed ≡ Some w
    taken_reads =
        let r : SeatRecord = x.seat in
        let setting : r.setting ≡ c = ap (λ (z : SeatRecord). z.setting) (sym (is k o c s h r x.recorded))
        ∙ h.1.settings r.seat in
        ⊎_elim
        (λ ticketed.
        let at = standing.ticket_at r.place ticketed in
        let deed : LookForTicket true ≡ x.deed =
        ap (first_deed Meet) (sym (ap (λ (p : Place). look_at p true) at) ∙ x.finds) in
        subst (λ (d : Deed). read_word c.seats r d ≡ Some w) deed
        (ap Some (ap (λ (q : Setting). ticket_word q.seats (ticket r.place)) (sym setting)
        ∙ sym (ap (waiting_word_at r.setting.seats r.seat) at) ∙ x.waits)))
        (λ inside.
        let at = standing.inner_at r.place inside in
        let deed : LookForCall true ≡ x.deed =
        ap (first_deed Meet) (sym (ap (λ (p : Place). look_at p true) at) ∙ x.finds) in
        subst (λ (d : Deed). read_word c.seats r d ≡ Some w) deed
        (ap Some (sym (ap (waiting_word_at r.setting.seats r.seat) at) ∙ x.waits)))
        x.looking

  -- while a grant is in a word, no step writes it
  pub no_write : (j w : ℕ) → Stands c s.words h.0 j w → (y : Step) (t : HallState) → IsStep k o c s y t
      → written_word c.seats y ≢ Some w
  no_write j w x (By i id (Arrive n m)) t step e = not_first c.seats j w (h.0 j).place x.waits (same_Some 0 w e)
  no_write j w x (By i id (LookForTicket b)) t step e = none-some w e
  no_write j w x (By i id (LookForCall b)) t step e = none-some w e
  no_write j w x (By i id (Peek n)) t step e = none-some w e
  no_write j w x (By i id FloorOut) t step e = none-some w e
  no_write j w x (By i id (FloorIn es)) t step e = none-some w e
  no_write j w x (By i id (Drop n)) t step e = not_first c.seats j w (h.0 j).place x.waits (same_Some 0 w e)
  no_write j w x (By i id (GrantTicket n)) t step e =
      no_second k o c kind steps s led j w x (By i id (GrantTicket n)) t step w e
  no_write j w x (By i id (CallSeat m)) t step e =
      no_second k o c kind steps s led j w x (By i id (CallSeat m)) t step w e
  no_write j w x (By i id Meet) t step e = none-some w e
  no_write j w x (Deal id) t step e = none-some w e
  no_write j w x (Part id) t step e = none-some w e
  no_write j w x (Join i id other) t step e = none-some w e
  no_write j w x (Compare i id) t step e = none-some w e

  -- the floor comes out only to a seat that is due, which has the right
  out_holds : (m b : ℕ) (v : HallState) → IsStep k o c s (By m b FloorOut) v
      → (r : SeatRecord) × IsRecord s r × (r.seat ≡ m) × (stage r.place ≡ due_stage)
  out_holds m b v (r, here, seat, (f, due, got, is_t)) = (r, in_view b r here, seat, due)

  its_right : (m b : ℕ) (v : HallState) → IsStep k o c s (By m b FloorOut) v → HoldsRight (h.0 m).place
  its_right m b v step =
      let out = out_holds m b v step in
      grind (arith, nat_tests, is, holds_due)

  -- a seat that holds the right is the one to which the floor comes out
  one_holds : (m b : ℕ) (v : HallState) → IsStep k o c s (By m b FloorOut) v → (j : ℕ) → j < c.seats
      → HoldsRight (h.0 j).place → (m ≡ j) × (stage (h.0 j).place ≡ due_stage)
  one_holds m b v step j near holds =
      let out = out_holds m b v step in
      let same = (one_has_the_right k o c s h out.0 (h.0 j) out.1 (at_j j near) (holds_due out.0.place out.3)
      holds).0 in (
        sym out.2 ∙ ap (λ (z : SeatRecord). z.seat) same ∙ h.1.seats j,
        ap (λ (z : SeatRecord). stage z.place) (sym same) ∙ out.3,
      )

  -- what a step does while the monitor is free: a seat draws a ticket and is due, or the monitor stays free
  record IsArrival (y : Step) (t : HallState) (at : ℕ → SeatRecord) : Type 0 where
    seat : SeatRecord
    recorded : IsRecord s seat
    id : ℕ
    drawn : ℕ
    left : ℕ
    is_y : y ≡ By seat.seat id (Arrive drawn left)
    due : stage (at seat.seat).place ≡ due_stage

  free_step : unpassed (slice_index s.words 0) ≡ 0 → (y : Step) (t : HallState) → IsStep k o c s y t
      → (more : List Step) (next : IsLed k o c more t)
      → IsArrival y t next.hall.0 ⊎ ((written_word c.seats y ≢ Some 0) × (unpassed (slice_index t.words 0) ≡ 0))
  free_step free y t step more next = by_step y step
    where
      still : (y : Step) → IsStep k o c s y t → written_word c.seats y ≢ Some 0
          → IsArrival y t next.hall.0 ⊎ ((written_word c.seats y ≢ Some 0) × (unpassed (slice_index t.words 0) ≡ 0))
      still y step ne = inr (ne, ap unpassed (words_stay k o c s y t step 0 ne) ∙ free)

      never : (r : SeatRecord) → IsRecord s r → HoldsRight r.place → ⊥
      never r x holds = nobody_free k o c s h free r.seat
          (subst (λ (z : SeatRecord). HoldsRight z.place) (sym (is k o c s h r x)) holds)

      by_step : (y : Step) → IsStep k o c s y t
          → IsArrival y t next.hall.0 ⊎ ((written_word c.seats y ≢ Some 0) × (unpassed (slice_index t.words 0) ≡ 0))
      by_step (By i id (Arrive n m)) (r, here, seat, (idle, room, number, last, is_t)) = inl (record {
        seat = r;
        recorded = in_view id r here;
        id = id;
        drawn = n;
        left = m;
        is_y = ap (λ (j : ℕ). By j id (Arrive n m)) (sym seat);
        due = ap (λ (z : SeatRecord). stage z.place) (own id r here (Arrive n m) t more next _ _ _ is_t refl)
            ∙ ap (λ (u : ℕ). stage (place_after_arrive (tickets (first_word s)) u)) free;
      })
      by_step (By i id (LookForTicket b)) step = still (By i id (LookForTicket b)) step (λ e. none-some 0 e)
      by_step (By i id (LookForCall b)) step = still (By i id (LookForCall b)) step (λ e. none-some 0 e)
      by_step (By i id (Peek n)) step = still (By i id (Peek n)) step (λ e. none-some 0 e)
      by_step (By i id FloorOut) step = still (By i id FloorOut) step (λ e. none-some 0 e)
      by_step (By i id (FloorIn es)) step = still (By i id (FloorIn es)) step (λ e. none-some 0 e)
      by_step (By i id (Drop n)) (r, here, seat, (to, back, number, is_t)) =
          absurd (never r (in_view id r here) (subst HoldsRight (sym back) tt))
      by_step (By i id (GrantTicket n)) (r, here, seat, (passing, number, is_t)) =
          absurd (never r (in_view id r here) (holds_passing r.place passing))
      by_step (By i id (CallSeat m)) (r, here, seat, (names, is_t)) =
          absurd (never r (in_view id r here) (holds_chosen r.place m names))
      by_step (By i id Meet) (r, here, seat, none) = absurd none
      by_step (Deal id) step = still (Deal id) step (λ e. none-some 0 e)
      by_step (Part id) step = still (Part id) step (λ e. none-some 0 e)
      by_step (Join i id other) step = still (Join i id other) step (λ e. none-some 0 e)
      by_step (Compare i id) step = still (Compare i id) step (λ e. none-some 0 e)

  -- what a step does while seat i must hand the right on: it puts the right into a word, or i must still do so
  record IsChange (i : ℕ) (y : Step) (t : HallState) (at : ℕ → SeatRecord) : Type 0 where
    id : ℕ
    change : Deed
    is_y : y ≡ By i id change
    word : ℕ
    writes : written_word c.seats (By i id change) ≡ Some word
    pending : IsPending c t at word

  module _ (i : ℕ) (handing : IsHanding (h.0 i).place) where
    near_i : i < c.seats
    near_i = near_at k o c s h i
        (λ e. ⊎_elim (λ a. absurd (omega arith)) (λ a. absurd (omega arith)) handing)

    module _ (id : ℕ) (r : SeatRecord) (here : get_elem? s.views id ≡ some (r ∷ [])) (same : r.seat ≡ i)
        (t : HallState) (more : List Step) (next : IsLed k o c more t) where
      stage_i : stage (h.0 i).place ≡ stage r.place
      stage_i = ap (λ (n : ℕ). stage (h.0 n).place) (sym same)
          ∙ ap (λ (z : SeatRecord). stage z.place) (is k o c s h r (in_view id r here))

      not_at : (n : ℕ) → stage r.place ≡ n → n ≢ back_stage → n ≢ passing_stage → ⊥
      not_at n e a b = ⊎_elim (λ z. a (sym e ∙ sym stage_i ∙ z)) (λ z. b (sym e ∙ sym stage_i ∙ z)) handing

      dropped : (n : ℕ) (to : Home) → r.place ≡ Back Entry to
          → t ≡ after_step s id (set s.words 0 (one_passed (first_word s))) s.homes (record_after_drop r (first_word s))
          → IsChange i (By i id (Drop n)) t next.hall.0 ⊎ IsHanding (next.hall.0 i).place
      dropped n to back is_t = by_last (unpassed (first_word s) == 1) refl
        where
          place_i : (next.hall.0 i).place
              ≡ place_after_drop (tickets (first_word s)) (unpassed (first_word s)) (home_at r.place)
          place_i = ap (λ (m : ℕ). (next.hall.0 m).place) (sym same)
              ∙ ap (λ (z : SeatRecord). z.place) (own id r here (Drop n) t more next _ _ _ is_t refl)

          by_last : (b : Bool) → (unpassed (first_word s) == 1) ≡ b
              → IsChange i (By i id (Drop n)) t next.hall.0 ⊎ IsHanding (next.hall.0 i).place
          by_last true e =
              let few = few_drawn (shown_state c s.words h.0 h.2.history) h.2.kept.bounded in
              let behind = h.2.kept.sound.is_sound.stands.keeps.tickets.behind in
              let halves = after_take_off (first_word s) few (omega arith)
              (words.some_unpassed k o c kind s h id r here (ap stage back)) in
              let word = get_or-set_same s.words 0 (one_passed (first_word s)) 0 (let z = h.2.wide in omega arith) in
              let one : unpassed (first_word s) ≡ 1 = ⊎_elim (λ y. y.1) (λ y. absurd cc)
              (eqb_tells (unpassed (first_word s)) 1) in
              inl (record {
                id = id;
                change = Drop n;
                is_y = refl;
                word = 0;
                writes = refl;
                pending = inr (
                  refl,
                  ap (λ (u : HallState). unpassed (slice_index u.words 0)) is_t ∙ ap unpassed word ∙ halves.waiting
                      ∙ ap (λ (u : ℕ). u - 1) one,
                );
              })
          by_last false e = inr (inr (ap stage place_i ∙ ap
              (λ (b : Bool). stage (cond b (place_of (home_at r.place))
              (Passing (tickets (first_word s) - unpassed (first_word s) + 1) (home_at r.place)))) e))

      by_i : (d : Deed) → IsDone k o c s id r d t
          → IsChange i (By i id d) t next.hall.0 ⊎ IsHanding (next.hall.0 i).place
      by_i (Arrive n m) (idle, room, number, last, is_t) =
          absurd (not_at 0 (ap stage idle) (λ e. absurd (omega arith)) (λ e. absurd (omega arith)))
      by_i (LookForTicket b) (found, waits, there, says, is_t) =
          absurd (not_at ticketed_stage waits (λ e. absurd (omega arith)) (λ e. absurd (omega arith)))
      by_i (LookForCall b) (found, parked, there, says, is_t) =
          absurd (not_at inside_stage parked (λ e. absurd (omega arith)) (λ e. absurd (omega arith)))
      by_i (Peek n) (active, number, is_t) =
          absurd (not_at active_stage active (λ e. absurd (omega arith)) (λ e. absurd (omega arith)))
      by_i FloorOut (f, due, got, is_t) =
          absurd (not_at due_stage due (λ e. absurd (omega arith)) (λ e. absurd (omega arith)))
      by_i (FloorIn es) (since, e, active, played, rel, es_is, is_t) =
          absurd (not_at active_stage active (λ e. absurd (omega arith)) (λ e. absurd (omega arith)))
      by_i (Drop n) (to, back, number, is_t) = dropped n to back is_t
      by_i (GrantTicket n) (passing, number, is_t) = inl (record {
        id = id;
        change = GrantTicket n;
        is_y = refl;
        word = ticket_word c.seats n;
        writes = refl;
        pending =
            inl (grant_stands k o c kind steps s led (By r.seat id (GrantTicket n)) t
            (r, here, refl, (passing, number, is_t)) (ticket_word c.seats n) refl more next);
      })
      by_i (CallSeat m) (names, is_t) = inl (record {
        id = id;
        change = CallSeat m;
        is_y = refl;
        word = seat_word m;
        writes = refl;
        pending =
            inl (grant_stands k o c kind steps s led (By r.seat id (CallSeat m)) t (r, here, refl, (names, is_t))
            (seat_word m) refl more next);
      })
      by_i Meet none = absurd none

    still_there : (t : HallState) (more : List Step) (next : IsLed k o c more t)
        → (next.hall.0 i).place ≡ (h.0 i).place → IsHanding (next.hall.0 i).place
    still_there t more next e = subst IsHanding (sym e) handing

    handing_step : (y : Step) (t : HallState) → IsStep k o c s y t → (more : List Step) (next : IsLed k o c more t)
        → IsChange i y t next.hall.0 ⊎ IsHanding (next.hall.0 i).place
    handing_step (By j id d) t (r, here, seat, done) more next = elim (eqb_tells r.seat i) [
      | inl e ↦ subst (λ (n : ℕ). IsChange i (By n id d) t next.hall.0 ⊎ IsHanding (next.hall.0 i).place)
          (sym e.1 ∙ seat) (by_i id r here e.1 t more next d done)
      | inr ne ↦ inr (still_there t more next
          (ap (λ (z : SeatRecord). z.place) (others id r here d t more next done i near_i ne.1)))
    ]
    handing_step (Deal id) t step more next =
        inr (still_there t more next (moved_stays k o c kind steps s led (Deal id) t step tt more next i near_i).0)
    handing_step (Part id) t step more next =
        inr (still_there t more next (moved_stays k o c kind steps s led (Part id) t step tt more next i near_i).0)
    handing_step (Join a id other) t step more next = inr (still_there t more next
        (moved_stays k o c kind steps s led (Join a id other) t step tt more next i near_i).0)
    handing_step (Compare a id) t step more next = inr (still_there t more next
        (moved_stays k o c kind steps s led (Compare a id) t step tt more next i near_i).0)

-- the seat that is due is the one to which the floor comes out
from_due : (k : Rules) (o : Object) (c : Setting) (kind : IsKind k) (steps : List Step) (s : HallState)
    (led : IsLed k o c steps s) (j : ℕ) → stage (led.hall.0 j).place ≡ due_stage → (xs : List Step) (u : HallState)
    → IsSchedule k o c s xs u → NoneTakesOut xs → (m b : ℕ) (v : HallState) → IsStep k o c u (By m b FloorOut) v
    → m ≡ j
from_due k o c kind steps s led j due [] u run quiet m b v out =
    (one_holds k o c kind steps s led m b v (subst (λ (z : HallState). IsStep k o c z (By m b FloorOut) v) run out) j
    (near_at k o c s led.hall j (λ e. absurd (omega arith))) (holds_due (led.hall.0 j).place due)).0
from_due k o c kind steps s led j due (y ∷ ys) u (z, first, run) quiet m b v out =
    let more = steps ++ y ∷ [] in
    let next = step_led k o c steps s led kind y z first in
    from_due k o c kind more z next j
    (stays_due k o c kind steps s led j (near_at k o c s led.hall j (λ e. absurd (omega arith))) due y z first quiet.0
    more next) ys u run quiet.1 m b v out

-- from a grant in a word on
from_grant : (k : Rules) (o : Object) (c : Setting) (kind : IsKind k) (steps : List Step) (s : HallState)
    (led : IsLed k o c steps s) (j w : ℕ) → Stands c s.words led.hall.0 j w → (xs : List Step) (u : HallState)
    → IsSchedule k o c s xs u → NoneTakesOut xs → (m b : ℕ) (v : HallState) → IsStep k o c u (By m b FloorOut) v
    → IsFoundBetween k o c w m s xs u
from_grant k o c kind steps s led j w x [] u run quiet m b v out =
    absurd (nobody_holds k o c s led.hall j w x m (its_right k o c kind steps s led m b v
    (subst (λ (z : HallState). IsStep k o c z (By m b FloorOut) v) run out)))
from_grant k o c kind steps s led j w x (y ∷ ys) u (z, first, run) quiet m b v out =
    let more = steps ++ y ∷ [] in
    let next = step_led k o c steps s led kind y z first in
    ⊎_elim
    (λ taken.
    let due = taken_due k o c kind steps s led w y taken z first more next in
    let same = from_due k o c kind more z next taken.seat.seat due ys u run quiet.1 m b v out in
    let is_y : y ≡ By m taken.id taken.deed = taken.is ∙ ap (λ (n : ℕ). By n taken.id taken.deed) (sym same) in
    record {
      before = [];
      id = taken.id;
      look = taken.deed;
      after = ys;
      are = ap (λ (a : Step). a ∷ ys) is_y;
      untouched = tt;
      at = s;
      next = z;
      leads = refl;
      step = subst (λ (a : Step). IsStep k o c s a z) is_y first;
      goes_on = run;
      seat = taken.seat;
      recorded = taken.recorded;
      is_its = sym same;
      reads = taken_reads k o c kind steps s led w y taken;
      value = refl;
    })
    (λ still.
    let rest = from_grant k o c kind more z next j w still ys u run quiet.1 m b v out in
    let none = no_write k o c kind steps s led j w x y z first in
    record {
      before = y ∷ rest.before;
      id = rest.id;
      look = rest.look;
      after = rest.after;
      are = ap (λ (l : List Step). y ∷ l) rest.are;
      untouched = (none, rest.untouched);
      at = rest.at;
      next = rest.next;
      leads = (z, first, rest.leads);
      step = rest.step;
      goes_on = rest.goes_on;
      seat = rest.seat;
      recorded = rest.recorded;
      is_its = rest.is_its;
      reads = rest.reads;
      value = rest.value ∙ words_stay k o c s y z first w none;
    })
    (taken_or_stands k o c kind steps s led j w x y z first more next)

-- from a free monitor on
from_free : (k : Rules) (o : Object) (c : Setting) (kind : IsKind k) (steps : List Step) (s : HallState)
    (led : IsLed k o c steps s) → unpassed (slice_index s.words 0) ≡ 0 → (xs : List Step) (u : HallState)
    → IsSchedule k o c s xs u → NoneTakesOut xs → (m b : ℕ) (v : HallState) → IsStep k o c u (By m b FloorOut) v
    → IsFoundBetween k o c 0 m s xs u
from_free k o c kind steps s led free [] u run quiet m b v out =
    absurd (nobody_free k o c s led.hall free m (its_right k o c kind steps s led m b v
    (subst (λ (z : HallState). IsStep k o c z (By m b FloorOut) v) run out)))
from_free k o c kind steps s led free (y ∷ ys) u (z, first, run) quiet m b v out =
    let more = steps ++ y ∷ [] in
    let next = step_led k o c steps s led kind y z first in
    ⊎_elim
    (λ came.
    let same = from_due k o c kind more z next came.seat.seat came.due ys u run quiet.1 m b v out in
    let is_y : y ≡ By m came.id (Arrive came.drawn came.left) = grind (arith, nat_tests) in
    record {
      before = [];
      id = came.id;
      look = Arrive came.drawn came.left;
      after = ys;
      are = ap (λ (a : Step). a ∷ ys) is_y;
      untouched = tt;
      at = s;
      next = z;
      leads = refl;
      step = subst (λ (a : Step). IsStep k o c s a z) is_y first;
      goes_on = run;
      seat = came.seat;
      recorded = came.recorded;
      is_its = sym same;
      reads = refl;
      value = refl;
    })
    (λ still.
    let rest = from_free k o c kind more z next still.1 ys u run quiet.1 m b v out in
    record {
      before = y ∷ rest.before;
      id = rest.id;
      look = rest.look;
      after = rest.after;
      are = ap (λ (l : List Step). y ∷ l) rest.are;
      untouched = (still.0, rest.untouched);
      at = rest.at;
      next = rest.next;
      leads = (z, first, rest.leads);
      step = rest.step;
      goes_on = rest.goes_on;
      seat = rest.seat;
      recorded = rest.recorded;
      is_its = rest.is_its;
      reads = rest.reads;
      value = rest.value ∙ words_stay k o c s y z first 0 still.0;
    })
    (free_step k o c kind steps s led free y z first more next)

-- from the seat that took the floor home on
from_handing : (k : Rules) (o : Object) (c : Setting) (kind : IsKind k) (steps : List Step) (s : HallState)
    (led : IsLed k o c steps s) (i : ℕ) → IsHanding (led.hall.0 i).place → (xs : List Step) (u : HallState)
    → IsSchedule k o c s xs u → NoneTakesOut xs → (m b : ℕ) (v : HallState) → IsStep k o c u (By m b FloorOut) v
    → IsHandedOver k o c i m s xs u
from_handing k o c kind steps s led i handing [] u run quiet m b v out =
    let due = (one_holds k o c kind steps s led m b v
    (subst (λ (z : HallState). IsStep k o c z (By m b FloorOut) v) run out) i
    (near_i k o c kind steps s led i handing) (holds_handing (led.hall.0 i).place handing)).1 in
    absurd (⊎_elim (λ a. absurd (omega arith)) (λ a. absurd (omega arith)) handing)
from_handing k o c kind steps s led i handing (y ∷ ys) u (z, first, run) quiet m b v out =
    let more = steps ++ y ∷ [] in
    let next = step_led k o c steps s led kind y z first in
    ⊎_elim
    (λ change. record {
      before = [];
      id = change.id;
      change = change.change;
      after = ys;
      are = ap (λ (a : Step). a ∷ ys) change.is_y;
      word = change.word;
      writes = change.writes;
      at = s;
      next = z;
      leads = refl;
      step = subst (λ (a : Step). IsStep k o c s a z) change.is_y first;
      goes_on = run;
      found = ⊎_elim
          (λ stands. from_grant k o c kind more z next stands.0 change.word stands.1 ys u run quiet.1 m b v out)
          (λ free. subst (λ (w : ℕ). IsFoundBetween k o c w m z ys u) (sym free.0)
          (from_free k o c kind more z next free.1 ys u run quiet.1 m b v out)) change.pending;
    })
    (λ still.
    let rest = from_handing k o c kind more z next i still ys u run quiet.1 m b v out in
    record {
      before = y ∷ rest.before;
      id = rest.id;
      change = rest.change;
      after = rest.after;
      are = ap (λ (l : List Step). y ∷ l) rest.are;
      word = rest.word;
      writes = rest.writes;
      at = rest.at;
      next = rest.next;
      leads = (z, first, rest.leads);
      step = rest.step;
      goes_on = rest.goes_on;
      found = rest.found;
    })
    (handing_step k o c kind steps s led i handing y z first more next)

-- the seat that has taken the floor home must hand the right on
now_handing : (k : Rules) (o : Object) (c : Setting) (kind : IsKind k) (steps : List Step) (s : HallState)
    (led : IsLed k o c steps s) (i a : ℕ) (es : List Event) (t : HallState) → IsStep k o c s (By i a (FloorIn es)) t
    → (more : List Step) (next : IsLed k o c more t) → IsHanding (next.hall.0 i).place
now_handing k o c kind steps s led i a es t (r, here, seat, (since, e, active, played, rel, es_is, is_t)) more next =
    let f : FloorView = floor_of c (r.seen ++ es) in
    let ret = returns k o c kind s led.hall a r here active since e es played rel es_is in
    let back = floor_in.back_is k o c kind s led.hall a r here active f ret in
    subst (λ (n : ℕ). IsHanding (next.hall.0 n).place) seat
    (inl (ap (λ (z : SeatRecord). stage z.place)
    (own k o c kind steps s led a r here (FloorIn es) t more next _ _ _ is_t refl) ∙ ap stage back))

pub floor_changes_hands : FloorChangesHands
floor_changes_hands k o c kind made first s reached i a es t home xs u run quiet j b v out =
    let led = led_by k o c kind [] (opening_table c) (led_opening k o c made) first s reached in
    let more = first ++ By i a (FloorIn es) ∷ [] in
    let next = step_led k o c first s led kind (By i a (FloorIn es)) t home in
    from_handing k o c kind more t next i (now_handing k o c kind first s led i a es t home more next) xs u run quiet
    j b v out

-- what writes a word isn't among steps that only read
only_reads : (seats : ℕ) (xs before after : List Step) (x : Step) → xs ≡ before ++ x ∷ after → OnlyRead seats xs
    → written_word seats x ≡ None
only_reads seats xs [] after x e r = (subst (OnlyRead seats) e r).0
only_reads seats xs (b ∷ bs) after x e r =
    only_reads seats (bs ++ x ∷ after) bs after x refl (subst (OnlyRead seats) e r).1

pub never_by_reads_alone : NeverByReadsAlone
never_by_reads_alone k o c kind made first s reached i a es t home xs u run quiet reads j b v out =
    let over = floor_changes_hands k o c kind made first s reached i a es t home xs u run quiet j b v out in
    none-some over.word
    (sym (only_reads c.seats xs over.before over.after (By i over.id over.change) over.are reads) ∙ over.writes)
