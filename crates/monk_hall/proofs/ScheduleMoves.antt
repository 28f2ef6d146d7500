-- The moves of seats, each after a schedule; and every schedule
use Rattle.std.proofs.Common.{◌≡◌, ℕ, zero, suc, ◌+◌, ◌/◌, Bool, false, true, List, [], ◌∷◌, ◌++◌, length, replicate, set, sym, refl, ap, subst, ◌∙◌}
use Rattle.std.proofs.Common.{◌≢◌, ◌==◌, cond, eq-eqb, ne_eqb, inl, inr, ⊎_elim, append-nil, append_assoc, arith}
use Rattle.std.proofs.lemmas.{List.length-replicate, Option.none-some, Bool.Decides.nat_tests}
use Rattle.std.specs.Prelude.{None, slice_index}
use mathlib.Core.Option.{some}
use lib.ListN.{get_elem?}
use Rattle.atomic_table.proofs.Lists.{at_set, at_snoc, set_else}
use Rattle.monk_kinds.specs.{Kind.IsKind, declared.mode.Rules.Rules}
use Rattle.monk_object.specs.Object.{Object}
use Rattle.monk_history.specs.{Meaning.Counts.events_of, Meaning.Counts.enters_of, declared.event.Event.Event}
use Rattle.monk_floor.specs.Making.{make_refusal}
use Rattle.monk_world.specs.Places.{ticket}
use Rattle.monk_hall.proofs.ScheduleSteps as steps_of
use Rattle.monk_hall.proofs.{HomeLaws.home_history, MeetLaws.compares_at, MeetLaws.meets_at, MeetLaws.parts_at}
use Rattle.monk_hall.proofs.{RecordLaws.desk, ScheduleReturns.returns, Seats.only, Standing.passing_at}
use Rattle.monk_hall.proofs.RuleLaws.{one_is_active, right_in_one_place, shows_well_led}
use Rattle.monk_hall.proofs.Dealing.{IsStill, deals_at, opens, opens_empty, zero_words, some_seat}
use Rattle.monk_hall.proofs.ScheduleLists.{brought_push, brought_append, deeds_push, home_append, knows_append}
use Rattle.monk_hall.proofs.ScheduleLists.{arrivals_push}
use Rattle.monk_hall.proofs.ScheduleLaws.{IsLed, led_after, its_record, held, came_by}
use Rattle.monk_hall.specs.{Deeds.brought_home, Deeds.knows_from, Laws.HallState, Laws.IsRecord, Laws.IsHomeHistory}
use Rattle.monk_hall.specs.Layout.{word_count, ticket_word, floor_of}
use Rattle.monk_hall.specs.declared.{record.SeatRecord.SeatRecord, setting.Setting.Setting}
use Rattle.monk_hall.specs.declared.deed.Deed.{Deed}
use Rattle.monk_hall.specs.declared.deed.Deed.TheVariants.{Arrive, LookForTicket, LookForCall, Peek, FloorOut, FloorIn}
use Rattle.monk_hall.specs.declared.deed.Deed.TheVariants.{Drop, GrantTicket, CallSeat, Meet}
use Rattle.monk_hall.specs.Changes.{record_after_ticket_look, record_after_seat_look, record_after_grant}
use Rattle.monk_hall.specs.Changes.{view_after_join, view_after_compare}
use Rattle.monk_hall.specs.Records.{View, In, opening_record, opening_records, first_view}
use Rattle.monk_hall.specs.Schedules.{Step, By, Deal, Part, Join, Compare, IsDone, IsStep, IsSchedule, after_step}
use Rattle.monk_hall.specs.Schedules.{opening_table, brought, brought_in, deeds_in, arrivals, drew_in, entered}
use Rattle.monk_hall.specs.Schedules.{IsLedStep, IsOneHistory, EveryScheduleIsOneHistory}

-- after this step a record is as it was, except for what it has seen, and for the meeting
pub record IsAs (x : Step) (s : HallState) (q : SeatRecord) : Type 0 where
  pub old : SeatRecord
  pub there : IsRecord s old
  pub seat : q.seat ≡ old.seat
  pub known : q.known ≡ old.known
  pub place : q.place ≡ old.place
  pub count : q.count ≡ old.count
  pub did : q.did ≡ old.did ++ deeds_in q.seat x

as_it_was : (x : Step) (s : HallState) (q : SeatRecord) → IsRecord s q → deeds_in q.seat x ≡ [] → IsAs x s q
as_it_was x s q y none = record {
  old = q;
  there = y;
  seat = refl;
  known = refl;
  place = refl;
  count = refl;
  did = sym (append-nil q.did) ∙ ap (λ (l : List Deed). q.did ++ l) (sym none);
}

-- a deed of one seat
is_first : (i j : ℕ) → i ≡ j → cond (i == j) (Meet ∷ []) [] ≡ Meet ∷ []
is_first i j e = ap (λ (b : Bool). cond b (Meet ∷ []) []) (eq-eqb i j e)

not_first : (i j : ℕ) → i ≢ j → cond (i == j) (Meet ∷ []) [] ≡ []
not_first i j ne = ap (λ (b : Bool). cond b (Meet ∷ []) []) (ne_eqb i j ne)

none_home : (b : Bool) → brought_home (cond b (Meet ∷ []) []) ≡ []
none_home true = refl
none_home false = refl

still_known : (b known : Bool) → knows_from known (cond b (Meet ∷ []) []) ≡ known
still_known true known = refl
still_known false known = refl

-- by the step nothing came home, nobody drew a ticket, and nobody learnt of somebody at the entry
record IsMove (x : Step) : Type 0 where
  home : brought_in x ≡ []
  by : (j : ℕ) → brought_home (deeds_in j x) ≡ []
  drew : drew_in x ≡ []
  knew : (j : ℕ) (b : Bool) → knows_from b (deeds_in j x) ≡ b

-- the step is not of one seat alone, but a move of views
abbrev pub IsMoveOf : Step → Type 0
IsMoveOf (By i id d) = ⊥
IsMoveOf _ = Unit {0}

module _ (k : Rules) (o : Object) (c : Setting) (steps : List Step) (s : HallState) (led : IsLed k o c steps s) where
  -- a move of views keeps all that is said
  moves : (x : Step) (t : HallState) → IsMove x → IsStill k o c s led.hall t → t.words ≡ s.words
      → ((q : SeatRecord) → IsRecord t q → IsAs x s q) → IsLed k o c (steps ++ x ∷ []) t
  moves x t move still words each =
      let home : brought (steps ++ x ∷ []) ≡ brought steps = grind (arith, nat_tests, brought_push, append-nil) in
      let came_in : arrivals (steps ++ x ∷ []) ≡ arrivals steps = grind (arith, nat_tests, arrivals_push, append-nil) in
      record {
        hall = still.hall;
        past = still.past ∙ led.past ∙ sym home;
        drawn = ap (λ (ws : List ℕ). slice_index ws 0 / 4294967296) words ∙ led.drawn ∙ ap length (sym came_in);
        each = λ q y.
            let was = each q y in
            let fits = led.each was.old was.there in
            record {
              did = grind (arith, nat_tests, deeds_push);
              known = grind (arith, nat_tests, knows_append);
              ticket = grind (arith, nat_tests, held);
              came = λ m e. ap enters_of home ∙ fits.came m (ap came_by (sym was.place) ∙ e);
            };
        own = grind (arith, nat_tests, deeds_push, home_append, append-nil);
        order = (
          led.order.0,
          came_in ∙ led.order.1 ∙ ap (λ (l : List Event). entered l ++ led.order.0) (sym home),
        );
      }

  -- the record of a seat goes to a view that has it alone
  cut : (id : ℕ) (v left : View) (r q : SeatRecord) → get_elem? s.views id ≡ some v
      → ((z : SeatRecord) → In z left → In z v) → In r v
      → IsRecord (record s { views = set s.views id left ++ (r ∷ []) ∷ [] }) q → IsRecord s q
  cut id v left r q view stays goes y = ⊎_elim
      (λ old. ⊎_elim
      (λ e. record { id = id; view = v; at = view; there = stays q (subst (In q) (sym e.1) y.there) })
      (λ e. record { id = y.id; view = y.view; at = e.1; there = y.there })
      (at_set s.views id y.id left y.view old))
      (λ new. record {
        id = id;
        view = v;
        at = view;
        there =
            subst (λ (z : SeatRecord). In z v) (sym (only q r (subst (In q) (sym new) y.there))) goes;
      })
      (at_snoc (set s.views id left) (r ∷ []) y.view y.id y.at)

  -- after a move each record is as it was
  pub each_as : (x : Step) (t : HallState) → IsStep k o c s x t → IsMoveOf x → (q : SeatRecord) → IsRecord t q
      → IsAs x s q
  each_as (By i id d) t step never q y = absurd never
  each_as (Deal id) t (r, rs, view, is) move q y = as_it_was (Deal id) s q
      (cut id (r ∷ rs) rs r q view (λ z i. inr i) (inl refl) (subst (λ (u : HallState). IsRecord u q) is y)) refl
  each_as (Part id) t (a, b, view, is) move q y = as_it_was (Part id) s q
      (cut id (a ∷ b ∷ []) (a ∷ []) b q view first (inr (inl refl)) (subst (λ (u : HallState). IsRecord u q) is y)) refl
    where
      first : (z : SeatRecord) → In z (a ∷ []) → In z (a ∷ b ∷ [])
      first z (inl e) = inl e
      first z (inr nobody) = absurd nobody
  each_as (Join i id other) t (a, b, view, view_b, apart, idle, first, is) move q y0 =
      let y = subst (λ (u : HallState). IsRecord u q) is y0 in
      ⊎_elim (λ e. absurd (subst (In q) (sym e.1) y.there))
      (λ e. ⊎_elim (λ z. one_of_two q (subst (In q) (sym z.1) y.there))
      (λ z. other_seat q (record { id = y.id; view = y.view; at = z.1; there = y.there }) z.0)
      (at_set s.views id y.id (view_after_join (a ∷ []) (b ∷ [])) y.view e.1))
      (at_set (set s.views id (view_after_join (a ∷ []) (b ∷ []))) other y.id [] y.view y.at)
    where
      in_a : IsRecord s a
      in_a = record { id = id; view = a ∷ []; at = view; there = inl refl }

      -- a record of another view is of another seat
      other_seat : (q : SeatRecord) (y : IsRecord s q) → y.id ≢ id → IsAs (Join i id other) s q
      other_seat q y ne = as_it_was (Join i id other) s q y (not_first i q.seat
          (λ e. ne (sym (desk k o c s led.hall q y) ∙ ap led.hall.1.desk (sym e ∙ sym first)
          ∙ desk k o c s led.hall a in_a)))

      one_of_two : (q : SeatRecord) → In q (view_after_join (a ∷ []) (b ∷ [])) → IsAs (Join i id other) s q
      one_of_two q (inl e) = record {
        old = a;
        there = in_a;
        seat = ap (λ (z : SeatRecord). z.seat) e;
        known = ap (λ (z : SeatRecord). z.known) e;
        place = ap (λ (z : SeatRecord). z.place) e;
        count = ap (λ (z : SeatRecord). z.count) e;
        did = ap (λ (z : SeatRecord). z.did) e ∙ ap (λ (l : List Deed). a.did ++ l)
            (sym (is_first i q.seat (sym first ∙ sym (ap (λ (z : SeatRecord). z.seat) e))));
      }
      one_of_two q (inr (inl e)) = subst (IsAs (Join i id other) s) (sym e)
          (other_seat b (record { id = other; view = b ∷ []; at = view_b; there = inl refl }) apart)
      one_of_two q (inr (inr nobody)) = absurd nobody
  each_as (Compare i id) t (a, b, view, idle_a, idle_b, second, is) move q y0 =
      let y = subst (λ (u : HallState). IsRecord u q) is y0 in
      ⊎_elim (λ e. one_of_two q (subst (In q) (sym e.1) y.there))
      (λ e. other_seat q (record { id = y.id; view = y.view; at = e.1; there = y.there }) e.0)
      (at_set s.views id y.id (view_after_compare (a ∷ b ∷ [])) y.view y.at)
    where
      in_b : IsRecord s b
      in_b = record { id = id; view = a ∷ b ∷ []; at = view; there = inr (inl refl) }

      other_seat : (q : SeatRecord) (y : IsRecord s q) → y.id ≢ id → IsAs (Compare i id) s q
      other_seat q y ne = as_it_was (Compare i id) s q y (not_first i q.seat
          (λ e. ne (sym (desk k o c s led.hall q y) ∙ ap led.hall.1.desk (sym e ∙ sym second)
          ∙ desk k o c s led.hall b in_b)))

      one_of_two : (q : SeatRecord) → In q (view_after_compare (a ∷ b ∷ [])) → IsAs (Compare i id) s q
      one_of_two q (inl e) = record {
        old = a;
        there = record { id = id; view = a ∷ b ∷ []; at = view; there = inl refl };
        seat = ap (λ (z : SeatRecord). z.seat) e;
        known = ap (λ (z : SeatRecord). z.known) e;
        place = ap (λ (z : SeatRecord). z.place) e;
        count = ap (λ (z : SeatRecord). z.count) e;
        did = ap (λ (z : SeatRecord). z.did) e ∙ sym (append-nil a.did) ∙ ap (λ (l : List Deed). a.did ++ l)
            (sym (not_first i q.seat (λ z. (led.hall.1.apart id (a ∷ b ∷ []) view).0 b (inl refl)
            (second ∙ z ∙ ap (λ (y : SeatRecord). y.seat) e))));
      }
      one_of_two q (inr (inl e)) = record {
        old = b;
        there = in_b;
        seat = ap (λ (z : SeatRecord). z.seat) e;
        known = ap (λ (z : SeatRecord). z.known) e;
        place = ap (λ (z : SeatRecord). z.place) e;
        count = ap (λ (z : SeatRecord). z.count) e;
        did = ap (λ (z : SeatRecord). z.did) e ∙ ap (λ (l : List Deed). b.did ++ l)
            (sym (is_first i q.seat (sym second ∙ sym (ap (λ (z : SeatRecord). z.seat) e))));
      }
      one_of_two q (inr (inr nobody)) = absurd nobody

  -- each step keeps what is said
  pub step_led : (kind : IsKind k) (x : Step) (t : HallState) → IsStep k o c s x t → IsLed k o c (steps ++ x ∷ []) t
  step_led kind (By i id d) t (r, here, seat, done) =
      subst (λ (j : ℕ). IsLed k o c (steps ++ By j id d ∷ []) t) seat (own d done)
    where
      to_table : (d : Deed) (u : HallState) → t ≡ u → IsLed k o c (steps ++ By r.seat id d ∷ []) u
          → IsLed k o c (steps ++ By r.seat id d ∷ []) t
      to_table d u e l = subst (IsLed k o c (steps ++ By r.seat id d ∷ [])) (sym e) l

      -- the same deed, by what was found
      named : (d e : Deed) → d ≡ e → IsLed k o c (steps ++ By r.seat id e ∷ []) t
          → IsLed k o c (steps ++ By r.seat id d ∷ []) t
      named d e same l = subst (λ (y : Deed). IsLed k o c (steps ++ By r.seat id y ∷ []) t) (sym same) l

      own : (d : Deed) → IsDone k o c s id r d t → IsLed k o c (steps ++ By r.seat id d ∷ []) t
      own (Arrive n m) (idle, room, number, last, is) = named (Arrive n m) _ (λ i. Arrive (number i) (last i))
          (to_table (Arrive _ _) _ is
          (led_after k o c steps s led id r here (Arrive _ _) _ _ _
          (steps_of.arrives k o c kind steps s led id r here idle room)))
      own (LookForTicket b) (found, waits, there, says, is) = named (LookForTicket b) _
          (ap LookForTicket (says ∙ ap (λ (n : ℕ). n == ticket r.place + 1) there))
          (to_table (LookForTicket _) _
          (is ∙ ap (λ (n : ℕ). after_step s id s.words s.homes (record_after_ticket_look r n)) there)
          (led_after k o c steps s led id r here (LookForTicket _) _ _ _
          (steps_of.looks_for_ticket k o c kind steps s led id r here waits)))
      own (LookForCall b) (found, parked, there, says, is) = named (LookForCall b) _
          (ap LookForCall (says ∙ ap (λ (n : ℕ). n == r.count + 1) there))
          (to_table (LookForCall _) _
          (is ∙ ap (λ (n : ℕ). after_step s id s.words s.homes (record_after_seat_look r n)) there)
          (led_after k o c steps s led id r here (LookForCall _) _ _ _
          (steps_of.looks_for_call k o c kind steps s led id r here parked)))
      own (Peek n) (active, number, is) = named (Peek n) _ (ap Peek number) (to_table (Peek _) _ is
          (led_after k o c steps s led id r here (Peek _) _ _ _
          (steps_of.peeks k o c kind steps s led id r here active)))
      own FloorOut (f, due, got, is) = to_table FloorOut _ is
          (led_after k o c steps s led id r here FloorOut _ _ _
          (steps_of.comes_out k o c kind steps s led id r here f due got))
      own (FloorIn es) (since, e, active, played, rel, es_is, is) = to_table (FloorIn es) _ is
          (led_after k o c steps s led id r here (FloorIn es) _ _ _
          (steps_of.goes_in k o c kind steps s led id r here (floor_of c (r.seen ++ es)) active
          (returns k o c kind s led.hall id r here active since e es played rel es_is) es refl))
      own (Drop n) (to, back, number, is) = named (Drop n) _ (ap Drop number) (to_table (Drop _) _ is
          (led_after k o c steps s led id r here (Drop _) _ _ _
          (steps_of.takes_off k o c kind steps s led id r here to back)))
      own (GrantTicket n) (passing, number, is) = named (GrantTicket n) _ (ap GrantTicket number)
          (to_table (GrantTicket _) _ (is ∙ ap (λ (m : ℕ). after_step s id
          (set s.words (ticket_word c.seats m) (m + 1)) s.homes (record_after_grant r (GrantTicket m))) number)
          (led_after k o c steps s led id r here (GrantTicket _) _ _ _
          (steps_of.grants_ticket k o c kind steps s led id r here passing)))
      own (CallSeat m) (names, is) = to_table (CallSeat m) _ is
          (led_after k o c steps s led id r here (CallSeat m) _ _ _
          (steps_of.calls_seat k o c kind steps s led id r here m names))
      own Meet done = absurd done
  step_led kind (Deal id) t (r, rs, view, is) =
      subst (IsLed k o c (steps ++ Deal id ∷ [])) (sym is)
      (moves (Deal id) _ (record { home = refl; by = λ j. refl; drew = refl; knew = λ j b. refl })
      (deals_at k o c id r rs s led.hall view) refl (each_as (Deal id) _ (r, rs, view, refl) tt))
  step_led kind (Part id) t (a, b, view, is) =
      subst (IsLed k o c (steps ++ Part id ∷ [])) (sym is)
      (moves (Part id) _ (record { home = refl; by = λ j. refl; drew = refl; knew = λ j b. refl })
      (parts_at k o c id a b s led.hall view) refl (each_as (Part id) _ (a, b, view, refl) tt))
  step_led kind (Join i id other) t (a, b, view, view_b, apart, idle, first, is) =
      subst (IsLed k o c (steps ++ Join i id other ∷ [])) (sym is)
      (moves (Join i id other) _
      (record { home = refl; by = λ j. none_home (i == j); drew = refl; knew = λ j b. still_known (i == j) b })
      (meets_at k o c id (a ∷ []) other (b ∷ []) refl refl idle s led.hall view apart
      (set_else s.views id other (view_after_join (a ∷ []) (b ∷ [])) apart ∙ view_b)) refl
      (each_as (Join i id other) _ (a, b, view, view_b, apart, idle, first, refl) tt))
  step_led kind (Compare i id) t (a, b, view, idle_a, idle_b, second, is) =
      subst (IsLed k o c (steps ++ Compare i id ∷ [])) (sym is)
      (moves (Compare i id) _
      (record { home = refl; by = λ j. none_home (i == j); drew = refl; knew = λ j b. still_known (i == j) b })
      (compares_at k o c s led.hall id a b view idle_a idle_b) refl
      (each_as (Compare i id) _ (a, b, view, idle_a, idle_b, second, refl) tt))

  -- and what is said holds for the step itself
  next_led : (kind : IsKind k) (x : Step) (t : HallState) → IsStep k o c s x t → IsLedStep k o c steps s x
  next_led kind (By i id d) t (r, here, seat, done) = own d done
    where
      own : (d : Deed) → IsDone k o c s id r d t → IsLedStep k o c steps s (By i id d)
      own (Arrive n m) (idle, room, number, last, is) = number ∙ led.drawn
      own (LookForTicket b) done = tt
      own (LookForCall b) done = tt
      own (Peek n) done = tt
      own FloorOut done = tt
      own (FloorIn es) (since, e, active, played, rel, es_is, is) =
          subst (λ (j : ℕ). IsLedStep k o c steps s (By j id (FloorIn es))) seat
          (steps_of.led_release k o c kind steps s led id r here (floor_of c (r.seen ++ es)) active
          (returns k o c kind s led.hall id r here active since e es played rel es_is) es refl)
      own (Drop n) done = tt
      own (GrantTicket n) (passing, number, is) = number
          ∙ sym ((led.each r (its_record k o c steps s led id r here (GrantTicket n))).came (ticket r.place)
          (ap came_by (passing_at r.place passing)))
      own (CallSeat m) done = tt
      own Meet done = absurd done
  next_led kind (Deal id) t done = tt
  next_led kind (Part id) t done = tt
  next_led kind (Join i id other) t done = tt
  next_led kind (Compare i id) t done = tt

  one_history : (kind : IsKind k) → IsOneHistory k o c steps s
  one_history kind = record {
    hall = led.hall;
    right = right_in_one_place k o c s led.hall;
    led = shows_well_led k o c s led.hall;
    home = subst (IsHomeHistory k o c s) led.past (home_history k o c s led.hall);
    grows = λ before after e. (brought after, ap brought e ∙ brought_append before after);
    own = led.own;
    in_order = led.order;
    did = λ r y. (led.each r y).did;
    known = λ r y. (led.each r y).known;
    one_active = λ r q x y a b. (one_is_active k o c s led.hall r q x y a b).0;
    next = λ x t done. next_led kind x t done;
  }

-- what is said holds for the opening table
opening_idle : (c : Setting) (n i : ℕ) (r : SeatRecord) → In r (opening_records c n i) → r ≡ opening_record c r.seat
opening_idle c zero i r y = absurd y
opening_idle c (suc n) i r (inl e) = e ∙ ap (opening_record c) (ap (λ (z : SeatRecord). z.seat) (sym e))
opening_idle c (suc n) i r (inr y) = opening_idle c n (suc i) r y

pub led_opening : (k : Rules) (o : Object) (c : Setting) → make_refusal c.seats c.conds c.budget ≡ None
    → IsLed k o c [] (opening_table c)
unfolding events_of
led_opening k o c made =
    let words : List ℕ = replicate (word_count c.seats) 0 in
    let some_is = some_seat c.seats c.conds c.budget made in
    let wide = length-replicate (word_count c.seats) 0 in
    let zeros = zero_words (word_count c.seats) in
    record {
      hall = opens k o c words made some_is wide zeros;
      past = opens_empty k o c words made some_is wide zeros;
      drawn = ap (λ (n : ℕ). n / 4294967296) (zeros 0);
      each = grind (arith, nat_tests, opening_idle, none-some, held, came_by);
      own = λ j. refl;
      order = ([], refl);
    }
  where
    in_first : (r : SeatRecord) → IsRecord (opening_table c) r → In r (first_view c)
    in_first r y = ⊎_elim (λ (e : get_elem? [] y.id ≡ some y.view). absurd cc) (λ e. subst (In r) (sym e) y.there)
        (at_snoc [] (first_view c) y.view y.id y.at)

-- after these steps, more steps
pub led_by : (k : Rules) (o : Object) (c : Setting) → IsKind k → (before : List Step) (s : HallState)
    → IsLed k o c before s → (xs : List Step) (t : HallState) → IsSchedule k o c s xs t → IsLed k o c (before ++ xs) t
led_by k o c kind before s led [] t e = subst (λ (l : List Step). IsLed k o c l t) (sym (append-nil before))
    (subst (IsLed k o c before) (sym e) led)
led_by k o c kind before s led (x ∷ xs) t run = subst (λ (l : List Step). IsLed k o c l t)
    (append_assoc before (x ∷ []) xs)
    (led_by k o c kind (before ++ x ∷ []) run.0 (step_led k o c before s led kind x run.0 run.1) xs t run.2)

pub every_schedule : EveryScheduleIsOneHistory
every_schedule k o c kind made steps s run =
    one_history k o c steps s (led_by k o c kind [] (opening_table c) (led_opening k o c made) steps s run) kind
