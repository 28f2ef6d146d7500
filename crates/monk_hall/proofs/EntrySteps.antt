-- How a seat's token comes in: it draws a ticket, looks for its turn, and then the floor comes out to it
use Rattle.std.proofs.Common.{◌≡◌, ℕ, ◌+◌, ◌≤◌, ◌==◌, Bool, List, [], ◌∷◌, ◌++◌}
use Rattle.std.proofs.Common.{length, length-append, append-nil, None, refl, sym, ap, subst, ◌∙◌, arith}
use Rattle.atomic_table.specs.Seated.{TableId}
use Rattle.monk_kinds.specs.declared.mode.Rules.{Rules}
use Rattle.monk_object.specs.Object.{Object}
use Rattle.monk_history.proofs.PublicLaws.Meaning.{legal-push, turn-push}
use Rattle.monk_history.specs.Meaning.{Events.seat_of, Events.next_of, Legal.IsLegal, Turn.turn, Turn.turn_by}
use Rattle.monk_history.specs.Meaning.Counts.{events_of, enters_of}
use Rattle.monk_history.specs.declared.event.{Event.Event, Turn.Turn, Turn.TheVariants.Owned}
use Rattle.monk_floor.specs.View.{FloorView, monitor_of}
use Rattle.monk_world.specs.{State.with_event, StepTable.out_event, Steps.place_after_arrive}
use Rattle.monk_world.specs.{Steps.place_after_ticket_look, Steps.place_after_seat_look, Steps.count_after_seat_look}
use Rattle.monk_world.specs.declared.place.Place.{Place, TheVariants.Ticket, TheVariants.Due, TheVariants.Active}
use Rattle.monk_world.specs.declared.source.Source.{Source}
use Rattle.monk_hall.proofs.Private.{own_event}
use Rattle.monk_hall.specs.{Calls.HasArrived, Calls.HasEntered, Layout.floor_of, Layout.tickets, Layout.unpassed}
use Rattle.monk_hall.specs.{Records.View, Records.the, Tells.Me, Tells.TellsArrive, Tells.SeesTruly}
use Rattle.monk_hall.specs.Changes.{record_after_arrive, record_after_ticket_look, record_after_seat_look, source_from}
use Rattle.monk_hall.specs.Changes.{record_after_floor_out}
use Rattle.monk_hall.specs.Tokens.{Token, IsResting, IsHolding, IsWaiting, with_own, holder}
use Rattle.monk_hall.specs.Floors.{Finds, GoesOn, IsPrivate, ArePrivate}
use Rattle.monk_hall.specs.declared.{record.SeatRecord.SeatRecord, seat_numbers.SeatNumbers.SeatNumbers}
use Rattle.monk_hall.specs.declared.deed.Deed.{Deed}
use Rattle.monk_hall.specs.declared.deed.Deed.TheVariants.{Arrive, LookForTicket, LookForCall}
use Rattle.std.proofs.lemmas.Bool.Decides.{nat_tests}

-- a seat's own event is one more of its own
pub own_longer : (h : List Event) (e : Event) (s : ℕ) → seat_of e ≡ s
    → length (events_of (h ++ e ∷ []) s) ≡ length (events_of h s) + 1
own_longer h e s is = ap length (own_event h e s is) ∙ length-append (events_of h s) (e ∷ [])

pub out_seat : (i : ℕ) (q : Source) (u : Turn) → seat_of (out_event i q u) ≡ i
out_seat i q u = grind (arith, nat_tests)

pub out_owns : (i : ℕ) (q : Source) (u : Turn)
    → turn_by (seat_of (out_event i q u)) (next_of (out_event i q u)) ≡ Owned i
out_owns i q u = grind (arith, nat_tests)

abbrev pub token : TableId → SeatRecord → Token
token z r = record { hall = z; me = r }

pub own_more : (i : ℕ) (es : List Event) (e : Event) → ArePrivate i es → IsPrivate i e → ArePrivate i (es ++ e ∷ [])
own_more i [] e x y = (y, tt)
own_more i (d ∷ ds) e x y = (x.0, own_more i ds e x.1 y)

pub arrived_waits : (t n : ℕ) → IsWaiting (place_after_arrive t n)
arrived_waits t n = grind (arith, nat_tests)

pub looked_waits : (t : ℕ) (b : Bool) → IsWaiting (place_after_ticket_look t b)
looked_waits t b = grind (arith, nat_tests)

pub answered_waits : (b : Bool) → IsWaiting (place_after_seat_look b)
answered_waits b = grind (arith, nat_tests)

module _ {k : Rules} {o : Object} where
  -- a record that differs in its place, and in what it has counted
  pub told_moved : (r w : SeatRecord) → SeesTruly k o r → w.seat ≡ r.seat → w.setting ≡ r.setting → w.seen ≡ r.seen
      → w.mine ≡ r.mine → SeesTruly k o w
  told_moved r w t seat setting seen mine = record {
    legal = subst (λ z. IsLegal (monitor_of k o (floor_of z w.seen)) w.seen) (sym setting)
        (subst (λ h. IsLegal (monitor_of k o (floor_of r.setting h)) h) (sym seen) t.legal);
    own = (λ i. events_of (seen i) (seat i)) ∙ (t.own ∙ sym mine);
  }

  pub rests_moved : {z : TableId} {me : Me} {numbers : SeatNumbers} {left : ℕ} → IsResting k o z me numbers left
      → (p : Place) (known : Bool) (count : ℕ) (did : List Deed) (now : ℕ) → now ≡ count
      → IsResting k o z (record (the me.0) { place = p; known = known; count = count; did = did } ∷ [], me.1)
      (record numbers { calls = now }) left
  rests_moved h p known count did now h' = grind (arith, nat_tests)

  -- the floor has come out to a seat that was due, with the event that it records
  abbrev came_goes : (r : SeatRecord) (f : FloorView) → Finds k o r f
      → GoesOn k o (record_after_floor_out r f.history)
      (with_event f (out_event r.seat (source_from r.place) (turn f.history)))
  came_goes r f x = let e = out_event r.seat (source_from r.place) (turn f.history) in record {
    is_floor = ap (λ y. with_event y e) x.is_floor;
    near = x.near;
    legal = legal-push (monitor_of k o f) f.history e x.legal x.allowed;
    since = [];
    goes = sym (append-nil (f.history ++ e ∷ []));
    own = tt;
    owned = turn-push f.history e ∙ out_owns r.seat (source_from r.place) (turn f.history);
    mine = own_event f.history e r.seat (out_seat r.seat (source_from r.place) (turn f.history))
        ∙ ap (λ es. es ++ e ∷ []) x.mine;
    within = let more = own_longer f.history e r.seat (out_seat r.seat (source_from r.place) (turn f.history)) in
        let two = x.left in let b = ap (λ y. y.budget) x.is_floor in omega arith;
  }

  pub came_in : {z : TableId} {me : Me} {numbers : SeatNumbers} {left : ℕ} → IsResting k o z me numbers left
      → (f g : FloorView) → Finds k o (the me.0) f
      → g ≡ with_event f (out_event (the me.0).seat (source_from (the me.0).place) (turn f.history))
      → IsHolding k o z (record_after_floor_out (the me.0) f.history ∷ [], (0, None) ∷ []) numbers g
  came_in {z} {me} {numbers} {left} x f g finds grows =
      let r = the me.0 in let e = out_event r.seat (source_from r.place) (turn f.history) in
      subst (λ y. IsHolding k o z (record_after_floor_out r f.history ∷ [], (0, None) ∷ []) numbers
      y) (sym grows) record {
        one = refl;
        out = refl;
        active = refl;
        seated = record {
          is_seat = x.seated.is_seat;
          near = x.seated.near;
          sized = x.seated.sized;
          counted = x.seated.counted;
          budgeted = x.seated.budgeted;
        };
        goes = came_goes r f finds;
        left = grind (arith, nat_tests, own_longer, out_seat);
      }

  pub entered : (z : TableId) (r : SeatRecord) (q : Source) (f : FloorView) → r.place ≡ Due q → Finds k o r f
      → HasEntered k o (record { hall = z; me = r })
      (record {
        hall = z;
        me =
            with_own (record_after_floor_out r f.history)
            (with_event f (out_event r.seat (source_from r.place) (turn f.history)));
        floor =
            with_event f (out_event r.seat (source_from r.place) (turn f.history));
      })
  entered z r q f at x = let e = out_event r.seat (source_from r.place) (turn f.history) in
      let same : source_from r.place ≡ source_from r.place = ap source_from at ∙ sym (ap source_from at) in let goes =
      came_goes r f x in record {
        hall = refl;
        seat = refl;
        setting = refl;
        place = ap Active same;
        known = refl;
        starts = x.starts;
        floor = grind (arith, nat_tests);
        mine = goes.mine ∙ ap (λ y. r.mine ++ out_event r.seat y (turn f.history) ∷ []) same;
        first = λ t is. x.first t (same ∙ is);
        next = λ t is. x.next t (same ∙ is);
        legal = goes.legal;
        own = refl;
      }

  -- after a step the seat is of the same table, and its view is this one
  pub rests_at : {z : TableId} {me : Me} {numbers : SeatNumbers} {left : ℕ} → IsResting k o z me numbers left
      → (y : TableId) (new : Me) → y ≡ z → new ≡ me → IsResting k o y new numbers left
  rests_at h y new h' h'' = grind (arith, nat_tests)

  -- an idle seat has drawn a ticket
  pub arrival_rests : {z : TableId} {v : View} {numbers : SeatNumbers} {left : ℕ}
      → IsResting k o z (v, []) numbers left
      → (me : Me) → me.0 ≡ v → me.1 ≡ []
      → (y : TableId) (new : Me) (found : ℕ) (p : Place) → y ≡ z
      → new ≡ (record_after_arrive (the me.0) found ∷ [], me.1) → length (the v).mine + 2 ≤ (the v).setting.budget
      → p ≡ place_after_arrive (tickets found) (unpassed found)
      → IsResting k o y new numbers left × (2 ≤ left) × (p ≡ (the new.0).place) × IsWaiting p
  arrival_rests {z} {v} {numbers} {left} x me view free y new found p same is two at =
      let r = the v in let spent = x.spent in
      let drawn : new ≡ (record_after_arrive r found ∷ [], []) = is
      ∙ (λ i. (record_after_arrive (the (view i)) found ∷ [], free i)) in (
        rests_at (rests_moved x (place_after_arrive (tickets found) (unpassed found)) r.known r.count
            (r.did ++ Arrive (tickets found) (unpassed found) ∷ []) numbers.calls x.seated.counted) y new same drawn,
        omega arith,
        at ∙ sym (ap (λ m. (the m.0).place) drawn),
        subst IsWaiting (sym at) (arrived_waits (tickets found) (unpassed found)),
      )

  pub arrival : {z : TableId} {v : View} {numbers : SeatNumbers} {left : ℕ}
      → IsResting k o z (v, []) numbers left → (me : Me)
      → me.0 ≡ v → me.1 ≡ []
      → (y : TableId) (new : Me) (found : ℕ) → y ≡ z → TellsArrive me found new
      → HasArrived k o (token z (the v)) (token y (the new.0))
  arrival {z} {v} x me view free y new found same step =
      let r = the v in
      let drawn = ap (λ m. the m.0) step.0 ∙ ap (λ w. record_after_arrive (the w) found) view in record {
        found = found;
        hall = same;
        me = drawn;
        enters = subst (λ w. enters_of (the w).seen ≤ tickets found) view step.1;
        told = told_moved r (the new.0) x.told (ap (λ w. w.seat) drawn) (ap (λ w. w.setting) drawn)
            (ap (λ w. w.seen) drawn) (ap (λ w. w.mine) drawn);
      }

  -- a seat with a ticket has looked for it
  pub ticket_look_rests : {z : TableId} {me : Me} {numbers : SeatNumbers} {left : ℕ}
      → IsResting k o z me numbers left
      → (t found : ℕ) → (the me.0).place ≡ Ticket t → (y : TableId) (new : Me) (p : Place)
      → y ≡ z → new ≡ (record_after_ticket_look (the me.0) found ∷ [], me.1)
      → p ≡ place_after_ticket_look t (found == t + 1)
      → IsResting k o y new numbers left × (p ≡ (the new.0).place) × IsWaiting p
  ticket_look_rests {z} {me} {numbers} {left} x t found at y new p same is looks =
      let r = the me.0 in let n = Rattle.monk_world.specs.Places.ticket r.place in (
        rests_at (rests_moved x (place_after_ticket_look n (found == n + 1)) r.known r.count
            (r.did ++ LookForTicket (found == n + 1) ∷ []) numbers.calls x.seated.counted) y new same is,
        looks ∙ sym (ap (λ q. place_after_ticket_look (Rattle.monk_world.specs.Places.ticket q)
            (found == Rattle.monk_world.specs.Places.ticket q + 1)) at) ∙ sym (ap (λ m. (the m.0).place) is),
        subst IsWaiting (sym looks) (looked_waits t (found == t + 1)),
      )

  -- a parked seat has looked for its call
  pub call_look_rests : {z : TableId} {me : Me} {numbers : SeatNumbers} {left : ℕ}
      → IsResting k o z me numbers left
      → (found : ℕ) → (y : TableId) (new : Me) (p : Place) (b : Bool) (now : ℕ)
      → y ≡ z → new ≡ (record_after_seat_look (the me.0) found ∷ [], me.1) → b ≡ (found == numbers.calls + 1)
      → p ≡ place_after_seat_look b → now ≡ count_after_seat_look numbers.calls (found == numbers.calls + 1)
      → IsResting k o y new (record numbers { calls = now }) left × (p ≡ (the new.0).place) × IsWaiting p
  call_look_rests {z} {me} {numbers} {left} x found y new p b now same is says looks counts =
      let r = the me.0 in let e = x.seated.counted in (
        rests_at (rests_moved x (place_after_seat_look (found == r.count + 1)) r.known
            (count_after_seat_look r.count (found == r.count + 1))
            (r.did ++ LookForCall (found == r.count + 1) ∷ []) now
            (counts ∙ ap (λ n. count_after_seat_look n (found == n + 1)) e)) y new same is,
        looks ∙ ap place_after_seat_look (says ∙ ap (λ n. found == n + 1) e) ∙ sym (ap (λ m. (the m.0).place) is),
        subst IsWaiting (sym looks) (answered_waits b),
      )

  -- the floor has come out to a seat that was due, and its event is recorded
  out_is : {z : TableId} {me : Me} {numbers : SeatNumbers} {left : ℕ} → IsResting k o z me numbers left
      → (f g : FloorView) (q : Source) → (the me.0).place ≡ Due q
      → g ≡ with_event f (out_event numbers.seat q (turn f.history))
      → g ≡ with_event f (out_event (the me.0).seat (source_from (the me.0).place) (turn f.history))
  out_is x f g q at grows = cc

  pub entry_holds : {z : TableId} {me : Me} {numbers : SeatNumbers} {left : ℕ} → IsResting k o z me numbers left
      → (f g : FloorView) (q : Source) → Finds k o (the me.0) f → (the me.0).place ≡ Due q
      → g ≡ with_event f (out_event numbers.seat q (turn f.history)) → (y : TableId) (new : Me) → y ≡ z
      → new ≡ (record_after_floor_out (the me.0) f.history ∷ [], (0, None) ∷ [])
      → IsHolding k o y new numbers g
  entry_holds {z} {me} {numbers} {left} x f g q finds at grows y new same is =
      subst (λ a. IsHolding k o a new numbers g) (sym same)
      (subst (λ m. IsHolding k o z m numbers g) (sym is) (came_in x f g finds (out_is x f g q at grows)))

  pub entry : {z : TableId} {me : Me} {numbers : SeatNumbers} {left : ℕ} → IsResting k o z me numbers left
      → (f g : FloorView) (q : Source) → Finds k o (the me.0) f → (the me.0).place ≡ Due q
      → g ≡ with_event f (out_event numbers.seat q (turn f.history)) → (y : TableId) (new : Me) → y ≡ z
      → new ≡ (record_after_floor_out (the me.0) f.history ∷ [], (0, None) ∷ [])
      → HasEntered k o (token z (the me.0)) (holder y (the new.0) g)
  entry {z} {me} x f g q finds at grows y new same is =
      subst (HasEntered k o (token z (the me.0)))
      (λ i. holder (sym same i) (sym (ap (λ m. the m.0) is) i) (sym (out_is x f g q at grows) i))
      (entered z (the me.0) q f at finds)
