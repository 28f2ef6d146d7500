-- The nine steps of a seat, each after a schedule
use Rattle.std.proofs.Common.{◌≡◌, ℕ, ◌+◌, ◌-◌, ◌%◌, ◌==◌, ◌<◌, ◌≤◌, ◌⊎◌, Bool, true, false, List, [], ◌∷◌, ◌++◌, length, set}
use Rattle.std.proofs.Common.{sym, refl, ap, subst, ◌∙◌, inl, inr, arith, append-nil, append_assoc, length-append}
use Rattle.std.proofs.{Common.drop, Common.get_or-set_same, Common.get_or-set_other, Math.Seq.drop-append_seam}
use Rattle.std.proofs.{Math.Option.some-injective, lemmas.Option.none-some, lemmas.Option.same_Some}
use Rattle.std.specs.Prelude.{Option, Some, None, slice_index}
use mathlib.Core.Option.{some, none}
use lib.ListN.{get_elem?}
use Rattle.atomic_table.proofs.Lists.{at_last, set_here}
use Rattle.monk_kinds.specs.{Kind.IsKind, declared.mode.Rules.Rules}
use Rattle.monk_object.specs.Object.{Object}
use Rattle.monk_history.specs.Meaning.{Release.with_next, Release.choice_of, Turn.turn}
use Rattle.monk_history.specs.Meaning.Counts.{enters_of, granted_of}
use Rattle.monk_history.specs.declared.event.{Event.Event, Next.Next, Next.TheVariants.Entry}
use Rattle.monk_floor.specs.View.{FloorView, stands_of}
use Rattle.monk_world.proofs.PublicLaws.{few_drawn}
use Rattle.monk_world.specs.{State.is_quiet, StepTable.out_event}
use Rattle.monk_world.specs.Places.{HoldsRight, stage, ticket, back_turn, due_to, ticketed_stage, due_stage}
use Rattle.monk_world.specs.Places.{active_stage, passing_stage, inside_stage}
use Rattle.monk_world.specs.declared.place.Place.TheVariants.{Idle, Active, Back}
use Rattle.monk_world.specs.declared.source.Source.{Source, TheVariants.Free, TheVariants.Granted, TheVariants.Called}
use Rattle.monk_world.specs.declared.home.Home.{Home}
use Rattle.monk_hall.proofs.FloorIn as floor_in
use Rattle.monk_hall.proofs.FloorOut as floor_out
use Rattle.monk_hall.proofs.Standing as standing
use Rattle.monk_hall.proofs.Stepping as stepping
use Rattle.monk_hall.proofs.WordSteps as words
use Rattle.monk_hall.proofs.{Frame.out_seat, Releasing.said, RecordLaws.next_ticket, Seats.is_setting, Seats.long}
use Rattle.monk_hall.proofs.GrantSteps.{grants_ticket_at, calls_seat_at}
use Rattle.monk_hall.proofs.PlacesAfter.{held_arrived, held_looked, held_answered, held_home, held_dropped, none_held}
use Rattle.monk_hall.proofs.PlacesAfter.{came_arrived, came_looked, came_answered, came_home, came_dropped}
use Rattle.monk_hall.proofs.PlacesAfter.{release_enters, came_enters, came_resumes}
use Rattle.monk_hall.proofs.Packed.{after_draw, after_take_off}
use Rattle.monk_hall.proofs.ScheduleLists.{AreOf, entered_append, entered_long, private_of, private_enters, same_rest}
use Rattle.monk_hall.proofs.ScheduleLists.{next_in_order}
use Rattle.monk_hall.proofs.RuleLaws.{one_has_the_right, entry_waits}
use Rattle.monk_hall.proofs.ScheduleLaws.{IsLed, IsMade, quiet, its_record, held, came_by, came_right, ticket_by}
use Rattle.monk_hall.specs.{Deeds.knows, Laws.HallState, Laws.IsRecord, Rule.IsHall, Tells.Returns}
use Rattle.monk_hall.specs.Schedules.{Step, after_step, brought, arrivals, entered, IsLedRelease}
use Rattle.monk_hall.specs.Changes.{record_after_arrive, record_after_ticket_look, record_after_seat_look}
use Rattle.monk_hall.specs.Changes.{record_after_peek, record_after_floor_out, record_after_floor_in, record_after_drop}
use Rattle.monk_hall.specs.Changes.{record_after_grant, source_from, home_at}
use Rattle.monk_hall.specs.Layout.{tickets, unpassed, ticket_word, place_word, seat_word, floor_of, shown_state}
use Rattle.monk_hall.specs.declared.{record.SeatRecord.SeatRecord, setting.Setting.Setting}
use Rattle.monk_hall.specs.declared.deed.Deed.TheVariants.{Arrive, LookForTicket, LookForCall, Peek, FloorOut, FloorIn}
use Rattle.monk_hall.specs.declared.deed.Deed.TheVariants.{Drop, GrantTicket, CallSeat}
use Rattle.std.proofs.lemmas.Bool.Decides.{nat_tests}

module _ (k : Rules) (o : Object) (c : Setting) (kind : IsKind k) (steps : List Step) (s : HallState)
    (led : IsLed k o c steps s) (id : ℕ) (r : SeatRecord) (here : get_elem? s.views id ≡ some (r ∷ [])) where
  abbrev h : IsHall k o c s
  h = led.hall

  abbrev found : ℕ
  found = slice_index s.words 0

  few : tickets found < 2147483648
  few = few_drawn (shown_state c s.words h.0 h.2.history) h.2.kept.bounded

  -- step 1
  pub arrives : r.place ≡ Idle → length r.mine + 2 ≤ r.setting.budget
      → IsMade k o c steps s led id r here (Arrive (tickets found) (unpassed found)) (record_after_arrive r found)
      (set s.words 0 ((found + 4294967297) % 18446744073709551616)) s.homes
  arrives idle room =
      let t = words.arrives_at k o c kind s h id r here idle room _ refl in
      let behind = h.2.kept.sound.is_sound.stands.keeps.tickets.behind in
      let low = few in
      let halves = after_draw found low (omega arith) in
      let word = get_or-set_same s.words 0 ((found + 4294967297) % 18446744073709551616) 0
      (let z = h.2.wide in omega arith) in
      let more = length-append (arrivals steps) (r.seat ∷ []) in
      let one_more : tickets found + 1 ≡ length (arrivals steps ++ r.seat ∷ []) = let a = led.drawn in omega arith in
      record {
        hall = t.hall;
        past = t.home ∙ sym (append-nil h.2.past);
        drawn = ap tickets word ∙ halves.drawn ∙ one_more;
        seat = refl;
        did = refl;
        known = refl;
        ticket = grind (arith, nat_tests, at_last, same_Some, held_arrived);
        came = λ m e. absurd (none_held m (came_arrived (tickets found) (unpassed found)) e);
        others = λ q y ne m e. ap enters_of (append-nil (brought steps)) ∙ (led.each q y).came m e;
        own = tt;
        order = (
          led.order.0 ++ r.seat ∷ [],
          ap (λ (l : List ℕ). l ++ r.seat ∷ []) led.order.1
              ∙ append_assoc (entered (brought steps)) led.order.0 (r.seat ∷ [])
              ∙ ap (λ (l : List Event). entered l ++ (led.order.0 ++ r.seat ∷ [])) (sym (append-nil (brought steps))),
        );
      }

  -- step 2
  pub looks_for_ticket : stage r.place ≡ ticketed_stage
      → IsMade k o c steps s led id r here
      (LookForTicket (slice_index s.words (ticket_word c.seats (ticket r.place)) == ticket r.place + 1))
      (record_after_ticket_look r (slice_index s.words (ticket_word c.seats (ticket r.place)))) s.words s.homes
  looks_for_ticket waits =
      let t = words.looks_for_ticket_at k o c kind s h id r here waits in
      let n : ℕ = ticket r.place in
      let b : Bool = slice_index s.words (ticket_word c.seats n) == n + 1 in
      quiet k o c steps s led id r here (LookForTicket b) refl refl _ s.words s.homes t.hall t.home refl refl refl refl
      (λ m e. ap held (standing.ticket_at r.place waits) ∙ sym (held_looked n b) ∙ e)
      (λ m e. absurd (none_held m (came_looked n b) e))

  -- step 3
  pub looks_for_call : stage r.place ≡ inside_stage
      → IsMade k o c steps s led id r here (LookForCall (slice_index s.words (seat_word r.seat) == r.count + 1))
      (record_after_seat_look r (slice_index s.words (seat_word r.seat))) s.words s.homes
  looks_for_call parked =
      let t = words.looks_for_call_at k o c kind s h id r here parked in
      let b : Bool = slice_index s.words (seat_word r.seat) == r.count + 1 in
      quiet k o c steps s led id r here (LookForCall b) refl refl _ s.words s.homes t.hall t.home refl refl refl refl
      (λ m e. absurd (none_held m (held_answered b) e))
      (λ m e. absurd (none_held m (came_answered b) e))

  -- step 4
  pub peeks : stage r.place ≡ active_stage
      → IsMade k o c steps s led id r here (Peek (unpassed found)) (record_after_peek r found) s.words s.homes
  peeks active =
      let t = words.peeks_at k o c kind s h id r here active in
      quiet k o c steps s led id r here (Peek (unpassed found)) refl refl _ s.words s.homes t.hall t.home
      refl refl refl refl
      (λ m e. e) (λ m e. (led.each r (its_record k o c steps s led id r here (Peek (unpassed found)))).came m e)

  -- step 5, out
  pub comes_out : (f : FloorView) → stage r.place ≡ due_stage → get_elem? s.homes 0 ≡ some (some (Some f))
      → IsMade k o c steps s led id r here FloorOut (record_after_floor_out r f.history) s.words (set s.homes 0 none)
  comes_out f due got =
      let floor : FloorView = floor_of c h.2.past in
      let f_is : f ≡ floor = same_Some f floor (some-injective (Some f) (Some floor)
      (some-injective (some (Some f)) (some (Some floor))
      (sym got ∙ floor_out.at_home k o c kind s h id r here due))) in
      let t = floor_out.takes_at k o c kind s h id r here due in
      let finds = floor_out.finds k o c kind s h id r here due in
      subst (λ (g : FloorView). IsMade k o c steps s led id r here FloorOut (record_after_floor_out r g.history) s.words
      (set s.homes 0 none)) (sym f_is)
      (quiet k o c steps s led id r here FloorOut refl refl (record_after_floor_out r h.2.past) s.words
      (set s.homes 0 none) t.hall t.home refl refl refl refl
      (λ m e. ap held (standing.due_at r.place due) ∙ e)
      (by_source (source_from r.place) finds.first finds.next))
    where
      by_source : (q : Source) → ((n : ℕ) → q ≡ Free n → enters_of h.2.past ≡ n)
          → ((n : ℕ) → q ≡ Granted n → enters_of h.2.past ≡ n) → (m : ℕ) → ticket_by q ≡ Some m
          → enters_of (brought steps) ≡ m
      by_source (Free n) first next m e = ap enters_of (sym led.past) ∙ first n refl ∙ same_Some n m e
      by_source (Granted n) first next m e = ap enters_of (sym led.past) ∙ next n refl ∙ same_Some n m e
      by_source Called first next m e = absurd (none-some m e)

  -- step 6
  pub takes_off : (to : Home) → r.place ≡ Back Entry to
      → IsMade k o c steps s led id r here (Drop (unpassed found)) (record_after_drop r found)
      (set s.words 0 ((found + 18446744073709551615) % 18446744073709551616)) s.homes
  takes_off to back =
      let t = words.takes_off_at k o c kind s h id r here to back _ refl in
      let behind = h.2.kept.sound.is_sound.stands.keeps.tickets.behind in
      let low = few in
      let halves = after_take_off found low (omega arith)
      (words.some_unpassed k o c kind s h id r here (ap stage back)) in
      let word = get_or-set_same s.words 0 ((found + 18446744073709551615) % 18446744073709551616) 0
      (let z = h.2.wide in omega arith) in
      let to_home : Home = home_at r.place in
      let seen : r.seen ≡ brought steps = sym (ap (λ (y : SeatRecord). y.seen) (stepping.is k o c kind s h id r here))
      ∙ h.2.told.back r.seat (ap stage (stepping.stands_at k o c kind s h id r here (Back Entry to) back))
      ∙ led.past in
      quiet k o c steps s led id r here (Drop (unpassed found)) refl refl _ _ s.homes t.hall t.home
      (ap tickets word ∙ halves.drawn)
      refl refl refl
      (λ m e. absurd (none_held m (held_dropped (tickets found) (unpassed found) to_home) e))
      (λ m e. ap enters_of (sym seen)
      ∙ came_dropped (tickets found) (unpassed found) (enters_of r.seen) to_home behind
      (next_ticket k o c s h r (its_record k o c steps s led id r here (Drop (unpassed found))) Entry to back) m e)

  -- step 7
  pub grants_ticket : stage r.place ≡ passing_stage
      → IsMade k o c steps s led id r here (GrantTicket (ticket r.place))
      (record_after_grant r (GrantTicket (ticket r.place)))
      (set s.words (ticket_word c.seats (ticket r.place)) (ticket r.place + 1)) s.homes
  grants_ticket passing =
      let t = grants_ticket_at k o c kind s h id r here passing in
      let to_home : Home = home_at r.place in
      quiet k o c steps s led id r here (GrantTicket (ticket r.place)) refl refl _ _ s.homes t.hall t.home
      (ap tickets (get_or-set_other s.words (place_word (ticket r.place % c.seats)) 0 (ticket r.place + 1) 0
      (λ e. omega arith))) refl refl refl
      (λ m e. absurd (none_held m (held_home to_home) e))
      (λ m e. absurd (none_held m (came_home to_home) e))

  -- step 8
  pub calls_seat : (m : ℕ) → back_turn r.place ≡ due_to m
      → IsMade k o c steps s led id r here (CallSeat m) (record_after_grant r (CallSeat m))
      (set s.words (seat_word m) (granted_of r.seen m)) s.homes
  calls_seat m names =
      let t = calls_seat_at k o c kind s h id r here m names _ refl in
      let to_home : Home = home_at r.place in
      quiet k o c steps s led id r here (CallSeat m) refl refl _ _ s.homes t.hall t.home
      (ap tickets (get_or-set_other s.words (seat_word m) 0 (granted_of r.seen m) 0 (λ e. omega arith)))
      refl refl refl
      (λ n e. absurd (none_held n (held_home to_home) e))
      (λ n e. absurd (none_held n (came_home to_home) e))

  -- step 5, in
  module _ (f : FloorView) (active : stage r.place ≡ active_stage) (ret : Returns k o r f) (es : List Event)
      (brings : f.history ≡ r.seen ++ es) where
    abbrev q : Source
    q = source_from r.place

    abbrev since : List Event
    since = ret.goes_on.since

    abbrev last : Event
    last = with_next ret.choice ret.call

    abbrev its : IsRecord s r
    its = its_record k o c steps s led id r here (FloorIn es)

    at_active : r.place ≡ Active q
    at_active = standing.active_at r.place active

    seen : r.seen ≡ brought steps
    seen = floor_in.seen_past k o c kind s h id r here active f ret ∙ led.past

    f_history : f.history ≡ ret.before.history ++ last ∷ []
    f_history = ap (λ (g : FloorView). g.history) ret.grows

    es_is : es ≡ out_event r.seat q (turn r.seen) ∷ (since ++ last ∷ [])
    es_is = same_rest r.seen es _ (sym brings ∙ f_history
        ∙ ap (λ (g : List Event). g ++ last ∷ []) ret.goes_on.goes
        ∙ append_assoc (r.seen ++ out_event r.seat q (turn r.seen) ∷ []) since (last ∷ [])
        ∙ append_assoc r.seen (out_event r.seat q (turn r.seen) ∷ []) (since ++ last ∷ []))

    rest_enters : entered (since ++ last ∷ []) ≡ []
    rest_enters = private_enters r.seat since last ret.goes_on.own
        (release_enters r.seat ret.to ret.call ret.choice ret.release)

    order : (waiting : List ℕ) × (arrivals steps ++ [] ≡ entered (brought steps ++ es) ++ waiting)
    order = by_ticket (ticket_by q) refl
      where
        by_ticket : (b : Option ℕ) → ticket_by q ≡ b
            → (waiting : List ℕ) × (arrivals steps ++ [] ≡ entered (brought steps ++ es) ++ waiting)
        by_ticket None e =
            let nobody : entered es ≡ [] =
            ap entered es_is ∙ came_resumes r.seat q (turn r.seen) e (since ++ last ∷ []) rest_enters in (
              led.order.0,
              append-nil (arrivals steps) ∙ led.order.1
                  ∙ ap (λ (l : List ℕ). l ++ led.order.0) (sym (append-nil (entered (brought steps))))
                  ∙ ap (λ (l : List ℕ). (entered (brought steps) ++ l) ++ led.order.0) (sym nobody)
                  ∙ ap (λ (l : List ℕ). l ++ led.order.0) (sym (entered_append (brought steps) es)),
            )
        by_ticket (Some t) e =
            let one : entered es ≡ r.seat ∷ [] =
            ap entered es_is ∙ came_enters r.seat q (turn r.seen) t e (since ++ last ∷ []) rest_enters in
            let fits = led.each r its in
            let long_is : length (entered (brought steps)) ≡ t =
            entered_long (brought steps) ∙ fits.came t (ap came_by at_active ∙ e) in
            let next = next_in_order (entered (brought steps)) led.order.0 r.seat
            (ap (λ (l : List ℕ). get_elem? l (length (entered (brought steps)))) (sym led.order.1)
            ∙ ap (λ (n : ℕ). get_elem? (arrivals steps) n) long_is ∙ fits.ticket t (ap held at_active ∙ e)) in (
              next.0,
              append-nil (arrivals steps) ∙ led.order.1 ∙ next.1
                  ∙ ap (λ (l : List ℕ). (entered (brought steps) ++ l) ++ next.0) (sym one)
                  ∙ ap (λ (l : List ℕ). l ++ next.0) (sym (entered_append (brought steps) es)),
            )

    back : (record_after_floor_in r f.history).place ≡ Back ret.choice ret.to
    back = floor_in.back_is k o c kind s h id r here active f ret

    pub goes_in : IsMade k o c steps s led id r here (FloorIn es) (record_after_floor_in r f.history) s.words
        (set s.homes 0 (some (Some f)))
    goes_in =
        let t = floor_in.gives_at k o c kind s h id r here active f ret in
        record {
          hall = t.hall;
          past = t.home ∙ brings ∙ ap (λ (g : List Event). g ++ es) (seen ∙ sym led.past);
          drawn = led.drawn ∙ ap length (sym (append-nil (arrivals steps)));
          seat = refl;
          did = ap (λ (l : List Event). r.did ++ FloorIn l ∷ [])
              (ap (drop (length r.seen)) brings ∙ drop-append_seam r.seen es);
          known = refl;
          ticket = λ m e. absurd (none_held m (ap held back) e);
          came = λ m e. absurd (none_held m (ap came_by back) e);
          others = λ p y ne m e. absurd (ne (ap (λ (z : SeatRecord). z.seat)
              (one_has_the_right k o c s h p r y its (came_right p.place m e)
              (subst HoldsRight (sym at_active) tt)).0));
          own = subst (AreOf r.seat) (sym es_is) (
            out_seat r.seat q r.seen,
            private_of r.seat since last ret.goes_on.own (said r.seat ret.to ret.call ret.choice ret.release).seat,
          );
          order = order;
        }

    pub led_release : IsLedRelease k o c steps s r.seat es
    led_release = record {
      source = q;
      since = since;
      call = ret.call;
      wish = ret.wish;
      choice = ret.choice;
      before = ret.before.history;
      before_is = ret.goes_on.goes ∙ append_assoc r.seen (out_event r.seat q (turn r.seen) ∷ []) since
          ∙ ap (λ (g : List Event). g ++ out_event r.seat q (turn g) ∷ since) seen;
      brings = ap (λ (g : List Event). g ++ es) (sym seen) ∙ sym brings ∙ f_history;
      own = ret.goes_on.own;
      seat = (said r.seat ret.to ret.call ret.choice ret.release).seat;
      chosen = ret.chosen
          ∙ ap (λ (g : FloorView). choice_of k o (stands_of k o g) ret.call r.known ret.wish)
          (ret.goes_on.is_floor ∙ ap (λ (y : Setting). floor_of y ret.before.history)
          (is_setting c s.views h.0 h.1 id r here))
          ∙ ap (λ (b : Bool). choice_of k o (stands_of k o (floor_of c ret.before.history)) ret.call b ret.wish)
          ((led.each r its).known ∙ ap knows (led.each r its).did);
      waited_for = λ entry. by_quiet entry (is_quiet k o (floor_of c (brought steps ++ es))) refl;
    }
      where
        by_quiet : ret.choice ≡ Entry → (b : Bool) → is_quiet k o (floor_of c (brought steps ++ es)) ≡ b
            → (is_quiet k o (floor_of c (brought steps ++ es)) ≡ true) ⊎ (2 ≤ unpassed found)
        by_quiet entry true e = inl e
        by_quiet entry false e =
            let w = record_after_floor_in r f.history in
            let t = floor_in.gives_at k o c kind s h id r here active f ret in
            inr (entry_waits k o c (after_step s id s.words (set s.homes 0 (some (Some f))) w) t.hall w ret.to
            (record {
              id = id;
              view = w ∷ [];
              at = set_here s.views id (w ∷ []) (long s.views id (r ∷ []) here);
              there = inl refl;
            })
            (back ∙ ap (λ (z : Next). Back z ret.to) entry)
            (ap (λ (g : List Event). is_quiet k o (floor_of c g)) (brings ∙ ap (λ (g : List Event). g ++ es) seen) ∙ e))
