-- Each step that hands the right on keeps the rule
use Rattle.std.proofs.Common.{◌≡◌, ◌≢◌, ℕ, zero, suc, ◌+◌, ◌%◌, ◌<◌, ◌≤◌, ◌⊎◌, true, List, [], ◌∷◌, set, sym, refl}
use Rattle.std.proofs.Common.{ap, ◌∙◌, subst, inl, inr, arith, length-set, get_or-set_other, mod-lt}
use Rattle.std.{specs.Prelude.Option, specs.Prelude.slice_index, proofs.lemmas.Bool.Decides.eqb_tells}
use mathlib.Core.Option as maybe
use mathlib.Core.Path.{Path}
use lib.ListN.{get_elem?}
use Rattle.atomic_table.specs.Table as table
use Rattle.monk_kinds.specs.{Kind.IsKind, declared.mode.Rules.Rules}
use Rattle.monk_object.specs.Object.{Object}
use Rattle.monk_history.specs.declared.event.Next.TheVariants as next
use Rattle.monk_history.specs.{Meaning.Counts.granted_of, declared.event.Next.Next}
use Rattle.monk_floor.specs.View.{FloorView}
use Rattle.monk_world.specs.declared.answer.Answer.TheVariants as answer
use Rattle.monk_world.specs.declared.command.Command.TheVariants as command
use Rattle.monk_world.proofs.PublicLaws.{IsReady, held, at_update}
use Rattle.monk_world.specs.{Update.update, State.State, Steps.after_ticket_grant, Steps.after_seat_grant, World.World}
use Rattle.monk_world.specs.StepTable.{IsDone, IsGranted, may_be_told, names_seat}
use Rattle.monk_world.specs.Places.{stage, ticket, back_turn, due_to, turn_of_next, place_of, outside_stage, back_stage}
use Rattle.monk_world.specs.Places.{passing_stage, inside_stage}
use Rattle.monk_world.specs.declared.place.Place.{Place}
use Rattle.monk_world.specs.declared.place.Place.TheVariants.{Idle, Ticket, Due, Active, Back, Passing, Inner}
use Rattle.monk_world.specs.declared.home.Home.{Home}
use Rattle.monk_hall.proofs.Standing as standing
use Rattle.monk_hall.proofs.Stepping as stepping
use Rattle.monk_hall.proofs.Stored as stored
use Rattle.monk_hall.proofs.Knows.{calls_stay}
use Rattle.monk_hall.specs.{Laws.Takes, Records.View, Rule.IsHall, Rule.CountsCalls}
use Rattle.monk_hall.specs.Changes.{record_after_grant, home_at}
use Rattle.monk_hall.specs.Layout.{tickets, unpassed, shown_state, shown_world, place_word, seat_word}
use Rattle.monk_hall.specs.declared.{record.SeatRecord.SeatRecord, setting.Setting.Setting}
use Rattle.monk_hall.specs.declared.deed.Deed.TheVariants.{GrantTicket, CallSeat}
use Rattle.std.proofs.lemmas.Bool.Decides.{nat_tests}

-- a place at which a seat has chosen seat m
pub record IsChoosing (p : Place) (m : ℕ) : Type 0 where
  pub choice : Next
  pub to : Home
  pub is : p ≡ Back choice to
  pub names : turn_of_next choice ≡ due_to m

pub choosing_at : (p : Place) (m : ℕ) → back_turn p ≡ due_to m → IsChoosing p m
choosing_at Idle m e = absurd (omega arith)
choosing_at (Ticket t) m e = absurd (omega arith)
choosing_at (Due q) m e = absurd (omega arith)
choosing_at (Active q) m e = absurd (omega arith)
choosing_at (Back x to) m e = record { choice = x; to = to; is = refl; names = e }
choosing_at (Passing t to) m e = absurd (omega arith)
choosing_at Inner m e = absurd (omega arith)

-- the step of a world that calls the chosen seat
calls_chosen : (s : State) (i : ℕ) (x : Next) (m : ℕ) (to : Home) → turn_of_next x ≡ due_to m
    → IsGranted s i x to (answer.GrantedSeat m) (record s { world = after_seat_grant s.world i m to })
calls_chosen s i next.Stay m to e = absurd (omega arith)
calls_chosen s i next.Entry m to e = absurd (omega arith)
calls_chosen s i (next.Waiter j) m to e = let same : m ≡ j = omega arith in
    (ap answer.GrantedSeat same, λ z. record s { world = after_seat_grant s.world i (same z) to })
calls_chosen s i (next.Signaller j) m to e = let same : m ≡ j = omega arith in
    (ap answer.GrantedSeat same, λ z. record s { world = after_seat_grant s.world i (same z) to })
calls_chosen s i (next.Until j) m to e = let same : m ≡ j = omega arith in
    (ap answer.GrantedSeat same, λ z. record s { world = after_seat_grant s.world i (same z) to })

calls_done : (k : Rules) (o : Object) (s : State) (i : ℕ) (x : Next) (m : ℕ) (to : Home) → turn_of_next x ≡ due_to m
    → IsDone k o s i (Back x to) command.Grant (answer.GrantedSeat m)
    (record s { world = after_seat_grant s.world i m to })
calls_done k o s i x m to e = calls_chosen s i x m to e

names_seat_due : (x : Next) (m : ℕ) → turn_of_next x ≡ due_to m → names_seat x ≡ true
names_seat_due next.Stay m e = absurd (omega arith)
names_seat_due next.Entry m e = absurd (omega arith)
names_seat_due (next.Waiter j) m e = refl
names_seat_due (next.Signaller j) m e = refl
names_seat_due (next.Until j) m e = refl

told_to_grant : (x : Next) (m : ℕ) (to : Home) → turn_of_next x ≡ due_to m
    → may_be_told (Back x to) command.Grant ≡ true
told_to_grant x m to e = names_seat_due x m e

module _ (k : Rules) (o : Object) (c : Setting) (kind : IsKind k) (s : table.State (Option FloorView) View)
    (h : IsHall k o c s) (id : ℕ) (r : SeatRecord) (here : get_elem? s.views id ≡ maybe.some (r ∷ [])) where
  -- step 7
  pub grants_ticket_at : stage r.place ≡ passing_stage
      → Takes k o c s h r.seat command.Grant (answer.GrantedTicket (ticket r.place))
      (record {
        words = set s.words (place_word (ticket r.place % c.seats)) (ticket r.place + 1);
        homes =
            s.homes;
        views = set s.views id (record_after_grant r (GrantTicket (ticket r.place)) ∷ []);
      })
  grants_ticket_at passing =
      let at = h.0 in
      let kh = h.2 in
      let n : ℕ = ticket r.place in
      let q : ℕ = n % c.seats in
      let to : Home = home_at r.place in
      let w = record_after_grant r (GrantTicket n) in
      let ws : List ℕ = set s.words (place_word q) (n + 1) in
      let world : World = shown_world s.words at in
      let old : State = shown_state c s.words at kh.history in
      let place_is : r.place ≡ Passing n to = standing.passing_at r.place passing in
      let stands = stepping.stands_at k o c kind s h id r here (Passing n to) place_is in
      let low : q < c.seats = mod-lt n kh.some_seat in
      let ready : IsReady k o old r.seat command.Grant = grind (arith, nat_tests) in
      let after : State = record old { world = after_ticket_grant c.seats world r.seat n to } in
      let kept = stepping.takes_step k o c kind s h id r here command.Grant (answer.GrantedTicket n) after
      (Passing n to) ready place_is (refl, refl) in
      let word : slice_index s.words 0 ≡ slice_index ws 0 = grind (arith, nat_tests, get_or-set_other) in
      let places = stepping.places_after k o c kind s h id r here w in
      let ticket_places = sym (stored.place_stored s.words q (n + 1) (let z = kh.wide in omega arith)) in
      let seat_places = sym (stored.seats_stay s.words (place_word q) (n + 1) (λ m e. omega arith)) in
      let counts = stepping.counts_stay k o c kind s h id r here w refl in
      let knows = stepping.known_stays k o c kind s h id r here w refl in
      let same : Path State after (shown_state c ws (update at r.seat w) kh.history) = λ z. record {
        world = record {
          drawn = tickets (word z);
          unpassed = unpassed (word z);
          ticket_place = ticket_places z;
          seat_place = seat_places z;
          place = places z;
          count = counts z;
        };
        known = knows z;
        floor = old.floor;
      } in
      let moved : stepping.IsMoved k o c kind s h id r here w = grind (arith, nat_tests) in
      let apart = standing.apart_home to in
      let calls =
      calls_stay world (shown_world ws (update at r.seat w)) kh.past r.seat w.place kh.told.calls (sym places)
      (sym seat_places) (ap back_turn stands) apart.chose in
      stepping.holds_after k o c kind s h id r here w ws moved (length-set s.words (place_word q) (n + 1)) kept same
      (stepping.knows_after k o c kind s h id r here w ws moved calls (λ e. absurd (omega arith)) apart)

  -- the seat that is called is a seat of the hall
  pub called_near : (m : ℕ) → back_turn r.place ≡ due_to m → m < c.seats
  called_near m names =
      let x = choosing_at r.place m names in
      let sound = stepping.sound k o c kind s h id r here in
      let stands = stepping.stands_at k o c kind s h id r here (Back x.choice x.to) x.is in
      let world : World = shown_world s.words h.0 in
      let six = sound.stands.keeps.calls.chose r.seat (ap stage stands) m (ap back_turn stands ∙ x.names) in
      by_range (cases_le c.seats m) (sound.outside m) six
    where
      cases_le : (a b : ℕ) → (a ≤ b) ⊎ (b < a)
      cases_le zero b = inl (omega arith)
      cases_le (suc a) zero = inr (omega arith)
      cases_le (suc a) (suc b) = elim (cases_le a b) [ inl l ↦ inl (omega arith) | inr l ↦ inr (omega arith) ]

      by_range : (c.seats ≤ m) ⊎ (m < c.seats) → (c.seats ≤ m → stage (h.0 m).place ≡ outside_stage)
          → stage (h.0 m).place ≡ inside_stage → m < c.seats
      by_range (inl l) none six = let z = none l in absurd (omega arith)
      by_range (inr l) none six = l

  -- the calls are counted after the seat was called
  calls_counted : (m : ℕ) (ws : List ℕ) → back_turn r.place ≡ due_to m
      → Path (ℕ → ℕ) (update (shown_world s.words h.0).seat_place m ((shown_world s.words h.0).seat_place m + 1))
      (shown_world ws (update h.0 r.seat (record_after_grant r (CallSeat m)))).seat_place
      → CountsCalls (shown_world ws (update h.0 r.seat (record_after_grant r (CallSeat m)))) h.2.past
  calls_counted m ws names places =
      let at = h.0 in
      let kh = h.2 in
      let world : World = shown_world s.words at in
      let w = record_after_grant r (CallSeat m) in
      let x = choosing_at r.place m names in
      let sound = stepping.sound k o c kind s h id r here in
      let stands = stepping.stands_at k o c kind s h id r here (Back x.choice x.to) x.is in
      let four : stage (at r.seat).place ≡ back_stage = ap stage stands in
      let mine = held sound.stands.keeps r.seat (omega arith) (omega arith) in
      let alone : (j n : ℕ) → j ≢ r.seat → back_turn (at j).place ≢ due_to n =
      grind (arith, nat_tests, choosing_at, held) in
      let apart = standing.apart_home (home_at r.place) in
      let nobody : (j n : ℕ) → back_turn (update at r.seat w j).place ≢ due_to n = λ j n.
      at_update at r.seat w (λ i y. back_turn y.place ≢ due_to n) (λ e. let z = apart.chose in absurd (omega arith))
      (λ i ne. alone i n ne) j in
      record {
        choosing = λ j n e. absurd (nobody j n e);
        settled = λ n none. subst (λ (f : ℕ → ℕ). granted_of kh.past n ≡ f n) places
            (at_update world.seat_place m (world.seat_place m + 1) (λ i y. granted_of kh.past i ≡ y)
            (kh.told.calls.choosing r.seat m (ap back_turn stands ∙ x.names))
            (λ i ne. kh.told.calls.settled i (λ j e. elim (eqb_tells j r.seat) [
              | inl b ↦ grind (arith, nat_tests)
              | inr b ↦ absurd (alone j i b.1 e)
            ])) n);
      }

  -- step 8
  pub calls_seat_at : (m : ℕ) → back_turn r.place ≡ due_to m → (calls : ℕ) → calls ≡ granted_of r.seen m
      → Takes k o c s h r.seat command.Grant (answer.GrantedSeat m)
      (record {
        words = set s.words (seat_word m) calls;
        homes = s.homes;
        views =
            set s.views id (record_after_grant r (CallSeat m) ∷ []);
      })
  calls_seat_at m names calls calls_are =
      let at = h.0 in
      let kh = h.2 in
      let w = record_after_grant r (CallSeat m) in
      let ws : List ℕ = set s.words (seat_word m) calls in
      let world : World = shown_world s.words at in
      let old : State = shown_state c s.words at kh.history in
      let is = stepping.is k o c kind s h id r here in
      let x = choosing_at r.place m names in
      let stands = stepping.stands_at k o c kind s h id r here (Back x.choice x.to) x.is in
      let seen : r.seen ≡ kh.past = sym (ap (λ (y : SeatRecord). y.seen) is) ∙ kh.told.back r.seat (ap stage stands) in
      let grown : world.seat_place m + 1 ≡ calls = grind (arith, nat_tests) in
      let low = called_near m names in
      let ready : IsReady k o old r.seat command.Grant = grind (arith, nat_tests, told_to_grant) in
      let after : State = record old { world = after_seat_grant world r.seat m x.to } in
      let kept = stepping.takes_step k o c kind s h id r here command.Grant (answer.GrantedSeat m) after
      (Back x.choice x.to) ready x.is (calls_done k o old r.seat x.choice m x.to x.names) in
      let word : slice_index s.words 0 ≡ slice_index ws 0 = grind (arith, nat_tests, get_or-set_other) in
      let home_is : x.to ≡ home_at r.place = sym (ap home_at x.is) in
      let places = ap (λ (y : Home). update world.place r.seat (place_of y)) home_is
      ∙ stepping.places_after k o c kind s h id r here w in
      let ticket_places = sym (stored.places_stay s.words (seat_word m) calls (λ i e. omega arith)) in
      let seat_places = ap (update world.seat_place m) grown
      ∙ sym (stored.seat_stored s.words m calls (let z = kh.wide in omega arith)) in
      let counts = stepping.counts_stay k o c kind s h id r here w refl in
      let knows = stepping.known_stays k o c kind s h id r here w refl in
      let same : Path State after (shown_state c ws (update at r.seat w) kh.history) = λ z. record {
        world = record {
          drawn = tickets (word z);
          unpassed = unpassed (word z);
          ticket_place = ticket_places z;
          seat_place = seat_places z;
          place = places z;
          count = counts z;
        };
        known = knows z;
        floor = old.floor;
      } in
      let moved : stepping.IsMoved k o c kind s h id r here w = grind (arith, nat_tests) in
      stepping.holds_after k o c kind s h id r here w ws moved (length-set s.words (seat_word m) calls) kept same
      (stepping.knows_after k o c kind s h id r here w ws moved (calls_counted m ws names seat_places)
      (λ e. let z = ap stage x.is in absurd (omega arith)) (standing.apart_home (home_at r.place)))
