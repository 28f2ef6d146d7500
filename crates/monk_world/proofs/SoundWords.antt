-- A step of a seat on the words, which doesn't change the floor, keeps a state sound
use Rattle.std.proofs.Common.{◌≡◌, ◌≢◌, ℕ, ◌+◌, ◌-◌, ◌%◌, ◌==◌, ◌<◌, ◌≤◌, true, false, cond, Bool, sym, refl, ap, ◌∙◌}
use Rattle.std.proofs.Common.{subst, inl, inr, arith, eqb-true}
use Rattle.std.proofs.lemmas.Bool.Decides.{eqb_tells, nat_tests}
use Rattle.monk_kinds.specs.declared.mode.Rules.{Rules}
use Rattle.monk_object.specs.Object.{Object}
use Rattle.monk_history.specs.Meaning.{Counts.left_of, Counts.enters_of, Turn.turn}
use Rattle.monk_history.specs.declared.event.{Next.Next, Next.TheVariants.Entry, Turn.TheVariants.Owned}
use Rattle.monk_world.specs.declared.home.Home.TheVariants as home
use Rattle.monk_world.proofs.EntersLaws as enters
use Rattle.monk_world.proofs.{Holders.at_home, RightLooks.grant_is_there, RightLooks.call_is_there}
use Rattle.monk_world.proofs.StepLaws.{arrive_keeps_the_right, ticket_look_keeps_the_right, seat_look_keeps_the_right}
use Rattle.monk_world.proofs.StepLaws.{drop_keeps_the_right, ticket_grant_keeps_the_right, seat_grant_keeps_the_right}
use Rattle.monk_world.proofs.UpdateLaws.{at_update, update_same}
use Rattle.monk_world.specs.{Enters.FitsEnters, Update.update, Sound.IsSound, Sound.Sound, Sound.left_at}
use Rattle.monk_world.specs.{Sound.left_within, Stands.Stands, State.State, State.is_standing, State.is_quiet}
use Rattle.monk_world.specs.{Steps.after_arrive, Steps.after_ticket_look, Steps.after_seat_look, Steps.after_drop}
use Rattle.monk_world.specs.{Steps.after_ticket_grant, Steps.after_seat_grant, Turns.turn_number, World.World}
use Rattle.monk_world.specs.Places.{stage, ticket, source, due_to, turn_of_next, place_of, outside_stage}
use Rattle.monk_world.specs.Places.{ticketed_stage, due_stage, active_stage, back_stage, passing_stage, granted_source}
use Rattle.monk_world.specs.Right.{Whereabouts, Nowhere, AtTicket, With, AtSeat}
use Rattle.monk_world.specs.declared.place.Place.{Place}
use Rattle.monk_world.specs.declared.place.Place.TheVariants.{Idle, Ticket, Due, Back, Passing, Inner}
use Rattle.monk_world.specs.declared.source.Source.TheVariants.{Free, Granted, Called}
use Rattle.monk_world.specs.declared.home.Home.{Home}

home_left : (h : Home) → left_at (place_of h) ≡ left_within h
home_left h = grind (arith, nat_tests)

module _ (k : Rules) (o : Object) (s : State) (right : Whereabouts) (owner : ℕ → ℕ) (h : IsSound k o s right owner)
    (i : ℕ) (near : i < s.floor.seats) where
  abbrev StandsSo : World → Whereabouts → (ℕ → ℕ) → Type 0
  StandsSo w right_new owner_new = Stands s.floor.seats w right_new owner_new (turn_number (turn s.floor.history))
      (is_standing k o s.floor) (is_quiet k o s.floor)

  -- seat i goes to p, and the words become these
  word_step : (t n : ℕ) (tickets seats_called counts : ℕ → ℕ) (p : Place) (right_new : Whereabouts) (owner_new : ℕ → ℕ)
      → let w : World = record {
        drawn = t;
        unpassed = n;
        ticket_place = tickets;
        seat_place = seats_called;
        place =
            update s.world.place i p;
        count = counts;
      } in
      StandsSo w right_new owner_new → FitsEnters w right_new (enters_of s.floor.history) → stage p ≢ active_stage
      → (stage p ≡ ticketed_stage → 1 ≤ ticket p) → (stage p ≡ due_stage → source p ≡ granted_source → 1 ≤ ticket p)
      → left_at p ≤ left_of s.floor.budget s.floor.history i
      → ((j : ℕ) → j ≢ i → stage (s.world.place j) ≡ active_stage → 2 ≤ s.world.unpassed → 2 ≤ n)
      → IsSound k o (record s { world = w }) right_new owner_new
  word_step t n tickets seats_called counts p right_new owner_new stands entered away late granted_late left
      more = record {
        legal = h.legal;
        stands = stands;
        active = at_update s.world.place i p (λ j y. stage y ≡ active_stage → turn s.floor.history ≡ Owned j)
            (λ e. absurd (away e)) (λ j _. h.active j);
        known = at_update s.world.place i p (λ j y. stage y ≡ active_stage → s.known j ≡ true → 2 ≤ n)
            (λ e. absurd (away e))
            (λ j ne a b. more j ne a (h.known j a b));
        entered = entered;
        late = at_update s.world.place i p (λ j y. stage y ≡ ticketed_stage → 1 ≤ ticket y) late (λ j _. h.late j);
        granted_late = at_update s.world.place i p
            (λ j y. stage y ≡ due_stage → source y ≡ granted_source → 1 ≤ ticket y) granted_late
            (λ j _. h.granted_late j);
        left = at_update s.world.place i p (λ j y. left_at y ≤ left_of s.floor.budget s.floor.history j) left
            (λ j _. h.left j);
        outside =
            at_update s.world.place i p (λ j y. s.floor.seats ≤ j → stage y ≡ outside_stage) (λ e. absurd (omega arith))
            (λ j _. h.outside j);
      }

  pub sound_arrival : s.world.place i ≡ Idle → 2 ≤ left_of s.floor.budget s.floor.history i
      → Sound k o (record s { world = after_arrive s.world i })
  sound_arrival idle enough =
      let w = s.world in
      let r = h.stands.keeps in
      let behind = r.tickets.behind in
      let stands = arrive_keeps_the_right s.floor.seats w right owner (turn_number (turn s.floor.history))
      (is_standing k o s.floor) (is_quiet k o s.floor) i h.stands idle in
      let After : Bool → Type 0 = λ b.
      let v : World = record w {
        drawn = w.drawn + 1;
        unpassed = w.unpassed + 1;
        place =
            update w.place i (cond b (Due (Free w.drawn)) (Ticket w.drawn));
      } in
      StandsSo v (cond b (With i) right) (cond b owner (update owner w.drawn i)) → Sound k o (record s { world = v }) in
      elim (eqb_tells w.unpassed 0) as (λ _. After (w.unpassed == 0)) [
        | inl e ↦ subst After (sym e.0) (λ st. record {
          right = With i;
          owner = owner;
          is_sound =
              word_step (w.drawn + 1) (w.unpassed + 1) w.ticket_place w.seat_place w.count (Due (Free w.drawn))
              (With i) owner st
              (enters.arrives_free s.floor.seats w right owner r (enters_of s.floor.history) h.entered i e.1)
              (λ a. omega arith) (λ a. absurd (omega arith)) (λ a b. absurd (omega arith)) enough
              (λ j _ _ a. omega arith);
        })
        | inr e ↦ let some = e.1 in subst After (sym e.0) (λ st. record {
          right = right;
          owner = update owner w.drawn i;
          is_sound =
              word_step (w.drawn + 1) (w.unpassed + 1) w.ticket_place w.seat_place w.count (Ticket w.drawn)
              right (update owner w.drawn i) st
              (enters.arrives_behind s.floor.seats w right owner r (enters_of s.floor.history) h.entered i idle)
              (λ a. omega arith) (λ a. omega arith) (λ a. absurd (omega arith)) enough (λ j _ _ a. omega arith);
        })
      ] stands

  pub sound_ticket_look : (t : ℕ) (found : Bool) → s.world.place i ≡ Ticket t
      → (s.world.ticket_place (t % s.floor.seats) == t + 1) ≡ found
      → Sound k o (record s { world = after_ticket_look s.world i t found })
  sound_ticket_look t true at test =
      let w = s.world in
      let r = h.stands.keeps in
      let one : stage (w.place i) ≡ ticketed_stage = ap stage at in
      let same : ticket (w.place i) ≡ t = ap ticket at in
      let some : 0 < s.floor.seats = omega arith in
      let late = h.late i one in
      let enough = subst (λ (p : Place). left_at p ≤ left_of s.floor.budget s.floor.history i) at (h.left i) in
      let here = subst (λ (m : ℕ). w.ticket_place (m % s.floor.seats) ≡ m + 1) (sym same) (eqb-true _ _ test) in
      let there = grant_is_there s.floor.seats w right owner r i one here some in
      record {
        right = With i;
        owner = owner;
        is_sound =
            word_step w.drawn w.unpassed w.ticket_place w.seat_place w.count (Due (Granted t)) (With i) owner
            (ticket_look_keeps_the_right s.floor.seats w right owner (turn_number (turn s.floor.history))
            (is_standing k o s.floor) (is_quiet k o s.floor) i h.stands t true some at test)
            (enters.takes_grant s.floor.seats w right owner r (enters_of s.floor.history) h.entered i t
            (there.1 ∙ ap AtTicket same))
            (λ a. omega arith) (λ a. absurd (omega arith)) (λ a b. omega arith) enough (λ j _ _ a. a);
      }
  sound_ticket_look t false at test =
      subst (λ (place : ℕ → Place). Sound k o (record s { world = record s.world { place = place } }))
      (sym (update_same s.world.place i (Ticket t) at))
      (record { right = right; owner = owner; is_sound = h })

  pub sound_seat_look : (found : Bool) → s.world.place i ≡ Inner → (s.world.seat_place i == s.world.count i + 1) ≡ found
      → Sound k o (record s { world = after_seat_look s.world i found })
  sound_seat_look true at test =
      let w = s.world in
      let r = h.stands.keeps in
      let count = update w.count i (w.count i + 1) in
      let enough = subst (λ (p : Place). left_at p ≤ left_of s.floor.budget s.floor.history i) at (h.left i) in
      let is = call_is_there s.floor.seats w right owner r i (eqb-true _ _ test) in
      record {
        right = With i;
        owner = owner;
        is_sound =
            word_step w.drawn w.unpassed w.ticket_place w.seat_place count (Due Called) (With i) owner
            (seat_look_keeps_the_right s.floor.seats w right owner (turn_number (turn s.floor.history))
            (is_standing k o s.floor) (is_quiet k o s.floor) i h.stands true at test)
            (enters.takes_call s.floor.seats w right owner r (enters_of s.floor.history) h.entered i count is)
            (λ a. omega arith) (λ a. absurd (omega arith)) (λ a b. absurd (omega arith)) enough (λ j _ _ a. a);
      }
  sound_seat_look false at test =
      subst (λ (place : ℕ → Place). Sound k o
      (record s { world = record s.world { place = place; count = update s.world.count i (s.world.count i) } }))
      (sym (update_same s.world.place i Inner at))
      (subst (λ (count : ℕ → ℕ). Sound k o (record s { world = record s.world { count = count } }))
      (sym (update_same s.world.count i (s.world.count i) refl))
      (record { right = right; owner = owner; is_sound = h }))

  -- if seat i has the right, no other is active
  alone : due_stage ≤ stage (s.world.place i) → stage (s.world.place i) ≤ passing_stage → (n : ℕ) (j : ℕ) → j ≢ i
      → stage (s.world.place j) ≡ active_stage → 2 ≤ s.world.unpassed → 2 ≤ n
  alone low high n j ne a b = grind (arith, nat_tests)

  pub sound_drop : (home : Home) → s.world.place i ≡ Back Entry home
      → Sound k o (record s { world = after_drop s.world i home })
  sound_drop home back =
      let w = s.world in
      let r = h.stands.keeps in
      let four : stage (w.place i) ≡ back_stage = ap stage back in
      let next : ℕ = w.drawn - w.unpassed + 1 in
      let enough = subst (λ (p : Place). left_at p ≤ left_of s.floor.budget s.floor.history i) back (h.left i) in
      let stands = drop_keeps_the_right s.floor.seats w right owner (turn_number (turn s.floor.history))
      (is_standing k o s.floor) (is_quiet k o s.floor) i h.stands home back in
      let After : Bool → Type 0 = λ b.
      let v : World =
      record w {
        unpassed = w.unpassed - 1;
        place = update w.place i (cond b (place_of home) (Passing next home));
      } in
      StandsSo v (cond b Nowhere (With i)) owner → Sound k o (record s { world = v }) in
      elim (eqb_tells w.unpassed 1) as (λ _. After (w.unpassed == 1)) [
        | inl e ↦ subst After (sym e.0) (λ st. record {
          right = Nowhere;
          owner = owner;
          is_sound =
              word_step w.drawn (w.unpassed - 1) w.ticket_place w.seat_place w.count (place_of home) Nowhere owner st
              (enters.drops_last s.floor.seats w right owner r (enters_of s.floor.history) h.entered i home back)
              (at_home home 3 (omega arith) (omega arith)) (λ a. absurd (at_home home 1 (omega arith) (omega arith) a))
              (λ a b. absurd (at_home home 2 (omega arith) (omega arith) a))
              (rw (home_left home) enough) (alone (omega arith) (omega arith) (w.unpassed - 1));
        })
        | inr e ↦ subst After (sym e.0) (λ st. record {
          right = With i;
          owner = owner;
          is_sound =
              word_step w.drawn (w.unpassed - 1) w.ticket_place w.seat_place w.count (Passing next home)
              (With i) owner st
              (enters.drops_more s.floor.seats w right owner r (enters_of s.floor.history) h.entered i next home back)
              (λ a. omega arith) (λ a. absurd (omega arith)) (λ a b. absurd (omega arith)) enough
              (alone (omega arith) (omega arith) (w.unpassed - 1));
        })
      ] stands

  pub sound_ticket_grant : (t : ℕ) (home : Home) → s.world.place i ≡ Passing t home
      → Sound k o (record s { world = after_ticket_grant s.floor.seats s.world i t home })
  sound_ticket_grant t home at =
      let w = s.world in
      let five : stage (w.place i) ≡ passing_stage = ap stage at in
      let enough = subst (λ (p : Place). left_at p ≤ left_of s.floor.budget s.floor.history i) at (h.left i) in
      record {
        right = AtTicket t;
        owner = owner;
        is_sound =
            word_step w.drawn w.unpassed (update w.ticket_place (t % s.floor.seats) (t + 1)) w.seat_place w.count
            (place_of home) (AtTicket t) owner
            (ticket_grant_keeps_the_right s.floor.seats w right owner (turn_number (turn s.floor.history))
            (is_standing k o s.floor) (is_quiet k o s.floor) i h.stands t home (omega arith) at)
            (enters.grants_ticket s.floor.seats w right owner h.stands.keeps
            (enters_of s.floor.history) h.entered i t home at)
            (at_home home 3 (omega arith) (omega arith)) (λ a. absurd (at_home home 1 (omega arith) (omega arith) a))
            (λ a b. absurd (at_home home 2 (omega arith) (omega arith) a))
            (rw (home_left home) enough) (alone (omega arith) (omega arith) w.unpassed);
      }

  pub sound_seat_grant : (next : Next) (m : ℕ) (home : Home) → s.world.place i ≡ Back next home
      → turn_of_next next ≡ due_to m → Sound k o (record s { world = after_seat_grant s.world i m home })
  sound_seat_grant next m home at is =
      let w = s.world in
      let four : stage (w.place i) ≡ back_stage = ap stage at in
      let enough = subst (λ (p : Place). left_at p ≤ left_of s.floor.budget s.floor.history i) at (h.left i) in
      record {
        right = AtSeat m;
        owner = owner;
        is_sound =
            word_step w.drawn w.unpassed w.ticket_place (update w.seat_place m (w.seat_place m + 1)) w.count
            (place_of home) (AtSeat m) owner
            (seat_grant_keeps_the_right s.floor.seats w right owner (turn_number (turn s.floor.history))
            (is_standing k o s.floor) (is_quiet k o s.floor) i h.stands next m home at is)
            (enters.calls_seat s.floor.seats w right owner h.stands.keeps
            (enters_of s.floor.history) h.entered i next m home at)
            (at_home home 3 (omega arith) (omega arith)) (λ a. absurd (at_home home 1 (omega arith) (omega arith) a))
            (λ a b. absurd (at_home home 2 (omega arith) (omega arith) a))
            (rw (home_left home) enough) (alone (omega arith) (omega arith) w.unpassed);
      }
