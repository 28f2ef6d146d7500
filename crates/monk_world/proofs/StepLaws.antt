-- Each kind of step keeps a world in agreement with its history
use Rattle.std.proofs.Common.{◌≡◌, ◌≢◌, ℕ, true, false, ◌+◌, ◌-◌, ◌%◌, ◌==◌, ◌≤◌, inl, inr, sym, refl, ap, ◌∙◌, subst}
use Rattle.std.proofs.{Common.cond, Common.Bool, Common.arith, Common.eqb-true, lemmas.Bool.Decides.eqb_tells}
use Rattle.monk_world.proofs.QueueingLaws as queues
use Rattle.monk_world.proofs.TurnLaws as turns
use Rattle.monk_world.proofs.{Holders.held, OnePlaceLaws.in_one_place, UpdateLaws.update_same, RightDrops.drops_last}
use Rattle.monk_world.proofs.{RightDrops.drops_more, RightFloor.comes_out, RightFloor.goes_home}
use Rattle.monk_world.proofs.RightLooks.{finds_grant, finds_call, grant_is_there, call_is_there}
use Rattle.monk_world.proofs.RightArrives.{draws_free, draws_wait}
use Rattle.monk_world.proofs.RightGrants.{grants_ticket, calls_seat}
use Rattle.monk_world.specs.{Update.update, Stands.Stands, Steps.after_ticket_look, Steps.after_ticket_grant}
use Rattle.monk_world.specs.Places.{stage, ticket, back_turn, due_to, turn_of_next, place_of, is_queued_at}
use Rattle.monk_world.specs.Places.{outside_stage, ticketed_stage, due_stage, active_stage, back_stage, passing_stage}
use Rattle.monk_world.specs.Places.{inside_stage}
use Rattle.monk_world.specs.declared.place.Place.{Place}
use Rattle.monk_world.specs.declared.place.Place.TheVariants.{Ticket, Due, Passing, Inner}
use Rattle.monk_world.specs.declared.source.Source.TheVariants.{Free}
use Rattle.monk_world.specs.Laws.{OpeningStands, ArriveKeeps, TicketLookKeeps, SeatLookKeeps, FloorOutKeeps}
use Rattle.monk_world.specs.Laws.{ActiveKeeps, FloorInKeeps, DropKeeps, TicketGrantKeeps, SeatGrantKeeps}
use Rattle.monk_world.specs.Laws.{StandsInOnePlace}
use Rattle.monk_world.specs.Right.{KeepsRight, Nowhere, AtTicket, With}
use Rattle.std.proofs.lemmas.Bool.Decides.{nat_tests}

pub opening_stands : OpeningStands
opening_stands seats = record {
  keeps = record {
    holder = record {
      free = ((λ _. refl), (λ _. refl));
      with_seat = λ j. ((λ a. absurd a), (λ e. absurd cc));
    };
    tickets = record {
      behind = omega arith;
      in_use = λ j a. absurd (omega arith);
      waits = λ j a. absurd (omega arith);
      owned = λ k a. absurd (omega arith);
      passing = λ j a. absurd (omega arith);
      granted = λ j a. absurd (omega arith);
      grant = λ t e. absurd cc;
    };
    places = record {
      granted = λ t e. absurd cc;
      low = λ i _. omega arith;
      low_passing = λ j a. absurd (omega arith);
      low_free = λ _ i _. omega arith;
    };
    calls = record {
      called = λ j e. absurd cc;
      not_called = λ j _. refl;
      chose = λ j a. absurd (omega arith);
    };
  };
  fits_turn = refl;
  fits_queues = record {
    in_queue = λ j _. refl;
    free = λ _. refl;
    still_free = λ j a. absurd (omega arith);
    back_to_entry = λ j a. absurd (omega arith);
  };
}

pub arrive_keeps_the_right : ArriveKeeps
arrive_keeps_the_right seats w right owner turn queued quiet i h idle =
    let r = h.keeps in
    let zero : stage (w.place i) ≡ outside_stage = ap stage idle in
    let After : Bool → Type 0 =
    λ b. Stands seats (record w {
      drawn = w.drawn + 1;
      unpassed = w.unpassed + 1;
      place =
          update w.place i (cond b (Due (Free w.drawn)) (Ticket w.drawn));
    })
    (cond b (With i) right) (cond b owner (update owner w.drawn i)) turn queued quiet in
    elim (eqb_tells w.unpassed 0) as (λ _. After (w.unpassed == 0)) [
      | inl e ↦ subst After (sym e.0) (record {
        keeps = draws_free seats w right owner r i zero e.1;
        fits_turn = turns.arrives_free seats w right owner r turn h.fits_turn i e.1;
        fits_queues = queues.arrives_free seats w right owner r queued quiet h.fits_queues i idle e.1;
      })
      | inr e ↦ subst After (sym e.0) (record {
        keeps = draws_wait seats w right owner r i zero e.1;
        fits_turn = turns.arrives_behind seats w right owner r turn h.fits_turn i idle;
        fits_queues = queues.arrives_behind seats w right owner r queued quiet h.fits_queues i idle;
      })
    ]

pub ticket_look_keeps_the_right : TicketLookKeeps
ticket_look_keeps_the_right seats w right owner turn queued quiet i h t true some at test =
    let r = h.keeps in
    let one : stage (w.place i) ≡ ticketed_stage = ap stage at in
    let same : ticket (w.place i) ≡ t = ap ticket at in
    let found : w.ticket_place (t % seats) ≡ t + 1 = eqb-true _ _ test in
    let here = subst (λ (k : ℕ). w.ticket_place (k % seats) ≡ k + 1) (sym same) found in
    record {
      keeps = subst (λ (k : ℕ). KeepsRight seats (after_ticket_look w i k true) (With i) owner) same
          (finds_grant seats w right owner r i one here some);
      fits_turn = turns.takes_grant seats w right owner r turn h.fits_turn i t
          ((grant_is_there seats w right owner r i one here some).1 ∙ ap AtTicket same);
      fits_queues = queues.takes_grant seats w right owner r queued quiet h.fits_queues i t at;
    }
ticket_look_keeps_the_right seats w right owner turn queued quiet i h t false some at test =
    subst (λ (place : ℕ → Place). Stands seats (record w { place = place }) right owner turn queued quiet)
    (sym (update_same w.place i (Ticket t) at)) h

pub seat_look_keeps_the_right : SeatLookKeeps
seat_look_keeps_the_right seats w right owner turn queued quiet i h true at test =
    let r = h.keeps in
    let six : stage (w.place i) ≡ inside_stage = ap stage at in
    let found : w.seat_place i ≡ w.count i + 1 = eqb-true _ _ test in
    let count = update w.count i (w.count i + 1) in
    record {
      keeps = finds_call seats w right owner r i six found;
      fits_turn =
          turns.takes_call seats w right owner r turn h.fits_turn i count (call_is_there seats w right owner r i found);
      fits_queues = queues.takes_call seats w right owner r queued quiet h.fits_queues i count at;
    }
seat_look_keeps_the_right seats w right owner turn queued quiet i h false at test =
    subst (λ (place : ℕ → Place). Stands seats (record w { place = place; count = update w.count i (w.count i) }) right
    owner turn queued quiet) (sym (update_same w.place i Inner at))
    (subst (λ (count : ℕ → ℕ). Stands seats (record w { count = count }) right owner turn queued quiet)
    (sym (update_same w.count i (w.count i) refl)) h)

pub floor_out_keeps_the_right : FloorOutKeeps
floor_out_keeps_the_right seats w right owner turn queued quiet i h q turn_new queued_new quiet_new due alike =
    let r = h.keeps in
    record {
      keeps = comes_out seats w right owner r i q (ap stage due);
      fits_turn = turns.comes_out seats w right owner r turn h.fits_turn i q turn_new due;
      fits_queues =
          queues.comes_out seats w right owner r queued quiet h.fits_queues i q queued_new quiet_new due alike;
    }

pub activity_keeps_the_right : ActiveKeeps
activity_keeps_the_right seats w right owner turn queued quiet i h q turn_new queued_new quiet_new active alike =
    let r = h.keeps in
    grind (arith, nat_tests)

-- a seat in a queue that doesn't have the right is parked inside
parked : (p : Place) → is_queued_at p ≡ true → (due_stage ≤ stage p → stage p ≤ passing_stage → ⊥)
    → stage p ≡ inside_stage
parked p e none = grind (arith, nat_tests)

pub floor_in_keeps_the_right : FloorInKeeps
floor_in_keeps_the_right seats w right owner turn queued quiet i h q next home queued_new quiet_new active
    chosen_seat alike own entry =
    let r = h.keeps in
    let three : stage (w.place i) ≡ active_stage = ap stage active in
    let mine = held r i (omega arith) (omega arith) in
    let none : (j : ℕ) → j ≢ i → due_stage ≤ stage (w.place j) → stage (w.place j) ≤ passing_stage → ⊥ =
    λ j ne a b. ne (let e = held r j a b in cc) in
    let inner : (k : ℕ) → turn_of_next next ≡ due_to k → stage (w.place k) ≡ inside_stage =
    grind (arith, nat_tests, parked) in
    record {
      keeps = goes_home seats w right owner r i next home three inner;
      fits_turn = turns.goes_home seats w right owner r turn h.fits_turn i q next home active;
      fits_queues = queues.goes_home seats w right owner r queued quiet h.fits_queues i q next home queued_new quiet_new
          active alike own entry;
    }

pub drop_keeps_the_right : DropKeeps
drop_keeps_the_right seats w right owner turn queued quiet i h home back =
    let r = h.keeps in
    let four : stage (w.place i) ≡ back_stage = ap stage back in
    let next : ℕ = w.drawn - w.unpassed + 1 in
    let After : Bool → Type 0 =
    λ b. Stands seats (record w
    { unpassed = w.unpassed - 1; place = update w.place i (cond b (place_of home) (Passing next home)) })
    (cond b Nowhere (With i)) owner turn queued quiet in
    elim (eqb_tells w.unpassed 1) as (λ _. After (w.unpassed == 1)) [
      | inl e ↦ subst After (sym e.0) (record {
        keeps = drops_last seats w right owner r i home four e.1;
        fits_turn = turns.drops_last seats w right owner r turn h.fits_turn i home back;
        fits_queues = queues.drops_last seats w right owner r queued quiet h.fits_queues i home back e.1;
      })
      | inr e ↦ subst After (sym e.0) (record {
        keeps = drops_more seats w right owner r i home four e.1 r.tickets.behind;
        fits_turn = turns.drops_more seats w right owner r turn h.fits_turn i next home back;
        fits_queues = queues.drops_more seats w right owner r queued quiet h.fits_queues i next home back e.1;
      })
    ]

pub ticket_grant_keeps_the_right : TicketGrantKeeps
ticket_grant_keeps_the_right seats w right owner turn queued quiet i h t home some at =
    let r = h.keeps in
    let same : ticket (w.place i) ≡ t = ap ticket at in
    record {
      keeps = subst (λ (k : ℕ). KeepsRight seats (after_ticket_grant seats w i k home) (AtTicket k) owner) same
          (grants_ticket seats w right owner r i home (ap stage at) some);
      fits_turn = turns.grants_ticket seats w right owner r turn h.fits_turn i t home at;
      fits_queues = queues.grants_ticket seats w right owner r queued quiet h.fits_queues i t home at;
    }

pub seat_grant_keeps_the_right : SeatGrantKeeps
seat_grant_keeps_the_right seats w right owner turn queued quiet i h next k home at is =
    let r = h.keeps in
    record {
      keeps = calls_seat seats w right owner r i k home (ap stage at) (ap back_turn at ∙ is);
      fits_turn = turns.calls_seat seats w right owner r turn h.fits_turn i next k home at is;
      fits_queues = queues.calls_seat seats w right owner r queued quiet h.fits_queues i next k home at;
    }

pub right_is_in_one_place : StandsInOnePlace
right_is_in_one_place seats w right owner turn queued quiet some h = in_one_place seats w right owner h.keeps some
