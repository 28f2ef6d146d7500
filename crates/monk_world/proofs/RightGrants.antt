-- A seat hands the right on: it grants the next ticket, or calls the seat that it chose
use Rattle.std.proofs.Common.{◌≡◌, ◌≢◌, ℕ, ◌+◌, ◌%◌, ◌<◌, ◌≤◌, refl, ap, subst, arith}
use Rattle.monk_world.proofs.Holders.{held, with_none, home_has_none, at_home, waiter_stays, others, other_stage}
use Rattle.monk_world.proofs.UpdateLaws.{at_update, update_here, update_else, all_back}
use Rattle.monk_world.specs.{Update.update, World.World, declared.home.Home.Home, declared.place.Place.Place}
use Rattle.monk_world.specs.Places.{stage, ticket, back_turn, due_to, place_of, due_stage, back_stage, passing_stage}
use Rattle.monk_world.specs.Places.{inside_stage, ticketed_stage}
use Rattle.monk_world.specs.Steps.{after_ticket_grant, after_seat_grant}
use Rattle.monk_world.specs.Right.{Whereabouts, AtTicket, AtSeat, KeepsRight, IsNext, UsesTicket, ChoseInner, Waits}
use Rattle.monk_world.specs.Right.{PassesNext, OwnsTicket, WasGranted, LeavesLow}
use Rattle.std.proofs.lemmas.Bool.Decides.{nat_tests}

module _ (seats : ℕ) (s : World) (right : Whereabouts) (owner : ℕ → ℕ) (r : KeepsRight seats s right owner)
    (i : ℕ) where
  pub grants_ticket : (home : Home) → stage (s.place i) ≡ passing_stage → 0 < seats
      → KeepsRight seats (after_ticket_grant seats s i (ticket (s.place i)) home) (AtTicket (ticket (s.place i))) owner
  grants_ticket home five some =
      let T : ℕ = ticket (s.place i) in
      let p : ℕ = T % seats in
      let ps = update s.ticket_place p (T + 1) in
      let to : Place = place_of home in
      let mine = held r i (omega arith) (omega arith) in
      let next = r.tickets.passing i five in
      let sum = next.0 in
      let none : (j : ℕ) → j ≢ i → due_stage ≤ stage (s.place j) → stage (s.place j) ≤ passing_stage → ⊥ =
      others seats s right owner r i (omega arith) (omega arith) in
      let pos : s.unpassed ≢ 0 = λ e. let a = r.holder.free.0 e in cc in
      record {
        holder = record {
          free = ((λ e. absurd (pos e)), (λ e. absurd cc));
          with_seat = with_none s.place i to none (AtTicket T) (home_has_none home) (λ j e. cc);
        };
        tickets = record {
          behind = r.tickets.behind;
          in_use = at_update s.place i to (λ _. UsesTicket s.drawn s.unpassed)
              (λ a. absurd (at_home home due_stage (omega arith) (omega arith) a))
              (λ j ne a. absurd (none j ne (omega arith) (omega arith)));
          waits = at_update s.place i to (OwnsTicket s.drawn s.unpassed owner)
              (λ a. absurd (at_home home ticketed_stage (omega arith) (omega arith) a)) (λ j _. r.tickets.waits j);
          owned = λ k a b. waiter_stays seats s right owner r i to k (λ e. omega arith) (r.tickets.owned k a b);
          passing = at_update s.place i to (λ _. PassesNext s.drawn s.unpassed (update s.place i to) owner)
              (λ a. absurd (at_home home passing_stage (omega arith) (omega arith) a))
              (λ j ne a. absurd (none j ne (omega arith) (omega arith)));
          granted = λ j h e no. let same : T ≡ ticket (update s.place i to j) = omega arith in ap AtTicket same;
          grant = λ t e. let is : T ≡ t = cc in
              subst (λ (z : ℕ). IsNext s.drawn s.unpassed z × Waits (update s.place i to) owner z) is
              (sum, waiter_stays seats s right owner r i to T (λ z. omega arith) next.1);
        };
        places = record {
          granted = grind (arith, nat_tests, update_here);
          low = at_update s.ticket_place p (T + 1) (λ q x. q < seats → x + s.unpassed ≤ s.drawn + 1) (λ _. omega arith)
              (λ q _. r.places.low q);
          low_passing = at_update s.place i to (λ _. LeavesLow seats s.drawn s.unpassed ps)
              (λ a. absurd (at_home home passing_stage (omega arith) (omega arith) a))
              (λ j ne a. absurd (none j ne (omega arith) (omega arith)));
          low_free = λ e. absurd (pos e);
        };
        calls = record {
          called = λ j e. absurd cc;
          not_called = λ j _. r.calls.not_called j (λ e. cc);
          chose = at_update s.place i to (λ _. ChoseInner (update s.place i to))
              (λ a. absurd (at_home home back_stage (omega arith) (omega arith) a))
              (λ j ne a. absurd (none j ne (omega arith) (omega arith)));
        };
      }

  pub calls_seat : (k : ℕ) (home : Home) → stage (s.place i) ≡ back_stage → back_turn (s.place i) ≡ due_to k
      → KeepsRight seats (after_seat_grant s i k home) (AtSeat k) owner
  calls_seat k home back is =
      let to : Place = place_of home in
      let mine = held r i (omega arith) (omega arith) in
      let six : stage (s.place k) ≡ inside_stage = r.calls.chose i back k is in
      let apart : k ≢ i = other_stage s.place i k (λ e. omega arith) in
      let none : (j : ℕ) → j ≢ i → due_stage ≤ stage (s.place j) → stage (s.place j) ≤ passing_stage → ⊥ =
      others seats s right owner r i (omega arith) (omega arith) in
      let pos : s.unpassed ≢ 0 = λ e. let a = r.holder.free.0 e in cc in
      record {
        holder = record {
          free = ((λ e. absurd (pos e)), (λ e. absurd cc));
          with_seat = with_none s.place i to none (AtSeat k) (home_has_none home) (λ j e. cc);
        };
        tickets = record {
          behind = r.tickets.behind;
          in_use = at_update s.place i to (λ _. UsesTicket s.drawn s.unpassed)
              (λ a. absurd (at_home home due_stage (omega arith) (omega arith) a))
              (λ j ne a. absurd (none j ne (omega arith) (omega arith)));
          waits = at_update s.place i to (OwnsTicket s.drawn s.unpassed owner)
              (λ a. absurd (at_home home ticketed_stage (omega arith) (omega arith) a)) (λ j _. r.tickets.waits j);
          owned = λ m a b. waiter_stays seats s right owner r i to m (λ e. omega arith) (r.tickets.owned m a b);
          passing = at_update s.place i to (λ _. PassesNext s.drawn s.unpassed (update s.place i to) owner)
              (λ a. absurd (at_home home passing_stage (omega arith) (omega arith) a))
              (λ j ne a. absurd (none j ne (omega arith) (omega arith)));
          granted = at_update s.place i to (λ _. WasGranted s.drawn s.unpassed (AtSeat k) (update s.place i to))
              (λ a. absurd (at_home home ticketed_stage (omega arith) (omega arith) a))
              (λ j _ a e no. absurd
              (let g = r.tickets.granted j a e
              (all_back s.place i to (λ m y. stage y ≢ passing_stage) no (λ z. omega arith)) in cc));
          grant = λ t e. absurd cc;
        };
        places = record {
          granted = λ t e. absurd cc;
          low = r.places.low;
          low_passing = at_update s.place i to (λ _. LeavesLow seats s.drawn s.unpassed s.ticket_place)
              (λ a. absurd (at_home home passing_stage (omega arith) (omega arith) a)) (λ j _. r.places.low_passing j);
          low_free = r.places.low_free;
        };
        calls = record {
          called = grind (arith, nat_tests, update_else, update_here);
          not_called = at_update s.seat_place k (s.seat_place k + 1) (λ j x. AtSeat k ≢ AtSeat j → x ≡ s.count j)
              (λ ne. absurd (ne refl)) (λ j ne _. r.calls.not_called j (λ e. cc));
          chose = at_update s.place i to (λ _. ChoseInner (update s.place i to))
              (λ a. absurd (at_home home back_stage (omega arith) (omega arith) a))
              (λ j ne a. absurd (none j ne (omega arith) (omega arith)));
        };
      }
