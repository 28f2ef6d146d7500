-- A seat that looks finds the right only where it is, and takes it
use Rattle.std.proofs.Common.{◌≡◌, ◌≢◌, ℕ, true, ◌+◌, ◌%◌, ◌<◌, ◌≤◌, sym, ap, ◌∙◌, arith}
use Rattle.monk_world.proofs.Holders.{held, alone_with, waiter_stays}
use Rattle.monk_world.proofs.UpdateLaws.{at_update, update_else, all_back}
use Rattle.monk_world.specs.{Update.update, Steps.after_ticket_look, Steps.after_seat_look, World.World}
use Rattle.monk_world.specs.Places.{stage, ticket, ticketed_stage, due_stage, passing_stage, inside_stage}
use Rattle.monk_world.specs.Right.{Whereabouts, AtTicket, With, AtSeat, KeepsRight, IsNext, UsesTicket, ChoseInner}
use Rattle.monk_world.specs.Right.{PassesNext, OwnsTicket, WasGranted, LeavesLow}
use Rattle.monk_world.specs.declared.place.Place.{Place, TheVariants.Due}
use Rattle.monk_world.specs.declared.source.Source.TheVariants.{Granted, Called}
use Rattle.std.proofs.lemmas.Bool.Decides.{nat_tests}

module _ (seats : ℕ) (s : World) (right : Whereabouts) (owner : ℕ → ℕ) (r : KeepsRight seats s right owner)
    (i : ℕ) where
  -- if the place of its ticket has it, the ticket is next and the right is there
  pub grant_is_there : stage (s.place i) ≡ ticketed_stage
      → s.ticket_place (ticket (s.place i) % seats) ≡ ticket (s.place i) + 1 → 0 < seats
      → IsNext s.drawn s.unpassed (ticket (s.place i)) × (right ≡ AtTicket (ticket (s.place i)))
  grant_is_there waits found some = grind (arith, nat_tests)

  -- it finds its ticket granted
  pub finds_grant : stage (s.place i) ≡ ticketed_stage
      → s.ticket_place (ticket (s.place i) % seats) ≡ ticket (s.place i) + 1 → 0 < seats
      → KeepsRight seats (after_ticket_look s i (ticket (s.place i)) true) (With i) owner
  finds_grant waits found some =
      let T : ℕ = ticket (s.place i) in
      let to : Place = Due (Granted T) in
      let mine = r.tickets.waits i waits in
      let there = grant_is_there waits found some in
      let sum = there.0 in
      let is = there.1 in
      let nobody : (j : ℕ) → due_stage ≤ stage (s.place j) → stage (s.place j) ≤ passing_stage
      → ⊥ = λ j a b. let h = held r j a b in cc in
      let other : (j : ℕ) → j ≢ i → stage (s.place j) ≡ ticketed_stage → ticket (s.place j) ≢ T =
      λ j ne h e. ne (sym (r.tickets.waits j h).2 ∙ ap owner e ∙ mine.2) in
      record {
        holder = record {
          free = ((λ e. absurd (let a = r.holder.free.0 e in cc)), (λ e. absurd cc));
          with_seat = alone_with s.place i to (λ j _. nobody j) tt;
        };
        tickets = record {
          behind = r.tickets.behind;
          in_use = at_update s.place i to (λ _. UsesTicket s.drawn s.unpassed) (λ _ _. sum)
              (λ j _ a. absurd (nobody j (omega arith) (omega arith)));
          waits = at_update s.place i to (OwnsTicket s.drawn s.unpassed owner) (λ a. absurd (omega arith))
              (λ j _. r.tickets.waits j);
          owned = grind (arith, nat_tests, update_else);
          passing = at_update s.place i to (λ _. PassesNext s.drawn s.unpassed (update s.place i to) owner)
              (λ a. absurd (omega arith)) (λ j _ a. absurd (nobody j (omega arith) (omega arith)));
          granted =
              at_update s.place i to (λ _. WasGranted s.drawn s.unpassed (With i) (update s.place i to))
              (λ a. absurd (omega arith))
              (λ j ne h e. absurd (other j ne h (omega arith)));
          grant = λ t e. absurd cc;
        };
        places = record {
          granted = λ t e. absurd cc;
          low = r.places.low;
          low_passing = at_update s.place i to (λ _. LeavesLow seats s.drawn s.unpassed s.ticket_place)
              (λ a. absurd (omega arith)) (λ j _. r.places.low_passing j);
          low_free = r.places.low_free;
        };
        calls = record {
          called = λ j e. absurd cc;
          not_called = λ j _. r.calls.not_called j (λ e. absurd cc);
          chose = at_update s.place i to (λ _. ChoseInner (update s.place i to)) (λ a. absurd (omega arith))
              (λ j _ a. absurd (nobody j (omega arith) (omega arith)));
        };
      }

  -- if its place has one call more than it has counted, the right is there
  pub call_is_there : s.seat_place i ≡ s.count i + 1 → right ≡ AtSeat i
  call_is_there found = grind (arith, nat_tests)

  -- it finds that it was called
  pub finds_call : stage (s.place i) ≡ inside_stage → s.seat_place i ≡ s.count i + 1
      → KeepsRight seats (after_seat_look s i true) (With i) owner
  finds_call six found =
      let to : Place = Due Called in
      let is : right ≡ AtSeat i = call_is_there found in
      let nobody : (j : ℕ) → due_stage ≤ stage (s.place j) → stage (s.place j) ≤ passing_stage
      → ⊥ = λ j a b. let h = held r j a b in cc in
      record {
        holder = record {
          free = ((λ e. absurd (let a = r.holder.free.0 e in cc)), (λ e. absurd cc));
          with_seat = alone_with s.place i to (λ j _. nobody j) tt;
        };
        tickets = record {
          behind = r.tickets.behind;
          in_use = at_update s.place i to (λ _. UsesTicket s.drawn s.unpassed) (λ _ b. absurd (omega arith))
              (λ j _ a. absurd (nobody j (omega arith) (omega arith)));
          waits = at_update s.place i to (OwnsTicket s.drawn s.unpassed owner) (λ a. absurd (omega arith))
              (λ j _. r.tickets.waits j);
          owned = λ k a b. waiter_stays seats s right owner r i to k (λ e. omega arith) (r.tickets.owned k a b);
          passing = at_update s.place i to (λ _. PassesNext s.drawn s.unpassed (update s.place i to) owner)
              (λ a. absurd (omega arith)) (λ j _ a. absurd (nobody j (omega arith) (omega arith)));
          granted =
              at_update s.place i to (λ _. WasGranted s.drawn s.unpassed (With i) (update s.place i to))
              (λ a. absurd (omega arith))
              (λ j _ a e none. absurd
              (let g = r.tickets.granted j a e
              (all_back s.place i to (λ k y. stage y ≢ passing_stage) none (λ z. omega arith)) in cc));
          grant = λ t e. absurd cc;
        };
        places = record {
          granted = λ t e. absurd cc;
          low = r.places.low;
          low_passing = at_update s.place i to (λ _. LeavesLow seats s.drawn s.unpassed s.ticket_place)
              (λ a. absurd (omega arith)) (λ j _. r.places.low_passing j);
          low_free = r.places.low_free;
        };
        calls = record {
          called = λ j e. absurd cc;
          not_called = at_update s.count i (s.count i + 1) (λ j c. With i ≢ AtSeat j → s.seat_place j ≡ c) (λ _. found)
              (λ j ne _. r.calls.not_called j (λ e. ne cc));
          chose = at_update s.place i to (λ _. ChoseInner (update s.place i to)) (λ a. absurd (omega arith))
              (λ j _ a. absurd (nobody j (omega arith) (omega arith)));
        };
      }
