-- The floor comes out to the seat that is due, and goes home from the seat that is active
use Rattle.std.proofs.Common.{◌≡◌, ◌≢◌, ℕ, ◌≤◌, ◌↔◌, ap, ◌∙◌, arith}
use Rattle.monk_history.specs.declared.event.Next.{Next}
use Rattle.monk_world.proofs.Holders.{held, holds_right, waiter_stays, others, other_stage}
use Rattle.monk_world.proofs.UpdateLaws.{at_update, update_else, all_back}
use Rattle.monk_world.specs.{Update.update, Steps.after_floor_out, Steps.after_floor_in, World.World}
use Rattle.monk_world.specs.Places.{HoldsRight, stage, due_to, turn_of_next, due_stage, active_stage, back_stage}
use Rattle.monk_world.specs.Places.{passing_stage, inside_stage}
use Rattle.monk_world.specs.declared.{home.Home.Home, source.Source.Source}
use Rattle.monk_world.specs.declared.place.Place.{Place, TheVariants.Active, TheVariants.Back}
use Rattle.monk_world.specs.Right.{Whereabouts, With, KeepsRight, UsesTicket, ChoseInner, PassesNext, OwnsTicket}
use Rattle.monk_world.specs.Right.{WasGranted, LeavesLow}

module _ (seats : ℕ) (s : World) (right : Whereabouts) (owner : ℕ → ℕ) (r : KeepsRight seats s right owner)
    (i : ℕ) where
  -- the seat that has the right becomes active or goes on from there. The words stay, and so does the right
  keeps_it : (to : Place) → due_stage ≤ stage (s.place i) → stage (s.place i) ≤ active_stage → active_stage ≤ stage to
      → stage to ≤ back_stage → ChoseInner (update s.place i to) to
      → KeepsRight seats (record s { place = update s.place i to }) right owner
  keeps_it to from_due to_active active back chose =
      let mine = held r i (omega arith) (omega arith) in
      let none : (j : ℕ) → j ≢ i → due_stage ≤ stage (s.place j) → stage (s.place j) ≤ passing_stage → ⊥ =
      others seats s right owner r i (omega arith) (omega arith) in
      record {
        holder = record {
          free = r.holder.free;
          with_seat = at_update s.place i to (λ j p. HoldsRight p ↔ (right ≡ With j))
              ((λ _. mine), (λ _. holds_right to (omega arith) (omega arith))) (λ j _. r.holder.with_seat j);
        };
        tickets = record {
          behind = r.tickets.behind;
          in_use = at_update s.place i to (λ _. UsesTicket s.drawn s.unpassed) (λ a. absurd (omega arith))
              (λ j ne a. absurd (none j ne (omega arith) (omega arith)));
          waits = at_update s.place i to (OwnsTicket s.drawn s.unpassed owner) (λ a. absurd (omega arith))
              (λ j _. r.tickets.waits j);
          owned = λ k a b. waiter_stays seats s right owner r i to k (λ e. omega arith) (r.tickets.owned k a b);
          passing = at_update s.place i to (λ _. PassesNext s.drawn s.unpassed (update s.place i to) owner)
              (λ a. absurd (omega arith)) (λ j ne a. absurd (none j ne (omega arith) (omega arith)));
          granted =
              at_update s.place i to (λ _. WasGranted s.drawn s.unpassed right (update s.place i to))
              (λ a. absurd (omega arith))
              (λ j _ a e no. r.tickets.granted j a e
              (all_back s.place i to (λ k y. stage y ≢ passing_stage) no (λ z. omega arith)));
          grant = λ t e. absurd cc;
        };
        places = record {
          granted = λ t e. absurd cc;
          low = r.places.low;
          low_passing = at_update s.place i to (λ _. LeavesLow seats s.drawn s.unpassed s.ticket_place)
              (λ a. absurd (omega arith)) (λ j _. r.places.low_passing j);
          low_free = r.places.low_free;
        };
        calls = record {
          called = λ j e. absurd cc;
          not_called = r.calls.not_called;
          chose = at_update s.place i to (λ _. ChoseInner (update s.place i to)) chose
              (λ j ne a. absurd (none j ne (omega arith) (omega arith)));
        };
      }

  pub comes_out : (q : Source) → stage (s.place i) ≡ due_stage → KeepsRight seats (after_floor_out s i q) right owner
  comes_out q two =
      keeps_it (Active q) (omega arith) (omega arith) (omega arith) (omega arith) (λ a. absurd (omega arith))

  -- the seat that it has chosen is another, and parked inside
  pub goes_home : (next : Next) (home : Home) → stage (s.place i) ≡ active_stage
      → ((k : ℕ) → turn_of_next next ≡ due_to k → stage (s.place k) ≡ inside_stage)
      → KeepsRight seats (after_floor_in s i next home) right owner
  goes_home next home active inner =
      keeps_it (Back next home) (omega arith) (omega arith) (omega arith) (omega arith)
      (λ _ k e. let six = inner k e in
      ap stage (update_else s.place i (Back next home) k (other_stage s.place i k (λ z. omega arith))) ∙ six)
