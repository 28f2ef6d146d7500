-- A seat that draws a ticket has the right if the monitor was free, and otherwise waits
use Rattle.std.proofs.Common.{◌≡◌, ◌≢◌, ℕ, ◌+◌, ◌≤◌, ◌↔◌, ap, ◌∙◌, arith}
use Rattle.std.proofs.lemmas.Bool.Decides.{nat_tests}
use Rattle.monk_world.proofs.Holders.{held, holds, alone_with, waiter_stays, other_stage}
use Rattle.monk_world.proofs.UpdateLaws.{at_update, update_here, update_else, all_back}
use Rattle.monk_world.specs.{Update.update, World.World, Places.HoldsRight, Places.stage, Places.ticket}
use Rattle.monk_world.specs.{Places.outside_stage, Places.ticketed_stage, Places.due_stage, Places.passing_stage}
use Rattle.monk_world.specs.{Places.inside_stage, declared.place.Place.Place, declared.place.Place.TheVariants.Ticket}
use Rattle.monk_world.specs.{declared.place.Place.TheVariants.Due, declared.source.Source.TheVariants.Free}
use Rattle.monk_world.specs.Right.{Whereabouts, With, KeepsRight, UsesTicket, ChoseInner, Waits, PassesNext, OwnsTicket}
use Rattle.monk_world.specs.Right.{WasGranted, LeavesLow}

module _ (seats : ℕ) (s : World) (right : Whereabouts) (owner : ℕ → ℕ) (r : KeepsRight seats s right owner)
    (i : ℕ) where
  pub draws_free : stage (s.place i) ≡ outside_stage → s.unpassed ≡ 0
      → KeepsRight seats (record s {
        drawn = s.drawn + 1;
        unpassed = s.unpassed + 1;
        place =
            update s.place i (Due (Free s.drawn));
      }) (With i) owner
  draws_free idle none =
      let to : Place = Due (Free s.drawn) in
      let free = r.holder.free.0 none in
      let nobody : (j : ℕ) → due_stage ≤ stage (s.place j) → stage (s.place j) ≤ passing_stage
      → ⊥ = λ j a b. let h = held r j a b in cc in
      let alone : (j : ℕ) → stage (s.place j) ≡ ticketed_stage → ⊥ = grind (arith, nat_tests) in
      record {
        holder = record {
          free = ((λ e. absurd (omega arith)), (λ e. absurd cc));
          with_seat = alone_with s.place i to (λ j _. nobody j) tt;
        };
        tickets = record {
          behind = let a = r.tickets.behind in omega arith;
          in_use = at_update s.place i to (λ _. UsesTicket (s.drawn + 1) (s.unpassed + 1)) (λ _ _. omega arith)
              (λ j _ a. absurd (nobody j (omega arith) (omega arith)));
          waits = at_update s.place i to (OwnsTicket (s.drawn + 1) (s.unpassed + 1) owner) (λ a. absurd (omega arith))
              (λ j _ a. absurd (alone j a));
          owned = λ k a b. absurd (omega arith);
          passing = at_update s.place i to (λ _. PassesNext (s.drawn + 1) (s.unpassed + 1) (update s.place i to) owner)
              (λ a. absurd (omega arith)) (λ j _ a. absurd (nobody j (omega arith) (omega arith)));
          granted =
              at_update s.place i to (λ _. WasGranted (s.drawn + 1) (s.unpassed + 1) (With i) (update s.place i to))
              (λ a. absurd (omega arith)) (λ j _ a. absurd (alone j a));
          grant = λ t e. absurd cc;
        };
        places = record {
          granted = λ t e. absurd cc;
          low = λ p h. let a = r.places.low_free none p h in omega arith;
          low_passing = grind (arith, nat_tests, at_update);
          low_free = λ e. absurd (omega arith);
        };
        calls = record {
          called = λ j e. absurd cc;
          not_called = λ j _. r.calls.not_called j (λ e. absurd cc);
          chose = at_update s.place i to (λ _. ChoseInner (update s.place i to)) (λ a. absurd (omega arith))
              (λ j _ a. absurd (nobody j (omega arith) (omega arith)));
        };
      }

  pub draws_wait : stage (s.place i) ≡ outside_stage → s.unpassed ≢ 0
      → KeepsRight seats (record s {
        drawn = s.drawn + 1;
        unpassed = s.unpassed + 1;
        place =
            update s.place i (Ticket s.drawn);
      }) right (update owner s.drawn i)
  draws_wait idle some =
      let to : Place = Ticket s.drawn in
      let owners = update owner s.drawn i in
      let keeps : (k : ℕ) → Waits s.place owner k → Waits (update s.place i to) owner k =
      λ k h. waiter_stays seats s right owner r i to k (λ e. omega arith) h in
      let moves : (k : ℕ) → k ≢ s.drawn → Waits s.place owner k → Waits (update s.place i to) owners k =
      grind (arith, nat_tests, update_else) in
      let stays : (j : ℕ) → stage (s.place j) ≡ inside_stage → stage (update s.place i to j) ≡ inside_stage =
      λ j six. ap stage (update_else s.place i to j (other_stage s.place i j (λ e. omega arith))) ∙ six in
      record {
        holder = record {
          free = ((λ e. absurd (omega arith)), (λ e. absurd (some (r.holder.free.1 e))));
          with_seat = at_update s.place i to (λ j p. HoldsRight p ↔ (right ≡ With j))
              ((λ a. absurd a), (λ e. let a = holds r i e in let b = a.0 in absurd (omega arith)))
              (λ j _. r.holder.with_seat j);
        };
        tickets = record {
          behind = let a = r.tickets.behind in omega arith;
          in_use = at_update s.place i to (λ _. UsesTicket (s.drawn + 1) (s.unpassed + 1)) (λ a. absurd (omega arith))
              (λ j _ a b. let d = r.tickets.in_use j a b in omega arith);
          waits = grind (arith, nat_tests, at_update, update_here, update_else);
          owned = grind (arith, nat_tests, at_update, update_here);
          passing = at_update s.place i to (λ _. PassesNext (s.drawn + 1) (s.unpassed + 1) (update s.place i to) owners)
              (λ a. absurd (omega arith))
              (λ j _ a. let p = r.tickets.passing j a in let sum = p.0 in
              (omega arith, moves (ticket (s.place j)) (λ z. some (omega arith)) p.1));
          granted = at_update s.place i to (λ _. WasGranted (s.drawn + 1) (s.unpassed + 1) right (update s.place i to))
              (λ _ e. absurd (some (omega arith)))
              (λ j _ a e none. r.tickets.granted j a (omega arith)
              (all_back s.place i to (λ k y. stage y ≢ passing_stage) none (λ z. omega arith)));
          grant = λ t e. let old = r.tickets.grant t e in let sum = old.0 in
              (omega arith, moves t (λ z. some (omega arith)) old.1);
        };
        places = record {
          granted = r.places.granted;
          low = λ p h. let a = r.places.low p h in omega arith;
          low_passing = at_update s.place i to (λ _. LeavesLow seats (s.drawn + 1) (s.unpassed + 1) s.ticket_place)
              (λ a. absurd (omega arith)) (λ j _ a p near. let b = r.places.low_passing j a p near in omega arith);
          low_free = λ e. absurd (omega arith);
        };
        calls = record {
          called = λ j e. let c = r.calls.called j e in (stays j c.0, c.1);
          not_called = r.calls.not_called;
          chose = at_update s.place i to (λ _. ChoseInner (update s.place i to)) (λ a. absurd (omega arith))
              (λ j _ a k e. stays k (r.calls.chose j a k e));
        };
      }
