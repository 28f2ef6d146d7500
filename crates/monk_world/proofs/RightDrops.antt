-- A seat that chose entry takes itself off the ticket word: the monitor is free, or the next ticket must be granted
use Rattle.std.proofs.Common.{◌≡◌, ◌≢◌, ℕ, ◌+◌, ◌-◌, ◌<◌, ◌≤◌, refl, ap, arith}
use Rattle.std.proofs.lemmas.Bool.Decides.{nat_tests}
use Rattle.monk_world.proofs.Holders.{held, alone_with, with_none, home_has_none, at_home, waiter_stays, others}
use Rattle.monk_world.proofs.UpdateLaws.{at_update, update_here}
use Rattle.monk_world.specs.{Update.update, World.World, Right.Whereabouts, Right.Nowhere, Right.With, Right.KeepsRight}
use Rattle.monk_world.specs.{Right.UsesTicket, Right.ChoseInner, Right.PassesNext, Right.OwnsTicket, Right.WasGranted}
use Rattle.monk_world.specs.declared.{home.Home.Home, place.Place.Place, place.Place.TheVariants.Passing}
use Rattle.monk_world.specs.Places.{stage, ticket, place_of, ticketed_stage, due_stage, back_stage, passing_stage}

module _ (seats : ℕ) (s : World) (right : Whereabouts) (owner : ℕ → ℕ) (r : KeepsRight seats s right owner)
    (i : ℕ) where
  nobody_passes : stage (s.place i) ≡ back_stage → (k : ℕ) → stage (s.place k) ≢ passing_stage
  nobody_passes h k = grind (arith, nat_tests)

  pub drops_last : (home : Home) → stage (s.place i) ≡ back_stage → s.unpassed ≡ 1
      → KeepsRight seats (record s { unpassed = s.unpassed - 1; place = update s.place i (place_of home) })
      Nowhere owner
  drops_last home back one =
      let to : Place = place_of home in
      let mine = held r i (omega arith) (omega arith) in
      let none : (j : ℕ) → j ≢ i → due_stage ≤ stage (s.place j) → stage (s.place j) ≤ passing_stage → ⊥ =
      others seats s right owner r i (omega arith) (omega arith) in
      let five = nobody_passes back in
      let n = s.unpassed - 1 in
      let zero : n ≡ 0 = omega arith in
      let alone : (j : ℕ) → stage (s.place j) ≡ ticketed_stage → ⊥ = grind (arith, nat_tests) in
      record {
        holder = record {
          free = ((λ _. refl), (λ _. zero));
          with_seat = with_none s.place i to none Nowhere (home_has_none home) (λ j e. cc);
        };
        tickets = record {
          behind = let a = r.tickets.behind in omega arith;
          in_use = at_update s.place i to (λ _. UsesTicket s.drawn n)
              (λ a. absurd (at_home home due_stage (omega arith) (omega arith) a))
              (λ j ne a. absurd (none j ne (omega arith) (omega arith)));
          waits = at_update s.place i to (OwnsTicket s.drawn n owner)
              (λ a. absurd (at_home home ticketed_stage (omega arith) (omega arith) a)) (λ j _ a. absurd (alone j a));
          owned = λ k a b. absurd (omega arith);
          passing = at_update s.place i to (λ _. PassesNext s.drawn n (update s.place i to) owner)
              (λ a. absurd (at_home home passing_stage (omega arith) (omega arith) a)) (λ j _ a. absurd (five j a));
          granted = at_update s.place i to (λ _. WasGranted s.drawn n Nowhere (update s.place i to))
              (λ a. absurd (at_home home ticketed_stage (omega arith) (omega arith) a)) (λ j _ a. absurd (alone j a));
          grant = λ t e. absurd cc;
        };
        places = record {
          granted = λ t e. absurd cc;
          low = λ p h. let a = r.places.low p h in omega arith;
          low_passing = grind (arith, nat_tests, at_update, at_home);
          low_free = λ _ p h. let a = r.places.low p h in omega arith;
        };
        calls = record {
          called = λ j e. absurd cc;
          not_called = λ j _. r.calls.not_called j (λ e. cc);
          chose = at_update s.place i to (λ _. ChoseInner (update s.place i to))
              (λ a. absurd (at_home home back_stage (omega arith) (omega arith) a))
              (λ j ne a. absurd (none j ne (omega arith) (omega arith)));
        };
      }

  pub drops_more : (home : Home) → stage (s.place i) ≡ back_stage → s.unpassed ≢ 1 → s.unpassed ≤ s.drawn
      → KeepsRight seats (record s
      { unpassed = s.unpassed - 1; place = update s.place i (Passing (s.drawn - s.unpassed + 1) home) }) (With i) owner
  drops_more home back more behind =
      let T : ℕ = s.drawn - s.unpassed + 1 in
      let to : Place = Passing T home in
      let mine = held r i (omega arith) (omega arith) in
      let some : s.unpassed ≢ 0 = λ e. let a = r.holder.free.0 e in cc in
      let none : (j : ℕ) → j ≢ i → due_stage ≤ stage (s.place j) → stage (s.place j) ≤ passing_stage → ⊥ =
      others seats s right owner r i (omega arith) (omega arith) in
      let five = nobody_passes back in
      let n = s.unpassed - 1 in
      let sum : T + n ≡ s.drawn = omega arith in
      let least : 1 < s.unpassed = omega arith in
      record {
        holder = record {
          free = ((λ e. absurd (omega arith)), (λ e. absurd cc));
          with_seat = alone_with s.place i to none tt;
        };
        tickets = record {
          behind = let a = r.tickets.behind in omega arith;
          in_use = at_update s.place i to (λ _. UsesTicket s.drawn n) (λ a. absurd (omega arith))
              (λ j ne a. absurd (none j ne (omega arith) (omega arith)));
          waits = at_update s.place i to (OwnsTicket s.drawn n owner) (λ a. absurd (omega arith))
              (λ j _ h. let a = r.tickets.waits j h in let b = a.1 in
              let ne : ticket (s.place j) + s.unpassed ≢ s.drawn = λ e. let d = r.tickets.granted j h e five in cc
              in (a.0, omega arith, a.2));
          owned = λ k a b. waiter_stays seats s right owner r i to k (λ e. omega arith)
              (r.tickets.owned k a (omega arith));
          passing = at_update s.place i to (λ _. PassesNext s.drawn n (update s.place i to) owner)
              (λ _. (
                sum,
                waiter_stays seats s right owner r i to T (λ e. omega arith)
                    (r.tickets.owned T (omega arith) (omega arith)),
              )) (λ j _ a. absurd (five j a));
          granted = λ j h e no. absurd (no i (ap stage (update_here s.place i to)));
          grant = λ t e. absurd cc;
        };
        places = record {
          granted = λ t e. absurd cc;
          low = λ p h. let a = r.places.low p h in omega arith;
          low_passing = λ j _ p h. let a = r.places.low p h in omega arith;
          low_free = λ e. absurd (omega arith);
        };
        calls = record {
          called = λ j e. absurd cc;
          not_called = λ j _. r.calls.not_called j (λ e. cc);
          chose = at_update s.place i to (λ _. ChoseInner (update s.place i to)) (λ a. absurd (omega arith))
              (λ j ne a. absurd (none j ne (omega arith) (omega arith)));
        };
      }
