-- Each step keeps the queues of the history in agreement with where the seats are
use Rattle.std.proofs.Common.{◌≡◌, ◌≢◌, ℕ, true, ◌+◌, ◌-◌, ◌≤◌, ◌⊎◌, sym, refl, ap, ◌∙◌, subst, inl, inr, Bool, arith}
use Rattle.monk_history.specs.declared.event.Next.{Next, TheVariants.Entry}
use Rattle.monk_world.specs.declared.home.Home.TheVariants as home
use Rattle.monk_world.proofs.{Holders.held, Holders.at_home, Holders.others, UpdateLaws.at_update}
use Rattle.monk_world.specs.{Update.update, Right.Whereabouts, Right.KeepsRight, Queueing.FitsQueues, World.World}
use Rattle.monk_world.specs.Places.{stage, source, back_turn, open_turn, turn_of_next, place_of, stays_inside}
use Rattle.monk_world.specs.Places.{is_queued_at, due_stage, active_stage, back_stage, passing_stage, free_source}
use Rattle.monk_world.specs.Steps.{after_floor_out, after_floor_in, after_ticket_grant, after_seat_grant}
use Rattle.monk_world.specs.declared.place.Place.{Place}
use Rattle.monk_world.specs.declared.place.Place.TheVariants.{Idle, Ticket, Due, Active, Back, Passing, Inner}
use Rattle.monk_world.specs.declared.source.Source.{Source, TheVariants.Free, TheVariants.Granted, TheVariants.Called}
use Rattle.monk_world.specs.declared.home.Home.{Home}
use Rattle.std.proofs.lemmas.Bool.Decides.{nat_tests}

-- a seat that goes home is in a queue if, and only if, it stays inside
home_queued : (h : Home) → is_queued_at (place_of h) ≡ stays_inside h
home_queued h = grind (arith, nat_tests)

weaker : (quiet : Bool) (n : ℕ) → (quiet ≡ true) ⊎ (2 ≤ n) → (quiet ≡ true) ⊎ (2 ≤ n + 1)
weaker quiet n h = grind (arith, nat_tests)

sure : (quiet : Bool) (n : ℕ) → n ≡ 1 → (quiet ≡ true) ⊎ (2 ≤ n) → quiet ≡ true
sure quiet n one h = grind (arith, nat_tests)

abbrev InQueue : (ℕ → Bool) → ℕ → Place → Type 0
InQueue queued j p = stage p ≢ active_stage → queued j ≡ is_queued_at p

abbrev StillFree : Bool → ℕ → Place → Type 0
StillFree quiet j p = stage p ≡ due_stage → source p ≡ free_source → quiet ≡ true

abbrev ToEntry : Bool → ℕ → ℕ → Place → Type 0
ToEntry quiet n j p = stage p ≡ back_stage → back_turn p ≡ open_turn → (quiet ≡ true) ⊎ (2 ≤ n)

module _ (seats : ℕ) (s : World) (right : Whereabouts) (owner : ℕ → ℕ) (r : KeepsRight seats s right owner)
    (queued : ℕ → Bool) (quiet : Bool) (f : FitsQueues s queued quiet) (i : ℕ) where
  stage_of : (p : Place) → s.place i ≡ p → stage (s.place i) ≡ stage p
  stage_of p at = ap stage at

  queued_here : (p : Place) → s.place i ≡ p → stage p ≢ active_stage → queued i ≡ is_queued_at p
  queued_here p at ne = subst (λ (y : Place). stage y ≢ active_stage → queued i ≡ is_queued_at y) at (f.in_queue i) ne

  pub arrives_free : s.place i ≡ Idle → s.unpassed ≡ 0
      → FitsQueues (record s {
        drawn = s.drawn + 1;
        unpassed = s.unpassed + 1;
        place = update s.place i (Due (Free s.drawn));
      }) queued quiet
  arrives_free idle none =
      let p : Place = Due (Free s.drawn) in
      record {
        in_queue =
            at_update s.place i p (InQueue queued) (λ _. queued_here Idle idle (λ e. omega arith))
            (λ j _. f.in_queue j);
        free = λ e. absurd (omega arith);
        still_free = at_update s.place i p (StillFree quiet) (λ _ _. f.free none) (λ j _. f.still_free j);
        back_to_entry = grind (arith, nat_tests, at_update, weaker);
      }

  pub arrives_behind : s.place i ≡ Idle
      → FitsQueues (record s {
        drawn = s.drawn + 1;
        unpassed = s.unpassed + 1;
        place = update s.place i (Ticket s.drawn);
      })
      queued quiet
  arrives_behind idle =
      let p : Place = Ticket s.drawn in
      record {
        in_queue =
            at_update s.place i p (InQueue queued) (λ _. queued_here Idle idle (λ e. omega arith))
            (λ j _. f.in_queue j);
        free = λ e. absurd (omega arith);
        still_free = at_update s.place i p (StillFree quiet) (λ a. absurd (omega arith)) (λ j _. f.still_free j);
        back_to_entry = grind (arith, nat_tests, at_update, weaker);
      }

  pub takes_grant : (t : ℕ) → s.place i ≡ Ticket t
      → FitsQueues (record s { place = update s.place i (Due (Granted t)) }) queued quiet
  takes_grant t at =
      let p : Place = Due (Granted t) in
      record {
        in_queue =
            at_update s.place i p (InQueue queued) (λ _. queued_here (Ticket t) at (λ e. omega arith))
            (λ j _. f.in_queue j);
        free = f.free;
        still_free = at_update s.place i p (StillFree quiet) (λ _ b. absurd (omega arith)) (λ j _. f.still_free j);
        back_to_entry =
            at_update s.place i p (ToEntry quiet s.unpassed) (λ a. absurd (omega arith)) (λ j _. f.back_to_entry j);
      }

  pub takes_call : (count : ℕ → ℕ) → s.place i ≡ Inner
      → FitsQueues (record s { place = update s.place i (Due Called); count = count }) queued quiet
  takes_call count at =
      let p : Place = Due Called in
      record {
        in_queue =
            at_update s.place i p (InQueue queued) (λ _. queued_here Inner at (λ e. omega arith)) (λ j _. f.in_queue j);
        free = f.free;
        still_free = at_update s.place i p (StillFree quiet) (λ _ b. absurd (omega arith)) (λ j _. f.still_free j);
        back_to_entry =
            at_update s.place i p (ToEntry quiet s.unpassed) (λ a. absurd (omega arith)) (λ j _. f.back_to_entry j);
      }

  -- the step of seat i, which has the right
  holder : (p : Place) (queued_new : ℕ → Bool) (quiet_new : Bool) → due_stage ≤ stage (s.place i)
      → stage (s.place i) ≤ passing_stage → (stage p ≡ active_stage) ⊎ (stage p ≡ back_stage)
      → ((j : ℕ) → j ≢ i → queued_new j ≡ queued j) → InQueue queued_new i p → ToEntry quiet_new s.unpassed i p
      → FitsQueues (record s { place = update s.place i p }) queued_new quiet_new
  holder p queued_new quiet_new low high next alike here entry =
      let none : (j : ℕ) → j ≢ i → due_stage ≤ stage (s.place j) → stage (s.place j) ≤ passing_stage → ⊥ =
      others seats s right owner r i low high in
      let mine = held r i low high in
      record {
        in_queue = at_update s.place i p (InQueue queued_new) here (λ j ne a. alike j ne ∙ f.in_queue j a);
        free = λ e. absurd (let a = r.holder.free.0 e in cc);
        still_free = at_update s.place i p (StillFree quiet_new) (λ a. absurd (later next a))
            (λ j ne a. absurd (none j ne (omega arith) (omega arith)));
        back_to_entry = at_update s.place i p (ToEntry quiet_new s.unpassed) entry
            (λ j ne a. absurd (none j ne (omega arith) (omega arith)));
      }
    where
      later : (stage p ≡ active_stage) ⊎ (stage p ≡ back_stage) → stage p ≡ due_stage → ⊥
      later (inl a) b = omega arith
      later (inr a) b = omega arith

  pub comes_out : (q : Source) (queued_new : ℕ → Bool) (quiet_new : Bool) → s.place i ≡ Due q
      → ((j : ℕ) → j ≢ i → queued_new j ≡ queued j)
      → FitsQueues (after_floor_out s i q) queued_new quiet_new
  comes_out q queued_new quiet_new due alike =
      let two : stage (s.place i) ≡ due_stage = stage_of (Due q) due in
      grind (arith, nat_tests, holder)

  pub goes_home : (q : Source) (next : Next) (home : Home) (queued_new : ℕ → Bool) (quiet_new : Bool)
      → s.place i ≡ Active q → ((j : ℕ) → j ≢ i → queued_new j ≡ queued j)
      → queued_new i ≡ stays_inside home → (turn_of_next next ≡ open_turn → (quiet_new ≡ true) ⊎ (2 ≤ s.unpassed))
      → FitsQueues (after_floor_in s i next home) queued_new quiet_new
  goes_home q next home queued_new quiet_new active alike own entry =
      let three : stage (s.place i) ≡ active_stage = stage_of (Active q) active in
      holder (Back next home) queued_new quiet_new (omega arith) (omega arith) (inr refl) alike (λ _. own) (λ _. entry)

  -- seat i gives the right away and goes home
  given : (n : ℕ) (home : Home) → queued i ≡ stays_inside home → (n ≡ 0 → quiet ≡ true) → due_stage ≤ stage (s.place i)
      → stage (s.place i) ≤ passing_stage
      → FitsQueues (record s { unpassed = n; place = update s.place i (place_of home) }) queued quiet
  given n home own free low high =
      let p : Place = place_of home in
      let none : (j : ℕ) → j ≢ i → due_stage ≤ stage (s.place j) → stage (s.place j) ≤ passing_stage → ⊥ =
      others seats s right owner r i low high in
      record {
        in_queue = at_update s.place i p (InQueue queued) (λ _. own ∙ sym (home_queued home)) (λ j _. f.in_queue j);
        free = free;
        still_free =
            at_update s.place i p (StillFree quiet) (λ a. absurd (at_home home 2 (omega arith) (omega arith) a))
            (λ j _. f.still_free j);
        back_to_entry = at_update s.place i p (ToEntry quiet n)
            (λ a. absurd (at_home home 4 (omega arith) (omega arith) a))
            (λ j ne a. absurd (none j ne (omega arith) (omega arith)));
      }

  pub drops_last : (home : Home) → s.place i ≡ Back Entry home → s.unpassed ≡ 1
      → FitsQueues (record s { unpassed = s.unpassed - 1; place = update s.place i (place_of home) }) queued quiet
  drops_last home back one =
      let four : stage (s.place i) ≡ back_stage = stage_of (Back Entry home) back in
      let entry : back_turn (s.place i) ≡ open_turn = ap back_turn back in
      grind (arith, nat_tests, given, queued_here, sure)

  pub drops_more : (t : ℕ) (home : Home) → s.place i ≡ Back Entry home → s.unpassed ≢ 1
      → FitsQueues (record s { unpassed = s.unpassed - 1; place = update s.place i (Passing t home) }) queued quiet
  drops_more t home back more =
      let p : Place = Passing t home in
      let four : stage (s.place i) ≡ back_stage = stage_of (Back Entry home) back in
      let none : (j : ℕ) → j ≢ i → due_stage ≤ stage (s.place j) → stage (s.place j) ≤ passing_stage → ⊥ =
      others seats s right owner r i (omega arith) (omega arith) in
      let mine = held r i (omega arith) (omega arith) in
      let some : s.unpassed ≢ 0 = λ e. let a = r.holder.free.0 e in cc in
      record {
        in_queue = at_update s.place i p (InQueue queued)
            (λ _. queued_here (Back Entry home) back (λ e. omega arith)) (λ j _. f.in_queue j);
        free = λ e. absurd (omega arith);
        still_free = at_update s.place i p (StillFree quiet) (λ a. absurd (omega arith)) (λ j _. f.still_free j);
        back_to_entry = at_update s.place i p (ToEntry quiet (s.unpassed - 1)) (λ a. absurd (omega arith))
            (λ j ne a. absurd (none j ne (omega arith) (omega arith)));
      }

  pub grants_ticket : (t : ℕ) (home : Home) → s.place i ≡ Passing t home
      → FitsQueues (after_ticket_grant seats s i t home) queued quiet
  grants_ticket t home five =
      let z : stage (s.place i) ≡ passing_stage = stage_of (Passing t home) five in
      let g = given s.unpassed home (queued_here (Passing t home) five (λ e. omega arith)) f.free (omega arith)
      (omega arith) in
      record { in_queue = g.in_queue; free = g.free; still_free = g.still_free; back_to_entry = g.back_to_entry }

  pub calls_seat : (next : Next) (k : ℕ) (home : Home) → s.place i ≡ Back next home
      → FitsQueues (after_seat_grant s i k home) queued quiet
  calls_seat next k home back =
      let z : stage (s.place i) ≡ back_stage = stage_of (Back next home) back in
      let g = given s.unpassed home (queued_here (Back next home) back (λ e. omega arith)) f.free (omega arith)
      (omega arith) in
      record { in_queue = g.in_queue; free = g.free; still_free = g.still_free; back_to_entry = g.back_to_entry }
