-- Each step keeps the turn of the history in agreement with where the right is
use Rattle.std.proofs.Common.{◌≡◌, ◌≢◌, ℕ, ◌+◌, ◌-◌, ◌≤◌, sym, refl, ap, ◌∙◌, subst, arith}
use Rattle.monk_history.specs.declared.event.Next.{Next, TheVariants.Entry}
use Rattle.monk_world.proofs.{Holders.held, Holders.holds, UpdateLaws.update_here, UpdateLaws.update_else}
use Rattle.monk_world.specs.{Update.update, Turns.FitsTurn, Turns.turn_at, World.World}
use Rattle.monk_world.specs.Steps.{after_floor_out, after_floor_in, after_ticket_grant, after_seat_grant}
use Rattle.monk_world.specs.declared.place.Place.{Place}
use Rattle.monk_world.specs.declared.place.Place.TheVariants.{Idle, Ticket, Due, Active, Back, Passing}
use Rattle.monk_world.specs.declared.source.Source.{Source, TheVariants.Free, TheVariants.Granted, TheVariants.Called}
use Rattle.monk_world.specs.declared.home.Home.{Home}
use Rattle.monk_world.specs.Right.{Whereabouts, Nowhere, AtTicket, With, AtSeat, KeepsRight}
use Rattle.monk_world.specs.Places.{stage, due_to, turn_of_next, place_of, due_stage, active_stage, passing_stage}
use Rattle.std.proofs.lemmas.Bool.Decides.{nat_tests}

module _ (seats : ℕ) (s : World) (right : Whereabouts) (owner : ℕ → ℕ) (r : KeepsRight seats s right owner) (turn : ℕ)
    (f : FitsTurn s right turn) (i : ℕ) where
  -- where the right is
  turn_where : (x : Whereabouts) → right ≡ x → FitsTurn s x turn
  turn_where x is = subst (λ (y : Whereabouts). FitsTurn s y turn) is f

  -- the turn if seat i has the right and is not active
  pub turn_here : (p : Place) → s.place i ≡ p → due_stage ≤ stage p → stage p ≤ passing_stage
      → stage p ≢ active_stage → turn ≡ turn_at i p
  turn_here p at low high ne = grind (arith, nat_tests)

  -- seat i has the right after its step
  taken : (p : Place) (turn_new : ℕ) → (stage p ≢ active_stage → turn_new ≡ turn_at i p)
      → FitsTurn (record s { place = update s.place i p }) (With i) turn_new
  taken p turn_new agrees =
      subst (λ (y : Place). stage y ≢ active_stage → turn_new ≡ turn_at i y) (sym (update_here s.place i p)) agrees

  -- and it has the right before its step too
  holder : (p : Place) (turn_new : ℕ) → right ≡ With i → (stage p ≢ active_stage → turn_new ≡ turn_at i p)
      → FitsTurn (record s { place = update s.place i p }) right turn_new
  holder p turn_new mine agrees =
      subst (λ (x : Whereabouts). FitsTurn (record s { place = update s.place i p }) x turn_new) (sym mine)
      (taken p turn_new agrees)

  pub arrives_free : s.unpassed ≡ 0
      → FitsTurn (record s {
        drawn = s.drawn + 1;
        unpassed = s.unpassed + 1;
        place =
            update s.place i (Due (Free s.drawn));
      }) (With i) turn
  arrives_free none = taken (Due (Free s.drawn)) turn (λ _. turn_where Nowhere (r.holder.free.0 none))

  pub arrives_behind : s.place i ≡ Idle
      → FitsTurn (record s {
        drawn = s.drawn + 1;
        unpassed = s.unpassed + 1;
        place = update s.place i (Ticket s.drawn);
      })
      right turn
  arrives_behind idle =
      elsewhere right f (λ e. let z = ap stage idle in let a = holds r i e in let b = a.0 in omega arith)
    where
      elsewhere : (x : Whereabouts) → FitsTurn s x turn → x ≢ With i
          → FitsTurn (record s {
            drawn = s.drawn + 1;
            unpassed = s.unpassed + 1;
            place =
                update s.place i (Ticket s.drawn);
          }) x turn
      elsewhere Nowhere g ne = g
      elsewhere (AtTicket t) g ne = g
      elsewhere (With j) g ne =
          subst (λ (y : Place). stage y ≢ active_stage → turn ≡ turn_at j y)
          (sym (update_else s.place i (Ticket s.drawn) j (λ e. ne (ap With e)))) g
      elsewhere (AtSeat j) g ne = g

  pub takes_grant : (t : ℕ) → right ≡ AtTicket t
      → FitsTurn (record s { place = update s.place i (Due (Granted t)) }) (With i) turn
  takes_grant t is = taken (Due (Granted t)) turn (λ _. turn_where (AtTicket t) is)

  pub takes_call : (count : ℕ → ℕ) → right ≡ AtSeat i
      → FitsTurn (record s { place = update s.place i (Due Called); count = count }) (With i) turn
  takes_call count is = taken (Due Called) turn (λ _. turn_where (AtSeat i) is)

  pub comes_out : (q : Source) (turn_new : ℕ) → s.place i ≡ Due q → FitsTurn (after_floor_out s i q) right turn_new
  comes_out q turn_new due =
      let z : stage (s.place i) ≡ due_stage = ap stage due in
      holder (Active q) turn_new (held r i (omega arith) (omega arith)) (λ ne. absurd (ne refl))

  pub goes_home : (q : Source) (next : Next) (home : Home) → s.place i ≡ Active q
      → FitsTurn (after_floor_in s i next home) right (turn_of_next next)
  goes_home q next home active =
      let z : stage (s.place i) ≡ active_stage = ap stage active in
      holder (Back next home) (turn_of_next next) (held r i (omega arith) (omega arith)) (λ _. refl)

  pub drops_last : (home : Home) → s.place i ≡ Back Entry home
      → FitsTurn (record s { unpassed = s.unpassed - 1; place = update s.place i (place_of home) }) Nowhere turn
  drops_last home back = turn_here (Back Entry home) back (omega arith) (omega arith) (λ e. omega arith)

  pub drops_more : (t : ℕ) (home : Home) → s.place i ≡ Back Entry home
      → FitsTurn (record s { unpassed = s.unpassed - 1; place = update s.place i (Passing t home) }) (With i) turn
  drops_more t home back =
      taken (Passing t home) turn (λ _. turn_here (Back Entry home) back (omega arith) (omega arith) (λ e. omega arith))

  pub grants_ticket : (t : ℕ) (home : Home) → s.place i ≡ Passing t home
      → FitsTurn (after_ticket_grant seats s i t home) (AtTicket t) turn
  grants_ticket t home five = turn_here (Passing t home) five (omega arith) (omega arith) (λ e. omega arith)

  pub calls_seat : (next : Next) (k : ℕ) (home : Home) → s.place i ≡ Back next home → turn_of_next next ≡ due_to k
      → FitsTurn (after_seat_grant s i k home) (AtSeat k) turn
  calls_seat next k home back is = turn_here (Back next home) back (omega arith) (omega arith) (λ e. omega arith) ∙ is
