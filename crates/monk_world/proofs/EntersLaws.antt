-- Each step keeps the enters of the history in agreement with the tickets
use Rattle.std.proofs.Common.{◌≡◌, ◌≢◌, ℕ, ◌+◌, ◌-◌, ◌≤◌, sym, refl, ap, subst, arith}
use Rattle.monk_history.specs.declared.event.Next.{Next, TheVariants.Entry}
use Rattle.monk_world.proofs.{Holders.held, Holders.holds, UpdateLaws.update_here, UpdateLaws.update_else}
use Rattle.monk_world.specs.{Update.update, World.World}
use Rattle.monk_world.specs.Steps.{after_floor_out, after_floor_in, after_ticket_grant, after_seat_grant}
use Rattle.monk_world.specs.Right.{Whereabouts, Nowhere, AtTicket, With, AtSeat, KeepsRight}
use Rattle.monk_world.specs.declared.place.Place.{Place}
use Rattle.monk_world.specs.declared.place.Place.TheVariants.{Idle, Ticket, Due, Active, Back, Passing}
use Rattle.monk_world.specs.declared.source.Source.{Source, TheVariants.Free, TheVariants.Granted, TheVariants.Called}
use Rattle.monk_world.specs.declared.home.Home.{Home}
use Rattle.monk_world.specs.Enters.{FitsEnters, used_at, used_by, used_in}
use Rattle.monk_world.specs.Places.{stage, place_of, due_stage, active_stage, passing_stage}
use Rattle.std.proofs.lemmas.Bool.Decides.{nat_tests}

module _ (seats : ℕ) (s : World) (right : Whereabouts) (owner : ℕ → ℕ) (r : KeepsRight seats s right owner)
    (entered : ℕ) (f : FitsEnters s right entered) (i : ℕ) where
  -- where the right is
  entered_where : (x : Whereabouts) → right ≡ x → FitsEnters s x entered
  entered_where x is = subst (λ (y : Whereabouts). FitsEnters s y entered) is f

  -- the right is with seat i
  pub entered_here : (p : Place) → s.place i ≡ p → due_stage ≤ stage p → stage p ≤ passing_stage
      → entered + s.unpassed ≡ s.drawn + used_at p
  entered_here p at low high = grind (arith, nat_tests)

  -- some ticket is not passed on if seat i has the right
  some_left : (p : Place) → s.place i ≡ p → due_stage ≤ stage p → stage p ≤ passing_stage → s.unpassed ≢ 0
  some_left p h h' h'' = grind (arith, nat_tests)

  -- seat i has the right after its step
  taken : (t n entered_new : ℕ) (p : Place) → entered_new + n ≡ t + used_at p
      → entered_new + n ≡ t + used_at (update s.place i p i)
  taken t n entered_new p agrees = grind (arith, nat_tests, update_here)

  pub arrives_free : s.unpassed ≡ 0
      → FitsEnters (record s {
        drawn = s.drawn + 1;
        unpassed = s.unpassed + 1;
        place =
            update s.place i (Due (Free s.drawn));
      }) (With i) entered
  arrives_free none =
      let u : entered + s.unpassed ≡ s.drawn + 0 = entered_where Nowhere (r.holder.free.0 none) in
      taken (s.drawn + 1) (s.unpassed + 1) entered (Due (Free s.drawn)) (omega arith)

  pub arrives_behind : s.place i ≡ Idle
      → FitsEnters (record s {
        drawn = s.drawn + 1;
        unpassed = s.unpassed + 1;
        place = update s.place i (Ticket s.drawn);
      })
      right entered
  arrives_behind idle = let same =
      elsewhere right (λ e. let z = ap stage idle in let a = holds r i e in let b = a.0 in omega arith) in omega arith
    where
      after : World
      after = record s { drawn = s.drawn + 1; unpassed = s.unpassed + 1; place = update s.place i (Ticket s.drawn) }

      elsewhere : (x : Whereabouts) → x ≢ With i → used_in after x ≡ used_in s x
      elsewhere Nowhere ne = refl
      elsewhere (AtTicket t) ne = refl
      elsewhere (With j) ne = ap used_at (update_else s.place i (Ticket s.drawn) j (λ e. ne (ap With e)))
      elsewhere (AtSeat j) ne = refl

  pub takes_grant : (t : ℕ) → right ≡ AtTicket t
      → FitsEnters (record s { place = update s.place i (Due (Granted t)) }) (With i) entered
  takes_grant t is = taken s.drawn s.unpassed entered (Due (Granted t)) (entered_where (AtTicket t) is)

  pub takes_call : (count : ℕ → ℕ) → right ≡ AtSeat i
      → FitsEnters (record s { place = update s.place i (Due Called); count = count }) (With i) entered
  takes_call count is = taken s.drawn s.unpassed entered (Due Called) (entered_where (AtSeat i) is)

  -- seat i has the right before and after its step
  holder : (p : Place) (entered_new : ℕ) → right ≡ With i → entered_new + s.unpassed ≡ s.drawn + used_at p
      → FitsEnters (record s { place = update s.place i p }) right entered_new
  holder p entered_new mine agrees =
      subst (λ (x : Whereabouts). FitsEnters (record s { place = update s.place i p }) x entered_new) (sym mine)
      (taken s.drawn s.unpassed entered_new p agrees)

  pub comes_out : (q : Source) (entered_new : ℕ) → s.place i ≡ Due q → entered_new + used_by q ≡ entered + 1
      → FitsEnters (after_floor_out s i q) right entered_new
  comes_out q entered_new due more =
      let z : stage (s.place i) ≡ due_stage = ap stage due in
      let u : entered + s.unpassed ≡ s.drawn + used_by q = entered_here (Due q) due (omega arith) (omega arith) in
      holder (Active q) entered_new (held r i (omega arith) (omega arith)) (omega arith)

  pub goes_home : (q : Source) (next : Next) (home : Home) → s.place i ≡ Active q
      → FitsEnters (after_floor_in s i next home) right entered
  goes_home q next home active =
      let z : stage (s.place i) ≡ active_stage = ap stage active in
      holder (Back next home) entered (held r i (omega arith) (omega arith))
      (entered_here (Active q) active (omega arith) (omega arith))

  pub drops_last : (home : Home) → s.place i ≡ Back Entry home
      → FitsEnters (record s { unpassed = s.unpassed - 1; place = update s.place i (place_of home) }) Nowhere entered
  drops_last home back =
      let u : entered + s.unpassed ≡ s.drawn + 1 = entered_here (Back Entry home) back (omega arith) (omega arith) in
      let some = some_left (Back Entry home) back (omega arith) (omega arith) in
      omega arith

  pub drops_more : (t : ℕ) (home : Home) → s.place i ≡ Back Entry home
      → FitsEnters (record s { unpassed = s.unpassed - 1; place = update s.place i (Passing t home) }) (With i) entered
  drops_more t home back =
      let u : entered + s.unpassed ≡ s.drawn + 1 = entered_here (Back Entry home) back (omega arith) (omega arith) in
      let some = some_left (Back Entry home) back (omega arith) (omega arith) in
      taken s.drawn (s.unpassed - 1) entered (Passing t home) (omega arith)

  pub grants_ticket : (t : ℕ) (home : Home) → s.place i ≡ Passing t home
      → FitsEnters (after_ticket_grant seats s i t home) (AtTicket t) entered
  grants_ticket t home five = entered_here (Passing t home) five (omega arith) (omega arith)

  pub calls_seat : (next : Next) (k : ℕ) (home : Home) → s.place i ≡ Back next home
      → FitsEnters (after_seat_grant s i k home) (AtSeat k) entered
  calls_seat next k home back = entered_here (Back next home) back (omega arith) (omega arith)
