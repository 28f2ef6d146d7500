-- Each step of the table keeps what holds for a schedule
use Rattle.std.proofs.Common.{◌≡◌, ◌≢◌, ℕ, ◌⊎◌, List, [], ◌∷◌, ◌++◌, length, arith}
use Rattle.std.proofs.Common.{sym, refl, ap, subst, ◌∙◌, inl, inr, ⊎_elim, eq-eqb, ne_eqb, append-nil}
use Rattle.std.proofs.lemmas.{Bool.Decides.eqb_tells, Bool.Decides.nat_tests, Option.none-some}
use Rattle.std.specs.Prelude.{Option, Some, None, slice_index}
use mathlib.Core.Option.{some}
use lib.ListN.{get_elem?}
use Rattle.atomic_table.proofs.Lists.{at_set, at_longer}
use Rattle.monk_kinds.specs.declared.mode.Rules.{Rules}
use Rattle.monk_object.specs.Object.{Object}
use Rattle.monk_history.specs.{Meaning.Counts.events_of, Meaning.Counts.enters_of, declared.event.Event.Event}
use Rattle.monk_world.specs.declared.source.Source.{Source, TheVariants.Free, TheVariants.Granted, TheVariants.Called}
use Rattle.monk_world.specs.declared.place.Place.{Place}
use Rattle.monk_world.specs.declared.place.Place.TheVariants.{Idle, Ticket, Due, Active, Back, Passing, Inner}
use Rattle.monk_world.specs.Places.{HoldsRight}
use Rattle.monk_hall.proofs.{IdleLearns.events_of-append, Seats.only}
use Rattle.monk_hall.proofs.ScheduleLists.{brought_push, deeds_push, home_append, knows_append, arrivals_push, AreOf}
use Rattle.monk_hall.proofs.ScheduleLists.{own_all, own_none}
use Rattle.monk_hall.specs.{Layout.tickets, Records.In, Rule.IsHall, Rule.Homes, Deeds.brings, Deeds.brought_home}
use Rattle.monk_hall.specs.{Deeds.knows, Deeds.knows_after, Laws.HallState, Laws.IsRecord, Laws.first_word}
use Rattle.monk_hall.specs.Schedules.{Step, By, after_step, brought, deeds_by, deeds_in, drew, arrivals, entered}
use Rattle.monk_hall.specs.declared.{deed.Deed.Deed, record.SeatRecord.SeatRecord, setting.Setting.Setting}

-- the ticket by which a seat came in, if it came by one
abbrev pub ticket_by : Source → Option ℕ
ticket_by (Free t) = Some t
ticket_by (Granted t) = Some t
ticket_by Called = None

-- the ticket with which a seat waits, or by which it came in
abbrev pub held : Place → Option ℕ
held Idle = None
held (Ticket t) = Some t
held (Due q) = ticket_by q
held (Active q) = ticket_by q
held (Back x to) = None
held (Passing t to) = None
held Inner = None

-- how many have entered, if the place of a seat that has the right shows it. An active seat shows it by its ticket,
-- and a seat that passes the right on by the next ticket
abbrev pub came_by : Place → Option ℕ
came_by Idle = None
came_by (Ticket t) = None
came_by (Due q) = None
came_by (Active q) = ticket_by q
came_by (Back x to) = None
came_by (Passing t to) = Some t
came_by Inner = None

pub came_right : (p : Place) (t : ℕ) → came_by p ≡ Some t → HoldsRight p
came_right Idle t e = absurd (none-some t e)
came_right (Ticket n) t e = absurd (none-some t e)
came_right (Due q) t e = absurd (none-some t e)
came_right (Active q) t e = tt
came_right (Back x to) t e = absurd (none-some t e)
came_right (Passing n to) t e = tt
came_right Inner t e = absurd (none-some t e)

-- how these steps fit a seat's record
pub record Fits (steps : List Step) (r : SeatRecord) : Type 0 where
  pub did : r.did ≡ deeds_by r.seat steps
  pub known : r.known ≡ knows r.did
  pub ticket : (t : ℕ) → held r.place ≡ Some t → get_elem? (arrivals steps) t ≡ some r.seat
  pub came : (t : ℕ) → came_by r.place ≡ Some t → enters_of (brought steps) ≡ t

-- what holds after these steps
pub record IsLed (k : Rules) (o : Object) (c : Setting) (steps : List Step) (s : HallState) : Type 0 where
  pub hall : IsHall k o c s
  pub past : hall.2.past ≡ brought steps
  pub drawn : tickets (first_word s) ≡ length (arrivals steps)
  pub each : (r : SeatRecord) → IsRecord s r → Fits steps r
  pub own : (j : ℕ) → events_of (brought steps) j ≡ brought_home (deeds_by j steps)
  pub order : (waiting : List ℕ) × (arrivals steps ≡ entered (brought steps) ++ waiting)

-- a seat that is alone in its view does this
module _ (k : Rules) (o : Object) (c : Setting) (steps : List Step) (s : HallState) (led : IsLed k o c steps s)
    (id : ℕ) (r : SeatRecord) (here : get_elem? s.views id ≡ some (r ∷ [])) (d : Deed) where
  abbrev pub x : Step
  x = By r.seat id d

  pub its_record : IsRecord s r
  its_record = record { id = id; view = r ∷ []; at = here; there = inl refl }

  -- the table after it
  pub record IsMade (w : SeatRecord) (ws : List ℕ) (hs : Homes) : Type 0 where
    pub hall : IsHall k o c (after_step s id ws hs w)
    pub past : hall.2.past ≡ led.hall.2.past ++ brings d
    pub drawn : tickets (slice_index ws 0) ≡ length (arrivals steps ++ drew r.seat d)
    pub seat : w.seat ≡ r.seat
    pub did : w.did ≡ r.did ++ d ∷ []
    pub known : w.known ≡ knows_after r.known d
    pub ticket : (t : ℕ) → held w.place ≡ Some t → get_elem? (arrivals steps ++ drew r.seat d) t ≡ some r.seat
    pub came : (t : ℕ) → came_by w.place ≡ Some t → enters_of (brought steps ++ brings d) ≡ t
    pub others : (q : SeatRecord) → IsRecord s q → q.seat ≢ r.seat → (t : ℕ) → came_by q.place ≡ Some t
        → enters_of (brought steps ++ brings d) ≡ t
    pub own : AreOf r.seat (brings d)
    pub order : (waiting : List ℕ) × (arrivals steps ++ drew r.seat d ≡ entered (brought steps ++ brings d) ++ waiting)

  -- each record is the new one, or an old one of another seat
  pub records_after : (w q : SeatRecord) (ws : List ℕ) (hs : Homes) → IsRecord (after_step s id ws hs w) q
      → (q ≡ w) ⊎ (IsRecord s q × (q.seat ≢ r.seat))
  records_after w q ws hs y = ⊎_elim
      (λ t. inl (only q w (subst (In q) (sym t.1) y.there)))
      (λ t.
      let old : IsRecord s q = record { id = y.id; view = y.view; at = t.1; there = y.there } in
      let sh = led.hall.1 in
      inr (
        old,
        λ e. t.0 (sym (sh.each y.id y.view t.1 q y.there).1 ∙ ap sh.desk e
            ∙ (sh.each id (r ∷ []) here r (inl refl)).1),
      ))
      (at_set s.views id y.id (w ∷ []) y.view y.at)

  own_in : (j : ℕ) → AreOf r.seat (brings d) → events_of (brings d) j ≡ brought_home (deeds_in j x)
  own_in j own = grind (arith, nat_tests, eqb_tells, own_all, append-nil, own_none)

  pub led_after : (w : SeatRecord) (ws : List ℕ) (hs : Homes) → IsMade w ws hs
      → IsLed k o c (steps ++ x ∷ []) (after_step s id ws hs w)
  led_after w ws hs m =
      let home : brought (steps ++ x ∷ []) ≡ brought steps ++ brings d = brought_push steps x in
      let came_in : arrivals (steps ++ x ∷ []) ≡ arrivals steps ++ drew r.seat d = arrivals_push steps x in
      record {
        hall = m.hall;
        past = m.past ∙ ap (λ (l : List Event). l ++ brings d) led.past ∙ sym home;
        drawn = m.drawn ∙ ap length (sym came_in);
        each = λ q y. ⊎_elim
            (λ e. subst (Fits (steps ++ x ∷ [])) (sym e) (record {
              did = grind (arith, nat_tests, its_record, eq-eqb, deeds_push);
              known = grind (arith, nat_tests, its_record, knows_append);
              ticket = λ t h. ap (λ (l : List ℕ). get_elem? l t) came_in ∙ m.ticket t h ∙ ap some (sym m.seat);
              came = λ t h. ap enters_of home ∙ m.came t h;
            }))
            (λ old. let was = led.each q old.0 in record {
              did = grind (arith, nat_tests, append-nil, ne_eqb, deeds_push);
              known = was.known;
              ticket = λ t h. ap (λ (l : List ℕ). get_elem? l t) came_in
                  ∙ at_longer (arrivals steps) (drew r.seat d) t q.seat (was.ticket t h);
              came = λ t h. ap enters_of home ∙ m.others q old.0 old.1 t h;
            })
            (records_after w q ws hs y);
        own = grind (arith, nat_tests, events_of-append, own_in, deeds_push, home_append);
        order = (m.order.0, came_in ∙ m.order.1 ∙ ap (λ (l : List Event). entered l ++ m.order.0) (sym home));
      }

  -- a deed by which no event comes home, and no ticket is drawn
  pub quiet : brings d ≡ [] → drew r.seat d ≡ [] → (w : SeatRecord) (ws : List ℕ) (hs : Homes)
      → (hall : IsHall k o c (after_step s id ws hs w)) → hall.2.past ≡ led.hall.2.past
      → tickets (slice_index ws 0) ≡ tickets (first_word s) → w.seat ≡ r.seat → w.did ≡ r.did ++ d ∷ []
      → w.known ≡ knows_after r.known d
      → ((t : ℕ) → held w.place ≡ Some t → held r.place ≡ Some t)
      → ((t : ℕ) → came_by w.place ≡ Some t → enters_of (brought steps) ≡ t) → IsMade w ws hs
  quiet none_home none_drew w ws hs hall past drawn seat did known ticket came =
      let home : brought steps ++ brings d ≡ brought steps = grind (arith, nat_tests, append-nil) in
      let came_in : arrivals steps ++ drew r.seat d ≡ arrivals steps = grind (arith, nat_tests, append-nil) in
      record {
        hall = hall;
        past = grind (arith, nat_tests, append-nil);
        drawn = drawn ∙ led.drawn ∙ ap length (sym came_in);
        seat = seat;
        did = did;
        known = known;
        ticket = λ t h. ap (λ (l : List ℕ). get_elem? l t) came_in ∙ (led.each r its_record).ticket t (ticket t h);
        came = λ t h. ap enters_of home ∙ came t h;
        others = λ q y ne t h. ap enters_of home ∙ (led.each q y).came t h;
        own = subst (AreOf r.seat) (sym none_home) tt;
        order = (
          led.order.0,
          came_in ∙ led.order.1 ∙ ap (λ (l : List Event). entered l ++ led.order.0) (sym home),
        );
      }
