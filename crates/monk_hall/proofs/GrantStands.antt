-- A step that grants a word leaves a grant there, for a seat that waits at it
use Rattle.std.proofs.Common.{◌≡◌, ◌≢◌, ℕ, ◌+◌, ◌%◌, ◌<◌, ◌⊎◌, List, [], ◌∷◌, set, sym, refl}
use Rattle.std.proofs.Common.{ap, subst, ◌∙◌, inl, inr, ⊎_elim, arith, get_or-set_same, mod-lt}
use Rattle.std.proofs.lemmas.Option.{none-some, same_Some}
use Rattle.std.specs.Prelude.{Some, slice_index}
use mathlib.Core.Option.{some}
use lib.ListN.{get_elem?}
use Rattle.monk_kinds.specs.{Kind.IsKind, declared.mode.Rules.Rules}
use Rattle.monk_object.specs.Object.{Object}
use Rattle.monk_history.specs.{Meaning.Counts.granted_of, declared.event.Event.Event}
use Rattle.monk_world.proofs.PublicLaws.{held}
use Rattle.monk_world.specs.{Right.With, declared.place.Place.Place}
use Rattle.monk_world.specs.Places.{stage, ticket, back_turn, due_to, ticketed_stage, outside_stage, back_stage}
use Rattle.monk_world.specs.Places.{passing_stage, inside_stage}
use Rattle.monk_hall.proofs.Standing as standing
use Rattle.monk_hall.proofs.{RecordLaws.is, RecordLaws.cases_le, ScheduleLaws.IsLed, ScheduleLaws.records_after}
use Rattle.monk_hall.proofs.GrantSteps.{choosing_at, called_near}
use Rattle.monk_hall.specs.{Changes.record_after_grant, GrantsInTurn.granted_word, Laws.HallState, Laws.IsRecord}
use Rattle.monk_hall.specs.{Layout.ticket_word, Layout.seat_word, Layout.waiting_word_at, Rule.IsHall, Rule.Homes}
use Rattle.monk_hall.specs.Schedules.{Step, By, Deal, Part, Join, Compare, IsStep, after_step}
use Rattle.monk_hall.specs.declared.{record.SeatRecord.SeatRecord, setting.Setting.Setting}
use Rattle.monk_hall.specs.declared.deed.Deed.{Deed}
use Rattle.monk_hall.specs.declared.deed.Deed.TheVariants.{Arrive, LookForTicket, LookForCall, Peek, FloorOut, FloorIn}
use Rattle.monk_hall.specs.declared.deed.Deed.TheVariants.{Drop, GrantTicket, CallSeat, Meet}

-- the grant of seat j is in the word w, where the seat waits
pub record Stands (c : Setting) (words : List ℕ) (at : ℕ → SeatRecord) (j w : ℕ) : Type 0 where
  pub near : j < c.seats
  pub waits : waiting_word_at c.seats j (at j).place ≡ w
  pub granted : ((stage (at j).place ≡ ticketed_stage) × (slice_index words w ≡ ticket (at j).place + 1))
      ⊎ ((stage (at j).place ≡ inside_stage) × (slice_index words w ≡ (at j).count + 1))

-- one more step
module _ (k : Rules) (o : Object) (c : Setting) (kind : IsKind k) (steps : List Step) (s : HallState)
    (led : IsLed k o c steps s) where
  abbrev h : IsHall k o c s
  h = led.hall

  -- the record of a seat in a table
  pub at_next : (more : List Step) (t : HallState) (next : IsLed k o c more t) (j : ℕ) → j < c.seats
      → IsRecord t (next.hall.0 j)
  at_next more t next j near = let there = next.hall.1.there j near in
      record { id = next.hall.1.desk j; view = there.0; at = there.1; there = there.2 }

  -- a step of one seat doesn't change the records of the others
  pub others_stay : (id : ℕ) (r w : SeatRecord) (here : get_elem? s.views id ≡ some (r ∷ [])) (d : Deed) (ws : List ℕ)
      (hs : Homes) (t : HallState) → t ≡ after_step s id ws hs w → w.seat ≡ r.seat
      → (more : List Step) (next : IsLed k o c more t) (j : ℕ) → j < c.seats → r.seat ≢ j
      → next.hall.0 j ≡ h.0 j
  others_stay id r w here d ws hs t is_t seat more next j near apart =
      let q : SeatRecord = next.hall.0 j in
      let y = at_next more t next j near in
      ⊎_elim (λ e. absurd (apart (sym seat ∙ ap (λ (z : SeatRecord). z.seat) (sym e) ∙ next.hall.1.seats j)))
      (λ old. sym (is k o c s h q old.0) ∙ ap h.0 (next.hall.1.seats j))
      (records_after k o c steps s led id r here d w q ws hs (subst (λ (u : HallState). IsRecord u q) is_t y))

  -- after a step that grants a word, a grant is there
  module _ (id : ℕ) (r : SeatRecord) (here : get_elem? s.views id ≡ some (r ∷ [])) (t : HallState) (more : List Step)
      (next : IsLed k o c more t) where
    granter : h.0 r.seat ≡ r
    granter = is k o c s h r (record { id = id; view = r ∷ []; at = here; there = inl refl })

    near_of : (j : ℕ) → stage (h.0 j).place ≢ outside_stage → j < c.seats
    near_of j inside = ⊎_elim (λ far. absurd (inside (h.2.kept.sound.is_sound.outside j far))) (λ low. low)
        (cases_le c.seats j)

    ticket_stands : (n : ℕ) → stage r.place ≡ passing_stage → n ≡ ticket r.place
        → t ≡ after_step s id (set s.words (ticket_word c.seats n) (n + 1)) s.homes
        (record_after_grant r (GrantTicket n))
        → (j : ℕ) × Stands c t.words next.hall.0 j (ticket_word c.seats n)
    ticket_stands n passing number is_t =
        let keeps = h.2.kept.sound.is_sound.stands.keeps in
        let at_r = ap (λ (z : SeatRecord). stage z.place) granter ∙ passing in
        let ticket_r = ap (λ (z : SeatRecord). ticket z.place) granter in
        let waits = (keeps.tickets.passing r.seat at_r).1 in
        let j : ℕ = h.2.kept.sound.owner (ticket (h.0 r.seat).place) in
        let ticketed : stage (h.0 j).place ≡ ticketed_stage = waits.0 in
        let its_ticket : ticket (h.0 j).place ≡ n = waits.1 ∙ ticket_r ∙ sym number in
        let near = near_of j (λ e. absurd (omega arith)) in
        let apart : r.seat ≢ j = λ e. let z = ap (λ (i : ℕ). stage (h.0 i).place) e in absurd (omega arith) in
        let same = others_stay id r (record_after_grant r (GrantTicket n)) here (GrantTicket n) _ s.homes t is_t refl
        more next j near apart in
        let place = ap (λ (z : SeatRecord). z.place) same in
        let at = standing.ticket_at (h.0 j).place ticketed in
        let low : n % c.seats < c.seats = mod-lt n h.2.some_seat in
        let wide = h.2.wide in (
          j,
          record {
            near = near;
            waits = ap (waiting_word_at c.seats j) (place ∙ at) ∙ ap (ticket_word c.seats) its_ticket;
            granted = inl (
              ap stage place ∙ ticketed,
              ap (λ (u : HallState). slice_index u.words (ticket_word c.seats n)) is_t
                  ∙ get_or-set_same s.words (ticket_word c.seats n) (n + 1) 0 (omega arith)
                  ∙ ap (λ (m : ℕ). m + 1) (sym its_ticket) ∙ ap (λ (p : Place). ticket p + 1) (sym place),
            );
          },
        )

    call_stands : (m : ℕ) → back_turn r.place ≡ due_to m
        → t ≡ after_step s id (set s.words (seat_word m) (granted_of r.seen m)) s.homes
        (record_after_grant r (CallSeat m))
        → (j : ℕ) × Stands c t.words next.hall.0 j (seat_word m)
    call_stands m names is_t =
        let keeps = h.2.kept.sound.is_sound.stands.keeps in
        let choosing = choosing_at r.place m names in
        let back_r : stage (h.0 r.seat).place ≡ back_stage = ap (λ (z : SeatRecord). stage z.place) granter
        ∙ ap stage choosing.is in
        let turn_r = ap (λ (z : SeatRecord). back_turn z.place) granter ∙ names in
        let inside : stage (h.0 m).place ≡ inside_stage = keeps.calls.chose r.seat back_r m turn_r in
        let near = called_near k o c kind s h id r here m names in
        let apart : r.seat ≢ m = λ e. let z = ap (λ (i : ℕ). stage (h.0 i).place) e in absurd (omega arith) in
        let same = others_stay id r (record_after_grant r (CallSeat m)) here (CallSeat m) _ s.homes t is_t refl
        more next m near apart in
        let place = ap (λ (z : SeatRecord). z.place) same in
        let at = standing.inner_at (h.0 m).place inside in
        let with_r : h.2.kept.sound.right ≡ With r.seat =
        held keeps r.seat (omega arith) (omega arith) in
        let counted = keeps.calls.not_called m (λ e. absurd cc) in
        let seen : r.seen ≡ h.2.past = sym (ap (λ (z : SeatRecord). z.seen) granter) ∙ h.2.told.back r.seat back_r in
        let calls : granted_of r.seen m ≡ (h.0 m).count + 1 = ap (λ (g : List Event). granted_of g m) seen
        ∙ h.2.told.calls.choosing r.seat m turn_r ∙ ap (λ (n : ℕ). n + 1) counted in
        let wide = h.2.wide in (
          m,
          record {
            near = near;
            waits = ap (waiting_word_at c.seats m) (place ∙ at);
            granted = inr (
              ap stage place ∙ inside,
              ap (λ (u : HallState). slice_index u.words (seat_word m)) is_t
                  ∙ get_or-set_same s.words (seat_word m) (granted_of r.seen m) 0 (omega arith)
                  ∙ calls ∙ ap (λ (z : SeatRecord). z.count + 1) (sym same),
            );
          },
        )

  pub grant_stands : (x : Step) (t : HallState) → IsStep k o c s x t → (w : ℕ) → granted_word c.seats x ≡ Some w
      → (more : List Step) (next : IsLed k o c more t) → (j : ℕ) × Stands c t.words next.hall.0 j w
  grant_stands (By i id (Arrive n m)) t step w e more next = absurd (none-some w e)
  grant_stands (By i id (LookForTicket b)) t step w e more next = absurd (none-some w e)
  grant_stands (By i id (LookForCall b)) t step w e more next = absurd (none-some w e)
  grant_stands (By i id (Peek n)) t step w e more next = absurd (none-some w e)
  grant_stands (By i id FloorOut) t step w e more next = absurd (none-some w e)
  grant_stands (By i id (FloorIn es)) t step w e more next = absurd (none-some w e)
  grant_stands (By i id (Drop n)) t step w e more next = absurd (none-some w e)
  grant_stands (By i id (GrantTicket n)) t (r, here, seat, done) w e more next =
      subst (λ (v : ℕ). (j : ℕ) × Stands c t.words next.hall.0 j v) (same_Some (ticket_word c.seats n) w e)
      (ticket_stands id r here t more next n done.0 done.1 done.2)
  grant_stands (By i id (CallSeat m)) t (r, here, seat, done) w e more next =
      subst (λ (v : ℕ). (j : ℕ) × Stands c t.words next.hall.0 j v) (same_Some (seat_word m) w e)
      (call_stands id r here t more next m done.0 done.1)
  grant_stands (By i id Meet) t step w e more next = absurd (none-some w e)
  grant_stands (Deal id) t step w e more next = absurd (none-some w e)
  grant_stands (Part id) t step w e more next = absurd (none-some w e)
  grant_stands (Join i id other) t step w e more next = absurd (none-some w e)
  grant_stands (Compare i id) t step w e more next = absurd (none-some w e)
