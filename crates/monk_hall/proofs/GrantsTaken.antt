-- A grant is in its word until the seat that it is for finds it there
use Rattle.std.proofs.Common.{◌≡◌, ◌≢◌, ℕ, ◌+◌, ◌<◌, ◌⊎◌, Bool, true, List, [], ◌∷◌, ◌++◌, sym, refl}
use Rattle.std.proofs.Common.{ap, subst, ◌∙◌, inl, inr, ⊎_elim, arith, eq-eqb, get_or-set_other}
use Rattle.std.proofs.lemmas.{Bool.Decides.eqb_tells, Bool.Decides.nat_tests, Option.none-some}
use Rattle.std.specs.Prelude.{Some, slice_index}
use mathlib.Core.Option.{some}
use lib.ListN.{get_elem?}
use Rattle.monk_kinds.specs.{Kind.IsKind, declared.mode.Rules.Rules}
use Rattle.monk_object.specs.Object.{Object}
use Rattle.monk_world.specs.{OnePlace.IsInOnePlace, Places.HoldsRight, Places.stage, Places.ticket, Places.back_turn}
use Rattle.monk_world.specs.{Places.due_to, Places.due_stage, Places.active_stage, Places.passing_stage}
use Rattle.monk_world.specs.declared.place.Place.{Place}
use Rattle.monk_world.specs.declared.place.Place.TheVariants.{Idle, Ticket, Due, Active, Back, Passing, Inner}
use Rattle.monk_hall.proofs.Standing as standing
use Rattle.monk_hall.proofs.{RecordLaws.is, RuleLaws.right_in_one_place, ScheduleLaws.IsLed}
use Rattle.monk_hall.proofs.GrantStands.{Stands, at_next, others_stay, grant_stands}
use Rattle.monk_hall.proofs.ScheduleMoves.{IsMoveOf, each_as, step_led, led_by, led_opening}
use Rattle.monk_hall.specs.{Deeds.look_at, Laws.HallState, Laws.IsRecord, NextTicket.IsLooking, Rule.IsHall, Rule.Homes}
use Rattle.monk_hall.specs.Layout.{seat_word, waiting_word_at, shown_world}
use Rattle.monk_hall.specs.GrantsInTurn.{granted_word, IsTaken, IsTakenBetween, GrantsComeInTurn}
use Rattle.monk_hall.specs.declared.{record.SeatRecord.SeatRecord, setting.Setting.Setting}
use Rattle.monk_hall.specs.declared.deed.Deed.{Deed}
use Rattle.monk_hall.specs.declared.deed.Deed.TheVariants.{Arrive, LookForTicket, LookForCall, Peek, FloorOut, FloorIn}
use Rattle.monk_hall.specs.declared.deed.Deed.TheVariants.{Drop, GrantTicket, CallSeat, Meet}
use Rattle.monk_hall.specs.Changes.{record_after_arrive, record_after_ticket_look, record_after_seat_look}
use Rattle.monk_hall.specs.Schedules.{Step, By, Deal, Part, Join, Compare, IsDone, IsStep, IsSchedule, after_step}
use Rattle.monk_hall.specs.Schedules.{opening_table}

-- a grant is still there if neither the seat nor its word changes
stands_still : (c : Setting) (words ws : List ℕ) (at bt : ℕ → SeatRecord) (j w : ℕ) → Stands c words at j w
    → (bt j).place ≡ (at j).place → (bt j).count ≡ (at j).count → slice_index ws w ≡ slice_index words w
    → Stands c ws bt j w
stands_still c words ws at bt j w x place count word = record {
  near = x.near;
  waits = ap (waiting_word_at c.seats j) place ∙ x.waits;
  granted = grind (arith, nat_tests);
}

-- no word of a seat is the ticket word
pub not_first : (seats j w : ℕ) (p : Place) → waiting_word_at seats j p ≡ w → 0 ≢ w
not_first seats j w p h = grind (arith, nat_tests)

pub holds_active : (p : Place) → stage p ≡ active_stage → HoldsRight p
holds_active p e = subst HoldsRight (sym (standing.active_at p e)) tt

pub holds_due : (p : Place) → stage p ≡ due_stage → HoldsRight p
holds_due p e = subst HoldsRight (sym (standing.due_at p e)) tt

pub holds_passing : (p : Place) → stage p ≡ passing_stage → HoldsRight p
holds_passing p e = subst HoldsRight (sym (standing.passing_at p e)) tt

pub holds_chosen : (p : Place) (m : ℕ) → back_turn p ≡ due_to m → HoldsRight p
holds_chosen Idle m e = absurd (omega arith)
holds_chosen (Ticket t) m e = absurd (omega arith)
holds_chosen (Due q) m e = tt
holds_chosen (Active q) m e = tt
holds_chosen (Back x to) m e = tt
holds_chosen (Passing t to) m e = tt
holds_chosen Inner m e = absurd (omega arith)

module _ (k : Rules) (o : Object) (c : Setting) (s : HallState) (h : IsHall k o c s) where
  one : IsInOnePlace c.seats (shown_world s.words h.0)
  one = right_in_one_place k o c s h

  -- while a grant is in its word, nobody has the right
  pub nobody_holds : (j w : ℕ) → Stands c s.words h.0 j w → (i : ℕ) → HoldsRight (h.0 i).place → ⊥
  nobody_holds j w x i holds = grind (arith, nat_tests)

-- one more step
module _ (k : Rules) (o : Object) (c : Setting) (kind : IsKind k) (steps : List Step) (s : HallState)
    (led : IsLed k o c steps s) where
  abbrev h : IsHall k o c s
  h = led.hall

  -- a move of views doesn't change where each seat is
  pub moved_stays : (x : Step) (t : HallState) → IsStep k o c s x t → IsMoveOf x
      → (more : List Step) (next : IsLed k o c more t) (j : ℕ) → j < c.seats
      → ((next.hall.0 j).place ≡ (h.0 j).place) × ((next.hall.0 j).count ≡ (h.0 j).count)
  moved_stays x t step move more next j near =
      let q : SeatRecord = next.hall.0 j in
      let was = each_as k o c steps s led x t step move q (at_next k o c kind steps s led more t next j near) in
      grind (arith, nat_tests, is)

  -- a grant that is in its word is taken by the step, or is there after it
  module _ (j w : ℕ) (x : Stands c s.words h.0 j w) where
    kept : (id : ℕ) (r v : SeatRecord) (here : get_elem? s.views id ≡ some (r ∷ [])) (d : Deed) (ws : List ℕ)
        (hs : Homes) (t : HallState) → t ≡ after_step s id ws hs v → v.seat ≡ r.seat
        → slice_index ws w ≡ slice_index s.words w
        → (more : List Step) (next : IsLed k o c more t) → r.seat ≢ j → Stands c t.words next.hall.0 j w
    kept id r v here d ws hs t is_t seat word more next apart =
        let same = others_stay k o c kind steps s led id r v here d ws hs t is_t seat more next j x.near apart in
        stands_still c s.words t.words h.0 next.hall.0 j w x (ap (λ (z : SeatRecord). z.place) same)
        (ap (λ (z : SeatRecord). z.count) same) (ap (λ (u : HallState). slice_index u.words w) is_t ∙ word)

    module _ (id : ℕ) (r : SeatRecord) (here : get_elem? s.views id ≡ some (r ∷ [])) (t : HallState) where
      its : IsRecord s r
      its = record { id = id; view = r ∷ []; at = here; there = inl refl }

      mine : h.0 r.seat ≡ r
      mine = is k o c s h r its

      no_right : HoldsRight r.place → ⊥
      no_right holds = nobody_holds k o c s h j w x r.seat
          (subst (λ (z : SeatRecord). HoldsRight z.place) (sym mine) holds)

      -- by a step of another seat it stays
      by_another : r.seat ≢ j → (d : Deed) → IsDone k o c s id r d t → (more : List Step) (next : IsLed k o c more t)
          → Stands c t.words next.hall.0 j w
      by_another apart (Arrive n m) (idle, room, number, last, is_t) more next =
          kept id r (record_after_arrive r (slice_index s.words 0)) here (Arrive n m) _ s.homes t is_t refl
          (get_or-set_other s.words 0 w _ 0 (λ e. not_first c.seats j w (h.0 j).place x.waits (sym e))) more next apart
      by_another apart (LookForTicket b) (found, waits, there, says, is_t) more next = kept id r
          (record_after_ticket_look r found) here (LookForTicket b) s.words s.homes t is_t refl refl more next apart
      by_another apart (LookForCall b) (found, parked, there, says, is_t) more next = kept id r
          (record_after_seat_look r found) here (LookForCall b) s.words s.homes t is_t refl refl more next apart
      by_another apart (Peek n) (active, number, is_t) more next = absurd (no_right (holds_active r.place active))
      by_another apart FloorOut (f, due, got, is_t) more next = absurd (no_right (holds_due r.place due))
      by_another apart (FloorIn es) (since, e, active, played, rel, es_is, is_t) more next =
          absurd (no_right (holds_active r.place active))
      by_another apart (Drop n) (to, back, number, is_t) more next = absurd (no_right (subst HoldsRight (sym back) tt))
      by_another apart (GrantTicket n) (passing, number, is_t) more next =
          absurd (no_right (holds_passing r.place passing))
      by_another apart (CallSeat m) (names, is_t) more next = absurd (no_right (holds_chosen r.place m names))
      by_another apart Meet never more next = absurd never

      -- by a step of its own seat it is taken: the seat looks and finds it
      module _ (same : r.seat ≡ j) where
        at_j : h.0 j ≡ r
        at_j = ap h.0 (sym same) ∙ mine

        stage_j : stage (h.0 j).place ≡ stage r.place
        stage_j = ap (λ (z : SeatRecord). stage z.place) at_j

        waits_at : waiting_word_at c.seats j r.place ≡ w
        waits_at = ap (λ (z : SeatRecord). waiting_word_at c.seats j z.place) (sym at_j) ∙ x.waits

        taken : (d : Deed) → IsLooking r.place → look_at r.place true ≡ d ∷ [] → IsTaken s w (By r.seat id d)
        taken d looking finds = record {
          seat = r;
          recorded = its;
          looking = looking;
          waits = (λ i. waiting_word_at ((ap (λ (z : SeatRecord). z.setting) (sym mine) ∙ h.1.settings r.seat) i).seats
              (same i) r.place) ∙ waits_at;
          id = id;
          deed = d;
          finds = finds;
          is = refl;
        }

        by_own : (d : Deed) → IsDone k o c s id r d t → IsTaken s w (By r.seat id d)
        by_own (Arrive n m) (idle, room, number, last, is_t) =
            let out = ap stage idle in
            let z = stage_j in
            ⊎_elim (λ y. let a = y.0 in absurd (omega arith)) (λ y. let a = y.0 in absurd (omega arith)) x.granted
        by_own (LookForTicket b) (found, waits, there, says, is_t) = ⊎_elim
            (λ y.
            let n : ℕ = ticket r.place in
            let at = standing.ticket_at r.place waits in
            let word : found ≡ n + 1 = there
            ∙ ap (slice_index s.words) (sym (ap (waiting_word_at c.seats j) at) ∙ waits_at)
            ∙ y.1 ∙ ap (λ (z : SeatRecord). ticket z.place + 1) at_j in
            subst (λ (a : Bool). IsTaken s w (By r.seat id (LookForTicket a)))
            (sym (says ∙ eq-eqb found (n + 1) word))
            (taken (LookForTicket true) (inl waits) (ap (λ (p : Place). look_at p true) at)))
            (λ y. let a = y.0 in let z = stage_j in absurd (omega arith)) x.granted
        by_own (LookForCall b) (found, parked, there, says, is_t) = ⊎_elim
            (λ y. let a = y.0 in let z = stage_j in absurd (omega arith))
            (λ y.
            let at = standing.inner_at r.place parked in
            let word : found ≡ r.count + 1 = there
            ∙ ap (slice_index s.words) (ap seat_word same ∙ sym (ap (waiting_word_at c.seats j) at) ∙ waits_at)
            ∙ y.1 ∙ ap (λ (z : SeatRecord). z.count + 1) at_j in
            subst (λ (a : Bool). IsTaken s w (By r.seat id (LookForCall a)))
            (sym (says ∙ eq-eqb found (r.count + 1) word))
            (taken (LookForCall true) (inr parked) (ap (λ (p : Place). look_at p true) at)))
            x.granted
        by_own (Peek n) (active, number, is_t) = absurd (no_right (holds_active r.place active))
        by_own FloorOut (f, due, got, is_t) = absurd (no_right (holds_due r.place due))
        by_own (FloorIn es) (since, e, active, played, rel, es_is, is_t) =
            absurd (no_right (holds_active r.place active))
        by_own (Drop n) (to, back, number, is_t) = absurd (no_right (subst HoldsRight (sym back) tt))
        by_own (GrantTicket n) (passing, number, is_t) = absurd (no_right (holds_passing r.place passing))
        by_own (CallSeat m) (names, is_t) = absurd (no_right (holds_chosen r.place m names))
        by_own Meet never = absurd never

    moved : (y : Step) (t : HallState) → IsStep k o c s y t → IsMoveOf y → t.words ≡ s.words
        → (more : List Step) (next : IsLed k o c more t) → Stands c t.words next.hall.0 j w
    moved y t step move words more next =
        let same = moved_stays y t step move more next j x.near in
        stands_still c s.words t.words h.0 next.hall.0 j w x same.0 same.1
        (ap (λ (ws : List ℕ). slice_index ws w) words)

    pub taken_or_stands : (y : Step) (t : HallState) → IsStep k o c s y t → (more : List Step)
        → (next : IsLed k o c more t) → IsTaken s w y ⊎ Stands c t.words next.hall.0 j w
    taken_or_stands (By i id d) t (r, here, seat, done) more next = elim (eqb_tells r.seat j) [
      | inl e ↦ inl (subst (λ (n : ℕ). IsTaken s w (By n id d)) seat (by_own id r here t e.1 d done))
      | inr ne ↦ inr (by_another id r here t ne.1 d done more next)
    ]
    taken_or_stands (Deal id) t (r, rs, view, is_t) more next = inr (moved (Deal id) t (r, rs, view, is_t) tt
        (ap (λ (u : HallState). u.words) is_t) more next)
    taken_or_stands (Part id) t (a, b, view, is_t) more next = inr (moved (Part id) t (a, b, view, is_t) tt
        (ap (λ (u : HallState). u.words) is_t) more next)
    taken_or_stands (Join i id other) t (a, b, view, view_b, apart, idle, first, is_t) more next =
        inr (moved (Join i id other) t (a, b, view, view_b, apart, idle, first, is_t) tt
        (ap (λ (u : HallState). u.words) is_t) more next)
    taken_or_stands (Compare i id) t (a, b, view, idle_a, idle_b, second, is_t) more next =
        inr (moved (Compare i id) t (a, b, view, idle_a, idle_b, second, is_t) tt
        (ap (λ (u : HallState). u.words) is_t) more next)

    -- while it is there no step grants the word
    pub no_second : (y : Step) (t : HallState) → IsStep k o c s y t → (g : ℕ) → granted_word c.seats y ≡ Some g → ⊥
    no_second (By i id (Arrive n m)) t step g e = none-some g e
    no_second (By i id (LookForTicket b)) t step g e = none-some g e
    no_second (By i id (LookForCall b)) t step g e = none-some g e
    no_second (By i id (Peek n)) t step g e = none-some g e
    no_second (By i id FloorOut) t step g e = none-some g e
    no_second (By i id (FloorIn es)) t step g e = none-some g e
    no_second (By i id (Drop n)) t step g e = none-some g e
    no_second (By i id (GrantTicket n)) t (r, here, seat, done) g e =
        no_right id r here t (holds_passing r.place done.0)
    no_second (By i id (CallSeat m)) t (r, here, seat, done) g e =
        no_right id r here t (holds_chosen r.place m done.0)
    no_second (By i id Meet) t step g e = none-some g e
    no_second (Deal id) t step g e = none-some g e
    no_second (Part id) t step g e = none-some g e
    no_second (Join i id other) t step g e = none-some g e
    no_second (Compare i id) t step g e = none-some g e

-- over many steps it is taken or still there
taken_or_still : (k : Rules) (o : Object) (c : Setting) → IsKind k → (steps : List Step) (s : HallState)
    → (led : IsLed k o c steps s) (j w : ℕ) → Stands c s.words led.hall.0 j w → (xs : List Step) (u : HallState)
    → IsSchedule k o c s xs u
    → IsTakenBetween k o c w s xs u
    ⊎ ((more : List Step) × (last : IsLed k o c more u) × Stands c u.words last.hall.0 j w)
taken_or_still k o c kind steps s led j w x [] u run = inr (subst
    (λ (z : HallState). (more : List Step) × (last : IsLed k o c more z) × Stands c z.words last.hall.0 j w) (sym run)
    (steps, led, x))
taken_or_still k o c kind steps s led j w x (y ∷ ys) u (v, step, run) =
    let more = steps ++ y ∷ [] in
    let next = step_led k o c steps s led kind y v step in
    ⊎_elim
    (λ taken. inl (record {
      before = [];
      look = y;
      after = ys;
      are = refl;
      at = s;
      next = v;
      leads = refl;
      step = step;
      goes_on = run;
      taken = taken;
    }))
    (λ still. ⊎_elim
    (λ later. inl (record {
      before = y ∷ later.before;
      look = later.look;
      after = later.after;
      are = ap (λ (l : List Step). y ∷ l) later.are;
      at = later.at;
      next = later.next;
      leads = (v, step, later.leads);
      step = later.step;
      goes_on = later.goes_on;
      taken = later.taken;
    }))
    (λ end. inr end)
    (taken_or_still k o c kind more v next j w still ys u run))
    (taken_or_stands k o c kind steps s led j w x y v step more next)

pub grants_come_in_turn : GrantsComeInTurn
grants_come_in_turn k o c kind made first s reached w x t step grants xs u run y v again second =
    let led = led_by k o c kind [] (opening_table c) (led_opening k o c made) first s reached in
    let more = first ++ x ∷ [] in
    let next = step_led k o c first s led kind x t step in
    let stands = grant_stands k o c kind first s led x t step w grants more next in
    ⊎_elim (λ taken. taken)
    (λ still. absurd (no_second k o c kind still.0 u still.1 stands.0 w still.2 y v again w second))
    (taken_or_still k o c kind more t next stands.0 w stands.1 xs u run)
