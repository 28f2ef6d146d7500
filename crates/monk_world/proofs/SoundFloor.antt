-- A step with the floor, by which the history grows by one event, keeps a state sound
use Rattle.std.proofs.Common.{◌≡◌, ◌≢◌, ℕ, ◌+◌, ◌==◌, ◌<◌, ◌≤◌, ◌⊎◌, true, false, Bool, List, [], ◌∷◌, ◌++◌, sym, refl}
use Rattle.std.proofs.Common.{ap, ◌∙◌, subst, inl, inr, arith, eq-eqb}
use Rattle.std.specs.Prelude.{if◌then◌else◌, not, nat_lt, Option, Some}
use Rattle.std.proofs.lemmas.Bool.{ne_eqb, Decides.eqb_tells, Decides.nat_tests}
use Rattle.monk_kinds.specs.declared.mode.{Pick.Pick, Rules.Rules}
use Rattle.monk_object.specs.Object.{Object}
use Rattle.monk_history.specs.declared.event.Next.TheVariants as next
use Rattle.monk_history.specs.declared.event.Turn.TheVariants as turn
use Rattle.monk_history.specs.declared.event.Via.TheVariants as via
use Rattle.monk_history.proofs.PublicLaws.Meaning.{enters_none, enters_free, enters_handed, resumes, legal-push}
use Rattle.monk_history.proofs.PublicLaws.Meaning.{counts_after, stands_after, quiet_after, legal_placed}
use Rattle.monk_history.specs.Meaning.{Entry.IsAtDoor, Legal.IsLegal, Monitor.Monitor, Moves.StandsAfter}
use Rattle.monk_history.specs.Meaning.{Moves.CountsAfter, Reasons.IsAllowed, Release.as_called, Release.choice_of}
use Rattle.monk_history.specs.Meaning.{Situation.situation, Standing.standing, Turn.turn, Turn.turn_by, Turn.is_inside}
use Rattle.monk_history.specs.Meaning.Counts.{left_of, enters_of, is_enter, grants}
use Rattle.monk_history.specs.Meaning.Events.{seat_of, next_of, is_stay, is_way_out}
use Rattle.monk_history.specs.declared.event.{Next.Next, Event.Event, Event.TheVariants.Enter, Event.TheVariants.Resume}
use Rattle.monk_floor.specs.View.{monitor_of, stands_of}
use Rattle.monk_world.specs.declared.home.Home.TheVariants as home
use Rattle.monk_world.proofs.EntersLaws as enters
use Rattle.monk_world.proofs.{Holders.others, UpdateLaws.at_update, UpdateLaws.update_here}
use Rattle.monk_world.proofs.TestLaws.{none_below, some_above, quiet_is, is_quiet-true, open_is, due_is, number_chosen}
use Rattle.monk_world.proofs.TestLaws.{names_chosen, entry_chosen, outside_is}
use Rattle.monk_world.proofs.StepLaws.{floor_out_keeps_the_right, activity_keeps_the_right, floor_in_keeps_the_right}
use Rattle.monk_world.specs.{Update.update, Right.Whereabouts, Stands.Stands, StepTable.out_event, StepTable.queue_due}
use Rattle.monk_world.specs.{Turns.turn_number, Turns.turn_at, Steps.after_floor_out, Steps.after_floor_in}
use Rattle.monk_world.specs.Enters.{FitsEnters, used_by}
use Rattle.monk_world.specs.State.{State, with_event, is_standing, is_quiet}
use Rattle.monk_world.specs.declared.source.Source.{Source, TheVariants.Free, TheVariants.Granted, TheVariants.Called}
use Rattle.monk_world.specs.declared.home.Home.{Home}
use Rattle.monk_world.specs.declared.place.Place.{Place, TheVariants.Due, TheVariants.Active, TheVariants.Back}
use Rattle.monk_world.specs.Places.{stage, ticket, source, open_turn, due_to, turn_of_next, stays_inside}
use Rattle.monk_world.specs.Places.{comes_from_queue, outside_stage, ticketed_stage, due_stage, active_stage}
use Rattle.monk_world.specs.Places.{passing_stage, free_source, granted_source}
use Rattle.monk_world.specs.Sound.{IsSound, Sound, left_at, left_within}

abbrev number_of : Bool → ℕ
number_of b = if b then 1 else 0

false_is : false ≡ true → ⊥
false_is e = absurd cc

module _ (k : Rules) (o : Object) (s : State) (right : Whereabouts) (owner : ℕ → ℕ)
    (h : IsSound k o s right owner) (i : ℕ) where
  none : due_stage ≤ stage (s.world.place i) → stage (s.world.place i) ≤ passing_stage → (j : ℕ) → j ≢ i
      → due_stage ≤ stage (s.world.place j) → stage (s.world.place j) ≤ passing_stage → ⊥
  none low high = others s.floor.seats s.world right owner h.stands.keeps i low high

abbrev way_number : Bool → ℕ
way_number b = if b then 0 else 1

at_way : (home : Home) → nat_lt 0 (way_number (not (stays_inside home))) ≡ stays_inside home
at_way home = grind (arith, nat_tests)

-- one more event, of seat i
module _ (k : Rules) (o : Object) (s : State) (right : Whereabouts) (owner : ℕ → ℕ)
    (h : IsSound k o s right owner) (i : ℕ)
    (e : Event) (of_seat : seat_of e ≡ i) (allowed : IsAllowed (monitor_of k o s.floor) s.floor.history e) where
  abbrev past : List Event
  past = s.floor.history

  abbrev monitor : Monitor
  monitor = monitor_of k o s.floor

  moved : StandsAfter monitor (situation monitor past) e (situation monitor (past ++ e ∷ []))
  moved = stands_after monitor past e h.legal allowed

  counts : CountsAfter past e
  counts = counts_after past e

  legal_after : IsLegal monitor (past ++ e ∷ [])
  legal_after = legal-push monitor past e h.legal allowed

  others_stand : (j : ℕ) → j ≢ i → is_standing k o (with_event s.floor e) j ≡ is_standing k o s.floor j
  others_stand j ne = ap (λ (n : ℕ). nat_lt 0 n) (moved.others_stand j (λ a. ne (a ∙ of_seat)))

  left_other : (j : ℕ) → j ≢ i → left_of s.floor.budget (past ++ e ∷ []) j ≡ left_of s.floor.budget past j
  left_other j ne =
      let no : number_of (seat_of e == j) ≡ 0 = ap number_of (ne_eqb (seat_of e) j (λ a. ne (sym a ∙ of_seat))) in
      let spent = counts.spent j in
      omega arith

  pub left_own : (least : ℕ) → least + 1 ≤ left_of s.floor.budget past i
      → least ≤ left_of s.floor.budget (past ++ e ∷ []) i
  left_own least enough =
      let yes : number_of (seat_of e == i) ≡ 1 = ap number_of (eq-eqb (seat_of e) i of_seat) in
      let spent = counts.spent i in
      omega arith

  pub own_stands : (home : Home) → is_way_out e ≡ not (stays_inside home)
      → is_standing k o (with_event s.floor e) i ≡ stays_inside home
  own_stands home way =
      let c = moved.caller_stands in
      let stands : standing monitor.conds i (situation monitor (past ++ e ∷ [])) ≡ way_number (is_way_out e) =
      grind (arith, nat_tests) in
      ap (λ (n : ℕ). nat_lt 0 n) (stands ∙ ap way_number way) ∙ at_way home

  pub quiet_after_entry : (wish : Pick) → next_of e ≡ Some next.Entry
      → choice_of k o (stands_of k o s.floor) (as_called e) false wish ≡ next.Entry
      → is_quiet k o (with_event s.floor e) ≡ true
  quiet_after_entry wish entry choice =
      is_quiet-true k o (with_event s.floor e)
      (quiet_after monitor past e wish h.legal allowed (record { entry = entry; choice = choice }))

  -- the active seat goes on
  pub stays : (q : Source) → s.world.place i ≡ Active q → is_enter e ≡ false
      → turn_by (seat_of e) (next_of e) ≡ turn.Owned i → 2 ≤ left_of s.floor.budget past i
      → Sound k o (record s { floor = with_event s.floor e })
  stays q active no_enter owns enough =
      let three : stage (s.world.place i) ≡ active_stage = ap stage active in
      let turn_new = counts.turn ∙ owns in
      let same : enters_of (past ++ e ∷ []) ≡ enters_of past =
      let c = counts.enters in let z : number_of (is_enter e) ≡ 0 = ap number_of no_enter in omega arith in
      record {
        right = right;
        owner = owner;
        is_sound = record {
          legal = legal_after;
          stands = grind (arith, nat_tests, activity_keeps_the_right, others_stand);
          active = λ j a. elim (eqb_tells j i) [
            | inl c ↦ turn_new ∙ ap turn.Owned (sym c.1)
            | inr c ↦ absurd (none k o s right owner h i (omega arith) (omega arith) j c.1 (omega arith) (omega arith))
          ];
          known = h.known;
          entered = subst (λ (n : ℕ). FitsEnters s.world right n) (sym same) h.entered;
          late = h.late;
          granted_late = h.granted_late;
          left = λ j. elim (eqb_tells j i) [
            | inl c ↦ subst (λ (m : ℕ). left_at (s.world.place m) ≤ left_of s.floor.budget (past ++ e ∷ []) m) (sym c.1)
                (subst (λ (p : Place). left_at p ≤ left_of s.floor.budget (past ++ e ∷ []) i) (sym active)
                (left_own 1 enough))
            | inr c ↦ let l = left_other j c.1 in let a = h.left j in omega arith
          ];
          outside = h.outside;
        };
      }

  -- the active seat takes the floor home
  pub goes_home : (q : Source) (x : Next) (home : Home) → i < s.floor.seats → s.world.place i ≡ Active q
      → is_enter e ≡ false → next_of e ≡ Some x → is_stay (Some x) ≡ false
      → is_standing k o (with_event s.floor e) i ≡ stays_inside home
      → left_within home ≤ left_of s.floor.budget (past ++ e ∷ []) i
      → (x ≡ next.Entry → (is_quiet k o (with_event s.floor e) ≡ true) ⊎ (2 ≤ s.world.unpassed))
      → Sound k o (record s { world = after_floor_in s.world i x home; floor = with_event s.floor e })
  goes_home q x home near active no_enter chose away own enough entry =
      let three : stage (s.world.place i) ≡ active_stage = ap stage active in
      let p : Place = Back x home in
      let turned : turn_number (turn (past ++ e ∷ [])) ≡ turn_of_next x =
      ap turn_number (counts.turn ∙ ap (λ (y : Option Next). turn_by (seat_of e) y) chose)
      ∙ number_chosen (seat_of e) x away in
      let named : (m : ℕ) → turn_of_next x ≡ due_to m → grants m e ≡ true = grind (arith, nat_tests, names_chosen) in
      let same : enters_of (past ++ e ∷ []) ≡ enters_of past =
      let c = counts.enters in let z : number_of (is_enter e) ≡ 0 = ap number_of no_enter in omega arith in
      record {
        right = right;
        owner = owner;
        is_sound = record {
          legal = legal_after;
          stands = subst (λ (n : ℕ). Stands s.floor.seats (after_floor_in s.world i x home) right owner n
              (is_standing k o (with_event s.floor e)) (is_quiet k o (with_event s.floor e))) (sym turned)
              (floor_in_keeps_the_right s.floor.seats s.world right owner (turn_number (turn past))
              (is_standing k o s.floor) (is_quiet k o s.floor) i h.stands
              q x home (is_standing k o (with_event s.floor e)) (is_quiet k o (with_event s.floor e)) active
              (λ m a. let g = named m a in let other = moved.chosen_other m g in
              let ne : m ≢ i = λ z. other (z ∙ sym of_seat) in (
                ne,
                let before = moved.chosen_before m g in let stand = moved.others_stand m other in
                    some_above (standing monitor.conds m (situation monitor (past ++ e ∷ []))) (λ z. omega arith),
              ))
              others_stand own (λ a. entry (entry_chosen x away a)));
          active = at_update s.world.place i p (λ j y. stage y ≡ active_stage → turn (past ++ e ∷ []) ≡ turn.Owned j)
              (λ a. absurd (omega arith))
              (λ j ne a. absurd (none k o s right owner h i (omega arith) (omega arith) j ne (omega arith)
              (omega arith)));
          known = at_update s.world.place i p (λ j y. stage y ≡ active_stage → s.known j ≡ true → 2 ≤ s.world.unpassed)
              (λ a. absurd (omega arith)) (λ j _. h.known j);
          entered = subst (λ (n : ℕ). FitsEnters (after_floor_in s.world i x home) right n) (sym same)
              (enters.goes_home s.floor.seats s.world right owner h.stands.keeps
              (enters_of past) h.entered i q x home active);
          late = at_update s.world.place i p (λ j y. stage y ≡ ticketed_stage → 1 ≤ ticket y)
              (λ a. absurd (omega arith)) (λ j _. h.late j);
          granted_late = at_update s.world.place i p (λ j y. stage y ≡ due_stage → source y ≡ granted_source
              → 1 ≤ ticket y) (λ a. absurd (omega arith)) (λ j _. h.granted_late j);
          left = at_update s.world.place i p (λ j y. left_at y ≤ left_of s.floor.budget (past ++ e ∷ []) j) enough
              (λ j ne. let l = left_other j ne in let a = h.left j in omega arith);
          outside = at_update s.world.place i p (λ j y. s.floor.seats ≤ j → stage y ≡ outside_stage)
              (λ a. absurd (omega arith)) (λ j _. h.outside j);
        };
      }

  -- the floor comes out to the seat that is due
  comes_out : (q : Source) → i < s.floor.seats → s.world.place i ≡ Due q
      → turn_by (seat_of e) (next_of e) ≡ turn.Owned i → number_of (is_enter e) + used_by q ≡ 1
      → Sound k o (record {
        world = after_floor_out s.world i q;
        known = update s.known i false;
        floor = with_event s.floor e;
      })
  comes_out q near due owns entering =
      let two : stage (s.world.place i) ≡ due_stage = ap stage due in
      let p : Place = Active q in
      let turn_new = counts.turn ∙ owns in
      let enough = subst (λ (y : Place). left_at y ≤ left_of s.floor.budget past i) due (h.left i) in
      let entered = counts.enters in
      record {
        right = right;
        owner = owner;
        is_sound = record {
          legal = legal_after;
          stands = floor_out_keeps_the_right s.floor.seats s.world right owner (turn_number (turn past))
              (is_standing k o s.floor) (is_quiet k o s.floor) i h.stands
              q (turn_number (turn (past ++ e ∷ []))) (is_standing k o (with_event s.floor e))
              (is_quiet k o (with_event s.floor e)) due others_stand;
          active =
              at_update s.world.place i p (λ j y. stage y ≡ active_stage
              → turn (past ++ e ∷ []) ≡ turn.Owned j) (λ _. turn_new)
              (λ j ne a. absurd (none k o s right owner h i (omega arith) (omega arith) j ne (omega arith)
              (omega arith)));
          known = at_update s.world.place i p (λ j y. stage y ≡ active_stage → update s.known i false j ≡ true
              → 2 ≤ s.world.unpassed) (λ _ a. absurd (false_is (sym (update_here s.known i false) ∙ a)))
              (λ j ne a. absurd (none k o s right owner h i (omega arith) (omega arith) j ne (omega arith)
              (omega arith)));
          entered = enters.comes_out s.floor.seats s.world right owner h.stands.keeps (enters_of past) h.entered i q
              (enters_of (past ++ e ∷ [])) due (omega arith);
          late = at_update s.world.place i p (λ j y. stage y ≡ ticketed_stage → 1 ≤ ticket y)
              (λ a. absurd (omega arith)) (λ j _. h.late j);
          granted_late = at_update s.world.place i p (λ j y. stage y ≡ due_stage → source y ≡ granted_source
              → 1 ≤ ticket y) (λ a. absurd (omega arith)) (λ j _. h.granted_late j);
          left = at_update s.world.place i p (λ j y. left_at y ≤ left_of s.floor.budget (past ++ e ∷ []) j)
              (left_own 1 enough) (λ j ne. let l = left_other j ne in let a = h.left j in omega arith);
          outside = at_update s.world.place i p (λ j y. s.floor.seats ≤ j → stage y ≡ outside_stage)
              (λ a. absurd (omega arith)) (λ j _. h.outside j);
        };
      }

-- the event with which the floor comes out is allowed
module _ (k : Rules) (o : Object) (s : State) (right : Whereabouts) (owner : ℕ → ℕ) (h : IsSound k o s right owner)
    (i : ℕ) (near : i < s.floor.seats) where
  turn_due : (q : Source) → s.world.place i ≡ Due q → turn_number (turn s.floor.history) ≡ turn_at i (Due q)
  turn_due q due = grind (arith, nat_tests)

  -- a seat that comes from outside is at the door
  at_door : (q : Source) → s.world.place i ≡ Due q → turn_at i (Due q) ≡ open_turn → comes_from_queue q ≡ false
      → IsAtDoor (monitor_of k o s.floor) s.floor.history i
  at_door q due opens outer =
      let two : stage (s.world.place i) ≡ due_stage = ap stage due in
      let m = monitor_of k o s.floor in
      let t = situation m s.floor.history in
      let no : is_standing k o s.floor i ≡ false = grind (arith, nat_tests) in
      record {
        seat = near;
        free = open_is (turn s.floor.history) (turn_due q due ∙ opens);
        outside = outside_is (is_inside i s.floor.history)
            (sym (none_below (standing m.conds i t) no) ∙ legal_placed m s.floor.history h.legal i);
      }

  pub sound_out : (q : Source) → s.world.place i ≡ Due q
      → Sound k o (record {
        world = after_floor_out s.world i q;
        known = update s.known i false;
        floor =
            with_event s.floor (out_event i q (turn s.floor.history));
      })
  sound_out (Free t) due =
      let two : stage (s.world.place i) ≡ due_stage = ap stage due in
      let one : source (s.world.place i) ≡ free_source = ap source due in
      let quiet = quiet_is k o s.floor (h.stands.fits_queues.still_free i two one) in
      comes_out k o s right owner h i (Enter i via.Free) refl
      ((enters_free (monitor_of k o s.floor) s.floor.history i).1 (at_door (Free t) due refl refl, quiet)) (Free t)
      near due refl refl
  sound_out (Granted t) due =
      let two : stage (s.world.place i) ≡ due_stage = ap stage due in
      let by_ticket : source (s.world.place i) ≡ granted_source = ap source due in
      let same : ticket (s.world.place i) ≡ t = ap ticket due in
      let late = h.granted_late i two by_ticket in
      let r = h.stands.keeps in
      let sum = r.tickets.in_use i two (omega arith) in
      let used : enters_of s.floor.history + s.world.unpassed ≡ s.world.drawn + 0 = grind (arith, nat_tests) in
      let begun : s.floor.history ≢ [] = grind (arith, nat_tests, enters_none) in
      comes_out k o s right owner h i (Enter i via.Handed) refl
      ((enters_handed (monitor_of k o s.floor) s.floor.history i).1 (at_door (Granted t) due refl refl, begun))
      (Granted t) near due refl refl
  sound_out Called due =
      let d = due_is (turn s.floor.history) i (turn_due Called due) in
      let is : turn s.floor.history ≡ turn.Due i (queue_due (turn s.floor.history)) = grind (arith, nat_tests) in
      comes_out k o s right owner h i (Resume i (queue_due (turn s.floor.history))) refl
      ((resumes (monitor_of k o s.floor) s.floor.history i (queue_due (turn s.floor.history))).1
      (record { seat = near; due = is })) Called near due refl refl
