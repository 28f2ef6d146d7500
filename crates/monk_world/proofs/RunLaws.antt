-- What every run leads to
use Rattle.std.proofs.Common.{◌≡◌, ◌≢◌, ℕ, zero, suc, true, ◌≤◌, inl, inr, false, List, [], ◌∷◌, sym, refl, ap, ◌∙◌, subst, arith}
use Rattle.std.proofs.lemmas.Bool.{cases_eq, Decides.nat_tests}
use Rattle.monk_kinds.specs.{Kind.IsKind, declared.mode.Rules.Rules}
use Rattle.monk_object.specs.Object.{Object}
use Rattle.monk_history.specs.declared.event.Next.TheVariants as next
use Rattle.monk_history.proofs.PublicLaws.Meaning.{enters_none, legal_none, situation-none}
use Rattle.monk_history.specs.Meaning.{Step.opening_situation, Turn.turn, Counts.left_of, Counts.enters_of}
use Rattle.monk_history.specs.Meaning.Situation.{Situation, situation}
use Rattle.monk_history.specs.Meaning.Standing.{standing, times_in_conditions}
use Rattle.monk_history.specs.declared.event.Turn.TheVariants.{Open, Owned}
use Rattle.monk_floor.specs.View.{FloorView, monitor_of, empty_floor}
use Rattle.monk_world.proofs.EntersLaws as enters
use Rattle.monk_world.proofs.{OnePlaceLaws.in_one_place, SoundSteps.step_is_sound, StepLaws.opening_stands}
use Rattle.monk_world.proofs.{TestLaws.is_quiet-true}
use Rattle.monk_world.specs.{Enters.used_at, Laws.OpeningIsSound, State.State, State.is_standing, State.is_quiet}
use Rattle.monk_world.specs.{Turns.FitsTurn, Turns.turn_number, Turns.turn_at, Places.stage, Places.ticket}
use Rattle.monk_world.specs.{Places.source, Places.owned_by, Places.due_stage, Places.active_stage, Places.inside_stage}
use Rattle.monk_world.specs.{Places.granted_source, Sound.IsSound, Sound.Sound, Sound.left_at}
use Rattle.monk_world.specs.declared.source.Source.TheVariants.{Free, Granted, Called}
use Rattle.monk_world.specs.declared.place.Place.{Place}
use Rattle.monk_world.specs.declared.place.Place.TheVariants.{Idle, Ticket, Due, Active, Back, Passing, Inner}
use Rattle.monk_world.specs.Right.{Whereabouts, Nowhere, AtTicket, With, AtSeat}
use Rattle.monk_world.specs.Runs.{opening_state, Told, IsRun, IsWellLed, RunsAreWellLed}
use Rattle.monk_world.specs.Stands.{Stands, opening_world}

no_times : (n j : ℕ) → times_in_conditions n j (λ c. []) ≡ 0
no_times zero j = refl
no_times (suc n) j = let e = no_times n j in omega arith

-- with no event there is no queue, and the turn is open
opening_holds : (k : Rules) (o : Object) (f : FloorView) → f.history ≡ []
    → Stands f.seats opening_world Nowhere (λ t. 0) (turn_number (turn f.history)) (is_standing k o f) (is_quiet k o f)
opening_holds k o f e =
    let m = monitor_of k o f in
    let nothing : situation m f.history ≡ opening_situation m = ap (situation m) e ∙ situation-none m in
    let open_turn_is : turn f.history ≡ Open = ap (λ (t : Situation). t.turn) nothing in
    let stands_nowhere : (j : ℕ) → standing m.conds j (situation m f.history) ≡ 0 = λ j. ap (standing m.conds j) nothing
    ∙ (let z = no_times m.conds j in omega arith) in
    let quiet : is_quiet k o f ≡ true = grind (arith, nat_tests, is_quiet-true) in
    let nobody : (λ (j : ℕ). false) ≡ is_standing k o f = grind (arith, nat_tests) in
    grind (arith, nat_tests, opening_stands)

pub opening_is_sound : OpeningIsSound
opening_is_sound k o opening seats conds budget = record {
  right = Nowhere;
  owner = λ t. 0;
  is_sound = record {
    legal = legal_none (monitor_of k o (empty_floor opening seats conds budget));
    stands = opening_holds k o (empty_floor opening seats conds budget) refl;
    active = λ j a. absurd (omega arith);
    known = λ j a. absurd (omega arith);
    entered = let n = enters_none in omega arith;
    late = λ j a. absurd (omega arith);
    granted_late = λ j a. absurd (omega arith);
    left = λ j. omega arith;
    outside = λ j _. refl;
  };
}

pub run_is_sound : (k : Rules) (o : Object) (s : State) (told : List Told) (t : State) → IsKind k → Sound k o s
    → IsRun k o s told t → Sound k o t
run_is_sound k o s [] t kind h run = subst (Sound k o) (sym run) h
run_is_sound k o s (x ∷ xs) t kind h run =
    run_is_sound k o run.0 xs t kind (step_is_sound k o s x.seat x.command x.answer run.0 kind h run.1) run.2

inner_left : (p : Place) (n : ℕ) → stage p ≡ inside_stage → left_at p ≤ n → 2 ≤ n
inner_left Idle n six a = absurd (omega arith)
inner_left (Ticket t) n six a = absurd (omega arith)
inner_left (Due q) n six a = absurd (omega arith)
inner_left (Active q) n six a = absurd (omega arith)
inner_left (Back x home) n six a = absurd (omega arith)
inner_left (Passing t home) n six a = absurd (omega arith)
inner_left Inner n six a = a

-- a seat that is not active owns no turn
not_owned : (j m : ℕ) (p : Place) → turn_at j p ≢ owned_by m
not_owned j m Idle e = absurd (omega arith)
not_owned j m (Ticket t) e = absurd (omega arith)
not_owned j m (Due (Free t)) e = absurd (omega arith)
not_owned j m (Due (Granted t)) e = absurd (omega arith)
not_owned j m (Due Called) e = absurd (omega arith)
not_owned j m (Active q) e = absurd (omega arith)
not_owned j m (Back next.Stay home) e = absurd (omega arith)
not_owned j m (Back next.Entry home) e = absurd (omega arith)
not_owned j m (Back (next.Waiter i) home) e = absurd (omega arith)
not_owned j m (Back (next.Signaller i) home) e = absurd (omega arith)
not_owned j m (Back (next.Until i) home) e = absurd (omega arith)
not_owned j m (Passing t home) e = absurd (omega arith)
not_owned j m Inner e = absurd (omega arith)

module _ (k : Rules) (o : Object) (s : State) (right : Whereabouts) (owner : ℕ → ℕ)
    (h : IsSound k o s right owner) where
  -- the seat that owns the turn is active
  owner_stands : (j : ℕ) → turn s.floor.history ≡ Owned j → stage (s.world.place j) ≡ active_stage
  owner_stands j own = by right h.stands.fits_turn
    where
      number : turn_number (turn s.floor.history) ≡ owned_by j
      number = ap turn_number own

      by : (x : Whereabouts) → FitsTurn s.world x (turn_number (turn s.floor.history))
          → stage (s.world.place j) ≡ active_stage
      by Nowhere f = absurd (let n = number in omega arith)
      by (AtTicket t) f = absurd (let n = number in omega arith)
      by (With m) f = elim (cases_eq (stage (s.world.place m)) active_stage) [
        | inl three ↦ grind (arith, nat_tests)
        | inr ne ↦ absurd (not_owned m j (s.world.place m) (sym (f ne) ∙ number))
      ]
      by (AtSeat m) f = absurd (let n = number in omega arith)

  entered_is : (j t : ℕ) (p : Place) → s.world.place j ≡ p → stage p ≡ due_stage → ticket p ≡ t → used_at p ≡ 0
      → source p ≤ granted_source → enters_of s.floor.history ≡ t
  entered_is j t p at two same unused by_ticket =
      let stage_is : stage (s.world.place j) ≡ due_stage = ap stage at ∙ two in
      let source_is : source (s.world.place j) ≡ source p = ap source at in
      let ticket_is : ticket (s.world.place j) ≡ t = ap ticket at ∙ same in
      let sum = h.stands.keeps.tickets.in_use j stage_is (omega arith) in
      let e = enters.entered_here s.floor.seats s.world right owner h.stands.keeps (enters_of s.floor.history) h.entered
      j p at (omega arith) (omega arith) in
      omega arith

  pub well_led : IsWellLed k o s
  well_led = record {
    legal = h.legal;
    in_one_place = in_one_place s.floor.seats s.world right owner h.stands.keeps;
    active = λ j. (h.active j, owner_stands j);
    queued = h.stands.fits_queues.in_queue;
    enters_first = λ j t at. entered_is j t (Due (Free t)) at refl refl refl (omega arith);
    enters_next = λ j t at. entered_is j t (Due (Granted t)) at refl refl refl (omega arith);
    left = λ j six. inner_left (s.world.place j) (left_of s.floor.budget s.floor.history j) six (h.left j);
  }

pub runs_are_well_led : RunsAreWellLed
runs_are_well_led k o opening seats conds budget told s kind run =
    let h = run_is_sound k o (opening_state opening seats conds budget) told s kind
    (opening_is_sound k o opening seats conds budget) run in
    well_led k o s h.right h.owner h.is_sound
