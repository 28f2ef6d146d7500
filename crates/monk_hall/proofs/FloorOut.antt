-- The floor comes out to the seat that is due
use Rattle.std.proofs.Common.{◌≡◌, ◌≢◌, ℕ, ◌≤◌, false, List, [], ◌∷◌, ◌++◌, set, sym, refl, ap, ◌∙◌}
use Rattle.std.proofs.{Common.subst, Common.arith, Common.length-set, lemmas.Bool.Decides.nat_tests}
use Rattle.std.specs.Prelude.{Option, Some}
use mathlib.Core.Option as maybe
use mathlib.Core.Path.{Path}
use lib.ListN.{get_elem?}
use Rattle.atomic_table.specs.Table as table
use Rattle.atomic_table.proofs.Lists.{set_here}
use Rattle.monk_kinds.specs.{Kind.IsKind, declared.mode.Rules.Rules}
use Rattle.monk_object.specs.Object.{Object}
use Rattle.monk_history.{specs.Meaning.Counts.events_of, specs.Meaning.Counts.enters_of, specs.Meaning.Turn.turn}
use Rattle.monk_history.{specs.declared.event.Event.Event, proofs.PublicLaws.Meaning.legal_last}
use Rattle.monk_world.specs.declared.answer.Answer.TheVariants as answer
use Rattle.monk_world.specs.declared.command.Command.TheVariants as command
use Rattle.monk_world.proofs.PublicLaws.{IsReady, entered_here, held, at_update, update_here}
use Rattle.monk_world.specs.{Enters.used_at, Kept.IsKept, Update.update, Sound.left_at, State.State, State.with_event}
use Rattle.monk_world.specs.{StepTable.IsStep, StepTable.out_event, Steps.after_floor_out, World.World}
use Rattle.monk_world.specs.declared.source.Source.{Source, TheVariants.Free, TheVariants.Granted}
use Rattle.monk_world.specs.declared.place.Place.{Place, TheVariants.Due, TheVariants.Active}
use Rattle.monk_world.specs.Places.{stage, ticket, source, back_turn, due_stage, active_stage, back_stage}
use Rattle.monk_world.specs.Places.{granted_source}
use Rattle.monk_floor.specs.View.{FloorView, monitor_of}
use Rattle.monk_hall.proofs.Frame as frame
use Rattle.monk_hall.proofs.Seats as seats
use Rattle.monk_hall.proofs.Standing as standing
use Rattle.monk_hall.proofs.Stepping as stepping
use Rattle.monk_hall.proofs.Knows.{calls_stay}
use Rattle.monk_hall.specs.{Floors.StartsWith, Floors.Finds, Laws.Takes, Records.View, Rule.IsHall, Rule.AreTold}
use Rattle.monk_hall.specs.{Changes.record_after_floor_out, Changes.source_from, Layout.floor_of, Layout.shown_state}
use Rattle.monk_hall.specs.{Layout.shown_world, declared.record.SeatRecord.SeatRecord, declared.setting.Setting.Setting}

module _ (k : Rules) (o : Object) (c : Setting) (kind : IsKind k) (s : table.State (Option FloorView) View)
    (h : IsHall k o c s) (id : ℕ) (r : SeatRecord) (here : get_elem? s.views id ≡ maybe.some (r ∷ []))
    (due : stage r.place ≡ due_stage) where
  abbrev past : List Event
  past = h.2.past

  abbrev came : Event
  came = out_event r.seat (source_from r.place) (turn past)

  abbrev floor : FloorView
  floor = floor_of c past

  abbrev old : State
  old = shown_state c s.words h.0 past

  abbrev w : SeatRecord
  w = record_after_floor_out r past

  at_due : (h.0 r.seat).place ≡ Due (source_from r.place)
  at_due = stepping.stands_at k o c kind s h id r here (Due (source_from r.place)) (standing.due_at r.place due)

  -- nobody is active, because the seat that is due has the right
  nobody : (j : ℕ) → stage (h.0 j).place ≢ active_stage
  nobody j = grind (arith, nat_tests, at_due, held)

  -- so the floor is at home
  pub at_home : get_elem? s.homes 0 ≡ maybe.some (maybe.some (Some floor))
  at_home = (h.2.told.home nobody).1

  kept_old : IsKept k o c.seats c.conds old
  kept_old =
      subst (λ (g : List Event). IsKept k o c.seats c.conds (shown_state c s.words h.0 g))
      (h.2.told.home nobody).0 h.2.kept

  after : State
  after = record {
    world = after_floor_out old.world r.seat (source_from r.place);
    known = update old.known r.seat false;
    floor = with_event floor came;
  }

  ready : IsReady k o old r.seat command.Out
  ready = grind (arith, nat_tests, at_due)

  kept_after : IsKept k o c.seats c.conds after
  unfolding after
  kept_after = frame.step_kept k o old r.seat command.Out answer.Now after c.seats c.conds (Due (source_from r.place))
      kind kept_old ready at_due (refl, refl)

  step_after : IsStep k o old r.seat command.Out answer.Now after
  unfolding after
  step_after = grind (arith, nat_tests, after, ready, at_due)

  same : Path State after (shown_state c s.words (update h.0 r.seat w) (past ++ came ∷ []))
  unfolding after
  same = λ z. record {
    world = record old.world {
      place = stepping.places_after k o c kind s h id r here w z;
      count =
          stepping.counts_stay k o c kind s h id r here w refl z;
    };
    known = stepping.known_after k o c kind s h id r here w false refl z;
    floor = floor_of c (past ++ came ∷ []);
  }

  told_after : AreTold k o c (set s.homes 0 maybe.none) (update h.0 r.seat w)
      (shown_world s.words (update h.0 r.seat w)) past (past ++ came ∷ [])
  told_after =
      let told = h.2.told in
      let is = stepping.is k o c kind s h id r here in
      let at = h.0 in
      let mine : w.mine ≡ (at r.seat).mine = ap (λ (y : SeatRecord). y.mine) (sym is) in
      let world : World = shown_world s.words at in
      record {
        one_slot = length-set s.homes 0 maybe.none ∙ told.one_slot;
        legal = told.legal;
        starts = at_update at r.seat w (λ j x. StartsWith past x.seen) (frame.starts_self past) (λ j _. told.starts j);
        mine = at_update at r.seat w (λ j x. events_of past j ≡ x.mine) (told.mine r.seat ∙ sym mine)
            (λ j _. told.mine j);
        own = at_update at r.seat w (λ j x. events_of x.seen j ≡ x.mine) (told.mine r.seat ∙ sym mine)
            (λ j _. told.own j);
        back = at_update at r.seat w (λ j x. stage x.place ≡ back_stage → x.seen ≡ past)
            (λ e. absurd (omega arith)) (λ j _. told.back j);
        lent = at_update at r.seat w
            (λ j x. (q : Source) → x.place ≡ Active q
            → (x.seen ≡ past) × (past ++ came ∷ [] ≡ past ++ out_event j q (turn past) ∷ [])
            × (get_elem? (set s.homes 0 maybe.none) 0 ≡ maybe.some maybe.none))
            (λ q e. (
              refl,
              ap (λ (p : Place). past ++ out_event r.seat (source_from p) (turn past) ∷ []) e,
              set_here s.homes 0 maybe.none (let z = told.one_slot in omega arith),
            ))
            (λ j _ q e. absurd (nobody j (ap stage e)));
        home = λ none. absurd (none r.seat (ap (λ (y : SeatRecord). stage y.place) (update_here at r.seat w)));
        calls = calls_stay world (shown_world s.words (update at r.seat w)) past r.seat w.place told.calls
            (sym (stepping.places_after k o c kind s h id r here w)) refl (ap back_turn at_due) refl;
      }

  pub takes_at : Takes k o c s h r.seat command.Out answer.Now
      (record { words = s.words; homes = set s.homes 0 maybe.none; views = set s.views id (w ∷ []) })
  takes_at = record {
    hall = (
      update h.0 r.seat w,
      seats.shown_set c s.views h.0 h.1 id r here w refl refl,
      record {
        past = past;
        history = past ++ came ∷ [];
        some_seat = h.2.some_seat;
        wide = h.2.wide;
        kept = subst (IsKept k o c.seats c.conds) same kept_after;
        told = told_after;
      },
    );
    home = refl;
    step = grind (arith, nat_tests, nobody, same, step_after);
  }

  entered_is : (t : ℕ) (q : Source) → source_from r.place ≡ q → used_at (Due q) ≡ 0 → ticket (Due q) ≡ t
      → source (Due q) ≤ granted_source → enters_of past ≡ t
  entered_is t q q_is unused number outer = grind (arith, nat_tests, at_due, entered_here)

  pub finds : Finds k o r floor
  finds =
      let told = h.2.told in
      let is = stepping.is k o c kind s h id r here in
      let setting = stepping.setting k o c kind s h id r here in
      let sound = kept_old.sound.is_sound in
      let mine : events_of past r.seat ≡ r.mine = told.mine r.seat ∙ ap (λ (y : SeatRecord). y.mine) is in
      record {
        is_floor = ap (λ (y : Setting). floor_of y past) (sym setting);
        near = stepping.near k o c kind s h id r here;
        legal = told.legal;
        starts = subst (λ (y : SeatRecord). StartsWith past y.seen) is (told.starts r.seat);
        mine = mine;
        allowed =
            legal_last (monitor_of k o floor) past came
            (subst (IsKept k o c.seats c.conds) same kept_after).sound.is_sound.legal;
        left = let l = sound.left r.seat in let p = ap left_at at_due in omega arith;
        within = grind (arith, nat_tests);
        first = λ t e. entered_is t (Free t) e refl refl (omega arith);
        next = λ t e. entered_is t (Granted t) e refl refl (omega arith);
      }
