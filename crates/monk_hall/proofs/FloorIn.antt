-- The active seat takes the floor home
use Rattle.std.proofs.Common.{◌≡◌, ◌≢◌, ℕ, ◌+◌, ◌<◌, ◌≤◌, cond, Bool, false, List, [], ◌∷◌, ◌++◌, length, set, sym}
use Rattle.std.proofs.Common.{refl, ap, ◌∙◌, subst, arith, append-nil, append_assoc, length-append}
use Rattle.std.proofs.{Common.length-set, lemmas.Bool.Decides.eqb_tells, lemmas.Bool.Decides.nat_tests}
use Rattle.std.specs.{List.last_or, Prelude.Option, Prelude.Some, Prelude.None}
use mathlib.Core.Option as maybe
use mathlib.Core.Path.{Path}
use lib.ListN.{get_elem?}
use Rattle.atomic_table.specs.Table as table
use Rattle.atomic_table.proofs.Lists.{set_here}
use Rattle.monk_kinds.specs.{Kind.IsKind, declared.mode.Rules.Rules}
use Rattle.monk_object.specs.Object.{Object}
use Rattle.monk_history.proofs.PublicLaws.Meaning.{granted_of-push}
use Rattle.monk_history.specs.Meaning.{Events.seat_of, Events.next_of, Legal.IsLegal, Turn.turn, Turn.turn_by}
use Rattle.monk_history.specs.Meaning.Counts.{events_of, granted_of, grants, chooses_seat, left_of}
use Rattle.monk_history.specs.Meaning.Release.{MayCall, with_next, choice_of}
use Rattle.monk_history.specs.declared.event.{Event.Event, Next.Next, Turn.TheVariants.Owned}
use Rattle.monk_world.specs.declared.answer.Answer.TheVariants as answer
use Rattle.monk_world.proofs.PublicLaws.{held, at_update, update_here, names_chosen}
use Rattle.monk_world.specs.{Kept.IsKept, Update.update, Sound.left_within, StepTable.IsStep, StepTable.out_event}
use Rattle.monk_world.specs.{Steps.after_floor_in, World.World, Places.stage, Places.back_turn, Places.due_to}
use Rattle.monk_world.specs.{Places.turn_of_next, Places.due_stage, Places.active_stage, Places.back_stage}
use Rattle.monk_world.specs.{Places.passing_stage, declared.place.Place.Place, declared.place.Place.TheVariants.Active}
use Rattle.monk_world.specs.{declared.place.Place.TheVariants.Back, declared.source.Source.Source}
use Rattle.monk_world.specs.State.{State, with_event}
use Rattle.monk_floor.specs.View.{FloorView, monitor_of, stands_of}
use Rattle.monk_hall.proofs.Frame as frame
use Rattle.monk_hall.proofs.Private as private
use Rattle.monk_hall.proofs.Releasing as releasing
use Rattle.monk_hall.proofs.Seats as seats
use Rattle.monk_hall.proofs.Standing as standing
use Rattle.monk_hall.proofs.Stepping as stepping
use Rattle.monk_hall.specs.{Floors.StartsWith, Floors.ArePrivate, Laws.BringsHome, Layout.floor_of, Layout.shown_state}
use Rattle.monk_hall.specs.{Layout.shown_world, Records.View, Rule.IsHall, Rule.AreTold, Rule.CountsCalls}
use Rattle.monk_hall.specs.{Tells.Returns, Changes.record_after_floor_in, Changes.source_from, Changes.back_after}
use Rattle.monk_hall.specs.declared.{record.SeatRecord.SeatRecord, setting.Setting.Setting}

last_more : (o : Option Event) (es : List Event) (e : Event) → last_or o (es ++ e ∷ []) ≡ Some e
last_more o [] e = refl
last_more o (x ∷ xs) e = last_more (Some x) xs e

starts_on : (h g f : List Event) → StartsWith h g → StartsWith g f → StartsWith h f
starts_on h g f a b = (b.0 ++ a.0, a.1 ∙ ap (λ (x : List Event). x ++ a.0) b.1 ∙ append_assoc f b.0 a.0)

-- a choice that names a seat chose it, and no other choice does
chosen_counts : (h : List Event) (e : Event) (x : Next) (m : ℕ) → next_of e ≡ Some x → turn_of_next x ≡ due_to m
    → granted_of (h ++ e ∷ []) m ≡ granted_of h m + 1
chosen_counts h e x m chose names_m = grind (arith, nat_tests, granted_of-push, names_chosen)

names_not : (x : Next) (m : ℕ) → turn_of_next x ≢ due_to m → chooses_seat m (Some x) ≡ false
names_not x m ne = grind (arith, nat_tests)

not_counts : (h : List Event) (e : Event) (x : Next) (m : ℕ) → next_of e ≡ Some x → turn_of_next x ≢ due_to m
    → granted_of (h ++ e ∷ []) m ≡ granted_of h m
not_counts h e x m chose ne = grind (arith, nat_tests, granted_of-push, names_not)

-- an event that keeps the turn has chosen nobody
keeps_names : (i m : ℕ) (e : Event) → turn_by (seat_of e) (next_of e) ≡ Owned i → grants m e ≡ false
keeps_names i m e own = grind (arith, nat_tests)

own_counts : (i m : ℕ) (h es : List Event) → ArePrivate i es → granted_of (h ++ es) m ≡ granted_of h m
own_counts i m h [] own = ap (λ (g : List Event). granted_of g m) (append-nil h)
own_counts i m h (e ∷ es) own =
    ap (λ (g : List Event). granted_of g m) (sym (append_assoc h (e ∷ []) es))
    ∙ own_counts i m (h ++ e ∷ []) es own.1
    ∙ granted_of-push h e m ∙ ap (λ (b : Bool). granted_of h m + cond b 1 0) (keeps_names i m e own.0.keeps)
    ∙ (let z : granted_of h m + 0 ≡ granted_of h m = omega arith in z)

out_counts : (h : List Event) (i m : ℕ) (q : Source) → granted_of (h ++ out_event i q (turn h) ∷ []) m ≡ granted_of h m
out_counts h i m q = grind (arith, nat_tests, granted_of-push)

-- only a seat that has taken the floor back has chosen
chosen_low : (p : Place) (m : ℕ) → back_turn p ≡ due_to m → stage p ≡ back_stage
chosen_low p m e = grind (arith, nat_tests)

module _ (k : Rules) (o : Object) (c : Setting) (kind : IsKind k) (s : table.State (Option FloorView) View)
    (h : IsHall k o c s) (id : ℕ) (r : SeatRecord) (here : get_elem? s.views id ≡ maybe.some (r ∷ []))
    (active : stage r.place ≡ active_stage) (f : FloorView) (ret : Returns k o r f) where
  abbrev q : Source
  q = source_from r.place

  abbrev past : List Event
  past = h.2.past

  abbrev before : List Event
  before = ret.before.history

  abbrev last : Event
  last = with_next ret.choice ret.call

  abbrev w : SeatRecord
  w = record_after_floor_in r f.history

  at_active : (h.0 r.seat).place ≡ Active q
  at_active = stepping.stands_at k o c kind s h id r here (Active q) (standing.active_at r.place active)

  pub seen_past : r.seen ≡ past
  seen_past = sym (ap (λ (y : SeatRecord). y.seen) (stepping.is k o c kind s h id r here))
      ∙ (h.2.told.lent r.seat q at_active).0

  history_is : h.2.history ≡ past ++ out_event r.seat q (turn past) ∷ []
  history_is = (h.2.told.lent r.seat q at_active).1

  -- the history before the release is the shown one and the seat's own events
  goes_is : before ≡ h.2.history ++ ret.goes_on.since
  goes_is = ret.goes_on.goes ∙ ap (λ (g : List Event). (g ++ out_event r.seat q (turn g) ∷ []) ++ ret.goes_on.since)
      seen_past ∙ ap (λ (g : List Event). g ++ ret.goes_on.since) (sym history_is)

  before_is : ret.before ≡ floor_of c before
  before_is = ret.goes_on.is_floor ∙ ap (λ (y : Setting). floor_of y before) (stepping.setting k o c kind s h id r here)

  grown_is : f ≡ floor_of c (before ++ last ∷ [])
  grown_is = ret.grows ∙ ap (λ (g : FloorView). with_event g last) before_is

  f_history : f.history ≡ before ++ last ∷ []
  f_history = ap (λ (g : FloorView). g.history) grown_is

  mine_long : events_of before r.seat ≡ events_of h.2.history r.seat ++ ret.goes_on.since
  mine_long = ap (λ (g : List Event). events_of g r.seat) goes_is
      ∙ private.own_more r.seat h.2.history ret.goes_on.since ret.goes_on.own

  legal_before : IsLegal (monitor_of k o (floor_of c before)) before
  legal_before = subst (λ (g : FloorView). IsLegal (monitor_of k o g) before) before_is ret.goes_on.legal

  kept_before : IsKept k o c.seats c.conds (shown_state c s.words h.0 before)
  kept_before =
      let long = ap length mine_long ∙ length-append (events_of h.2.history r.seat) ret.goes_on.since in
      let room : left_of ret.before.budget before r.seat ≡ left_of c.budget before r.seat =
      ap (λ (g : FloorView). left_of g.budget before r.seat) before_is in
      let some = ret.left in
      subst (λ (g : List Event). IsKept k o c.seats c.conds (shown_state c s.words h.0 g)) (sym goes_is)
      (private.more_kept k o (stepping.state k o c kind s h id r here) c.seats c.conds r.seat q ret.goes_on.since
      h.2.kept (stepping.near k o c kind s h id r here) at_active ret.goes_on.own
      (subst (IsLegal (monitor_of k o (floor_of c before))) goes_is legal_before) (omega arith))

  abbrev old : State
  old = shown_state c s.words h.0 before

  taken : releasing.IsTaken k o old c.seats c.conds r.seat q kind kept_before (stepping.near k o c kind s h id r here)
      at_active ret.to ret.wish ret.choice ret.call
  taken =
      releasing.release_kept k o old c.seats c.conds r.seat q kind kept_before (stepping.near k o c kind s h id r here)
      at_active ret.to ret.call ret.wish ret.choice ret.release
      (subst (λ (g : FloorView). MayCall (monitor_of k o g) before ret.call) before_is ret.may)
      (subst (λ (g : FloorView). left_within ret.to < left_of g.budget before r.seat) before_is ret.left)
      (ret.chosen ∙ ap (λ (g : FloorView). choice_of k o (stands_of k o g) ret.call r.known ret.wish) before_is
      ∙ ap (λ (y : SeatRecord). choice_of k o (stands_of k o (floor_of c before)) ret.call y.known ret.wish)
      (sym (stepping.is k o c kind s h id r here)))
      ret.away

  kept_after : IsKept k o c.seats c.conds
      (record old {
        world = after_floor_in old.world r.seat ret.choice ret.to;
        floor =
            with_event (floor_of c before) last;
      })
  kept_after = taken.is_kept

  -- where the seat is now
  pub back_is : w.place ≡ Back ret.choice ret.to
  back_is = ap (λ (g : List Event). back_after (last_or None g)) f_history ∙ ap back_after (last_more None before last)
      ∙ releasing.back_is r.seat ret.to ret.call ret.choice ret.release

  same : Path State (record old {
    world = after_floor_in old.world r.seat ret.choice ret.to;
    floor =
        with_event (floor_of c before) last;
  }) (shown_state c s.words (update h.0 r.seat w) f.history)
  same = λ z. record {
    world = record old.world {
      place = (ap (update old.world.place r.seat) (sym back_is) ∙ stepping.places_after k o c kind s h id r here w) z;
      count = stepping.counts_stay k o c kind s h id r here w refl z;
    };
    known = stepping.known_stays k o c kind s h id r here w refl z;
    floor = floor_of c (sym f_history z);
  }

  -- nobody else has the right
  alone : (j : ℕ) → j ≢ r.seat → due_stage ≤ stage (h.0 j).place → stage (h.0 j).place ≤ passing_stage → ⊥
  alone j ne low high = grind (arith, nat_tests, at_active, held)

  -- how often each seat was chosen, by the history that comes home
  before_counts : (m : ℕ) → granted_of before m ≡ granted_of past m
  before_counts m =
      ap (λ (g : List Event). granted_of g m) goes_is
      ∙ own_counts r.seat m h.2.history ret.goes_on.since ret.goes_on.own
      ∙ ap (λ (g : List Event). granted_of g m) history_is
      ∙ out_counts past r.seat m q

  nobody_chose : (j m : ℕ) → back_turn (h.0 j).place ≢ due_to m
  nobody_chose j m = grind (arith, nat_tests, chosen_low, eqb_tells, at_active, alone)

  chose_is : next_of last ≡ Some ret.choice
  chose_is = (releasing.said r.seat ret.to ret.call ret.choice ret.release).chose

  calls_after : CountsCalls (shown_world s.words (update h.0 r.seat w)) f.history
  calls_after =
      let at = h.0 in
      let world : World = shown_world s.words at in
      let settled : (m : ℕ) → granted_of before m ≡ world.seat_place m = λ m. before_counts m
      ∙ h.2.told.calls.settled m (λ j. nobody_chose j m) in
      record {
        choosing =
            λ j m. at_update at r.seat w (λ n x. back_turn x.place ≡ due_to m
            → granted_of f.history m ≡ world.seat_place m + 1)
            (λ e. ap (λ (g : List Event). granted_of g m) f_history
            ∙ chosen_counts before last ret.choice m chose_is (sym (ap back_turn back_is) ∙ e)
            ∙ ap (λ (n : ℕ). n + 1) (settled m))
            (λ n _ e. absurd (nobody_chose n m e)) j;
        settled = λ m none.
            ap (λ (g : List Event). granted_of g m) f_history
            ∙ not_counts before last ret.choice m chose_is
            (λ e. none r.seat (ap (λ (y : SeatRecord). back_turn y.place) (update_here at r.seat w)
            ∙ ap back_turn back_is ∙ e)) ∙ settled m;
      }

  past_starts : StartsWith f.history past
  past_starts = (
    out_event r.seat q (turn past) ∷ (ret.goes_on.since ++ last ∷ []),
    f_history ∙ ap (λ (g : List Event). g ++ last ∷ []) goes_is
        ∙ ap (λ (g : List Event). (g ++ ret.goes_on.since) ++ last ∷ []) history_is
        ∙ append_assoc (past ++ out_event r.seat q (turn past) ∷ []) ret.goes_on.since (last ∷ [])
        ∙ append_assoc past (out_event r.seat q (turn past) ∷ []) (ret.goes_on.since ++ last ∷ []),
  )

  others_mine : (j : ℕ) → j ≢ r.seat → events_of f.history j ≡ (h.0 j).mine
  others_mine j ne =
      ap (λ (g : List Event). events_of g j) f_history
      ∙ frame.other_event before last j
      (λ e. ne (sym e ∙ (releasing.said r.seat ret.to ret.call ret.choice ret.release).seat))
      ∙ ap (λ (g : List Event). events_of g j) goes_is
      ∙ private.others_same r.seat j ne h.2.history ret.goes_on.since ret.goes_on.own
      ∙ ap (λ (g : List Event). events_of g j) history_is
      ∙ frame.other_event past (out_event r.seat q (turn past)) j (λ e. ne (sym e ∙ frame.out_seat r.seat q past))
      ∙ h.2.told.mine j

  told_after : AreTold k o c (set s.homes 0 (maybe.some (Some f))) (update h.0 r.seat w)
      (shown_world s.words (update h.0 r.seat w)) f.history f.history
  told_after =
      let at = h.0 in
      let told = h.2.told in
      let four : stage w.place ≡ back_stage = ap stage back_is in
      record {
        one_slot = length-set s.homes 0 (maybe.some (Some f)) ∙ told.one_slot;
        legal = (subst (IsKept k o c.seats c.conds) same kept_after).sound.is_sound.legal;
        starts = at_update at r.seat w (λ j x. StartsWith f.history x.seen) (frame.starts_self f.history)
            (λ j _. starts_on f.history past (at j).seen past_starts (told.starts j));
        mine = at_update at r.seat w (λ j x. events_of f.history j ≡ x.mine) refl (λ j ne. others_mine j ne);
        own = at_update at r.seat w (λ j x. events_of x.seen j ≡ x.mine) refl (λ j _. told.own j);
        back = at_update at r.seat w (λ j x. stage x.place ≡ back_stage → x.seen ≡ f.history) (λ _. refl)
            (λ j ne e. absurd (alone j ne (omega arith) (omega arith)));
        lent = at_update at r.seat w
            (λ j x. (p : Source) → x.place ≡ Active p
            → (x.seen ≡ f.history) × (f.history ≡ f.history ++ out_event j p (turn f.history) ∷ [])
            × (get_elem? (set s.homes 0 (maybe.some (Some f))) 0 ≡ maybe.some maybe.none))
            (λ p e. absurd (let z = ap stage e in omega arith))
            (λ j ne p e. absurd (let z = ap stage e in alone j ne (omega arith) (omega arith)));
        home = λ none. (
          refl,
          set_here s.homes 0 (maybe.some (Some f)) (let z = told.one_slot in omega arith)
              ∙ ap (λ (g : FloorView). maybe.some (maybe.some (Some g))) (grown_is ∙ ap (floor_of c) (sym f_history)),
        );
        calls = calls_after;
      }

  pub gives_at : BringsHome k o c s h r f ret
      (record { words = s.words; homes = set s.homes 0 (maybe.some (Some f)); views = set s.views id (w ∷ []) })
  gives_at = record {
    hall = (
      update h.0 r.seat w,
      seats.shown_set c s.views h.0 h.1 id r here w refl refl,
      record {
        past = f.history;
        history = f.history;
        some_seat = h.2.some_seat;
        wide = h.2.wide;
        kept = subst (IsKept k o c.seats c.conds) same kept_after;
        told = told_after;
      },
    );
    home = refl;
    since = ret.goes_on.since;
    own = ret.goes_on.own;
    legal = subst (λ (g : List Event). IsLegal (monitor_of k o (floor_of c g)) g) goes_is legal_before;
    command = taken.command;
    choice = ret.choice;
    away = ret.away;
    step = subst (λ (g : List Event). IsStep k o (shown_state c s.words h.0 g) r.seat taken.command
        (answer.Chose ret.choice) (shown_state c s.words (update h.0 r.seat w) f.history)) goes_is
        (subst (λ (t : State). IsStep k o old r.seat taken.command (answer.Chose ret.choice) t) same taken.step);
    before = before_is ∙ ap (floor_of c) goes_is;
    call = taken.call;
    wish = taken.is_wish;
    chosen = refl;
  }
