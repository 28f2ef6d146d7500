-- A table under the rule, as it is for a seat that is alone in its view
use Rattle.std.proofs.Common.{◌≡◌, ◌≢◌, ℕ, ◌-◌, ◌<◌, ◌≤◌, Bool, List, [], ◌∷◌, length, set, refl, sym, ap, ◌∙◌, subst, arith}
use Rattle.std.specs.Prelude.{Option}
use mathlib.Core.Option as maybe
use mathlib.Core.Path.{Path}
use lib.ListN.{get_elem?}
use Rattle.atomic_table.specs.Table as table
use Rattle.monk_kinds.specs.{Kind.IsKind, declared.mode.Rules.Rules}
use Rattle.monk_object.specs.Object.{Object}
use Rattle.monk_history.specs.Meaning.Counts.{enters_of, left_of}
use Rattle.monk_floor.specs.View.{FloorView}
use Rattle.monk_world.proofs.PublicLaws.{IsReady}
use Rattle.monk_world.specs.{Kept.IsKept, Places.stage, Places.active_stage, Update.update, Sound.IsSound, State.State}
use Rattle.monk_world.specs.{World.World, StepTable.IsDone, StepTable.IsStep}
use Rattle.monk_world.specs.declared.{answer.Answer.Answer, command.Command.Command, place.Place.Place}
use Rattle.monk_hall.proofs.Frame as frame
use Rattle.monk_hall.proofs.Seats as seats
use Rattle.monk_hall.proofs.{Knows.told_moves, Standing.IsApart, Stored.field_update, Stored.field_stays}
use Rattle.monk_hall.specs.{Floors.StartsWith, Laws.Takes, Records.View, Rule.IsHall, Rule.IsKeptHall, Rule.AreTold}
use Rattle.monk_hall.specs.{Rule.CountsCalls, declared.record.SeatRecord.SeatRecord, declared.setting.Setting.Setting}
use Rattle.monk_hall.specs.Layout.{shown_state, shown_world}

module _ (k : Rules) (o : Object) (c : Setting) (kind : IsKind k) (s : table.State (Option FloorView) View)
    (h : IsHall k o c s) (id : ℕ) (r : SeatRecord)
    (here : get_elem? s.views id ≡ maybe.some (r ∷ [])) where
  abbrev pub at : ℕ → SeatRecord
  at = h.0

  abbrev pub kept_hall : IsKeptHall k o c s.words s.homes at
  kept_hall = h.2

  abbrev pub world : World
  world = shown_world s.words at

  abbrev pub state : State
  state = shown_state c s.words at kept_hall.history

  pub is : at r.seat ≡ r
  is = seats.is_at c s.views at h.1 id r here

  pub near : r.seat < c.seats
  near = seats.is_near c s.views at h.1 id r here

  pub setting : r.setting ≡ c
  setting = seats.is_setting c s.views at h.1 id r here

  pub sound : IsSound k o state kept_hall.kept.sound.right kept_hall.kept.sound.owner
  sound = kept_hall.kept.sound.is_sound

  pub stands_at : (p : Place) → r.place ≡ p → world.place r.seat ≡ p
  stands_at p e = ap (λ (y : SeatRecord). y.place) is ∙ e

  -- how many events a seat has left, if it isn't active
  pub left_is : stage r.place ≢ active_stage
      → left_of c.budget kept_hall.history r.seat ≡ r.setting.budget - length r.mine
  left_is not_active =
      let mine = frame.shows_mine k o c s.homes at s.words kept_hall.past kept_hall.history kept_hall.told
      kept_hall.kept.sound.right kept_hall.kept.sound.owner sound.stands.keeps
      r.seat (λ e. not_active (sym (ap (λ (y : SeatRecord). stage y.place) is) ∙ e))
      ∙ ap (λ (y : SeatRecord). y.mine) is in
      let long = ap length mine in
      let budget : r.setting.budget ≡ c.budget = ap (λ (y : Setting). y.budget) setting in
      omega arith

  -- no more enters are seen than tickets are drawn
  pub seen_few : enters_of r.seen ≤ world.drawn
  seen_few =
      let kh = kept_hall in
      let seen =
      frame.starts_enters kh.past r.seen
      (subst (λ (y : SeatRecord). StartsWith kh.past y.seen) is (kh.told.starts r.seat)) in
      let shows = frame.starts_enters kh.history kh.past
      (frame.shows_past k o c s.homes at s.words kh.past kh.history kh.told kh.kept.sound.right kh.kept.sound.owner
      sound.stands.keeps) in
      let entered = frame.entered_few k o state kh.kept.sound.right kh.kept.sound.owner sound in
      omega arith

  -- the shown world takes a step of its definition
  pub record IsTaken (m : Command) (a : Answer) (t : State) : Type 0 where
    pub kept : IsKept k o c.seats c.conds t
    pub step : IsStep k o state r.seat m a t

  pub takes_step : (m : Command) (a : Answer) (t : State) (p : Place) → IsReady k o state r.seat m → r.place ≡ p
      → IsDone k o state r.seat p m a t → IsTaken m a t
  takes_step m a t p ready at_p done = record {
    kept = frame.step_kept k o state r.seat m a t c.seats c.conds p kind kept_hall.kept ready (stands_at p at_p) done;
    step = frame.step_is k o state r.seat m a t p ready (stands_at p at_p) done;
  }

  -- the seat's record has changed as a step of its own that keeps the history may change it
  pub record IsMoved (w : SeatRecord) : Type 0 where
    pub seat : w.seat ≡ r.seat
    pub setting : w.setting ≡ r.setting
    pub seen : w.seen ≡ r.seen
    pub mine : w.mine ≡ r.mine

  pub places_after : (w : SeatRecord)
      → Path (ℕ → Place) (update world.place r.seat w.place) (λ j. (update at r.seat w j).place)
  places_after w = sym (field_update (λ (y : SeatRecord). y.place) at r.seat w)

  pub counts_after : (w : SeatRecord) (n : ℕ) → n ≡ w.count
      → Path (ℕ → ℕ) (update world.count r.seat n) (λ j. (update at r.seat w j).count)
  counts_after w n e = ap (update world.count r.seat) e ∙ sym (field_update (λ (y : SeatRecord). y.count) at r.seat w)

  pub counts_stay : (w : SeatRecord) → w.count ≡ r.count → Path (ℕ → ℕ) world.count (λ j. (update at r.seat w j).count)
  counts_stay w e =
      sym (field_stays (λ (y : SeatRecord). y.count) at r.seat w (ap (λ (y : SeatRecord). y.count) is ∙ sym e))

  pub known_after : (w : SeatRecord) (b : Bool) → b ≡ w.known
      → Path (ℕ → Bool) (update state.known r.seat b) (λ j. (update at r.seat w j).known)
  known_after w b e = ap (update state.known r.seat) e ∙ sym (field_update (λ (y : SeatRecord). y.known) at r.seat w)

  pub known_stays : (w : SeatRecord) → w.known ≡ r.known
      → Path (ℕ → Bool) state.known (λ j. (update at r.seat w j).known)
  known_stays w e =
      sym (field_stays (λ (y : SeatRecord). y.known) at r.seat w (ap (λ (y : SeatRecord). y.known) is ∙ sym e))

  -- the rule holds after a step that doesn't change the history and the floor, and it is a step of the world
  pub holds_after : (w : SeatRecord) (ws : List ℕ) → IsMoved w → length ws ≡ length s.words
      → {m : Command} {a : Answer} {t : State} → IsTaken m a t
      → Path State t (shown_state c ws (update at r.seat w) kept_hall.history)
      → AreTold k o c s.homes (update at r.seat w)
      (shown_world ws (update at r.seat w)) kept_hall.past kept_hall.history
      → Takes k o c s h r.seat m a (record { words = ws; homes = s.homes; views = set s.views id (w ∷ []) })
  holds_after w ws moved wide {m} {a} {t} taken same told = record {
    hall = (
      update at r.seat w,
      seats.shown_set c s.views at h.1 id r here w moved.seat moved.setting,
      record {
        past = kept_hall.past;
        history = kept_hall.history;
        some_seat = kept_hall.some_seat;
        wide = wide ∙ kept_hall.wide;
        kept = subst (IsKept k o c.seats c.conds) same taken.kept;
        told = told;
      },
    );
    home = refl;
    step = subst (λ (z : State). IsStep k o state r.seat m a z) same taken.step;
  }

  -- what the seats know after a step of a seat that has neither the floor nor a choice, before and after
  pub knows_after : (w : SeatRecord) (ws : List ℕ) → IsMoved w
      → CountsCalls (shown_world ws (update at r.seat w)) kept_hall.past → stage r.place ≢ active_stage
      → IsApart w.place
      → AreTold k o c s.homes (update at r.seat w)
      (shown_world ws (update at r.seat w)) kept_hall.past kept_hall.history
  knows_after w ws moved calls was apart =
      told_moves k o c s.homes at world kept_hall.past kept_hall.history kept_hall.told r.seat w
      (moved.seen ∙ ap (λ (y : SeatRecord). y.seen) (sym is))
      (moved.mine ∙ ap (λ (y : SeatRecord). y.mine) (sym is))
      (shown_world ws (update at r.seat w)) calls (λ e. was (sym (ap (λ (y : SeatRecord). stage y.place) is) ∙ e))
      apart.not_active apart.not_back
