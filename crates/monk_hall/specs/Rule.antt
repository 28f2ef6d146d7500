-- The rule that every step of the table keeps
use Rattle.std.specs.Prelude.{◌≡◌, ◌≢◌, ℕ, ◌+◌, ◌<◌, List, [], ◌∷◌, ◌++◌, length, Option, Some}
use mathlib.Core.Option.{none, some}
use mathlib.Core.Option as maybe
use lib.ListN.{get_elem?}
use Rattle.atomic_table.specs.Table as table
use Rattle.monk_kinds.specs.declared.mode.Rules.{Rules}
use Rattle.monk_object.specs.Object.{Object}
use Rattle.monk_history.specs.Meaning.{Counts.events_of, Counts.granted_of, Legal.IsLegal, Turn.turn}
use Rattle.monk_history.specs.declared.event.Event.{Event}
use Rattle.monk_floor.specs.View.{FloorView, monitor_of}
use Rattle.monk_world.specs.{Kept.IsKept, StepTable.out_event, World.World}
use Rattle.monk_world.specs.Places.{stage, back_turn, due_to, active_stage, back_stage}
use Rattle.monk_world.specs.declared.{place.Place.TheVariants.Active, source.Source.Source}
use Rattle.monk_hall.specs.{Floors.StartsWith, declared.record.SeatRecord.SeatRecord, declared.setting.Setting.Setting}
use Rattle.monk_hall.specs.Records.{View, In, Distinct}
use Rattle.monk_hall.specs.Layout.{word_count, shown_world, floor_of, shown_state}

-- a setting by its parts
abbrev pub setting_of : List ℕ → ℕ → ℕ → ℕ → Setting
setting_of opening seats conds budget = record { opening = opening; seats = seats; conds = conds; budget = budget }

-- `at j` is the record of seat j, which is in view number `desk j`
pub record AreShown (c : Setting) (views : List View) (at : ℕ → SeatRecord) : Type 0 where
  pub desk : ℕ → ℕ
  pub each : (id : ℕ) (v : View) → get_elem? views id ≡ some v → (r : SeatRecord) → In r v
      → (at r.seat ≡ r) × (desk r.seat ≡ id) × (r.seat < c.seats)
  pub apart : (id : ℕ) (v : View) → get_elem? views id ≡ some v → Distinct v
  pub there : (j : ℕ) → j < c.seats → (v : View) × (get_elem? views (desk j) ≡ some v) × In (at j) v
  pub settings : (j : ℕ) → (at j).setting ≡ c
  pub seats : (j : ℕ) → (at j).seat ≡ j

-- a seat's place counts the events that chose it, without a choice that is not yet handed on
pub record CountsCalls (w : World) (h : List Event) : Type 0 where
  pub choosing : (j m : ℕ) → back_turn (w.place j) ≡ due_to m → granted_of h m ≡ w.seat_place m + 1
  pub settled : (m : ℕ) → ((j : ℕ) → back_turn (w.place j) ≢ due_to m) → granted_of h m ≡ w.seat_place m

-- what is in the slots of a hall's table
abbrev pub Homes : Type 0
Homes = List (maybe.Option (Option FloorView))

-- what each seat knows of the history. `past` is that of the floor at home or, while a seat is active, the one that
-- it found. Then `history` has also the event with which it came in
pub record AreTold (k : Rules) (o : Object) (c : Setting) (homes : Homes) (at : ℕ → SeatRecord) (w : World)
    (past history : List Event) : Type 0 where
  pub one_slot : length homes ≡ 1
  pub legal : IsLegal (monitor_of k o (floor_of c past)) past
  pub starts : (j : ℕ) → StartsWith past (at j).seen
  pub mine : (j : ℕ) → events_of past j ≡ (at j).mine
  pub own : (j : ℕ) → events_of (at j).seen j ≡ (at j).mine
  pub back : (j : ℕ) → stage (at j).place ≡ back_stage → (at j).seen ≡ past
  pub lent : (j : ℕ) (q : Source) → (at j).place ≡ Active q
      → ((at j).seen ≡ past) × (history ≡ past ++ out_event j q (turn past) ∷ []) × (get_elem? homes 0 ≡ some none)
  pub home : ((j : ℕ) → stage (at j).place ≢ active_stage)
      → (history ≡ past) × (get_elem? homes 0 ≡ some (some (Some (floor_of c past))))
  pub calls : CountsCalls w past

-- the words and the records show a world that is kept as every world is: its history is legal, and the right to be
-- active is in one place
pub record IsKeptHall (k : Rules) (o : Object) (c : Setting) (words : List ℕ) (homes : Homes)
    (at : ℕ → SeatRecord) : Type 0 where
  pub past : List Event
  pub history : List Event
  pub some_seat : 0 < c.seats
  pub wide : length words ≡ word_count c.seats
  pub kept : IsKept k o c.seats c.conds (shown_state c words at history)
  pub told : AreTold k o c homes at (shown_world words at) past history

-- the state of the table is that of a hall
abbrev pub IsHall : Rules → Object → Setting → table.State (Option FloorView) View → Type 0
IsHall k o c s = (at : ℕ → SeatRecord) × AreShown c s.views at × IsKeptHall k o c s.words s.homes at
