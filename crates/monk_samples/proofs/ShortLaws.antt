-- How many events a seat must have left for its next call
use Rattle.std.proofs.Common.{◌≡◌, ℕ, ◌<◌, ◌≤◌, false, Option, Some, List, arith}
use Rattle.monk_kinds.specs.declared.mode.Rules.{Rules}
use Rattle.monk_object.specs.Object.{Object}
use Rattle.monk_history.specs.{Meaning.Monitor.data_of, declared.event.Event.Event}
use Rattle.monk_floor.specs.View.{monitor_of}
use Rattle.monk_hall.specs.{Layout.floor_of, Tokens.Holder, declared.setting.Setting.Setting}
use Rattle.monk_samples.specs.Styles.{IsShort, needed_first}
use Rattle.monk_samples.specs.Visits.{Guard, WayOut, calls_out, needed_yet}
use Rattle.std.proofs.lemmas.Bool.Decides.{nat_tests}

pub less_than : (a b c : ℕ) → a < b → b ≤ c → a < c
less_than a b c l m = omega arith

module _ (k : Rules) (o : Object) where
  -- too few for one seat is too few for the same seat
  pub short_yet : (w : Option Guard) (c d : Setting) (s t : ℕ) (h g : List Event) → c ≡ d → s ≡ t → h ≡ g
      → IsShort c s h (needed_yet k o c w h) → IsShort d t g (needed_yet k o d w g)
  short_yet w c d s t h g same_setting same_seat same short = grind (arith, nat_tests)

  pub short_out : (ways : List Event → WayOut) (c d : Setting) (s t : ℕ) (h g now : List Event) → c ≡ d → s ≡ t
      → h ≡ g → h ≡ now
      → IsShort c s h (needed_first (calls_out k s (ways h))) → IsShort d t g (needed_first (calls_out k t (ways now)))
  short_out ways c d s t h g now same_setting same_seat same here short = grind (arith, nat_tests)

  -- a seat that has yet to act needs at least two events, and three while the predicate is false
  pub needs_two : (c : Setting) (w : Option Guard) (h : List Event) → 2 ≤ needed_yet k o c w h
  needs_two c w h = grind (arith, nat_tests)

  pub still_pauses : (a : Holder) (w : Guard) → a.floor ≡ floor_of a.me.setting a.floor.history
      → o.holds (data_of (monitor_of k o a.floor) a.floor.history) w.pred ≡ false
      → 3 ≤ needed_yet k o a.me.setting (Some w) a.floor.history
  still_pauses a w floor not_yet = grind (arith, nat_tests)
