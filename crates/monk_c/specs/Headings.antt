-- The header of a hall's history
use Rattle.std.specs.Prelude.{◌≡◌, ◌≤◌, ℕ, max, List, IsTrue}
use Rattle.monk_kinds.specs.declared.name.KindName.{KindName}
use Rattle.monk_object.specs.{Names.opening_named, declared.name.ObjectName.TheVariants.Flags}
use Rattle.monk_history.specs.declared.event.Event.{Event}
use Rattle.monk_history.specs.Text.{Heading, heading, is_writable, object_version}
use Rattle.monk_c.specs.Stands.{RoomView}

-- there is no monitor without a flag
abbrev pub flags_made : ℕ → ℕ
flags_made flags = max flags 1

-- the heading of a hall's history
abbrev pub heading_for : KindName → RoomView → Heading
heading_for k r =
    heading (object_version Flags) k r.house.setting.seats r.house.setting.conds Flags (flags_made r.flags)

-- a hall with this number of flags, and its header
pub record IsRoom (k : KindName) (r : RoomView) (h : Heading) : Type 0 where
  pub few : r.flags ≤ 32
  pub opening : r.house.setting.opening ≡ opening_named Flags (flags_made r.flags)
  pub headed : h ≡ heading_for k r
  pub writable : (events : List Event) → IsTrue (is_writable h events)
