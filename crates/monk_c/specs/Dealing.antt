-- A new hall, and the passes of its seats
use Rattle.std.specs.Prelude.{◌≡◌, ℕ, Bool, false, nat_lt, ◌<◌, ◌||◌, List, length, slice_index_or, is_some, if◌then◌else◌}
use Rattle.monk_floor.specs.Making.{make_refusal}
use Rattle.monk_hall.specs.{Records.opening_record, Rule.setting_of, Tokens.Token}
use Rattle.monk_object.specs.{Names.opening_named, declared.name.ObjectName.TheVariants.Flags as FlagsName}
use Rattle.monk_c.specs.{Headings.flags_made, Stands.RoomView, Stands.SeatView, Stands.At.Outside}
use Rattle.monk_c.specs.declared.numbers.Numbers.{Numbers}
use Rattle.monk_c.specs.declared.refusal.Refusal.{Refusal, TheVariants.Range, TheVariants.Memory}

-- a hall, and how many passes of its first seats are left
pub record DealView : Type 0 where
  pub room : RoomView
  pub left : ℕ

-- the pass of seat i, before any step
abbrev pub fresh_pass : RoomView → ℕ → Token
fresh_pass r i = record { hall = r.house.id; me = opening_record r.house.setting i }

-- these are the first passes of a hall
abbrev pub ArePasses : RoomView → List Token → Type 0
ArePasses r ps = (i : ℕ) (d : Token) → i < length ps → slice_index_or ps i d ≡ fresh_pass r i

-- a seat outside, with the pass of seat i
abbrev pub fresh_view : RoomView → ℕ → SeatView
fresh_view r i = record { room = r; at = Outside (fresh_pass r i) }

-- no flag is set
abbrev pub first_bits : ℕ → List ℕ
first_bits flags = opening_named FlagsName (flags_made flags)

-- whether a number is out of its range
abbrev pub is_out_of_range : Numbers → Bool
is_out_of_range n = nat_lt 32 n.flags || is_some (make_refusal n.seats n.conds n.budget)

-- why no hall is made: a number out of its range, or else want of memory
abbrev pub IsMakeRefusal : Numbers → Refusal → Type 0
IsMakeRefusal n f = f ≡ (if is_out_of_range n then Range else Memory)

-- a hall of these numbers
pub record IsMadeOf (n : Numbers) (r : RoomView) : Type 0 where
  pub in_range : is_out_of_range n ≡ false
  pub setting : r.house.setting ≡ setting_of (first_bits n.flags) n.seats n.conds n.budget
  pub flags : r.flags ≡ n.flags
