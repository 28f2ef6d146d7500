-- What each member of the samples does, by its visits
use Rattle.std.specs.Prelude.{ℕ, ◌&&◌, if◌then◌else◌}
use Rattle.monk_kinds.specs.declared.mode.Rules.{Rules}
use Rattle.monk_object.specs.Book.{book_meaning, START_READ, END_READ, START_WRITE, END_WRITE}
use Rattle.monk_object.specs.Book as book
use Rattle.monk_object.specs.Buffer.{PUT, TAKE, HAS_ROOM, HAS_ITEM}
use Rattle.monk_object.specs.Shop.{SIT, CALL, FINISH, DEPART, HAS_SEAT, CAN_CALL, IS_DONE}
use Rattle.monk_hall.specs.declared.setting.Setting.{Setting}
use Rattle.monk_samples.specs.Styles.{has_waiting}
use Rattle.monk_samples.specs.Visits.{Plan, Signals, SignalsAll, SignalsAndWaits, when, at_once, in_manner, always, nobody, op_of, data_after}
use Rattle.monk_samples.specs.declared.manner.Manner.{Manner}
use Rattle.monk_samples.specs.declared.manner.Manner.TheVariants.{Patient}

-- the condition on which putters wait until there is room
abbrev pub NOT_FULL : ℕ
NOT_FULL = 0

-- the condition on which takers wait until an item is there
abbrev pub NOT_EMPTY : ℕ
NOT_EMPTY = 1

-- the condition on which readers wait until a read may start
abbrev pub CAN_READ : ℕ
CAN_READ = 0

-- the condition on which writers wait until a write may start
abbrev pub CAN_WRITE : ℕ
CAN_WRITE = 1

-- the condition on which customers wait until a seat is free
abbrev pub SEAT_FREE : ℕ
SEAT_FREE = 0

-- the condition on which the barber waits until a customer may be called
abbrev pub CUSTOMER_SITS : ℕ
CUSTOMER_SITS = 1

-- the condition on which customers wait until a cut is done
abbrev pub CUT_DONE : ℕ
CUT_DONE = 2

-- the visit that puts an item, in a manner
abbrev pub puts_by : Manner → ℕ → Plan
puts_by m item = in_manner m NOT_FULL HAS_ROOM (op_of PUT item) (always NOT_EMPTY)

-- the visit that puts an item
abbrev pub puts : ℕ → Plan
puts item = puts_by Patient item

-- the visit that puts an item, lets a taker go on, and waits until there is room again
abbrev pub puts_and_waits : ℕ → Plan
puts_and_waits item = when NOT_FULL HAS_ROOM (op_of PUT item) (λ h. SignalsAndWaits NOT_EMPTY NOT_FULL)

-- the visit that takes an item, in a manner
abbrev pub takes_by : Manner → Plan
takes_by m = in_manner m NOT_EMPTY HAS_ITEM (op_of TAKE 0) (always NOT_FULL)

-- the visit that takes an item
abbrev pub takes : Plan
takes = takes_by Patient

-- the visit that begins a read
abbrev pub begins_to_read : Plan
begins_to_read = when CAN_READ book.CAN_READ (op_of START_READ 0) (always CAN_READ)

-- the visit that ends a read. The last reader signals a writer if one waits, and otherwise a reader
abbrev pub ends_to_read : Rules → Setting → Plan
ends_to_read k c = at_once (op_of END_READ 0)
    (λ h. if book_meaning.holds (data_after k book_meaning c h) book.CAN_WRITE && has_waiting k CAN_WRITE h
    then Signals CAN_WRITE
    else Signals CAN_READ)

-- the visit that begins a write
abbrev pub begins_to_write : Plan
begins_to_write = when CAN_WRITE book.CAN_WRITE (op_of START_WRITE 0) nobody

-- the visit that ends a write. It signals a reader if one waits, and otherwise a writer
abbrev pub ends_to_write : Rules → Plan
ends_to_write k =
    at_once (op_of END_WRITE 0) (λ h. if has_waiting k CAN_READ h then Signals CAN_READ else Signals CAN_WRITE)

-- the visit that ends a write and signals all readers if one waits, and otherwise a writer
abbrev pub ends_to_write_for_all : Rules → Plan
ends_to_write_for_all k =
    at_once (op_of END_WRITE 0) (λ h. if has_waiting k CAN_READ h then SignalsAll CAN_READ else Signals CAN_WRITE)

-- the visit of a customer who sits down
abbrev pub sits : Plan
sits = when SEAT_FREE HAS_SEAT (op_of SIT 0) (always CUSTOMER_SITS)

-- the visit of a customer whose cut is done
abbrev pub departs : Plan
departs = when CUT_DONE IS_DONE (op_of DEPART 0) (always CUSTOMER_SITS)

-- the visit of the barber who calls a customer
abbrev pub calls : Plan
calls = when CUSTOMER_SITS CAN_CALL (op_of CALL 0) (always SEAT_FREE)

-- the visit of the barber who finishes a cut
abbrev pub finishes : Plan
finishes = at_once (op_of FINISH 0) (always CUT_DONE)
