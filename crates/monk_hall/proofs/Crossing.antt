-- Threads may share a hall, and a hall and its tokens may go to another thread, if the kind and the object may
use denote.RattleType.{RattleType}
use denote.Param.Send.{IsSend, IsSync, AllSend, AllSync, sendable, part_keyless, struct_send, struct_sync}
use denote.Param.Send.{recorded_send, recorded_sync, view_send, view_sync}
use denote.Struct.Declared.{shape}
use Rattle.std.specs.contracts.alloc.Global as Heap
use Rattle.std.specs.contracts.option.Option as Option
use Rattle.std.specs.contracts.collections.LinkedList as LinkedList
use Rattle.std.proofs.{lemmas.Bool.Decides.nat_tests, Common.arith, Common.rules}
use Rattle.std.proofs.Crossing.{crosses, frees, Box-send, Vec-send, Vec-sync, send as heap_send, sync as heap_sync}
use Rattle.std.specs.contracts.impls.GlobalAllocator.TheImpl.{ghosts}
use Rattle.atomic_table.specs.contracts.badge.Badge as Badge
use Rattle.atomic_table.specs.contracts.owned.Table as Table
use Rattle.atomic_table.specs.contracts.send_lease.SendLease as SendLease
use Rattle.atomic_table.specs.contracts.shared.Seat as TableSeat
use Rattle.atomic_table.specs.contracts.shared.Shared as Shared
use Rattle.atomic_table.specs.declared.shared.TableRule as TableRule
use Rattle.atomic_table.proofs.Sent.{owns_keyless, shares_keyless, badge_keyless, seat_keyless}
use Rattle.atomic_table.proofs.Rights.{right_send}
use Rattle.monk_kinds.specs.declared.kind.Kind as Kind
use Rattle.monk_object.specs.declared.guarded.Guarded as Guarded
use Rattle.monk_floor.proofs.PublicLaws.{floor_send}
use Rattle.monk_world.specs.contracts.place.Place as Place
use Rattle.monk_hall.specs.contracts.active.Active as Active
use Rattle.monk_hall.specs.contracts.active.Active.TheInside as ActiveInside
use Rattle.monk_hall.specs.contracts.boxed_floor.BoxedFloor as BoxedFloor
use Rattle.monk_hall.specs.contracts.boxed_floor.BoxedFloor.TheInside as BoxedFloorInside
use Rattle.monk_hall.specs.contracts.record.SeatRecord as SeatRecord
use Rattle.monk_hall.specs.contracts.rule.HallRule as HallRule
use Rattle.monk_hall.specs.contracts.rule.HallRuleTableRuleOptionBoxedFloorViewSetup.TheImpl as RuleImpl
use Rattle.monk_hall.specs.contracts.seat_numbers.SeatNumbers as SeatNumbers
use Rattle.monk_hall.specs.contracts.setup.Setup as Setup
use Rattle.monk_hall.specs.contracts.sleepers.Sleepers as Sleepers
use Rattle.monk_hall.specs.contracts.steps.Words as Words
use Rattle.monk_hall.specs.contracts.look_tally.LookTally as LookTally
use Rattle.monk_hall.specs.contracts.pace.Pace as Pace
use Rattle.monk_hall.specs.contracts.hall.Hall as Hall
use Rattle.monk_hall.specs.contracts.hall.Hall.TheInside as HallInside
use Rattle.monk_hall.specs.contracts.parked.Parked as Parked
use Rattle.monk_hall.specs.contracts.parked.Parked.TheInside as ParkedInside
use Rattle.monk_hall.specs.contracts.pass.Pass as Pass
use Rattle.monk_hall.specs.contracts.pass.Pass.TheInside as PassInside

shared_sync : (S V K P : RattleType) (g : TableRule.Ghosts P.Denot S.Denot V.Denot K.Denot) → IsSend S
    → IsSync (Shared.the_row S V K P g)
shared_sync S V K P g s = grind (arith, nat_tests, shares_keyless)

lease_sync : (S : RattleType) → IsSync (SendLease.the_row S Heap.the_row ghosts)
lease_sync S = record {
  shared =
      λ d b o ν q. part_keyless (SendLease.the_row S Heap.the_row ghosts)
      (right_send S Heap.the_row ghosts frees) q d b o;
}

badge_send : (V : RattleType) → IsSend (Badge.the_row V)
badge_send V = grind (arith, nat_tests, badge_keyless)

option_send : (R : RattleType) → IsSend R → IsSend (Option.the_row R)
option_send R s = search sendable depth 12

table_sync : (S V K P : RattleType) (g : TableRule.Ghosts P.Denot S.Denot V.Denot K.Denot) → IsSend S
    → IsSync (Table.the_field S V K P Heap.the_row g ghosts).row
table_sync S V K P g s =
    let all : AllSync (shape (Table.the_type S V K P Heap.the_row g ghosts)).fields =
    (shared_sync S V K P g s, (search sendable, (search sendable, (lease_sync _, (lease_sync S, (heap_sync, tt))))))
    in
    struct_sync (shape (Table.the_type S V K P Heap.the_row g ghosts)) all

boxed_floor_inside : (K T : RattleType) (k : Kind.Ghosts K.Denot) (t : Guarded.Ghosts T.Denot) → IsSend K → IsSend T
    → IsSend (BoxedFloorInside.the_row K T k t)
boxed_floor_inside K T k t sk st =
    let all : AllSend (shape (BoxedFloorInside.the_type K T k t)).fields =
    (Box-send _ (floor_send K T k t sk st), tt) in
    recorded_send _ _ _ ((BoxedFloorInside.the_type K T k t).to_one)
    (struct_send (shape (BoxedFloorInside.the_type K T k t)) all)

boxed_floor_send : (K T : RattleType) (k : Kind.Ghosts K.Denot) (t : Guarded.Ghosts T.Denot) → IsSend K → IsSend T
    → IsSend (BoxedFloor.the_row K T k t)
boxed_floor_send K T k t sk st = view_send (BoxedFloorInside.the_row K T k t) _ _ _ _ (boxed_floor_inside K T k t sk st)

sleepers_sync : IsSync (Sleepers.the_field).row
sleepers_sync = struct_sync (shape Sleepers.the_type) (Vec-sync _ (search crosses depth 20), tt)

sleepers_send : IsSend (Sleepers.the_field).row
sleepers_send = struct_send (shape Sleepers.the_type) (Vec-send _ (search crosses depth 20), tt)

words_sync : (K T : RattleType) (k : Kind.Ghosts K.Denot) (t : Guarded.Ghosts T.Denot) → IsSend K → IsSend T
    → IsSync (Words.the_field K T k t).row
words_sync K T k t sk st =
    let all : AllSync (shape (Words.the_type K T k t)).fields = (
      table_sync (Option.the_row (BoxedFloor.the_row K T k t))
          (LinkedList.the_row SeatRecord.the_row Heap.the_row ghosts)
          (Setup.the_row T) (HallRule.the_row K T)
          (RuleImpl.ghosts K T k RuleImpl.no_dict t RuleImpl.no_dict RuleImpl.no_dict RuleImpl.no_dict)
          (option_send (BoxedFloor.the_row K T k t) (boxed_floor_send K T k t sk st)),
      (sleepers_sync, tt),
    ) in
    struct_sync (shape (Words.the_type K T k t)) all

tally_sync : IsSync (LookTally.the_field).row
tally_sync = struct_sync (shape LookTally.the_type) (search crosses depth 20, (search crosses depth 20, tt))

tally_send : IsSend (LookTally.the_field).row
tally_send = struct_send (shape LookTally.the_type) (search crosses depth 20, (search crosses depth 20, tt))

pace_sync : IsSync (Pace.the_field).row
pace_sync = struct_sync (shape Pace.the_type) (search sendable, (tally_sync, (tally_sync, tt)))

pace_send : IsSend (Pace.the_field).row
pace_send = struct_send (shape Pace.the_type) (search sendable, (tally_send, (tally_send, tt)))

hall_inside : (K T : RattleType) (k : Kind.Ghosts K.Denot) (t : Guarded.Ghosts T.Denot) → IsSend K → IsSend T
    → IsSync (HallInside.the_row K T k t)
hall_inside K T k t sk st =
    let all : AllSync (shape (HallInside.the_type K T k t)).fields = (
      words_sync K T k t sk st,
      (search sendable, (pace_sync, tt)),
    ) in
    recorded_sync _ _ _ ((HallInside.the_type K T k t).to_one) (struct_sync (shape (HallInside.the_type K T k t)) all)

pub hall_sync : (K T : RattleType) (k : Kind.Ghosts K.Denot) (t : Guarded.Ghosts T.Denot) → IsSend K → IsSend T
    → IsSync (Hall.the_row K T k t)
hall_sync K T k t sk st = view_sync (HallInside.the_row K T k t) _ _ _ _ (hall_inside K T k t sk st)

numbers_send : IsSend (SeatNumbers.the_field).row
numbers_send = search sendable depth 20

pass_inside : (K T : RattleType) (k : Kind.Ghosts K.Denot) (t : Guarded.Ghosts T.Denot) → IsSend K → IsSend T
    → IsSend (PassInside.the_row K T k t)
pass_inside K T k t sk st =
    let all : AllSend (shape (PassInside.the_type K T k t)).fields =
    (badge_send _, (search sendable, (numbers_send, (search sendable, (search sendable, tt))))) in
    recorded_send _ _ _ ((PassInside.the_type K T k t).to_one) (struct_send (shape (PassInside.the_type K T k t)) all)

pub pass_send : (K T : RattleType) (k : Kind.Ghosts K.Denot) (t : Guarded.Ghosts T.Denot) → IsSend K → IsSend T
    → IsSend (Pass.the_row K T k t)
pass_send K T k t sk st = view_send (PassInside.the_row K T k t) _ _ _ _ (pass_inside K T k t sk st)

seat_send : (S V : RattleType) → IsSend S → IsSend (TableSeat.the_row S V)
seat_send S V s = search (rules, seat_keyless)

shared_send : (S V K P : RattleType) (g : TableRule.Ghosts P.Denot S.Denot V.Denot K.Denot) → IsSend S
    → IsSend (Shared.the_row S V K P g)
shared_send S V K P g s = grind (arith, nat_tests, owns_keyless)

place_send : IsSend (Place.the_field).row
place_send = search sendable depth 20

pub active_send : (K T : RattleType) (k : Kind.Ghosts K.Denot) (t : Guarded.Ghosts T.Denot) → IsSend K → IsSend T
    → IsSend (Active.the_row K T k t)
active_send K T k t sk st =
    let floor : IsSend (BoxedFloor.the_row K T k t) = boxed_floor_send K T k t sk st in
    let all : AllSend (shape (ActiveInside.the_type K T k t)).fields =
    (seat_send _ _ (option_send _ floor), (numbers_send, (floor, tt))) in
    view_send (ActiveInside.the_row K T k t) _ _ _ _
    (recorded_send _ _ _ ((ActiveInside.the_type K T k t).to_one)
    (struct_send (shape (ActiveInside.the_type K T k t)) all))

pub parked_send : (K T : RattleType) (k : Kind.Ghosts K.Denot) (t : Guarded.Ghosts T.Denot) → IsSend K → IsSend T
    → IsSend (Parked.the_row K T k t)
parked_send K T k t sk st =
    let floor : IsSend (BoxedFloor.the_row K T k t) = boxed_floor_send K T k t sk st in
    let all : AllSend (shape (ParkedInside.the_type K T k t)).fields =
    (seat_send _ _ (option_send _ floor), (numbers_send, (search sendable, (place_send, tt)))) in
    view_send (ParkedInside.the_row K T k t) _ _ _ _
    (recorded_send _ _ _ ((ParkedInside.the_type K T k t).to_one)
    (struct_send (shape (ParkedInside.the_type K T k t)) all))

table_send : (S V K P : RattleType) (g : TableRule.Ghosts P.Denot S.Denot V.Denot K.Denot) → IsSend S
    → IsSend (Table.the_field S V K P Heap.the_row g ghosts).row
table_send S V K P g s =
    let all : AllSend (shape (Table.the_type S V K P Heap.the_row g ghosts)).fields = (
      shared_send S V K P g s,
      (
        search sendable,
        (
          search sendable,
          (
            right_send _ Heap.the_row ghosts frees,
            (right_send S Heap.the_row ghosts frees, (heap_send, tt)),
          ),
        ),
      ),
    ) in
    struct_send (shape (Table.the_type S V K P Heap.the_row g ghosts)) all

words_send : (K T : RattleType) (k : Kind.Ghosts K.Denot) (t : Guarded.Ghosts T.Denot) → IsSend K → IsSend T
    → IsSend (Words.the_field K T k t).row
words_send K T k t sk st =
    let all : AllSend (shape (Words.the_type K T k t)).fields = (
      table_send (Option.the_row (BoxedFloor.the_row K T k t))
          (LinkedList.the_row SeatRecord.the_row Heap.the_row ghosts)
          (Setup.the_row T) (HallRule.the_row K T)
          (RuleImpl.ghosts K T k RuleImpl.no_dict t RuleImpl.no_dict RuleImpl.no_dict RuleImpl.no_dict)
          (option_send (BoxedFloor.the_row K T k t) (boxed_floor_send K T k t sk st)),
      (sleepers_send, tt),
    ) in
    struct_send (shape (Words.the_type K T k t)) all

pub hall_send : (K T : RattleType) (k : Kind.Ghosts K.Denot) (t : Guarded.Ghosts T.Denot) → IsSend K → IsSend T
    → IsSend (Hall.the_row K T k t)
hall_send K T k t sk st =
    let all : AllSend (shape (HallInside.the_type K T k t)).fields = (
      words_send K T k t sk st,
      (search sendable, (pace_send, tt)),
    ) in
    view_send (HallInside.the_row K T k t) _ _ _ _
    (recorded_send _ _ _ ((HallInside.the_type K T k t).to_one) (struct_send (shape (HallInside.the_type K T k t)) all))
