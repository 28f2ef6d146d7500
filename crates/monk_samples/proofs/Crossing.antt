-- A worker may go to its own thread
use denote.RattleType.{RattleType}
use denote.Ref.{NamedLft}
use denote.Param.Send.{IsSend, IsSync, AllSend, sendable, struct_send, recorded_send}
use denote.Struct.Declared.{shape}
use Rattle.std.proofs.Crossing.{crosses}
use Rattle.circular_buffer.proofs.Crosses.{Cells-send, Deed-send}
use Rattle.monk_kinds.specs.declared.kind.Kind as Kind
use Rattle.monk_object.specs.contracts.book.Book as Book
use Rattle.monk_object.specs.contracts.buffer.Buffer as Buffer
use Rattle.monk_object.specs.contracts.shop.Shop as Shop
use Rattle.monk_object.specs.declared.guarded.Guarded as Guarded
use Rattle.monk_hall.proofs.PublicLaws.{hall_sync, pass_send}
use Rattle.monk_hall.specs.contracts.hall.Hall as Hall
use Rattle.monk_samples.specs.contracts.worker.Worker as Worker

pub worker_send : (ℓ : NamedLft) (K T R G : RattleType) (k : Kind.Ghosts K.Denot) (t : Guarded.Ghosts T.Denot)
    → IsSend K → IsSend T → IsSync R → IsSync G → IsSend (Worker.the_row ℓ K T R G k t)
worker_send ℓ K T R G k t sk st yr yg =
    let hall : IsSync (Hall.the_row K T k t) = hall_sync K T k t sk st in
    let all : AllSend (shape (Worker.the_type ℓ K T R G k t)).fields = (
      pass_send K T k t sk st,
      (
        search sendable,
        (
          search (sendable, hall) depth 20,
          (search sendable, (search sendable depth 20, (search (sendable, crosses) depth 20, tt))),
        ),
      ),
    ) in
    recorded_send _ _ _ ((Worker.the_type ℓ K T R G k t).to_one)
    (struct_send (shape (Worker.the_type ℓ K T R G k t)) all)

pub buffer_send : IsSend Buffer.the_row
buffer_send = search (sendable, crosses, Cells-send, Deed-send) depth 40 fits 100000

pub book_send : IsSend Book.the_row
book_send = search sendable depth 40

pub shop_send : IsSend Shop.the_row
shop_send = search sendable depth 40

-- by these lemmas a closure that has passes and shares a hall of a sample may go to another thread
pub ruleset threads = (sendable, crosses, hall_sync, pass_send, buffer_send, book_send, shop_send)
