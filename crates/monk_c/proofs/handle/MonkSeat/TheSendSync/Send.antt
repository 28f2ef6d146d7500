use denote.Param.Send.{IsSend, AllSend, owning_send, sendable, struct_send}
use denote.Struct.Owning.{shape, fields, to}
use denote.Struct.Struct.{exits_of}
use Rattle.std_alloc.proofs.SendSync.{lies, quiet}
use Rattle.monk_c.proofs.Sendable.{any_seat_send}
use Rattle.monk_c.specs.contracts.any_seat.AnySeat as AnySeat
use Rattle.monk_c.specs.contracts.handle.MonkSeat.{the_row, the_type}

pub send : IsSend the_row
send =
    let all : AllSend (fields the_type) = (search sendable, tt) in
    owning_send the_type all (λ d. lies AnySeat.the_row any_seat_send d.at d.has)
    (λ k. quiet (to the_type) (exits_of k (fields the_type)) ((struct_send (shape the_type) all).leaving k))
