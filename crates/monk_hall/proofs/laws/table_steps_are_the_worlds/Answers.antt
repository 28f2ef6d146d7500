use Rattle.monk_hall.proofs.RuleLaws.{arrival_steps, ticket_look_steps, call_look_steps, peek_steps, floor_out_steps}
use Rattle.monk_hall.proofs.RuleLaws.{floor_in_steps, drop_steps, ticket_grant_steps, seat_grant_steps}
use Rattle.monk_hall.proofs.laws.table_steps_are_the_worlds.Goals as goal
use Rattle.std.proofs.Common.{rules}

pub returns : goal.returns
returns c =
    search (
      rules,
      arrival_steps,
      ticket_look_steps,
      call_look_steps,
      peek_steps,
      floor_out_steps,
      floor_in_steps,
      drop_steps,
      ticket_grant_steps,
      seat_grant_steps,
    )
