use Rattle.std.proofs.Common.{◌≡◌, ◌+◌, ◌^◌, ◌<◌, ◌≤◌, length, false}
use Rattle.monk_history.specs.Text.Device.{inner_of, has_failed, reads_of, bytes_of}
use Rattle.monk_commands.proofs.input.hand_on.Given as goal
use Rattle.monk_commands.{specs.Streams.IsYoung, proofs.Taken.IsTold}

abbrev pub invariant-loop : goal.invariant-loop
invariant-loop g l = record {
  works : has_failed l.reader ≡ false;
  within : l.count ≤ 2 ^ 31;
  counted : IsYoung l.fn.reader → reads_of l.reader ≡ reads_of l.fn.reader + l.counter;
  few : reads_of l.reader ≤ reads_of l.fn.reader + l.counter;
  given : IsYoung l.fn.reader → bytes_of l.reader ≡ bytes_of l.fn.reader + l.count;
  told : IsTold g.T.Taker.tells (g.R.Read.remaining (inner_of l.fn.reader)) (g.R.Read.remaining (inner_of l.reader))
      l.fn.taker l.taker;
  sound : g.T.Taker.is_sound l.taker;
  room : 0 < length l.chunk;
}
