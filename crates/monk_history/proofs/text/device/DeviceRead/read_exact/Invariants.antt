use Rattle.std.proofs.Common.{◌≡◌, ◌-◌, ◌≤◌, length, take}
use Rattle.std.specs.Io.KnownBytes.{Consumes}
use Rattle.monk_history.specs.Text.Device.{inner_of, has_failed}
use Rattle.monk_history.proofs.text.device.DeviceRead.read_exact.Given as goal

-- what is filled so far is what was consumed, and no read has failed
abbrev pub invariant-loop-at : goal.invariant-loop-at
invariant-loop-at g l = record {
  as_long : length l.buf ≡ length l.fn.buf;
  within : l.at ≤ length l.buf;
  unchanged : has_failed l.self ≡ has_failed l.fn.self;
  filled : Consumes (g.R.Read.remaining (inner_of l.fn.self)) (g.R.Read.remaining (inner_of l.self)) (take l.at l.buf);
}

abbrev pub decreases-loop-at : goal.decreases-loop-at
decreases-loop-at g l = length l.buf - l.at
