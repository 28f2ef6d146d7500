-- The last version that names an object is one that exists, and it has every event.
use Rattle.std.proofs.Common.{◌≤◌, arith}
use Rattle.monk_object.specs.declared.name.ObjectName.{ObjectName}
use Rattle.monk_history.specs.{Limits.newest_version, Limits.all_events_version, Text.last_version}
use Rattle.std.proofs.lemmas.Bool.Decides.{nat_tests}

pub every_event_named : (o : ObjectName) → all_events_version ≤ last_version o
every_event_named o = grind (arith, nat_tests)

pub none_newer : (o : ObjectName) → last_version o ≤ newest_version
none_newer o = grind (arith, nat_tests)
