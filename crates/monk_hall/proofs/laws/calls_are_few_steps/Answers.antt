use Rattle.monk_hall.proofs.FewStepsLaws.{arrivals, polls, comes_in, releases, stays, busy, grants, unlooked}
use Rattle.monk_hall.proofs.laws.calls_are_few_steps.Goals as goal
use Rattle.std.proofs.Common.{rules}

pub returns : goal.returns
returns c = search (rules, arrivals, polls, comes_in, releases, stays, busy, grants, unlooked)
