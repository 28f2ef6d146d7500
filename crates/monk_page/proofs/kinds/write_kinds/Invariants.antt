use Rattle.std.proofs.Common.{drop}
use Rattle.monk_page.proofs.kinds.write_kinds.Given as goal
use Rattle.monk_page.{specs.Kinds.kind_json, proofs.WriteLaws.WritesList}

abbrev pub invariant-loop-kind : goal.invariant-loop-kind
invariant-loop-kind l =
    WritesList (kind_json l.told.header.now l.told.events.now) (drop l.kind-index l.kinds) l.kinds
    l.fn.out.writer l.out.writer
