use Rattle.std.proofs.Common.{drop}
use Rattle.monk_page.proofs.WriteLaws.{WritesList}
use Rattle.monk_page.proofs.in_json.write_list.Given as goal

abbrev pub invariant-loop-item : goal.invariant-loop-item
invariant-loop-item g l = WritesList g.T.InJson.json (drop l.item-index l.items) l.items l.fn.out.writer l.out.writer
