use Rattle.std.proofs.Common.{◌==◌, codes, rules, tests}
use Rattle.std.proofs.lemmas.Iterator.{Search.any_from_yields_List, Splits.YieldsList-from_slice_split}
use Rattle.std.specs.Str.{bytes_eq}
use Rattle.monk_commands.proofs.logs.beside.ended_by_itself.Goals as goal

pub returns : goal.returns
returns c =
    any_from_yields_List (λ row. bytes_eq row (codes "ended by itself")) _ _ _ c.any.ensures.ran
    (YieldsList-from_slice_split _ (λ b. b == 10) c.args.beside.now c.split.ensures.rest c.split.ensures.done
    c.split.ensures.closure (λ x b q k. search (rules, tests)))
    (λ x b q k. search (rules, tests))
