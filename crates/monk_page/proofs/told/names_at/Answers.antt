use Rattle.std.proofs.Common.{◌≡◌, Some, rules, arith}
use Rattle.std.{proofs.lemmas.List.take_all, proofs.lemmas.Grind.common_steps, specs.Prelude.option_and_then}
use Rattle.serde_json.specs.{Find.as_array, Find.get, View.items_view, View.view}
use Rattle.monk_page.proofs.told.names_at.Goals as goal
use Rattle.monk_page.proofs.NameLaws.{names_there, text_in}

pub returns : goal.returns
returns c =
    let values = c.in-Some.list.now.items in
    let found : Some (items_view values) ≡ option_and_then as_array (get c.args.member.now (view c.args.told.now)) =
    search rules in
    grind (arith, common_steps, text_in, take_all, names_there)
