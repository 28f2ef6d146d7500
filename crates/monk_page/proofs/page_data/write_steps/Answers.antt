use Rattle.std.proofs.Common.{◌≡◌, ap₂, rules, arith}
use Rattle.std.proofs.lemmas.{Result.on_ok_weaker, Grind.common_steps}
use Rattle.monk_page.proofs.page_data.write_steps.Goals as goal

pub returns : goal.returns
returns c =
    let object : c.object.result ≡ c.args.told.header.now.object = search rules in
    grind (arith, common_steps, on_ok_weaker, ap₂)
