use Rattle.std.proofs.Common.{◌≡◌, arith}
use Rattle.std.{specs.Prelude.slice_get, proofs.lemmas.Grind.common_steps}
use Rattle.monk_tell.proofs.permitted.is_permitted.Goals as goal
use Rattle.monk_tell.proofs.LineLaws.{permits_front}

pub returns : goal.returns
returns c =
    let l = c.args.lines.now in
    let first : c.copied-ready.result ≡ slice_get l.ready.items 0 = grind (arith, common_steps) in
    grind (arith, common_steps, permits_front)
