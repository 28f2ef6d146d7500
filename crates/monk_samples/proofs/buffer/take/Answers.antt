use Rattle.std.proofs.Common.{◌≡◌, ℕ, ◌+◌, ◌-◌, [], ◌∷◌, ap, ◌∙◌, arith}
use Rattle.monk_object.specs.{Buffer.buffer_meaning, Laws.items_taken}
use Rattle.monk_samples.proofs.buffer.take.Goals as goal
use Rattle.monk_samples.proofs.VisitLaws.{tired, tired_tells, visited_telling}
use Rattle.monk_samples.specs.Members.{takes}
use Rattle.std.proofs.lemmas.Bool.Decides.{nat_tests}

-- a take with this reply took this item
took : (reply item : ℕ) → reply ≡ item + 1 → items_taken (record { op = takes.op; reply = reply } ∷ []) ≡ item ∷ []
took reply item told = grind (arith, nat_tests)

pub returns-in-Ok-clause-visited : goal.returns-in-Ok-clause-visited
returns-in-Ok-clause-visited g c =
    let told = visited_telling g.K.Kind.rules buffer_meaning c.args.pass takes c.in-Ok.reply c.in-Ok.active
    c.finish-pass.result.0 c.finish-pass.result.1 c.in-Ok.ensures.acted.0 c.in-Ok.ensures.acted.1
    c.finish-pass.ensures in
    (told.0, ap items_taken told.1 ∙ took c.in-Ok.reply c.item_of.result c.item_of.ensures)

pub returns-in-Err-clause-visited : goal.returns-in-Err-clause-visited
returns-in-Err-clause-visited g c = (
  tired g.K.Kind.rules buffer_meaning c.args.pass takes c.in-Err.pass c.in-Err.ensures.acted,
  ap items_taken (tired_tells g.K.Kind.rules buffer_meaning c.args.pass takes c.in-Err.pass c.in-Err.ensures.acted),
)
