use Rattle.std.proofs.Common.{◌≡◌, ◌∙◌, rules}
use Rattle.monk_judge.proofs.Following.{places_shown}
use Rattle.monk_judge.proofs.judge.Judge.places.Goals as goal

pub returns-clause-shown : goal.returns-clause-shown
returns-clause-shown g c =
    let are : c.deref.result.now ≡ c.args.self.now.places = search rules in
    are ∙ places_shown c.args.self.now.places
