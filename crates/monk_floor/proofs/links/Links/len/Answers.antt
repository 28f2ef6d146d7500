use Rattle.monk_floor.proofs.LinkLaws.Chains.{length_is}
use Rattle.monk_floor.proofs.links.Links.len.Goals as goal

pub returns : goal.returns
returns c = length_is c.self.inside.next c.self.inside.chains c.args.self.now c.self.view_is c.args.queue
