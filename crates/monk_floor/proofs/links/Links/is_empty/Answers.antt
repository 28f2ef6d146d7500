use Rattle.std.proofs.Common.{◌∙◌, sym, ap}
use Rattle.monk_history.specs.Meaning.Signallers.{is_empty}
use Rattle.monk_floor.proofs.links.Links.is_empty.Goals as goal
use Rattle.monk_floor.{specs.Links.chain_at, proofs.LinkLaws.Chains.queue_is, proofs.LinkLaws.Taking.nobody}

pub returns : goal.returns
returns c =
    nobody c.self.inside.next (chain_at c.self.inside.chains c.args.queue).length
    (chain_at c.self.inside.chains c.args.queue).first
    ∙ sym (ap is_empty (queue_is c.self.inside.next c.self.inside.chains c.args.self.now c.self.view_is c.args.queue))
