use Rattle.std.proofs.Common.{rules, ℕ, not, ◌==◌}
use Rattle.std.proofs.lemmas.Fn.{filter_same}
use Rattle.monk_audit.proofs.moves.drop_seat.Goals as goal

pub returns : goal.returns
returns c = filter_same _ (λ (w : ℕ × ℕ). not (c.args.seat == w.0)) _ (λ x b f h. search rules) _
    _ c.retain.ensures.filtered
