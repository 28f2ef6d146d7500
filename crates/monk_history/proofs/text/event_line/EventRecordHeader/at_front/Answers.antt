use Rattle.std.proofs.Common.{◌≤◌, ℕ, subst}
use Rattle.std.specs.Prelude.{IfSome}
use Rattle.monk_history.proofs.text.event_line.EventRecordHeader.at_front.Goals as goal
use Rattle.monk_history.{specs.Text.first_version, proofs.TextLaws.FrontLaws.event_read}

pub returns : goal.returns
returns g c =
    event_read c.args.header.now.version c.args.bytes.now c.event_at_front.result c.event_at_front.ensures.stands
    c.event_at_front.ensures.fits
    (subst (λ (n : ℕ). IfSome c.event_at_front.result (λ r. first_version r.0 ≤ n)) c.version.ensures.value
    c.event_at_front.ensures.has)
