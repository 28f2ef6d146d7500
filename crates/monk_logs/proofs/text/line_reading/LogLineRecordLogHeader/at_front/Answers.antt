use Rattle.monk_logs.proofs.LogLaws.LogText.{line_at_front}
use Rattle.monk_logs.proofs.text.line_reading.LogLineRecordLogHeader.at_front.Goals as goal

pub returns : goal.returns
returns g c =
    line_at_front c.args._header.now c.args.bytes.now c.line_at_front.result c.line_at_front.ensures.stands
    c.line_at_front.ensures.fits
