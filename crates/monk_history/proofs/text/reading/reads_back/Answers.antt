use Rattle.monk_history.proofs.TextLaws.HistoryText.{text_again}
use Rattle.monk_history.proofs.text.reading.reads_back.Goals as goal

pub returns : goal.returns
returns c = text_again
