use Rattle.std.proofs.Common.{append_assoc}
use Rattle.monk_history.proofs.text.writing.put_signal_all.Goals as goal

pub returns : goal.returns
returns c =
    rw (
      c.put-2.ensures.text,
      c.put_number-2.ensures.text,
      c.put_number.ensures.text,
      c.put.ensures.text,
      c.from.ensures,
      c.from-2.ensures,
    ) (simp append_assoc)
