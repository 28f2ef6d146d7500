use Rattle.std.proofs.Common.{take}
use Rattle.monk_commands.proofs.judging_words.meanings.Given as goal
use Rattle.monk_commands.{specs.Request.AreMeanings, proofs.Requests.texts}

-- the words so far have these meanings
abbrev pub invariant-loop-word : goal.invariant-loop-word
invariant-loop-word l = AreMeanings (texts (take l.word-index l.words)) l.means.items
