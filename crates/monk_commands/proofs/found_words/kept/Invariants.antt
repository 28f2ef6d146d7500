use Rattle.std.proofs.Common.{◌≡◌, ◌++◌, drop, map}
use Rattle.std.specs.Prelude.{string_bytes, vec_items}
use Rattle.monk_commands.proofs.Requests.{texts}
use Rattle.monk_commands.proofs.found_words.kept.Given as goal

-- the words so far are kept, and with those that are left they are all
abbrev pub invariant-loop-word : goal.invariant-loop-word
invariant-loop-word l = texts l.words ≡ map string_bytes (vec_items l.kept) ++ texts (drop l.word-index l.words)
