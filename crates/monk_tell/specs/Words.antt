-- The answer for a history, in words
use Rattle.std.specs.Prelude.{ℕ, List, ◌++◌, codes}
use Rattle.std.specs.{List.flat_map, List.join_with_byte, Fmt.decimal}
use Rattle.monk_kinds.specs.declared.mode.{Mode.Mode, Mode.TheVariants.Blocking, Mode.TheVariants.NonBlocking}
use Rattle.monk_kinds.specs.declared.mode.{Mode.TheVariants.QuasiBlocking, Mode.TheVariants.ImmediateReturn}
use Rattle.monk_kinds.specs.declared.mode.{Mode.TheVariants.Automatic, Rules.Rules}
use Rattle.monk_object.specs.{InWords.state_in_words, declared.name.ObjectName.ObjectName}
use Rattle.monk_history.specs.declared.event.{Event.Event, Next.Next}
use Rattle.monk_history.specs.declared.event.Turn.{Turn, TheVariants.Open, TheVariants.Due, TheVariants.Owned}
use Rattle.monk_history.specs.Text.{event_words, from_word, next_words}

-- the word of a mode
abbrev pub mode_word : Mode → List ℕ
mode_word Blocking = codes "blocking"
mode_word NonBlocking = codes "non-blocking"
mode_word QuasiBlocking = codes "quasi-blocking"
mode_word ImmediateReturn = codes "immediate-return"
mode_word Automatic = codes "automatic"

-- the numbers, each after a space
abbrev pub numbers_text : List ℕ → List ℕ
numbers_text ns = flat_map (λ n. codes " " ++ decimal n) ns

-- the words of a choice
abbrev pub next_text : Next → List ℕ
next_text n = join_with_byte 32 (next_words n)

-- the words of an event
abbrev pub event_text : Event → List ℕ
event_text e = join_with_byte 32 (event_words e)

-- the words of a turn
abbrev pub turn_text : Turn → List ℕ
turn_text Open = codes "open"
turn_text (Due j q) = codes "due " ++ decimal j ++ codes " " ++ from_word q
turn_text (Owned j) = codes "of " ++ decimal j

-- the priorities of entry and waiters
abbrev pub two_ranks : Rules → List ℕ
two_ranks k = decimal k.entry ++ codes " " ++ decimal k.waiter

-- the priorities of entry, waiters and signallers
abbrev pub three_ranks : Rules → List ℕ
three_ranks k = decimal k.entry ++ codes " " ++ decimal k.waiter ++ codes " " ++ decimal k.signaller

-- the priorities of the queues that a kind of that mode has
abbrev pub ranks_in : Mode → Rules → List ℕ
ranks_in Blocking k = three_ranks k
ranks_in NonBlocking k = three_ranks k
ranks_in QuasiBlocking k = three_ranks k
ranks_in ImmediateReturn k = two_ranks k
ranks_in Automatic k = two_ranks k

-- the priorities of the queues that the kind has
abbrev pub ranks_text : Rules → List ℕ
ranks_text k = ranks_in k.mode k

-- the data as numbers, and in words
abbrev pub data_text : ObjectName → List ℕ → List ℕ
data_text o state = numbers_text state ++ (codes " (" ++ (state_in_words o state ++ codes ")"))
