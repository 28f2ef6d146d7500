-- The words and sentences of the reasons why a line can't follow the lines before it
use Rattle.std.specs.Prelude.{ℕ, List, codes}
use Rattle.monk_judge.specs.declared.blame.Blame.{Blame}
use Rattle.monk_judge.specs.declared.blame.Blame.TheVariants.{Range, Call, Held, NoLock, Asleep, Awake, Reply}

-- the word of a reason
abbrev pub blame_word : Blame → List ℕ
blame_word Range = codes "range"
blame_word Call = codes "call"
blame_word Held = codes "held"
blame_word NoLock = codes "nolock"
blame_word Asleep = codes "asleep"
blame_word Awake = codes "awake"
blame_word Reply = codes "reply"

-- its sentence
abbrev pub blame_sentence : Blame → List ℕ
blame_sentence Range = codes "the header has no such seat, condition or code"
blame_sentence Call =
    codes "until is no call of a mutex with condition variables; `monk complete --kind PIS` judges it"
blame_sentence Held = codes "another seat holds the lock; did the recorder give two threads one seat?"
blame_sentence NoLock =
    codes "the seat doesn't hold the lock; does another thread unlock it, or did it wait without the lock?"
blame_sentence Asleep = codes "the seat hasn't come back from its wait; do two threads have its seat?"
blame_sentence Awake = codes "the seat doesn't wait; do two threads have its seat?"
blame_sentence Reply = codes "the object replies otherwise: the seat relied on what no longer held"
