-- What holds for every list of operations on an object made with some size
use Rattle.std.specs.Prelude.{◌≡◌, ℕ, ◌+◌, ◌-◌, ◌^◌, ◌<◌, ◌≤◌, ◌==◌, ◌⊎◌, List, [], ◌∷◌, ◌++◌, length, map, filter, if◌then◌else◌}
use Rattle.monk_object.specs.{Book.START_READ, Book.END_READ, Book.START_WRITE, Book.END_WRITE, Shop.SIT, Shop.CALL}
use Rattle.monk_object.specs.{Shop.FINISH, Shop.DEPART, Flags.SET, Names.meaning_named, Names.opening_named}
use Rattle.monk_object.specs.Buffer.{PUT, TAKE}
use Rattle.monk_object.specs.Runs.{Answered, state_after, answers_of, is_done, times_done}
use Rattle.monk_object.specs.declared.name.ObjectName.{ObjectName}
use Rattle.monk_object.specs.declared.name.ObjectName.TheVariants.{Buffer, Book, Shop, Flags}
use Rattle.monk_object.specs.declared.op.Op.{Op}

-- the state after the operations, from the opening state of the object of that name and size
abbrev pub state_of : ObjectName → ℕ → List Op → List ℕ
state_of o size ops = state_after (meaning_named o) (opening_named o size) ops

-- the answers to those operations, from the opening state on
abbrev pub acts_of : ObjectName → ℕ → List Op → List Answered
acts_of o size ops = answers_of (meaning_named o) (opening_named o size) ops

-- the items of the puts that were done, in order
abbrev pub items_put : List Answered → List ℕ
items_put acts = map (λ act. act.op.arg) (filter (is_done PUT) acts)

-- the items of the takes that were done, in order
abbrev pub items_taken : List Answered → List ℕ
items_taken acts = map (λ act. act.reply - 1) (filter (is_done TAKE) acts)

-- a buffer: the items put are those taken and then those there, in order; there are never more than its size
pub record IsFirstInFirstOut (size : ℕ) (ops : List Op) : Type 0 where
  pub items : List ℕ
  pub state : state_of Buffer size ops ≡ size ∷ items
  pub in_order : items_put (acts_of Buffer size ops) ≡ items_taken (acts_of Buffer size ops) ++ items
  pub within : length items ≤ size

-- a book: there is at most one writer, never beside a reader, and never more readers than the size; all who started
-- and have not ended are there
pub record IsExclusive (size : ℕ) (ops : List Op) : Type 0 where
  pub readers : ℕ
  pub writers : ℕ
  pub state : state_of Book size ops ≡ size ∷ readers ∷ writers ∷ []
  pub within : readers ≤ size
  pub one_writer : writers ≤ 1
  pub alone : (readers ≡ 0) ⊎ (writers ≡ 0)
  pub reads : times_done START_READ (acts_of Book size ops) ≡ times_done END_READ (acts_of Book size ops) + readers
  pub writes : times_done START_WRITE (acts_of Book size ops) ≡ times_done END_WRITE (acts_of Book size ops) + writers

-- a shop: all who sat down were called or sit; all who were called were served, except one in the chair; all who
-- were served departed, except one who is still in the chair
pub record LosesNoCustomer (size : ℕ) (ops : List Op) : Type 0 where
  pub sitting : ℕ
  pub chair : ℕ
  pub state : state_of Shop size ops ≡ size ∷ sitting ∷ chair ∷ []
  pub within : sitting ≤ size
  pub sat : times_done SIT (acts_of Shop size ops) ≡ times_done CALL (acts_of Shop size ops) + sitting
  pub called : times_done CALL (acts_of Shop size ops)
      ≡ times_done FINISH (acts_of Shop size ops) + (if chair == 1 then 1 else 0)
  pub finished : times_done FINISH (acts_of Shop size ops)
      ≡ times_done DEPART (acts_of Shop size ops) + (if chair == 2 then 1 else 0)

-- the bits that were set, in order
abbrev pub bits_set : List Answered → List ℕ
bits_set acts = map (λ act. act.op.arg) (filter (is_done SET) acts)

-- flags: the bits are those of the last set that was done, 0 before the first; there is a flag for each bit
pub record HoldsTheLastSet (size : ℕ) (ops : List Op) : Type 0 where
  pub bits : ℕ
  pub earlier : List ℕ
  pub state : state_of Flags size ops ≡ size ∷ bits ∷ []
  pub in_order : 0 ∷ bits_set (acts_of Flags size ops) ≡ earlier ++ bits ∷ []
  pub within : bits < 2 ^ size
