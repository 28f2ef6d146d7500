-- The acts of a history, and what they mean if the monitor guards a buffer, a book, a shop or flags. This is what a
-- reader of the history sees of the object, in the words of `monk_object`
use Rattle.std.specs.Prelude.{◌≡◌, ℕ, ◌+◌, ◌^◌, ◌<◌, ◌≤◌, ◌==◌, ◌⊎◌, Bool, false, List, [], ◌∷◌, ◌++◌, length, map, if◌then◌else◌, option_to_list}
use Rattle.std.specs.{List.flat_map, Option.option_map_or}
use Rattle.monk_object.specs.{Book.START_READ, Book.END_READ, Book.START_WRITE, Book.END_WRITE, Shop.SIT, Shop.CALL}
use Rattle.monk_object.specs.{Shop.FINISH, Shop.DEPART, Laws.bits_set, Laws.items_put, Laws.items_taken, Runs.Answered}
use Rattle.monk_object.specs.{Runs.answers_of, Runs.is_refused, Runs.state_after, Runs.times_done, declared.op.Op.Op}
use Rattle.monk_history.specs.Meaning.{Events.answered_act, Monitor.Monitor, Monitor.data_of}
use Rattle.monk_history.specs.declared.event.Event.{Event}

-- the act of an event, with the reply in the history
abbrev pub act_of : Event → List Answered
act_of e = option_to_list (answered_act e)

-- the acts of all seats, in order
abbrev pub acts_in : List Event → List Answered
acts_in h = flat_map act_of h

-- whether it is an act that the object refused, by the reply in the history
abbrev pub is_refused_act : Event → Bool
is_refused_act e = option_map_or is_refused (answered_act e) false

-- the steps of the refused acts, if the first event is number `step`
unfoldable pub refused_from : ℕ → List Event → List ℕ
refused_from step [] = []
refused_from step (e ∷ es) = (if is_refused_act e then step ∷ [] else []) ++ refused_from (step + 1) es

-- the steps of the refused acts of a whole history, counted from 1
abbrev pub refused_steps : List Event → List ℕ
refused_steps h = refused_from 1 h

-- the operations of the acts of a history, in order
abbrev pub ops_in : List Event → List Op
ops_in h = map (λ act. act.op) (acts_in h)

-- the acts are a run of the object from its opening state: each reply is the object's, and the data are its state
pub record IsRunOf (m : Monitor) (h : List Event) : Type 0 where
  pub replies : answers_of m.object m.opening (ops_in h) ≡ acts_in h
  pub leads_to : state_after m.object m.opening (ops_in h) ≡ data_of m h

-- a buffer: the items put are those taken, followed by those inside, in order. At most as many are inside as the size
-- says
pub record IsInOrder (size : ℕ) (state : List ℕ) (acts : List Answered) : Type 0 where
  pub items : List ℕ
  pub state_is : state ≡ size ∷ items
  pub in_order : items_put acts ≡ items_taken acts ++ items
  pub within : length items ≤ size

-- a book: at most one writes, and then nobody reads. Who started and has not ended is still in
pub record ExcludesEachOther (size : ℕ) (state : List ℕ) (acts : List Answered) : Type 0 where
  pub readers : ℕ
  pub writers : ℕ
  pub state_is : state ≡ size ∷ readers ∷ writers ∷ []
  pub within : readers ≤ size
  pub one_writer : writers ≤ 1
  pub alone : (readers ≡ 0) ⊎ (writers ≡ 0)
  pub reads : times_done START_READ acts ≡ times_done END_READ acts + readers
  pub writes : times_done START_WRITE acts ≡ times_done END_WRITE acts + writers

-- a shop: each who sat down was called or still sits. Each who was called was served or is being served. Each who was
-- served departed or is still in the chair
pub record ServesEachOne (size : ℕ) (state : List ℕ) (acts : List Answered) : Type 0 where
  pub sitting : ℕ
  pub chair : ℕ
  pub state_is : state ≡ size ∷ sitting ∷ chair ∷ []
  pub within : sitting ≤ size
  pub sat : times_done SIT acts ≡ times_done CALL acts + sitting
  pub called : times_done CALL acts ≡ times_done FINISH acts + (if chair == 1 then 1 else 0)
  pub finished : times_done FINISH acts ≡ times_done DEPART acts + (if chair == 2 then 1 else 0)

-- flags: the bits are those of the last set that was done, and none before the first. Each has its flag
pub record HoldsLastSet (size : ℕ) (state : List ℕ) (acts : List Answered) : Type 0 where
  pub bits : ℕ
  pub earlier : List ℕ
  pub state_is : state ≡ size ∷ bits ∷ []
  pub in_order : 0 ∷ bits_set acts ≡ earlier ++ bits ∷ []
  pub within : bits < 2 ^ size
