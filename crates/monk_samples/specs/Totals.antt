-- The totals of a run, by its history
use Rattle.std.specs.Prelude.{◌≡◌, false, ℕ, ◌+◌, ◌-◌, ◌*◌, ◌/◌, ◌==◌, Option, List, [], ◌∷◌, option_map, position, sum, if◌then◌else◌}
use Rattle.std.specs.List.{sum_by}
use Rattle.monk_kinds.specs.declared.mode.Rules.{Rules}
use Rattle.monk_object.specs.{Buffer.PUT, Buffer.TAKE, Laws.items_put, Laws.items_taken, Runs.Answered, Runs.times_done}
use Rattle.monk_object.specs.Book.{START_READ, END_READ, START_WRITE, END_WRITE}
use Rattle.monk_object.specs.Shop.{SIT, CALL, FINISH, DEPART}
use Rattle.monk_history.specs.Meaning.{Acts.acts_in, Acts.is_refused_act, Events.has_conditions}
use Rattle.monk_history.specs.declared.event.Event.{Event}
use Rattle.monk_samples.specs.declared.sample.Sample.{Sample, TheVariants.Buffer, TheVariants.Book, TheVariants.Shop}
use Rattle.monk_samples.specs.declared.scenario.Scenario.{Scenario}
use Rattle.monk_samples.specs.declared.manner.Manner.{Manner, TheVariants.Patient, TheVariants.Hasty}

-- how often that operation was done
abbrev pub count_done : ℕ → List Event → ℕ
count_done code h = times_done code (acts_in h)

-- the sum of the items that were put
abbrev pub sum_put : List Event → ℕ
sum_put h = sum (items_put (acts_in h))

-- the sum of the items that were taken
abbrev pub sum_taken : List Event → ℕ
sum_taken h = sum (items_taken (acts_in h))

-- how many of these acts were refused: their reply is 0
abbrev pub refusals_in : List Answered → ℕ
refusals_in acts = sum_by (λ a. if a.reply == 0 then 1 else 0) acts

-- how many acts of a history the object refused
abbrev pub missed_in : List Event → ℕ
missed_in h = refusals_in (acts_in h)

-- the step of the first act that was refused, counted from 1
abbrev pub first_missed : List Event → Option ℕ
first_missed h = option_map (λ n. n + 1) (position is_refused_act h)

-- a run over a buffer whose seats look again misses nothing. Under an automatic kind (PIS and NPIS) neither does a
-- hasty run: a seat that goes on finds its predicate true, and nobody acts before it does
abbrev pub MissesNothing : Rules → Manner → ℕ → Type 0
MissesNothing k Patient missed = missed ≡ 0
MissesNothing k Hasty missed = has_conditions k.mode ≡ false → missed ≡ 0

-- the same for the history of a run, if it is over a buffer
abbrev pub RefusesNothing : Rules → Scenario → List Event → Type 0
RefusesNothing k s h = s.sample ≡ Buffer → MissesNothing k s.manner (missed_in h)

-- the totals of a buffer
abbrev pub totals_of_buffer : List Event → List ℕ
totals_of_buffer h = count_done PUT h ∷ sum_put h ∷ count_done TAKE h ∷ sum_taken h ∷ []

-- the totals of a sample
abbrev pub totals_of : Sample → List Event → List ℕ
totals_of Buffer h = totals_of_buffer h
totals_of Book h =
    count_done START_READ h ∷ count_done END_READ h ∷ count_done START_WRITE h ∷ count_done END_WRITE h ∷ []
totals_of Shop h = count_done SIT h ∷ count_done CALL h ∷ count_done FINISH h ∷ count_done DEPART h ∷ []

-- in a book as many reads and writes were ended as were begun
abbrev pub HasEnded : Sample → List Event → Type 0
HasEnded Buffer h = Unit {0}
HasEnded Book h = (count_done END_READ h ≡ count_done START_READ h)
    × (count_done END_WRITE h ≡ count_done START_WRITE h)
HasEnded Shop h = Unit {0}

-- half of the seats put the numbers of their rounds, and as many take as often
abbrev pub HasPutAndTaken : ℕ → ℕ → List ℕ → Type 0
HasPutAndTaken seats rounds t =
    t ≡ seats / 2 * rounds ∷ seats / 2 * (rounds * (rounds + 1) / 2) ∷ seats / 2 * rounds
    ∷ seats / 2 * (rounds * (rounds + 1) / 2) ∷ []

-- what the totals of a run must be, by its seats and rounds
abbrev pub HasTotals : Sample → ℕ → ℕ → List ℕ → Type 0
HasTotals Buffer seats rounds t = HasPutAndTaken seats rounds t
HasTotals Book seats rounds t =
    t ≡ seats / 2 * rounds ∷ seats / 2 * rounds ∷ seats / 2 * rounds ∷ seats / 2 * rounds ∷ []
HasTotals Shop seats rounds t =
    t ≡ (seats - 1) * rounds ∷ (seats - 1) * rounds ∷ (seats - 1) * rounds ∷ (seats - 1) * rounds ∷ []
