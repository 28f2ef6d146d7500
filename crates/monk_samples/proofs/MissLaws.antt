-- If no try misses, no act of a buffer is refused
use Rattle.std.proofs.Common.{◌≡◌, ℕ, zero, suc, ◌+◌, ◌<◌, ◌/◌, ◌==◌, Bool, true, false, cond, nat_lt, Option, Some, None, List, [], ◌∷◌, ◌++◌}
use Rattle.std.proofs.Common.{refl, ap, ◌∙◌, arith}
use Rattle.std.{proofs.lemmas.List.Sums.sum_by-append, proofs.lemmas.Bool.Decides.nat_tests, specs.List.sum_by}
use Rattle.atomic_table.specs.Seated.{TableId}
use Rattle.monk_kinds.specs.declared.mode.Rules.{Rules}
use Rattle.monk_object.specs.{Buffer.buffer_meaning, Object.Object, Runs.Answered, declared.op.Op.Op}
use Rattle.monk_history.specs.{Meaning.Acts.acts_in, Meaning.Events.has_conditions, declared.event.Event.Event}
use Rattle.monk_hall.specs.{Records.opening_records, declared.setting.Setting.Setting}
use Rattle.monk_hall.specs.Tokens.{House, Token, tokens}
use Rattle.monk_samples.proofs.{SeatSums.over, VisitLaws.acts_append, WholeLaws.shares}
use Rattle.monk_samples.proofs.DoneLaws.{own_acts, try_acts}
use Rattle.monk_samples.specs.{Ends.HaveServed, Members.puts_by, Members.takes_by, Samples.scenario_of}
use Rattle.monk_samples.specs.{Wholes.HoldsOperationsOf, Totals.MissesNothing, Totals.missed_in}
use Rattle.monk_samples.specs.declared.{end.End.TheVariants.Done, sample.Sample.TheVariants.Buffer}
use Rattle.monk_samples.specs.declared.manner.Manner.{Manner, TheVariants.Hasty, TheVariants.Patient}
use Rattle.monk_samples.specs.Visits.{AreMisses, AreVisits, Guard, IsCertain, IsVisit, Misses, Plan}
use Rattle.monk_samples.specs.Rounds.{round_of, rounds_of, rounds_to}
use Rattle.monk_samples.specs.Trails.{Addition, HasCalled, events_in, outside}

-- a refused act counts once
abbrev refused : Answered → ℕ
refused a = cond (a.reply == 0) 1 0

alone : (n : ℕ) → 0 + n ≡ n
alone n = omega arith

not_refused : (op : Op) (reply : ℕ) → 0 < reply → sum_by refused (record { op = op; reply = reply } ∷ []) ≡ 0
not_refused op reply certain = grind (arith, nat_tests)

over_none : (n i : ℕ) → over (λ s. 0) n i ≡ 0
over_none zero i = refl
over_none (suc n) i = alone _ ∙ over_none n (suc i)

module _ (k : Rules) (o : Object) where
  -- a visit of that manner misses under no kind, or not under this one
  abbrev pub NeverMisses : Manner → Type 0
  NeverMisses Patient = Unit {0}
  NeverMisses Hasty = has_conditions k.mode ≡ false

  abbrev IsCarefulFor : Option Guard → Type 0
  IsCarefulFor None = ⊥
  IsCarefulFor (Some w) = NeverMisses w.manner

  abbrev AreCareful : List Plan → Type 0
  AreCareful [] = Unit {0}
  AreCareful (v ∷ vs) = IsCarefulFor v.guard × AreCareful vs

  careful_then : (vs ws : List Plan) → AreCareful vs → AreCareful ws → AreCareful (vs ++ ws)
  careful_then [] ws s t = t
  careful_then (v ∷ vs) ws s t = (s.0, careful_then vs ws s.1 t)

  careful_rounds : (round : ℕ → List Plan) (n : ℕ) → ((r : ℕ) → AreCareful (round r)) → AreCareful (rounds_to round n)
  careful_rounds round zero all = tt
  careful_rounds round (suc n) all =
      careful_then (rounds_to round n) (round (suc n)) (careful_rounds round n all) (all (suc n))

  careful_either : (b : Bool) (m : Manner) (round : ℕ) → NeverMisses m
      → AreCareful (cond b (puts_by m round ∷ []) (takes_by m ∷ []))
  careful_either true m round never = (never, tt)
  careful_either false m round never = (never, tt)

  misses_none : (c : Setting) (s : ℕ) (v : Plan) (g : Option Guard) (n : ℕ) (calls : List Addition) → IsCarefulFor g
      → Misses g n → AreMisses k o c s v n calls → calls ≡ []
  misses_none c s v g n calls careful may are = grind (arith, nat_tests)

  certainly : (g : Option Guard) (reply : ℕ) → IsCarefulFor g → IsCertain g reply → 0 < reply
  certainly g reply careful certain = grind (arith, nat_tests)

  visit_refused : (c : Setting) (s : ℕ) (v : Plan) (calls : List Addition) → IsVisit k o c s v calls
      → IsCarefulFor v.guard → sum_by refused (acts_in (events_in calls)) ≡ 0
  visit_refused c s v calls is careful = let tries = is.tries in
      ap (λ ds. sum_by refused (acts_in (events_in ds)))
      (tries.are ∙ ap (λ ds. ds ++ tries.rest)
      (misses_none c s v v.guard is.misses tries.first careful is.may tries.is_first))
      ∙ ap (sum_by refused) (try_acts k o c s v tries.rest tries.is_rest)
      ∙ not_refused v.op tries.is_rest.done.reply
      (certainly v.guard tries.is_rest.done.reply careful tries.is_rest.done.certain)

  visits_refused : (c : Setting) (s : ℕ) (vs : List Plan) (calls : List Addition)
      → AreVisits k o c s Done vs calls → AreCareful vs → sum_by refused (acts_in (events_in calls)) ≡ 0
  visits_refused c s [] calls are careful = ap (λ ds. sum_by refused (acts_in (events_in ds))) are
  visits_refused c s (v ∷ vs) calls are careful =
      ap (λ ds. sum_by refused (acts_in (events_in ds))) are.are
      ∙ ap (sum_by refused) (acts_append k o are.first are.rest)
      ∙ sum_by-append refused (acts_in (events_in are.first)) (acts_in (events_in are.rest))
      ∙ (λ i. visit_refused c s v are.first are.is_first careful.0 i
      + visits_refused c s vs are.rest are.is_rest careful.1 i)
      ∙ alone 0

  calls_refused : (p q : Token) (vs : List Plan) (calls : List Addition) → HasCalled (outside p) (outside q) calls
      → AreVisits k o p.me.setting p.me.seat Done vs calls → AreCareful vs → p.me.mine ≡ []
      → sum_by refused (acts_in q.me.mine) ≡ 0
  calls_refused p q vs calls called are careful none = grind (arith, nat_tests, own_acts, visits_refused)

-- a run over a buffer misses nothing if its visits don't
pub buffer_misses : (k : Rules) (answers : ℕ → ℕ → Bool → Type 0) (seats rounds : ℕ) (z : TableId) (c : Setting)
    (house : House) (h : List Event) (qs : List Token) → HoldsOperationsOf h qs → (m : Manner)
    → HaveServed k buffer_meaning answers (scenario_of Buffer m) seats rounds house
    (tokens z (opening_records c seats 0)) qs
    → NeverMisses k buffer_meaning m → missed_in h ≡ 0
buffer_misses k answers seats rounds z c house h qs holds m served never =
    holds refused
    ∙ shares k buffer_meaning answers (scenario_of Buffer m) seats rounds house c z refused (λ s. 0)
    (λ p q s none. calls_refused k buffer_meaning p q
    (rounds_to (round_of (scenario_of Buffer m) k p.me.setting seats p.me.seat)
    (rounds_of Buffer seats rounds p.me.seat))
    s.calls s.called s.are
    (careful_rounds k buffer_meaning (round_of (scenario_of Buffer m) k p.me.setting seats p.me.seat)
    (rounds_of Buffer seats rounds p.me.seat)
    (λ r. careful_either k buffer_meaning (nat_lt p.me.seat (seats / 2)) m r never)) none) seats 0 qs served
    ∙ over_none seats 0

-- this holds whatever the manner
pub misses_by : (k : Rules) (m : Manner) (missed : ℕ) → (NeverMisses k buffer_meaning m → missed ≡ 0)
    → MissesNothing k m missed
misses_by k Patient missed none = none tt
misses_by k Hasty missed none = none
