-- What a seat has done in its rounds
use Rattle.std.proofs.Common.{◌≡◌, ℕ, zero, suc, ◌+◌, ◌*◌, Bool, false, cond}
use Rattle.std.proofs.Common.{◌==◌, Option, Some, None, List, [], ◌∷◌, ◌++◌}
use Rattle.std.proofs.Common.{refl, sym, ap, ◌∙◌, arith}
use Rattle.std.proofs.lemmas.{List.Sums.sum_by-append, List.Sums.sum_by-cons, Bool.Decides.nat_tests}
use Rattle.std.specs.List.{sum_by}
use Rattle.monk_kinds.specs.declared.mode.Rules.{Rules}
use Rattle.monk_object.specs.{Object.Object, Runs.Answered, Runs.is_done, declared.op.Op.Op}
use Rattle.monk_history.specs.{Meaning.Acts.acts_in, declared.event.Event.Event}
use Rattle.monk_hall.specs.{Tokens.Token, declared.setting.Setting.Setting}
use Rattle.monk_samples.proofs.VisitLaws.{acts_append, calls_acts, calls_out_acts, paused_acts}
use Rattle.monk_samples.specs.{Rounds.rounds_to, declared.end.End.TheVariants.Done}
use Rattle.monk_samples.specs.Visits.{Plan, Guard, AreMisses, AreVisits, IsCertain, IsMiss, IsTry, IsVisit}
use Rattle.monk_samples.specs.Trails.{Addition, HasCalled, calls_in, events_in, outside}

-- what an operation of that code is worth, after it was done and as it is planned
abbrev pub worth : ℕ → (Op → ℕ) → Answered → ℕ
worth code f a = cond (is_done code a) (f a.op) 0

abbrev pub planned : ℕ → (Op → ℕ) → Plan → ℕ
planned code f v = cond (v.op.code == code) (f v.op) 0

-- a plan of that code waits until its operation isn't refused
abbrev IsSureFor : Option Guard → Bool → Type 0
IsSureFor None is = is ≡ false
IsSureFor (Some w) is = Unit {0}

abbrev pub IsSure : ℕ → Plan → Type 0
IsSure code v = IsSureFor v.guard (v.op.code == code)

abbrev pub AreSure : ℕ → List Plan → Type 0
AreSure code [] = Unit {0}
AreSure code (v ∷ vs) = IsSure code v × AreSure code vs

sure_then : (code : ℕ) (vs ws : List Plan) → AreSure code vs → AreSure code ws → AreSure code (vs ++ ws)
sure_then code [] ws s t = t
sure_then code (v ∷ vs) ws s t = (s.0, sure_then code vs ws s.1 t)

-- no call asks for a coming in, and it does no operation
own_act : (before : List Event) (e : Event) (own : List Addition)
    → acts_in (events_in own) ≡ acts_in (events_in (calls_in own))
    → acts_in (events_in (record { before = before; event = e } ∷ own))
    ≡ acts_in (events_in (calls_in (record { before = before; event = e } ∷ own)))
own_act before e own same = grind (arith, nat_tests)

pub own_acts : (own : List Addition) → acts_in (events_in own) ≡ acts_in (events_in (calls_in own))
own_acts [] = refl
own_acts (d ∷ own) = own_act d.before d.event own (own_acts own)

alone : (n : ℕ) → 0 + n ≡ n
alone n = omega arith

module _ (k : Rules) (o : Object) where
  pub try_acts : (c : Setting) (s : ℕ) (v : Plan) (calls : List Addition) (is : IsTry k o c s v calls)
      → acts_in (events_in calls) ≡ record { op = v.op; reply = is.done.reply } ∷ []
  try_acts c s v calls is = grind (arith, nat_tests, acts_append, paused_acts, calls_acts, calls_out_acts)

  -- a try that missed did no operation that counts
  miss_acts : (c : Setting) (s : ℕ) (v : Plan) (calls : List Addition) (is : IsMiss k o c s v calls)
      → acts_in (events_in calls) ≡ record { op = v.op; reply = 0 } ∷ []
  miss_acts c s v calls is = grind (arith, nat_tests, acts_append, paused_acts, calls_acts)

  worth_nothing : (code : ℕ) (f : Op → ℕ) (op : Op) → worth code f (record { op = op; reply = 0 }) ≡ 0
  worth_nothing code f op = grind (arith, nat_tests)

  misses_worth : (code : ℕ) (f : Op → ℕ) (c : Setting) (s : ℕ) (v : Plan) (n : ℕ) (calls : List Addition)
      → AreMisses k o c s v n calls → sum_by (worth code f) (acts_in (events_in calls)) ≡ 0
  misses_worth code f c s v zero calls are = ap (λ ds. sum_by (worth code f) (acts_in (events_in ds))) are
  misses_worth code f c s v (suc n) calls are =
      ap (λ ds. sum_by (worth code f) (acts_in (events_in ds))) are.are
      ∙ ap (sum_by (worth code f)) (acts_append k o are.first are.rest)
      ∙ sum_by-append (worth code f) (acts_in (events_in are.first)) (acts_in (events_in are.rest))
      ∙ (λ i. misses_worth code f c s v n are.first are.is_first i
      + (ap (sum_by (worth code f)) (miss_acts c s v are.rest are.is_rest) ∙ alone _ ∙ worth_nothing code f v.op) i)

  -- a visit of that code that is sure has done its operation
  worth_here : (code : ℕ) (f : Op → ℕ) (w : Option Guard) (op : Op) (reply : ℕ) → IsSureFor w (op.code == code)
      → IsCertain w reply
      → worth code f (record { op = op; reply = reply }) ≡ cond (op.code == code) (f op) 0
  worth_here code f w op reply sure certain = grind (arith, nat_tests)

  visit_worth : (code : ℕ) (f : Op → ℕ) (c : Setting) (s : ℕ) (v : Plan) (calls : List Addition)
      → IsVisit k o c s v calls
      → IsSure code v → sum_by (worth code f) (acts_in (events_in calls)) ≡ planned code f v
  visit_worth code f c s v calls is sure = let tries = is.tries in
      ap (λ ds. sum_by (worth code f) (acts_in (events_in ds))) tries.are
      ∙ ap (sum_by (worth code f)) (acts_append k o tries.first tries.rest)
      ∙ sum_by-append (worth code f) (acts_in (events_in tries.first)) (acts_in (events_in tries.rest))
      ∙ (λ i. misses_worth code f c s v is.misses tries.first tries.is_first i
      + (ap (sum_by (worth code f)) (try_acts c s v tries.rest tries.is_rest) ∙ alone _
      ∙ worth_here code f v.guard v.op tries.is_rest.done.reply sure tries.is_rest.done.certain) i)
      ∙ alone _

  pub visits_worth : (code : ℕ) (f : Op → ℕ) (c : Setting) (s : ℕ) (vs : List Plan) (calls : List Addition)
      → AreVisits k o c s Done vs calls → AreSure code vs
      → sum_by (worth code f) (acts_in (events_in calls)) ≡ sum_by (planned code f) vs
  visits_worth code f c s [] calls are sure = ap (λ ds. sum_by (worth code f) (acts_in (events_in ds))) are
  visits_worth code f c s (v ∷ vs) calls are sure =
      ap (λ ds. sum_by (worth code f) (acts_in (events_in ds))) are.are
      ∙ ap (sum_by (worth code f)) (acts_append k o are.first are.rest)
      ∙ sum_by-append (worth code f) (acts_in (events_in are.first)) (acts_in (events_in are.rest))
      ∙ (λ i. visit_worth code f c s v are.first are.is_first sure.0 i
      + visits_worth code f c s vs are.rest are.is_rest sure.1 i)
      ∙ sym (sum_by-cons (planned code f) v vs)

  -- a seat without events before has done what its visits planned
  pub calls_worth : (code : ℕ) (f : Op → ℕ) (p q : Token) (vs : List Plan) (calls : List Addition)
      → HasCalled (outside p) (outside q) calls → AreVisits k o p.me.setting p.me.seat Done vs calls → AreSure code vs
      → p.me.mine ≡ [] → sum_by (worth code f) (acts_in q.me.mine) ≡ sum_by (planned code f) vs
  calls_worth code f p q vs calls called are sure none = grind (arith, nat_tests, own_acts, visits_worth)

-- what the rounds of a seat are worth, if each is worth the same
pub rounds_worth : (code : ℕ) (f : Op → ℕ) (round : ℕ → List Plan) (each n : ℕ)
    → ((r : ℕ) → sum_by (planned code f) (round r) ≡ each)
    → sum_by (planned code f) (rounds_to round n) ≡ n * each
rounds_worth code f round each zero same = omega arith
rounds_worth code f round each (suc n) same =
    sum_by-append (planned code f) (rounds_to round n) (round (suc n))
    ∙ (λ i. rounds_worth code f round each n same i + same (suc n) i) ∙ omega arith

-- the sum of the numbers from 1 to n
abbrev pub sum_to : ℕ → ℕ
sum_to zero = 0
sum_to (suc n) = sum_to n + suc n

pub numbers_worth : (code : ℕ) (f : Op → ℕ) (round : ℕ → List Plan) (n : ℕ)
    → ((r : ℕ) → sum_by (planned code f) (round r) ≡ r)
    → sum_by (planned code f) (rounds_to round n) ≡ sum_to n
numbers_worth code f round zero same = refl
numbers_worth code f round (suc n) same =
    sum_by-append (planned code f) (rounds_to round n) (round (suc n))
    ∙ (λ i. numbers_worth code f round n same i + same (suc n) i)

pub sure_rounds : (code : ℕ) (round : ℕ → List Plan) (n : ℕ) → ((r : ℕ) → AreSure code (round r))
    → AreSure code (rounds_to round n)
sure_rounds code round zero sure = tt
sure_rounds code round (suc n) sure =
    sure_then code (rounds_to round n) (round (suc n)) (sure_rounds code round n sure) (sure (suc n))
