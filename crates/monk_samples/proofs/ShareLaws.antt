-- What each seat of a run is worth to its totals
use Rattle.std.proofs.Common.{◌≡◌, ℕ, ◌*◌, ◌/◌, Bool, true, false, cond, nat_lt, nat_eq, List, [], ◌∷◌}
use Rattle.std.proofs.Common.{refl, sym, ap, subst, ◌∙◌, arith}
use Rattle.std.{specs.List.sum_by, proofs.lemmas.Bool.Decides.nat_tests}
use Rattle.monk_kinds.specs.declared.mode.Rules.{Rules}
use Rattle.monk_object.specs.{Object.Object, Buffer.PUT, Buffer.TAKE, Book.START_READ, Book.START_WRITE, Shop.SIT}
use Rattle.monk_object.specs.{Shop.CALL, Shop.DEPART, declared.op.Op.Op}
use Rattle.monk_history.specs.Meaning.Acts.{acts_in}
use Rattle.monk_hall.specs.Tokens.{Token}
use Rattle.monk_samples.proofs.DoneLaws.{worth, planned, AreSure, calls_worth, rounds_worth, numbers_worth, sum_to}
use Rattle.monk_samples.proofs.DoneLaws.{sure_rounds}
use Rattle.monk_samples.specs.{Samples.scenario_of, Visits.Plan}
use Rattle.monk_samples.specs.Members.{begins_to_read, ends_to_read, begins_to_write, ends_to_write, puts_by, takes_by}
use Rattle.monk_samples.specs.Members.{sits, departs, calls, finishes}
use Rattle.monk_samples.specs.declared.{end.End.TheVariants.Done, scenario.Scenario.Scenario, manner.Manner.Manner}
use Rattle.monk_samples.specs.declared.sample.Sample.TheVariants.{Buffer, Book, Shop}
use Rattle.monk_samples.specs.Rounds.{HasServed, round_of, rounds_of, rounds_to}

-- each operation counts once, and an item counts as its number
abbrev pub once : Op → ℕ
once op = 1

abbrev pub item : Op → ℕ
item op = op.arg

-- a seat that has served to its end, and had no event before
pub served_worth : (k : Rules) (o : Object) (answers : ℕ → ℕ → Bool → Type 0) (scenario : Scenario)
    (seats rounds : ℕ) (p q : Token)
    (code : ℕ) (f : Op → ℕ) → HasServed k o answers scenario seats rounds p q Done → p.me.mine ≡ []
    → ((r : ℕ) → AreSure code (round_of scenario k p.me.setting seats p.me.seat r))
    → sum_by (worth code f) (acts_in q.me.mine)
    ≡ sum_by (planned code f) (rounds_to (round_of scenario k p.me.setting seats p.me.seat)
    (rounds_of scenario.sample seats rounds p.me.seat))
served_worth k o answers scenario seats rounds p q code f s none sure =
    calls_worth k o code f p q _ s.calls s.called s.are
    (sure_rounds code (round_of scenario k p.me.setting seats p.me.seat)
    (rounds_of scenario.sample seats rounds p.me.seat) sure) none

-- each round of a seat is worth the same, by which of two it has
module _ (code : ℕ) (f : Op → ℕ) where
  either_round : (b : Bool) (mine others : List Plan) (x y : ℕ) → sum_by (planned code f) mine ≡ x
      → sum_by (planned code f) others ≡ y
      → sum_by (planned code f) (cond b mine others) ≡ cond b x y
  either_round b mine others x y s t = grind (arith, nat_tests)

  either_sure : (b : Bool) (mine others : List Plan) → AreSure code mine → AreSure code others
      → AreSure code (cond b mine others)
  either_sure true mine others s t = s
  either_sure false mine others s t = t

-- rounds of one kind or of the other, for a seat that has served to its end
module _ (k : Rules) (o : Object) (answers : ℕ → ℕ → Bool → Type 0) (scenario : Scenario) (seats rounds : ℕ)
    (p q : Token) (s : HasServed k o answers scenario seats rounds p q Done) (none : p.me.mine ≡ []) where
  share_of : (code : ℕ) (f : Op → ℕ) (b : Bool) (mine others : ℕ → List Plan) (x y : ℕ)
      → ((r : ℕ) → round_of scenario k p.me.setting seats p.me.seat r ≡ cond b (mine r) (others r))
      → ((r : ℕ) → AreSure code (mine r)) → ((r : ℕ) → AreSure code (others r))
      → ((r : ℕ) → sum_by (planned code f) (mine r) ≡ x) → ((r : ℕ) → sum_by (planned code f) (others r) ≡ y)
      → sum_by (worth code f) (acts_in q.me.mine) ≡ rounds_of scenario.sample seats rounds p.me.seat * cond b x y
  share_of code f b mine others x y are sure more here there =
      served_worth k o answers scenario seats rounds p q code f s none
      (λ r. subst (AreSure code) (sym (are r)) (either_sure code f b (mine r) (others r) (sure r) (more r)))
      ∙ rounds_worth code f (round_of scenario k p.me.setting seats p.me.seat) (cond b x y)
      (rounds_of scenario.sample seats rounds p.me.seat)
      (λ r. ap (sum_by (planned code f)) (are r) ∙ either_round code f b (mine r) (others r) x y (here r) (there r))

-- for a buffer
module _ (k : Rules) (o : Object) (answers : ℕ → ℕ → Bool → Type 0) (m : Manner) (seats rounds : ℕ) (p q : Token)
    (s : HasServed k o answers (scenario_of Buffer m) seats rounds p q Done) (none : p.me.mine ≡ []) where
  abbrev first : Bool
  first = nat_lt p.me.seat (seats / 2)

  abbrev here : Scenario
  here = scenario_of Buffer m

  pub puts_of : sum_by (worth PUT once) (acts_in q.me.mine) ≡ rounds_of Buffer seats rounds p.me.seat * cond first 1 0
  puts_of =
      share_of k o answers here seats rounds p q s none PUT once first (λ r. puts_by m r ∷ [])
      (λ r. takes_by m ∷ []) 1 0
      (λ r. refl) (λ r. (tt, tt)) (λ r. (tt, tt)) (λ r. refl) (λ r. refl)

  pub takes_of : sum_by (worth TAKE once) (acts_in q.me.mine) ≡ rounds_of Buffer seats rounds p.me.seat * cond first 0 1
  takes_of =
      share_of k o answers here seats rounds p q s none TAKE once first (λ r. puts_by m r ∷ [])
      (λ r. takes_by m ∷ []) 0 1
      (λ r. refl) (λ r. (tt, tt)) (λ r. (tt, tt)) (λ r. refl) (λ r. refl)

  items_in : (b : Bool) (n : ℕ)
      → sum_by (planned PUT item) (rounds_to (λ r. cond b (puts_by m r ∷ []) (takes_by m ∷ [])) n) ≡ cond b (sum_to n) 0
  items_in true n = numbers_worth PUT item (λ r. puts_by m r ∷ []) n (λ r. omega arith)
  items_in false n = rounds_worth PUT item (λ r. takes_by m ∷ []) 0 n (λ r. refl) ∙ omega arith

  pub items_of : sum_by (worth PUT item) (acts_in q.me.mine)
      ≡ cond first (sum_to (rounds_of Buffer seats rounds p.me.seat)) 0
  items_of =
      served_worth k o answers here seats rounds p q PUT item s none
      (λ r. either_sure PUT item first (puts_by m r ∷ []) (takes_by m ∷ []) (tt, tt) (tt, tt))
      ∙ items_in first (rounds_of Buffer seats rounds p.me.seat)

-- for a book
module _ (k : Rules) (o : Object) (answers : ℕ → ℕ → Bool → Type 0) (m : Manner) (seats rounds : ℕ) (p q : Token)
    (s : HasServed k o answers (scenario_of Book m) seats rounds p q Done) (none : p.me.mine ≡ []) where
  abbrev reads : ℕ → List Plan
  reads r = begins_to_read ∷ ends_to_read k p.me.setting ∷ []

  abbrev writes : ℕ → List Plan
  writes r = begins_to_write ∷ ends_to_write k ∷ []

  pub reads_of : sum_by (worth START_READ once) (acts_in q.me.mine)
      ≡ rounds_of Book seats rounds p.me.seat * cond (nat_lt p.me.seat (seats / 2)) 1 0
  reads_of =
      share_of k o answers (scenario_of Book m) seats rounds p q s none START_READ once
      (nat_lt p.me.seat (seats / 2)) reads writes 1 0 (λ r. refl) (λ r. (tt, (refl, tt))) (λ r. (tt, (refl, tt)))
      (λ r. refl) (λ r. refl)

  pub writes_of : sum_by (worth START_WRITE once) (acts_in q.me.mine)
      ≡ rounds_of Book seats rounds p.me.seat * cond (nat_lt p.me.seat (seats / 2)) 0 1
  writes_of =
      share_of k o answers (scenario_of Book m) seats rounds p q s none START_WRITE once
      (nat_lt p.me.seat (seats / 2)) reads writes 0 1 (λ r. refl) (λ r. (tt, (refl, tt))) (λ r. (tt, (refl, tt)))
      (λ r. refl) (λ r. refl)

-- for a shop
module _ (k : Rules) (o : Object) (answers : ℕ → ℕ → Bool → Type 0) (m : Manner) (seats rounds : ℕ) (p q : Token)
    (s : HasServed k o answers (scenario_of Shop m) seats rounds p q Done) (none : p.me.mine ≡ []) where
  abbrev turns : ℕ → List Plan
  turns r = calls ∷ finishes ∷ []

  abbrev visits : ℕ → List Plan
  visits r = sits ∷ departs ∷ []

  pub calls_of : sum_by (worth CALL once) (acts_in q.me.mine)
      ≡ rounds_of Shop seats rounds p.me.seat * cond (nat_eq p.me.seat 0) 1 0
  calls_of =
      share_of k o answers (scenario_of Shop m) seats rounds p q s none CALL once (nat_eq p.me.seat 0) turns visits 1 0
      (λ r. refl) (λ r. (tt, (refl, tt))) (λ r. (tt, (tt, tt))) (λ r. refl) (λ r. refl)

  pub sits_of : sum_by (worth SIT once) (acts_in q.me.mine)
      ≡ rounds_of Shop seats rounds p.me.seat * cond (nat_eq p.me.seat 0) 0 1
  sits_of =
      share_of k o answers (scenario_of Shop m) seats rounds p q s none SIT once (nat_eq p.me.seat 0) turns visits 0 1
      (λ r. refl) (λ r. (tt, (refl, tt))) (λ r. (tt, (tt, tt))) (λ r. refl) (λ r. refl)

  pub departs_of : sum_by (worth DEPART once) (acts_in q.me.mine)
      ≡ rounds_of Shop seats rounds p.me.seat * cond (nat_eq p.me.seat 0) 0 1
  departs_of =
      share_of k o answers (scenario_of Shop m) seats rounds p q s none DEPART once (nat_eq p.me.seat 0) turns visits
      0 1 (λ r. refl) (λ r. (tt, (refl, tt))) (λ r. (tt, (tt, tt))) (λ r. refl) (λ r. refl)
