-- The totals of a run are those of its seats and rounds
use Rattle.std.proofs.Common.{◌≡◌, ℕ, suc, ◌+◌, ◌-◌, ◌*◌, ◌/◌, ◌≤◌, Bool, true, false, cond, List, [], ◌∷◌, ◌++◌, length}
use Rattle.std.proofs.Common.{refl, sym, ap, ◌∙◌, arith, append-nil}
use Rattle.std.proofs.lemmas.{List.Sums.sum_by-cons, Bool.Decides.nat_tests}
use Rattle.std.specs.{List.sum_by, List.sum, List.count_by, Prelude.map, Prelude.filter}
use Rattle.atomic_table.specs.Seated.{TableId}
use Rattle.monk_kinds.specs.declared.mode.Rules.{Rules}
use Rattle.monk_object.specs.{Book.book_meaning, Book.START_READ, Book.START_WRITE, Buffer.buffer_meaning, Buffer.PUT}
use Rattle.monk_object.specs.{Buffer.TAKE, Laws.items_put, Laws.items_taken, Object.Object, Runs.Answered, Runs.is_done}
use Rattle.monk_object.specs.{Runs.times_done, Shop.shop_meaning, Shop.SIT, Shop.CALL, Shop.FINISH, Shop.DEPART}
use Rattle.monk_history.specs.Meaning.Acts.{IsInOrder, ServesEachOne, acts_in}
use Rattle.monk_history.specs.declared.event.Event.{Event}
use Rattle.monk_hall.specs.{Records.opening_records, declared.setting.Setting.Setting}
use Rattle.monk_hall.specs.Tokens.{House, Token, tokens}
use Rattle.monk_samples.proofs.{DoneLaws.worth, DoneLaws.sum_to, WholeLaws.shares}
use Rattle.monk_samples.proofs.SeatSums.{over, first_half, second_half, first_items, calls_all, visits_all, sum_is}
use Rattle.monk_samples.proofs.ShareLaws.{once, item, puts_of, takes_of, items_of, reads_of, writes_of, calls_of}
use Rattle.monk_samples.proofs.ShareLaws.{sits_of, departs_of}
use Rattle.monk_samples.specs.{Ends.HaveServed, Rounds.HasServed, Samples.scenario_of, Wholes.HoldsOperationsOf}
use Rattle.monk_samples.specs.declared.{end.End.TheVariants.Done, manner.Manner.Manner, scenario.Scenario.Scenario}
use Rattle.monk_samples.specs.declared.sample.Sample.TheVariants.{Buffer, Book, Shop}
use Rattle.monk_samples.specs.Totals.{HasEnded, HasTotals, totals_of}

-- the sum of the items put is the sum over the puts that were done, each with its item
put_sum : (acts : List Answered) → sum (items_put acts) ≡ sum_by (worth PUT item) acts
put_sum [] = refl
put_sum (a ∷ acts) = by (put_sum acts) (is_done PUT a) ∙ sym (sum_by-cons (worth PUT item) a acts)
  where
    by : sum (items_put acts) ≡ sum_by (worth PUT item) acts → (b : Bool)
        → sum (map (λ act. act.op.arg) (cond b (a ∷ filter (is_done PUT) acts) (filter (is_done PUT) acts)))
        ≡ cond b (item a.op) 0 + sum_by (worth PUT item) acts
    by same true = sum_by-cons (λ x. x) a.op.arg (items_put acts) ∙ ap (λ n. a.op.arg + n) same
    by same false = same ∙ omega arith

-- the number of those that were done
counted : {X Y : Type 0} (p : X → Bool) (f : X → Y) (xs : List X) → length (map f (filter p xs)) ≡ count_by p xs
counted p f [] = refl
counted p f (x ∷ xs) = by (counted p f xs) (p x) ∙ sym (sum_by-cons (λ y. cond (p y) 1 0) x xs)
  where
    by : length (map f (filter p xs)) ≡ count_by p xs → (b : Bool)
        → length (map f (cond b (x ∷ filter p xs) (filter p xs))) ≡ cond b 1 0 + count_by p xs
    by same true = ap suc same ∙ omega arith
    by same false = same ∙ omega arith

none_over : {X : Type 0} (xs ys zs : List X) → xs ≡ ys ++ zs → length xs ≡ length ys → xs ≡ ys
none_over xs ys [] e same = e ∙ append-nil ys
none_over xs ys (z ∷ zs) e same = absurd (longer ys (sym same ∙ ap length e))
  where
    longer : (ws : List _) → length ws ≡ length (ws ++ z ∷ zs) → ⊥
    longer [] h = omega (arith, h)
    longer (w ∷ ws) h = longer ws (omega (arith, h))

-- if there are as many puts as takes, what was taken is what was put
pub taken_all : (size : ℕ) (state : List ℕ) (acts : List Answered) → IsInOrder size state acts
    → times_done PUT acts ≡ times_done TAKE acts → sum (items_taken acts) ≡ sum (items_put acts)
taken_all size state acts law same =
    sym (ap sum (none_over (items_put acts) (items_taken acts) law.items law.in_order
    (counted (is_done PUT) (λ act. act.op.arg) acts ∙ same ∙ sym (counted (is_done TAKE) (λ act. act.reply - 1) acts))))

module _ (k : Rules) (answers : ℕ → ℕ → Bool → Type 0) (seats rounds : ℕ) (z : TableId) (c : Setting) (house : House)
    (h : List Event) (qs : List Token) (holds : HoldsOperationsOf h qs) where
  total_is : (o : Object) (scenario : Scenario) (weight : Answered → ℕ) (share : ℕ → ℕ)
      → HaveServed k o answers scenario seats rounds house (tokens z (opening_records c seats 0)) qs
      → ((p q : Token) → HasServed k o answers scenario seats rounds p q Done → p.me.mine ≡ []
      → sum_by weight (acts_in q.me.mine) ≡ share p.me.seat)
      → sum_by weight (acts_in h) ≡ over share seats 0
  total_is o scenario weight share served each = grind (arith, nat_tests, shares)

  module _ (m : Manner) (served : HaveServed k buffer_meaning answers (scenario_of Buffer m) seats rounds house
      (tokens z (opening_records c seats 0)) qs) where
    pub puts_are : times_done PUT (acts_in h) ≡ seats / 2 * rounds
    puts_are = total_is buffer_meaning (scenario_of Buffer m) (worth PUT once) _ served
        (puts_of k buffer_meaning answers m seats rounds) ∙ first_half seats rounds

    pub takes_are : times_done TAKE (acts_in h) ≡ seats / 2 * rounds
    takes_are = total_is buffer_meaning (scenario_of Buffer m) (worth TAKE once) _ served
        (takes_of k buffer_meaning answers m seats rounds) ∙ second_half seats rounds

    pub items_are : sum (items_put (acts_in h)) ≡ seats / 2 * sum_to rounds
    items_are = put_sum (acts_in h)
        ∙ total_is buffer_meaning (scenario_of Buffer m) (worth PUT item) _ served
        (items_of k buffer_meaning answers m seats rounds) ∙ first_items seats rounds

  module _ (m : Manner) (served : HaveServed k book_meaning answers (scenario_of Book m) seats rounds house
      (tokens z (opening_records c seats 0)) qs) where
    pub reads_are : times_done START_READ (acts_in h) ≡ seats / 2 * rounds
    reads_are =
        total_is book_meaning (scenario_of Book m) (worth START_READ once) _ served
        (reads_of k book_meaning answers m seats rounds) ∙ first_half seats rounds

    pub writes_are : times_done START_WRITE (acts_in h) ≡ seats / 2 * rounds
    writes_are =
        total_is book_meaning (scenario_of Book m) (worth START_WRITE once) _ served
        (writes_of k book_meaning answers m seats rounds) ∙ second_half seats rounds

  module _ (some : 1 ≤ seats) (m : Manner)
      (served : HaveServed k shop_meaning answers (scenario_of Shop m) seats rounds house
      (tokens z (opening_records c seats 0)) qs) where
    pub calls_are : times_done CALL (acts_in h) ≡ (seats - 1) * rounds
    calls_are = total_is shop_meaning (scenario_of Shop m) (worth CALL once) _ served
        (calls_of k shop_meaning answers m seats rounds) ∙ calls_all seats rounds some

    pub sits_are : times_done SIT (acts_in h) ≡ (seats - 1) * rounds
    sits_are = total_is shop_meaning (scenario_of Shop m) (worth SIT once) _ served
        (sits_of k shop_meaning answers m seats rounds) ∙ visits_all seats rounds some

    pub departs_are : times_done DEPART (acts_in h) ≡ (seats - 1) * rounds
    departs_are = total_is shop_meaning (scenario_of Shop m) (worth DEPART once) _ served
        (departs_of k shop_meaning answers m seats rounds) ∙ visits_all seats rounds some

  -- all totals of each sample
  pub buffer_totals : (m : Manner)
      → HaveServed k buffer_meaning answers (scenario_of Buffer m) seats rounds house
      (tokens z (opening_records c seats 0)) qs
      → (size : ℕ) (state : List ℕ) → IsInOrder size state (acts_in h)
      → HasTotals Buffer seats rounds (totals_of Buffer h)
  buffer_totals m served size state law =
      let puts = puts_are m served in let takes = takes_are m served in
      let items = items_are m served ∙ ap (λ n. seats / 2 * n) (sum_is rounds) in
      let taken = taken_all size state (acts_in h) law (puts ∙ sym takes) ∙ items in
      λ i. puts i ∷ items i ∷ takes i ∷ taken i ∷ []

  pub book_totals : (m : Manner)
      → HaveServed k book_meaning answers (scenario_of Book m) seats rounds house
      (tokens z (opening_records c seats 0)) qs
      → HasEnded Book h → HasTotals Book seats rounds (totals_of Book h)
  book_totals m served ended =
      let reads = reads_are m served in let writes = writes_are m served in
      let read = ended.0 ∙ reads in let written = ended.1 ∙ writes in
      λ i. reads i ∷ read i ∷ writes i ∷ written i ∷ []

  pub shop_totals : 1 ≤ seats → (m : Manner)
      → HaveServed k shop_meaning answers (scenario_of Shop m) seats rounds house
      (tokens z (opening_records c seats 0)) qs
      → (size : ℕ) (state : List ℕ) → ServesEachOne size state (acts_in h)
      → HasTotals Shop seats rounds (totals_of Shop h)
  shop_totals some m served size state law =
      let sits = sits_are some m served in let calls = calls_are some m served in
      let departs = departs_are some m served in
      let finishes : times_done FINISH (acts_in h) ≡ (seats - 1) * rounds = grind (arith, nat_tests) in
      λ i. sits i ∷ calls i ∷ finishes i ∷ departs i ∷ []
