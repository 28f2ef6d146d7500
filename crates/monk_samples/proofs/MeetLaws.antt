-- What stays the same for passes that meet, and what the history holds that their seats closed
use Rattle.std.proofs.Common.{◌≡◌, ◌≢◌, ℕ, zero, suc, ◌+◌, ◌≤◌, Bool, true, List, [], ◌∷◌, ◌++◌, length, refl, sym, ap, subst, ◌∙◌, arith}
use Rattle.std.proofs.{Common.append_assoc, lemmas.List.Kept.AllPairs-cons, lemmas.List.Sums.sum_by-append}
use Rattle.std.proofs.{lemmas.List.Sums.sum_by-cons, lemmas.List.Elements.All-cons, lemmas.List.Elements.All-head}
use Rattle.std.proofs.{lemmas.List.Elements.All-nil, lemmas.List.Elements.All-tail, lemmas.Bool.Decides.nat_tests}
use Rattle.std.specs.Prelude.{All, AllPairs, sum_by}
use Rattle.atomic_table.specs.Seated.{TableId}
use Rattle.monk_kinds.specs.declared.mode.Rules.{Rules}
use Rattle.monk_object.specs.{Object.Object, Runs.Answered}
use Rattle.monk_history.specs.Meaning.{Acts.acts_in, Counts.events_of}
use Rattle.monk_history.specs.declared.event.{Event.Event, Event.TheVariants.Leave, Next.TheVariants.Entry, Turn.Turn}
use Rattle.monk_world.specs.{StepTable.out_event, declared.source.Source.Source}
use Rattle.monk_hall.{proofs.PublicLaws.holds_sum, specs.Floors.StartsWith, specs.Records.opening_records}
use Rattle.monk_hall.{specs.Tokens.House, specs.Tokens.Token, specs.Tokens.tokens, specs.Complete.AreApart}
use Rattle.monk_hall.{specs.Complete.HoldsOnly, specs.declared.deed.Deed.Deed, specs.declared.setting.Setting.Setting}
use Rattle.monk_samples.proofs.{TrailLaws.starts_here, TrailLaws.starts_then, WholeLaws.of_event, WholeLaws.acts_worth}
use Rattle.monk_samples.specs.{Crews.IsOf, Ends.HaveServed, Trails.is_coming, declared.scenario.Scenario.Scenario}
use Rattle.monk_samples.specs.Wholes.{IsSame, AreSame, HoldsOperationsOf, IsClosedBy, IsFirstSpent, IsLeftBy}

pub same_pass : (p : Token) → IsSame p p
same_pass p = record { hall = refl; seat = refl; setting = refl; mine = refl }

pub same_again : (p q r : Token) → IsSame p q → IsSame q r → IsSame p r
same_again p q r s t = grind (arith, nat_tests)

pub same_then : (ps qs : List Token) (p q : Token) → AreSame ps qs → IsSame p q → AreSame (ps ++ p ∷ []) (qs ++ q ∷ [])
same_then [] [] p q s t = (t, tt)
same_then [] (r ∷ qs) p q s t = absurd s
same_then (r ∷ ps) [] p q s t = absurd s
same_then (a ∷ ps) (b ∷ qs) p q s t = (s.0, same_then ps qs p q s.1 t)

pub same_pushed : (ps qs rs : List Token) (p q : Token) → AreSame ps qs → IsSame p q → rs ≡ qs ++ q ∷ []
    → AreSame (ps ++ p ∷ []) rs
same_pushed ps qs rs p q s t pushed = subst (AreSame (ps ++ p ∷ [])) (sym pushed) (same_then ps qs p q s t)

-- a seat that has seen more still begins so
pub still_begins : (new old : Token) (qs : List Token) → StartsWith new.me.seen old.me.seen
    → All (λ p. StartsWith old.me.seen p.me.seen) qs
    → All (λ p. StartsWith new.me.seen p.me.seen) qs
still_begins new old qs more all k d near = starts_then _ old.me.seen new.me.seen (all k d near) more

-- passes of the same seats differ as those did
differs_from : (a b : Token) (ps qs : List Token) → IsSame a b → AreSame ps qs → All (λ q. a.me.seat ≢ q.me.seat) ps
    → All (λ q. b.me.seat ≢ q.me.seat) qs
differs_from a b [] [] s t apart = All-nil (λ q. b.me.seat ≢ q.me.seat)
differs_from a b [] (q ∷ qs) s t apart = absurd t
differs_from a b (p ∷ ps) [] s t apart = absurd t
differs_from a b (p ∷ ps) (q ∷ qs) s t apart =
    All-cons (λ r. b.me.seat ≢ r.me.seat) q qs
    (λ e. All-head (λ r. a.me.seat ≢ r.me.seat) p ps apart (sym s.seat ∙ e ∙ t.0.seat))
    (differs_from a b ps qs s t.1 (All-tail (λ r. a.me.seat ≢ r.me.seat) p ps apart))

abbrev pub AllDiffer : List Token → Type 0
AllDiffer ps = AllPairs (λ p q. p.me.seat ≢ q.me.seat) ps

first_differs : (p : Token) (ps : List Token) → AllDiffer (p ∷ ps) → All (λ q. p.me.seat ≢ q.me.seat) ps
first_differs p ps apart k d within = apart zero (suc k) d (omega arith) (omega (arith, within))

others_differ : (p : Token) (ps : List Token) → AllDiffer (p ∷ ps) → AllDiffer ps
others_differ p ps apart i j d lt within = apart (suc i) (suc j) d (omega (arith, lt)) (omega (arith, within))

pub still_differ : (ps qs : List Token) → AreSame ps qs → AllDiffer ps → AllDiffer qs
still_differ [] [] s apart = λ i j d lt within. absurd (omega (arith, within))
still_differ [] (q ∷ qs) s apart = absurd s
still_differ (p ∷ ps) [] s apart = absurd s
still_differ (p ∷ ps) (q ∷ qs) s apart =
    AllPairs-cons (λ p q. p.me.seat ≢ q.me.seat) q qs (differs_from p q ps qs s.0 s.1 (first_differs p ps apart))
    (still_differ ps qs s.1 (others_differ p ps apart))

pub apart_from : (q : Token) (qs : List Token) → AllDiffer (q ∷ qs) → AreApart q.me.seat qs
apart_from q qs apart = (first_differs q qs apart, others_differ q qs apart)

-- what seats know as their own is worth the same
pub same_worth : (w : Event → ℕ) (ps qs : List Token) → AreSame ps qs
    → sum_by (λ q. sum_by w q.me.mine) qs ≡ sum_by (λ p. sum_by w p.me.mine) ps
same_worth w [] [] s = refl
same_worth w [] (q ∷ qs) s = absurd s
same_worth w (p ∷ ps) [] s = absurd s
same_worth w (p ∷ ps) (q ∷ qs) s =
    sum_by-cons (λ q. sum_by w q.me.mine) q qs ∙ (λ i. sum_by w (s.0.mine i) + same_worth w ps qs s.1 i)
    ∙ sym (sum_by-cons (λ p. sum_by w p.me.mine) p ps)

own_worth : (weight : Answered → ℕ) (ps : List Token)
    → sum_by (λ p. sum_by (of_event weight) p.me.mine) ps ≡ sum_by (λ p. sum_by weight (acts_in p.me.mine)) ps
own_worth weight ps = grind (arith, nat_tests, sum_by-cons, of_event, acts_worth)

-- a history that holds only the calls of these seats, if the first has done no operation since
pub holds_operations : (h : List Event) (ps : List Token) (q : Token) (qs : List Token) (extra : List Event)
    → AreSame ps (q ∷ qs) → AllDiffer ps
    → events_of h q.me.seat ≡ q.me.mine ++ extra → ((weight : Answered → ℕ) → sum_by (of_event weight) extra ≡ 0)
    → HoldsOnly h q.me.seat qs → HoldsOperationsOf h ps
holds_operations h ps q qs extra same apart own none only weight =
    let parts = apart_from q qs (still_differ ps (q ∷ qs) same apart) in
    let all = holds_sum (of_event weight) h q.me.seat qs parts only in
    let first = ap (sum_by (of_event weight)) own ∙ sum_by-append (of_event weight) q.me.mine extra in
    let each = sum_by-cons (λ p. sum_by (of_event weight) p.me.mine) q qs in
    let nothing = none weight in
    let whole : sum_by (of_event weight) h ≡ sum_by (λ p. sum_by (of_event weight) p.me.mine) (q ∷ qs) =
    omega (arith, all, first, each, nothing) in
    acts_worth weight h ∙ whole ∙ same_worth (of_event weight) ps (q ∷ qs) same ∙ own_worth weight ps

-- the seats of a run differ from each other
from_on : (k : Rules) (o : Object) (answers : ℕ → ℕ → Bool
    → Type 0) (scenario : Scenario) (seats rounds : ℕ) (h : House) (z : TableId) (c : Setting)
    → (n i : ℕ) (qs : List Token) → HaveServed k o answers scenario seats rounds h (tokens z (opening_records c n i)) qs
    → All (λ q. i ≤ q.me.seat) qs
from_on k o answers scenario seats rounds h z c zero i [] s = All-nil (λ q. i ≤ q.me.seat)
from_on k o answers scenario seats rounds h z c zero i (q ∷ qs) s = absurd s
from_on k o answers scenario seats rounds h z c (suc n) i [] s = absurd s
from_on k o answers scenario seats rounds h z c (suc n) i (q ∷ qs) s =
    All-cons (λ q. i ≤ q.me.seat) q qs (subst (λ x. i ≤ x) (sym s.0.1.called.went.seat) (omega arith))
    (λ k d near. omega (arith, from_on _ o answers scenario seats rounds h z c n (suc i) qs s.1 k d near))

pub seats_differ : (k : Rules) (o : Object) (answers : ℕ → ℕ → Bool → Type 0) (scenario : Scenario)
    (seats rounds : ℕ) (h : House) (z : TableId)
    (c : Setting) → (n i : ℕ) (qs : List Token)
    → HaveServed k o answers scenario seats rounds h (tokens z (opening_records c n i)) qs
    → AllDiffer qs
seats_differ k o answers scenario seats rounds h z c zero i [] s = λ i j d lt within. absurd (omega (arith, within))
seats_differ k o answers scenario seats rounds h z c zero i (q ∷ qs) s = absurd s
seats_differ k o answers scenario seats rounds h z c (suc n) i [] s = absurd s
seats_differ k o answers scenario seats rounds h z c (suc n) i (q ∷ qs) s =
    AllPairs-cons (λ p q. p.me.seat ≢ q.me.seat) q qs
    (λ j d near e. let later = from_on k o answers scenario seats rounds h z c n (suc i) qs s.1 j d near in
    absurd (omega (arith, later, e, s.0.1.called.went.seat)))
    (seats_differ k o answers scenario seats rounds h z c n (suc i) qs s.1)

-- two passes that have met
met_as : (p : Token) (seen : List Event) (did : List Deed)
    → IsSame p (record p { me = record p.me { seen = seen; did = did } })
met_as p seen did = record { hall = refl; seat = refl; setting = refl; mine = refl }

pub met_same : (p q : Token) (seen : List Event) (did : List Deed)
    → q ≡ record p { me = record p.me { seen = seen; did = did } } → IsSame p q
met_same p q seen did e = subst (IsSame p) (sym e) (met_as p seen did)

pub met_begins : (p q r s : Token) (seen : List Event) (xs ys : List Deed)
    → q ≡ record p { me = record p.me { seen = seen; did = xs } }
    → s ≡ record r { me = record r.me { seen = seen; did = ys } } → StartsWith q.me.seen s.me.seen
met_begins p q r s seen xs ys e f =
    let same : q.me.seen ≡ s.me.seen = ap (λ (t : Token). t.me.seen) e ∙ sym (ap (λ (t : Token). t.me.seen) f) in
    subst (λ h. StartsWith q.me.seen h) same (starts_here q.me.seen)

-- the first of passes that have met
pub first_is_of : (h : House) (ps : List Token) (q : Token) (qs : List Token) → AreSame ps (q ∷ qs)
    → All (IsOf h) ps → IsOf h q
first_is_of h [] q qs same all = absurd same
first_is_of h (p ∷ ps) q qs same all = grind (arith, nat_tests, All-head)

pub same_back : (p q : Token) → IsSame p q → IsSame q p
same_back p q s = record { hall = sym s.hall; seat = sym s.seat; setting = sym s.setting; mine = sym s.mine }

pub first_able : (ps : List Token) (q : Token) (qs : List Token) (left : ℕ) → AreSame ps (q ∷ qs)
    → left + length q.me.mine ≡ q.me.setting.budget → 2 ≤ left → IsFirstSpent ps → ⊥
first_able ps q qs left same counted some spent = grind (arith, nat_tests)

-- a closed history begins with what the first seat had seen, and so with what all had seen that it met
pub closed_begins : (h at seen before own : List Event) (e l : Event) (qs : List Token) → h ≡ at ++ l ∷ []
    → at ≡ seen ++ e ∷ []
    → StartsWith seen before → before ≡ own → All (λ p. StartsWith own p.me.seen) qs
    → All (λ p. StartsWith h p.me.seen) qs
closed_begins h at seen before own e l qs closed came starts same all k d near =
    let first : StartsWith h seen = grind (arith, nat_tests, append_assoc) in
    starts_then _ own h (all k d near) (subst (λ xs. StartsWith h xs) same (starts_then before seen h starts first))

pub nothing_done : (weight : Answered → ℕ) (s : ℕ) (x : Source) (t : Turn) (n : ℕ)
    → sum_by (of_event weight) (out_event s x t ∷ Leave n Entry ∷ []) ≡ 0
nothing_done weight s x t n = grind (arith, nat_tests)

-- the first seat's events are its own, and those by which it came in and closed
pub closed_own : (h own before mine : List Event) (e l : Event) (s t u : ℕ) → events_of h s ≡ mine ++ l ∷ []
    → mine ≡ before ++ e ∷ []
    → before ≡ own → s ≡ t → t ≡ u → events_of h u ≡ own ++ e ∷ l ∷ []
closed_own h own before mine e l s t u is came same a b = grind (arith, nat_tests, append_assoc)

pub only_here : (h g : List Event) (s seat : ℕ) (qs rs : List Token) → HoldsOnly g s rs → g ≡ h → s ≡ seat → rs ≡ qs
    → HoldsOnly h seat qs
only_here h g s seat qs rs holds same here those =
    subst (λ xs. HoldsOnly xs seat qs) same
    (subst (λ x. HoldsOnly g x qs) here (subst (HoldsOnly g s) those holds))

-- a seat that closes comes in first
pub came_comes : (s : ℕ) (x : Source) (t : Turn) → is_coming (out_event s x t) ≡ true
came_comes s x t = grind (arith, nat_tests)

pub closed_ends : (h at seen : List Event) (e : Event) (s u : ℕ) → h ≡ at ++ Leave s Entry ∷ []
    → at ≡ seen ++ e ∷ [] → s ≡ u
    → h ≡ seen ++ e ∷ Leave u Entry ∷ []
closed_ends h at seen e s u closed came same = grind (arith, nat_tests, append_assoc)

pub own_back : (h : List Event) (ps qs : List Token) → AreSame ps qs → All (λ q. events_of h q.me.seat ≡ q.me.mine) qs
    → All (λ p. events_of h p.me.seat ≡ p.me.mine) ps
own_back h [] [] s own = All-nil (λ p. events_of h p.me.seat ≡ p.me.mine)
own_back h [] (q ∷ qs) s own = absurd s
own_back h (p ∷ ps) [] s own = absurd s
own_back h (p ∷ ps) (q ∷ qs) s own =
    All-cons (λ p. events_of h p.me.seat ≡ p.me.mine) p ps
    (ap (events_of h) (sym s.0.seat) ∙ All-head (λ r. events_of h r.me.seat ≡ r.me.mine) q qs own ∙ s.0.mine)
    (own_back h ps qs s.1 (All-tail (λ r. events_of h r.me.seat ≡ r.me.mine) q qs own))

-- how the first of them has closed
pub by_first : (h before : List Event) (e : Event) (p q : Token) → IsSame p q → is_coming e ≡ true
    → h ≡ before ++ e ∷ Leave q.me.seat Entry ∷ []
    → events_of h q.me.seat ≡ q.me.mine ++ e ∷ Leave q.me.seat Entry ∷ [] → IsClosedBy h p
by_first h before e p q same comes ends own = grind (arith, nat_tests)

-- what these passes left, whose seats have met
pub left_by : (h before : List Event) (e : Event) (ps : List Token) (q : Token) (qs : List Token) → AreSame ps (q ∷ qs)
    → is_coming e ≡ true → h ≡ before ++ e ∷ Leave q.me.seat Entry ∷ []
    → events_of h q.me.seat ≡ q.me.mine ++ e ∷ Leave q.me.seat Entry ∷ [] → HoldsOnly h q.me.seat qs
    → All (λ p. StartsWith h p.me.seen) ps → IsLeftBy h ps
left_by h before e [] q qs same comes ends own only seen = absurd same
left_by h before e (p ∷ ps) q qs same comes ends own only seen = grind (arith, nat_tests, by_first, own_back)
