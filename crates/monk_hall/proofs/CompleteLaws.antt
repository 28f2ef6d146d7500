-- How many events a history has that holds the calls of some seats, and what their number shows
use Rattle.std.proofs.Common.{◌≡◌, ◌≢◌, ℕ, ◌+◌, ◌<◌, ◌≤◌, ◌==◌, cond, zero, suc, List, [], ◌∷◌, ◌++◌, length, map, take}
use Rattle.std.proofs.Common.{append-nil, length-append, refl, sym, ap, ◌∙◌, arith, eq-eqb, rules}
use Rattle.std.proofs.lemmas.Bool.Decides.{eqb_tells, nat_tests}
use Rattle.std.proofs.lemmas.List.{nil_from_length, take_more, Kept.AllPairs-cons, Sums.sum_by-cons, Sums.sum_by_more}
use Rattle.std.proofs.lemmas.List.Elements.{All-cons, All-head, All-map, All-more, All-nil, All-tail, All-take}
use Rattle.std.specs.Prelude.{All, AllPairs, slice_index_or, sum_by}
use Rattle.monk_history.proofs.PublicLaws.Meaning.{AreDistinct, length-events_of-push, length-sum_by, rest_has, rest_of}
use Rattle.monk_history.proofs.PublicLaws.Meaning.{same_sums, sum_by_all_seats, sum_by_seats}
use Rattle.monk_history.specs.{Meaning.Counts.events_of, Meaning.Events.seat_of, declared.event.Event.Event}
use Rattle.monk_hall.{specs.Complete.AreApart, specs.Complete.HaveSeenPart, specs.Complete.HoldsOnly}
use Rattle.monk_hall.{specs.Floors.StartsWith, specs.Tokens.Token, proofs.IdleLearns.events_of-append}

-- the seats that may have events
abbrev seats_of : ℕ → List Token → List ℕ
seats_of seat ps = seat ∷ map (λ p. p.me.seat) ps

-- the seat's events in what it has seen are those that it knows as its own
abbrev pub KnowsItsOwn : Token → Type 0
KnowsItsOwn p = events_of p.me.seen p.me.seat ≡ p.me.mine

abbrev pub made_by : List Token → ℕ
made_by ps = sum_by (λ p. length p.me.mine) ps

abbrev AreOthers : List Token → Type 0
AreOthers ps = AllPairs (λ p q. p.me.seat ≢ q.me.seat) ps

others_first : (p : Token) (ps : List Token) → AreOthers (p ∷ ps) → All (λ q. p.me.seat ≢ q.me.seat) ps
others_first p ps h k d within = h zero (suc k) d (omega arith) (omega arith)

others_rest : (p : Token) (ps : List Token) → AreOthers (p ∷ ps) → AreOthers ps
others_rest p ps h i j d lt within = h (suc i) (suc j) d (omega arith) (omega arith)

none_apart : AreOthers []
none_apart i j d lt within = absurd (omega arith)

others_take : (n : ℕ) (ps : List Token) → AreOthers ps → AreOthers (take n ps)
others_take zero ps h = none_apart
others_take (suc n) [] h = none_apart
others_take (suc n) (p ∷ ps) h =
    AllPairs-cons (λ a b. a.me.seat ≢ b.me.seat) p (take n ps)
    (All-take (λ q. p.me.seat ≢ q.me.seat) n ps (others_first p ps h)) (others_take n ps (others_rest p ps h))

apart_take : (seat n : ℕ) (ps : List Token) → AreApart seat ps → AreApart seat (take n ps)
apart_take seat n ps h = (All-take (λ p. seat ≢ p.me.seat) n ps h.0, others_take n ps h.1)

pairs_map : (ps : List Token) → AreOthers ps → AreDistinct (map (λ p. p.me.seat) ps)
pairs_map [] h = λ i j d lt within. absurd (omega arith)
pairs_map (p ∷ ps) h =
    AllPairs-cons (λ s t. s ≢ t) p.me.seat (map (λ q. q.me.seat) ps)
    (All-map (λ t. p.me.seat ≢ t) (λ q. q.me.seat) ps (others_first p ps h)) (pairs_map ps (others_rest p ps h))

distinct : (seat : ℕ) (ps : List Token) → AreApart seat ps → AreDistinct (seats_of seat ps)
distinct seat ps h =
    AllPairs-cons (λ s t. s ≢ t) seat (map (λ p. p.me.seat) ps) (All-map (λ t. seat ≢ t) (λ p. p.me.seat) ps h.0)
    (pairs_map ps h.1)

all_back : (P : ℕ → Type 0) (ps : List Token) → All P (map (λ p. p.me.seat) ps) → All (λ p. P p.me.seat) ps
all_back P [] h = All-nil (λ p. P p.me.seat)
all_back P (p ∷ ps) h =
    All-cons (λ q. P q.me.seat) p ps (All-head P p.me.seat (map (λ q. q.me.seat) ps) h)
    (all_back P ps (All-tail P p.me.seat (map (λ q. q.me.seat) ps) h))

sum_map : (f : ℕ → ℕ) (ps : List Token) → sum_by f (map (λ p. p.me.seat) ps) ≡ sum_by (λ p. f p.me.seat) ps
sum_map f [] = refl
sum_map f (p ∷ ps) =
    sum_by-cons f p.me.seat (map (λ q. q.me.seat) ps) ∙ ap (λ n. f p.me.seat + n) (sum_map f ps)
    ∙ sym (sum_by-cons (λ q. f q.me.seat) p ps)

-- the sum of a weight over a history that holds only these calls is that over the closing seat's events, and over
-- each pass's own
pub holds_sum : (w : Event → ℕ) (h : List Event) (seat : ℕ) (ps : List Token) → AreApart seat ps → HoldsOnly h seat ps
    → sum_by w h ≡ sum_by w (events_of h seat) + sum_by (λ p. sum_by w p.me.mine) ps
holds_sum w h seat ps apart only =
    let f : ℕ → ℕ = λ s. sum_by w (events_of h s) in
    let seats : List ℕ = map (λ p. p.me.seat) ps in
    let all = sum_by_all_seats w (seats_of seat ps) h (distinct seat ps apart)
    (λ t none. only.others t (All-head (λ s. s ≢ t) seat seats none)
    (all_back (λ s. s ≢ t) ps (All-tail (λ s. s ≢ t) seat seats none))) in
    let first = sum_by-cons f seat seats in
    let own =
    same_sums (λ p. f p.me.seat) (λ p. sum_by w p.me.mine) ps (λ k d within. ap (sum_by w) (only.own k d within)) in
    omega (arith, all, first, sum_map f ps, own)

lengths : (ps : List Token) → sum_by (λ p. sum_by (λ (e : Event). 1) p.me.mine) ps ≡ made_by ps
lengths ps = grind (arith, nat_tests, same_sums, length-sum_by)

-- so its length is the number of the events that they have made
pub holds_length : (h : List Event) (seat : ℕ) (ps : List Token) → AreApart seat ps → HoldsOnly h seat ps
    → length (events_of h seat) + made_by ps ≡ length h
holds_length h seat ps apart only =
    let all = holds_sum (λ (e : Event). 1) h seat ps apart only in
    omega (arith, all, length-sum_by h, length-sum_by (events_of h seat), lengths ps)

-- in a history that begins with what a seat has seen, the seat has all events that it knows as its own
own_le : (h : List Event) (p : Token) → StartsWith h p.me.seen → KnowsItsOwn p
    → length p.me.mine ≤ length (events_of h p.me.seat)
own_le h p seen own =
    let is = ap (λ (g : List Event). events_of g p.me.seat) seen.1 ∙ events_of-append p.me.seen seen.0 p.me.seat in
    let long = ap length is ∙ length-append (events_of p.me.seen p.me.seat) (events_of seen.0 p.me.seat) in
    omega (arith, long, ap length own)

own_is : (h : List Event) (p : Token) → StartsWith h p.me.seen → KnowsItsOwn p
    → length p.me.mine ≡ length (events_of h p.me.seat)
    → events_of h p.me.seat ≡ p.me.mine
own_is h p seen own same =
    let is = ap (λ (g : List Event). events_of g p.me.seat) seen.1 ∙ events_of-append p.me.seen seen.0 p.me.seat in
    let long = ap length is ∙ length-append (events_of p.me.seen p.me.seat) (events_of seen.0 p.me.seat) in
    let none = nil_from_length (events_of seen.0 p.me.seat) (omega (arith, long, ap length own, same)) in
    is ∙ (λ i. own i ++ none i) ∙ append-nil p.me.mine

sum_le : {X : Type 0} (a b : X → ℕ) (xs : List X) → All (λ x. a x ≤ b x) xs → sum_by a xs ≤ sum_by b xs
sum_le a b [] h = omega arith
sum_le a b (x ∷ xs) h =
    omega (
      arith,
      sum_by-cons a x xs,
      sum_by-cons b x xs,
      All-head (λ y. a y ≤ b y) x xs h,
      sum_le a b xs (All-tail (λ y. a y ≤ b y) x xs h),
    )

-- if none is greater, and the sums are the same, each is the same
sum_tight : {X : Type 0} (a b : X → ℕ) (xs : List X) → All (λ x. a x ≤ b x) xs → sum_by a xs ≡ sum_by b xs
    → All (λ x. a x ≡ b x) xs
sum_tight a b [] h same = All-nil (λ x. a x ≡ b x)
sum_tight a b (x ∷ xs) h same =
    let first = All-head (λ y. a y ≤ b y) x xs h in
    let rest = All-tail (λ y. a y ≤ b y) x xs h in
    let few = sum_le a b xs rest in
    let sum_a = sum_by-cons a x xs in
    let sum_b = sum_by-cons b x xs in
    All-cons (λ y. a y ≡ b y) x xs (omega (arith, first, few, sum_a, sum_b, same))
    (sum_tight a b xs rest (omega (arith, first, few, sum_a, sum_b, same)))

-- a history's length, seat by seat
counted : (h : List Event) (seat : ℕ) (ps : List Token) → AreApart seat ps
    → length h ≡ length (events_of h seat) + sum_by (λ p. length (events_of h p.me.seat)) ps
    + length (rest_of (seats_of seat ps) h)
counted h seat ps apart =
    let one : Event → ℕ = λ e. 1 in
    let f : ℕ → ℕ = λ s. sum_by one (events_of h s) in
    let all = sum_by_seats one (seats_of seat ps) h (distinct seat ps apart) in
    let first = sum_by-cons f seat (map (λ p. p.me.seat) ps) in
    let same =
    same_sums (λ p. f p.me.seat) (λ p. length (events_of h p.me.seat)) ps (λ k d within. sym (length-sum_by _)) in
    grind (arith, nat_tests, sum_map, length-sum_by, rest_of)

all_le : (h : List Event) (ps : List Token) → HaveSeenPart h ps → All KnowsItsOwn ps
    → All (λ p. length p.me.mine ≤ length (events_of h p.me.seat)) ps
all_le h ps seen own k d within = own_le h (slice_index_or ps k d) (seen k d within) (own k d within)

-- their events fit into it
pub known_fits : (h : List Event) (seat : ℕ) (ps : List Token) → AreApart seat ps → HaveSeenPart h ps
    → All KnowsItsOwn ps
    → length (events_of h seat) + made_by ps ≤ length h
known_fits h seat ps apart seen own =
    omega (
      arith,
      counted h seat ps apart,
      sum_le (λ p. length p.me.mine)
          (λ p. length (events_of h p.me.seat)) ps (all_le h ps seen own),
    )

-- and so do those of the first of them
pub some_fit : (h : List Event) (seat : ℕ) (ps : List Token) (n : ℕ) → AreApart seat ps → HaveSeenPart h ps
    → All KnowsItsOwn (take n ps) → length (events_of h seat) + made_by (take n ps) ≤ length h
some_fit h seat ps n apart seen own = search (rules, known_fits, apart_take, All-take)

nothing : (s : ℕ) → events_of [] s ≡ []
unfolding events_of
nothing s = refl

-- if they are as many as the history has events, it holds nothing else
pub holds_only : (h : List Event) (seat : ℕ) (ps : List Token) → AreApart seat ps → HaveSeenPart h ps
    → All KnowsItsOwn ps
    → length (events_of h seat) + made_by ps ≡ length h → HoldsOnly h seat ps
holds_only h seat ps apart seen own same =
    let le = all_le h ps seen own in
    let whole = counted h seat ps apart in
    let few = sum_le (λ p. length p.me.mine) (λ p. length (events_of h p.me.seat)) ps le in
    let tight =
    sum_tight (λ p. length p.me.mine) (λ p. length (events_of h p.me.seat)) ps le
    (omega (arith, whole, few, same)) in
    let none = nil_from_length (rest_of (seats_of seat ps) h) (omega (arith, whole, few, same)) in
    record {
      own = λ k d within. own_is h (slice_index_or ps k d) (seen k d within) (own k d within) (tight k d within);
      others = λ s ne nes. sym (rest_has (seats_of seat ps) h s
          (All-cons (λ t. t ≢ s) seat (map (λ p. p.me.seat) ps) ne (All-map (λ t. t ≢ s) (λ p. p.me.seat) ps nes)))
          ∙ ap (λ (g : List Event). events_of g s) none ∙ nothing s;
    }

-- the number of events of a seat, with one more event of the history
one_counted : (h : List Event) (s n count : ℕ) (d : Event) → n < length h → count ≡ length (events_of (take n h) s)
    → count + cond (seat_of (slice_index_or h n d) == s) 1 0 ≡ length (events_of (take (n + 1) h) s)
one_counted h s n count d lt is =
    let next = ap (λ (g : List Event). length (events_of g s)) (take_more h n d lt)
    ∙ length-events_of-push (take n h) (slice_index_or h n d) s in
    omega (arith, next, is)

pub own_counted : (h : List Event) (s n count : ℕ) (d : Event) → n < length h → count ≡ length (events_of (take n h) s)
    → seat_of (slice_index_or h n d) ≡ s → count + 1 ≡ length (events_of (take (n + 1) h) s)
own_counted h s n count d lt is same =
    let one : ◌≡◌ {A = ℕ} (cond (seat_of (slice_index_or h n d) == s) 1 0) 1 = grind (arith, nat_tests, eq-eqb) in
    omega (arith, one_counted h s n count d lt is, one)

pub other_counted : (h : List Event) (s n count : ℕ) (d : Event) → n < length h
    → count ≡ length (events_of (take n h) s)
    → seat_of (slice_index_or h n d) ≢ s → count ≡ length (events_of (take (n + 1) h) s)
other_counted h s n count d lt is ne =
    let none : ◌≡◌ {A = ℕ} (cond (seat_of (slice_index_or h n d) == s) 1 0) 0 = grind (arith, nat_tests, eqb_tells) in
    omega (arith, one_counted h s n count d lt is, none)

pub starts_counted : (h : List Event) (s : ℕ) → (0 ≡ length (events_of [] s)) × (0 ≤ 0) × (0 ≤ length h)
starts_counted h s = (sym (ap length (nothing s)), omega arith, omega arith)

-- the number of known events, with one more pass
pub one_made : (ps : List Token) (n base known more : ℕ) (d : Token) → n < length ps
    → known ≡ base + made_by (take n ps)
    → more ≡ length (slice_index_or ps n d).me.mine → known + more ≡ base + made_by (take (n + 1) ps)
one_made ps n base known more d lt is one = grind (arith, nat_tests, sum_by_more)

pub one_known : (ps : List Token) (n : ℕ) (d : Token) → n < length ps → All KnowsItsOwn (take n ps)
    → KnowsItsOwn (slice_index_or ps n d) → All KnowsItsOwn (take (n + 1) ps)
one_known ps n d lt own is = All-more KnowsItsOwn ps n d lt own is
