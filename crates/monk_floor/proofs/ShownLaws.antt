-- What the links show of the queues of a floor, before a change and after it
use Rattle.std.proofs.Common.{◌≡◌, ◌≢◌, ℕ, zero, suc, ◌<◌, ◌+◌, ◌==◌, Bool, true, false, cond, not, Option, Some, None}
use Rattle.std.proofs.Common.{List, [], ◌∷◌, ◌++◌, map, length, drop, take, filter, refl, sym, ap, subst, ◌∙◌, arith}
use Rattle.std.proofs.Common.{append-nil, eq-eqb, get_or, get_or-set_same, get_or-set_other, ⊎_elim}
use Rattle.std.{proofs.lemmas.Bool.cases_eq, proofs.Math.Seq.drop-length, specs.Prelude.slice_set}
use Rattle.monk_history.specs.Meaning.{Events.next_of, Events.is_until, Events.is_stay, Signallers.is_empty}
use Rattle.monk_history.specs.Meaning.{Standing.times, Standing.times_in_conditions, Untils.chooses}
use Rattle.monk_history.specs.declared.event.Next.{Next}
use Rattle.monk_history.specs.declared.event.Next.TheVariants.{Stay, Entry, Waiter, Signaller, Until as UntilSeat}
use Rattle.monk_history.specs.declared.event.Event.{Event}
use Rattle.monk_history.specs.declared.event.Event.TheVariants.{Wait, Signal, SignalLeave, Until, SignalAll, SignalWait}
use Rattle.monk_floor.proofs.LinkLaws.{Walks.other, Walks.rest, Chains.times_le, Passing.times_both}
use Rattle.monk_floor.specs.Links.{most_queues, places, without}
use Rattle.monk_floor.specs.Queues.{queue_at, lists_of, waits_in, times_in_waits, in_lists, chosen_until, IsServed}
use Rattle.std.proofs.lemmas.Bool.Decides.{nat_tests}

-- the conditions come after the three other queues
three_more : (c : ℕ) → suc (suc (suc c)) ≡ 3 + c
three_more c = omega arith

pub condition_at : (qs : List (List ℕ)) (c : ℕ) → queue_at (drop 3 qs) c ≡ queue_at qs (3 + c)
condition_at qs c = behind qs c ∙ ap (queue_at qs) (three_more c)
  where
    behind : (qs : List (List ℕ)) (c : ℕ) → queue_at (drop 3 qs) c ≡ queue_at qs (suc (suc (suc c)))
    behind [] c = refl
    behind (x ∷ []) c = refl
    behind (x ∷ y ∷ []) c = refl
    behind (x ∷ y ∷ z ∷ qs) c = refl

pub seats_back : (p xs : List ℕ) → map (λ w. w.0) (waits_in p xs) ≡ xs
seats_back p [] = refl
seats_back p (x ∷ xs) = ap (λ ys. x ∷ ys) (seats_back p xs)

times_split : (n s : ℕ) (q : ℕ → List ℕ) → times_in_conditions (suc (suc (suc n))) s q
    ≡ times_in_conditions n s (λ c. q (3 + c)) + (times s (q 0) + times s (q 1) + times s (q 2))
times_split zero s q = omega arith
times_split (suc n) s q = omega (arith, times_split n s q, ap (λ c. times s (q c)) (three_more n))

-- a seat that is in none of the lists is in none of the linked queues
pub places_none : (s : ℕ) (p : List ℕ) (qs : List (List ℕ)) → in_lists s (lists_of p qs) ≡ 0
    → places s (queue_at qs) ≡ 0
unfolding places
places_none s p qs h =
    let same : times_in_conditions 8 s (queue_at (drop 3 qs)) ≡ times_in_conditions 8 s (λ c. queue_at qs (3 + c)) =
    ap (times_in_conditions 8 s) (λ i c. condition_at qs c i) in
    let waits : times_in_waits s (waits_in p (queue_at qs 2)) ≡ times s (queue_at qs 2) =
    ap (times s) (seats_back p (queue_at qs 2)) in
    let all = times_split 8 s (queue_at qs) in
    omega (arith, h, same, waits, all)

pub filtered : (p xs : List ℕ) (f : ℕ × ℕ → Bool) (g : ℕ → Bool) → ((x : ℕ) → f (x, get_or p x 0) ≡ g x)
    → filter f (waits_in p xs) ≡ waits_in p (filter g xs)
filtered p [] f g h = refl
filtered p (x ∷ xs) f g h =
    ap (λ b. cond b ((x, get_or p x 0) ∷ filter f (waits_in p xs)) (filter f (waits_in p xs))) (h x)
    ∙ (ap (λ ys. cond (g x) ((x, get_or p x 0) ∷ ys) ys) (filtered p xs f g h) ∙ both (g x))
  where
    both : (b : Bool) → cond b ((x, get_or p x 0) ∷ waits_in p (filter g xs)) (waits_in p (filter g xs))
        ≡ waits_in p (cond b (x ∷ filter g xs) (filter g xs))
    both true = refl
    both false = refl

-- a wait-until is taken out
pub no_wait_left : (e : Event) (us : List (ℕ × ℕ)) → None ≡ chosen_until (next_of e)
    → us ≡ filter (λ w. not (chooses e w)) us
no_wait_left e us h = all (next_of e) us h
  where
    all : (o : Option Next) (us : List (ℕ × ℕ)) → None ≡ chosen_until o → us ≡ filter (λ w. not (is_until w.0 o)) us
    all o [] h = refl
    all o (w ∷ ws) h = ap (λ vs. w ∷ vs) (all o ws h) ∙ kept o h
      where
        kept : (o : Option Next) → None ≡ chosen_until o
            → w ∷ filter (λ v. not (is_until v.0 o)) ws ≡ filter (λ v. not (is_until v.0 o)) (w ∷ ws)
        kept None h = refl
        kept (Some Stay) h = refl
        kept (Some Entry) h = refl
        kept (Some (Waiter j)) h = refl
        kept (Some (Signaller j)) h = refl
        kept (Some (UntilSeat j)) h = absurd (cc)

pub wait_left : (e : Event) (s : ℕ) (p : List ℕ) (qs rs : List (List ℕ)) → Some s ≡ chosen_until (next_of e)
    → queue_at rs 2 ≡ without s (queue_at qs 2)
    → waits_in p (queue_at rs 2) ≡ filter (λ w. not (chooses e w)) (waits_in p (queue_at qs 2))
wait_left e s p qs rs h r =
    ap (waits_in p) r
    ∙ sym (filtered p (queue_at qs 2) (λ w. not (chooses e w)) (λ x. not (s == x))
    (λ x. ap not (chosen (next_of e) x h)))
  where
    chosen : (o : Option Next) (x : ℕ) → Some s ≡ chosen_until o → is_until x o ≡ s == x
    chosen None x h = absurd (cc)
    chosen (Some Stay) x h = absurd (cc)
    chosen (Some Entry) x h = absurd (cc)
    chosen (Some (Waiter j)) x h = absurd (cc)
    chosen (Some (Signaller j)) x h = absurd (cc)
    chosen (Some (UntilSeat j)) x h = let same : s ≡ j = cc in ap (λ y. y == x) (sym same)

-- the queue of a condition is none of the others
not_condition : (n c : ℕ) → n < 3 → ◌≡◌ {A = Bool} (n == 3 + c) false
not_condition n c l = grind (arith, l)

pub others_left : (qs rs : List (List ℕ)) → ((c : ℕ) → 2 ≢ c → queue_at rs c ≡ queue_at qs c)
    → (c : ℕ) → queue_at (drop 3 rs) c ≡ queue_at (drop 3 qs) c
others_left qs rs r c =
    condition_at rs c ∙ (r (3 + c) (λ e. absurd (omega (arith, e))) ∙ sym (condition_at qs c))

pub none_shown : (qs : List (List ℕ)) → ((c : ℕ) → queue_at qs c ≡ []) → (c : ℕ) → queue_at (drop 3 qs) c ≡ []
none_shown qs h c = condition_at qs c ∙ h (3 + c)

-- the front of another queue has been taken
pub others_popped : (n : ℕ) (qs rs : List (List ℕ)) → n < 3
    → ((c : ℕ) → queue_at rs c ≡ drop (cond (n == c) 1 0) (queue_at qs c))
    → (c : ℕ) → queue_at (drop 3 rs) c ≡ queue_at (drop 3 qs) c
others_popped n qs rs l r c =
    condition_at rs c ∙ (r (3 + c)
    ∙ (ap (λ b. drop (cond b 1 0) (queue_at qs (3 + c))) (not_condition n c l) ∙ sym (condition_at qs c)))

-- a seat joins the queue of a condition
same_condition : (d c : ℕ) → 3 + d == 3 + c ≡ d == c
same_condition d c = ⊎_elim
    (λ e. (let three : 3 + d ≡ 3 + c = ap (λ x. 3 + x) e in eq-eqb (3 + d) (3 + c) three) ∙ sym (eq-eqb d c e))
    (λ f. differ (3 + d) (3 + c) (λ e. f (omega (arith, e))) ∙ sym (differ d c f)) (cases_eq d c)
  where
    differ : (x y : ℕ) → (x ≡ y → ⊥) → ◌≡◌ {A = Bool} (x == y) false
    differ x y h = grind (arith, h)

not_other : (n c : ℕ) → n < 3 → ◌≡◌ {A = Bool} (3 + c == n) false
not_other n c l = grind (arith, l)

served_one : (b : Bool) (xs : List ℕ) → drop (cond b 1 0) xs ≡ drop (length (cond b (take 1 xs) [])) xs ++ []
served_one true [] = refl
served_one true (x ∷ xs) = sym (append-nil xs)
served_one false xs = sym (append-nil xs)

-- the front of a condition's queue has gone to the waiter queue
abbrev IsPassed : List (List ℕ) → ℕ → List (List ℕ) → Type 0
IsPassed qs d rs = (c : ℕ)
    → queue_at rs c ≡ drop (cond (3 + d == c) 1 0) (queue_at qs c) ++ cond (0 == c) (take 1 (queue_at qs (3 + d))) []

served_now : (qs rs : List (List ℕ)) (d c : ℕ) → IsPassed qs d rs
    → queue_at (drop 3 rs) c ≡ drop (cond (d == c) 1 0) (queue_at (drop 3 qs) c)
served_now qs rs d c r =
    condition_at rs c ∙ (r (3 + c)
    ∙ ((λ j. drop (cond (same_condition d c j) 1 0) (sym (condition_at qs c) j)
    ++ cond (not_condition 0 c (omega arith) j) (take 1 (queue_at qs (3 + d))) [])
    ∙ append-nil (drop (cond (d == c) 1 0) (queue_at (drop 3 qs) c))))

other_same : (qs : List (List ℕ)) (d n : ℕ) (rs : List (List ℕ)) → 0 < n → n < 3 → IsPassed qs d rs
    → queue_at rs n ≡ queue_at qs n
other_same qs d n rs m l r =
    r n ∙ ((λ j. drop (cond (not_other n d l j) 1 0) (queue_at qs n)
    ++ cond (let later : ◌≡◌ {A = Bool} (0 == n) false = grind (arith, m) in later j) (take 1 (queue_at qs (3 + d))) [])
    ∙ append-nil (queue_at qs n))

served_waiters : (qs rs : List (List ℕ)) (d : ℕ) → IsPassed qs d rs
    → queue_at rs 0 ≡ queue_at qs 0 ++ take 1 (queue_at (drop 3 qs) d)
served_waiters qs rs d r =
    r 0 ∙ (λ j. drop (cond (not_other 0 d (omega arith) j) 1 0) (queue_at qs 0) ++ take 1 (sym (condition_at qs d) j))

served_whole : (b : Bool) (xs : List ℕ) → cond b [] xs ++ [] ≡ drop (length (cond b xs [])) xs ++ []
served_whole true xs = ap (λ ys. ys ++ []) (sym (drop-length xs))
served_whole false xs = refl

-- a seat that is in none of the queues is in none after a front has gone to another
none_moved : (s : ℕ) (b d : Bool) (xs ys : List ℕ) → times s xs ≡ 0 → times s ys ≡ 0
    → times s (drop (cond b 1 0) xs ++ cond d (take 1 ys) []) ≡ 0
none_moved s b d xs ys h k =
    let both = times_both s (drop (cond b 1 0) xs) (cond d (take 1 ys) []) in
    omega (arith, both, left b xs h, moved d ys k)
  where
    left : (b : Bool) (xs : List ℕ) → times s xs ≡ 0 → times s (drop (cond b 1 0) xs) ≡ 0
    left true [] h = refl
    left true (x ∷ xs) h = rest x s _ h
    left false xs h = h

    moved : (d : Bool) (ys : List ℕ) → times s ys ≡ 0 → times s (cond d (take 1 ys) []) ≡ 0
    moved true [] h = refl
    moved true (y ∷ ys) h = omega (arith, h)
    moved false ys h = refl

pub passed_apart : (s d at : ℕ) (qs rs : List (List ℕ)) → at ≡ 3 + d → d < 8
    → ((c : ℕ)
    → queue_at rs c ≡ drop (cond (at == c) 1 0) (queue_at qs c) ++ cond (0 == c) (take 1 (queue_at qs at)) [])
    → places s (queue_at qs) ≡ 0 → places s (queue_at rs) ≡ 0
unfolding places
passed_apart s d at qs rs e l r h = all most_queues (λ c m. here c m)
  where
    nobody : (c : ℕ) → c < most_queues → times s (queue_at qs c) ≡ 0
    nobody c m = let few = times_le c s (queue_at qs) m in omega (arith, few, h)

    here : (c : ℕ) → c < most_queues → times s (queue_at rs c) ≡ 0
    here c m = ap (times s) (r c)
        ∙ none_moved s (at == c) (0 == c) (queue_at qs c) (queue_at qs at) (nobody c m)
        (nobody at (omega (arith, e, l)))

    all : (n : ℕ) → ((c : ℕ) → c < n → times s (queue_at rs c) ≡ 0) → times_in_conditions n s (queue_at rs) ≡ 0
    all zero f = refl
    all (suc n) f =
        let last = f n (omega arith) in omega (arith, last, all n (λ c m. f c (omega (arith, m))))

-- a seat joins one of the other queues
others_kept : (n s : ℕ) (qs rs : List (List ℕ)) → n < 3
    → ((c : ℕ) → queue_at rs c ≡ queue_at qs c ++ cond (n == c) (s ∷ []) [])
    → (c : ℕ) → queue_at (drop 3 rs) c ≡ queue_at (drop 3 qs) c
others_kept n s qs rs l r c =
    condition_at rs c ∙ (r (3 + c)
    ∙ ((λ j. sym (condition_at qs c) j ++ cond (not_condition n c l j) (s ∷ []) [])
    ∙ append-nil (queue_at (drop 3 qs) c)))

waits_push : (p xs : List ℕ) (s : ℕ) → waits_in p (xs ++ s ∷ []) ≡ waits_in p xs ++ (s, get_or p s 0) ∷ []
waits_push p [] s = refl
waits_push p (x ∷ xs) s = ap (λ ws. (x, get_or p x 0) ∷ ws) (waits_push p xs s)

waits_set : (p xs : List ℕ) (s v : ℕ) → times s xs ≡ 0 → waits_in (slice_set p s v) xs ≡ waits_in p xs
waits_set p [] s v h = refl
waits_set p (x ∷ xs) s v h =
    (λ j. (x, get_or-set_other p s x v 0 (other x s _ h) j) ∷ waits_set p xs s v (rest x s _ h) j)

module _ (p : List ℕ) (qs : List (List ℕ)) (e : Event) where
  pub waiting : (s d : ℕ) (x : Next) (at : ℕ) (rs : List (List ℕ)) → e ≡ Wait s d x → at ≡ 3 + d
      → ((c : ℕ) → queue_at rs c ≡ queue_at qs c ++ cond (at == c) (s ∷ []) [])
      → IsServed (lists_of p qs) e (lists_of p rs)
  waiting s d x at rs i h r =
      subst (λ y. IsServed (lists_of p qs) y (lists_of p rs)) (sym i) (record {
        condition = λ c. condition_at rs c ∙ (there (3 + c)
            ∙ (λ j. sym (condition_at qs c) j ++ cond (same_condition d c j) (s ∷ []) []));
        waiters = there 0 ∙ ap (λ b. queue_at qs 0 ++ cond b (s ∷ []) []) (not_other 0 d (omega arith));
        signallers = there 1 ∙ ap (λ b. queue_at qs 1 ++ cond b (s ∷ []) []) (not_other 1 d (omega arith));
        untils = grind (arith, nat_tests, not_other, append-nil);
      })
    where
      there : (c : ℕ) → queue_at rs c ≡ queue_at qs c ++ cond (3 + d == c) (s ∷ []) []
      there c = r c ∙ ap (λ y. queue_at qs c ++ cond (y == c) (s ∷ []) []) h

  pub leaving : (s d : ℕ) (x : Next) (at : ℕ) (rs : List (List ℕ)) → e ≡ SignalLeave s d x → at ≡ 3 + d
      → ((c : ℕ)
      → queue_at rs c ≡ drop (cond (at == c) 1 0) (queue_at qs c) ++ cond (0 == c) (take 1 (queue_at qs at)) [])
      → IsServed (lists_of p qs) e (lists_of p rs)
  leaving s d x at rs i h r =
      subst (λ y. IsServed (lists_of p qs) y (lists_of p rs)) (sym i) (record {
        condition = λ c. served_now qs rs d c there ∙ served_one (d == c) (queue_at (drop 3 qs) c);
        waiters = served_waiters qs rs d there;
        signallers = other_same qs d 1 rs (omega arith) (omega arith) there ∙ sym (append-nil (queue_at qs 1));
        untils = grind (arith, nat_tests, other_same, append-nil);
      })
    where
      there : IsPassed qs d rs
      there c = r c ∙ ap (λ y. drop (cond (y == c) 1 0) (queue_at qs c) ++ cond (0 == c) (take 1 (queue_at qs y)) []) h

  -- the whole queue is served
  pub serving_all : (s d at : ℕ) (rs : List (List ℕ)) → e ≡ SignalAll s d → at ≡ 3 + d
      → ((c : ℕ) → queue_at rs c ≡ cond (at == c) [] (queue_at qs c) ++ cond (0 == c) (queue_at qs at) [])
      → IsServed (lists_of p qs) e (lists_of p rs)
  serving_all s d at rs i h r =
      subst (λ y. IsServed (lists_of p qs) y (lists_of p rs)) (sym i) (record {
        condition = λ c. condition_at rs c ∙ (there (3 + c)
            ∙ ((λ j. cond (same_condition d c j) [] (sym (condition_at qs c) j)
            ++ cond (not_condition 0 c (omega arith) j) (queue_at qs (3 + d)) [])
            ∙ served_whole (d == c) (queue_at (drop 3 qs) c)));
        waiters = there 0 ∙ (λ j. cond (not_other 0 d (omega arith) j) [] (queue_at qs 0) ++ sym (condition_at qs d) j);
        signallers = there 1 ∙ ap (λ b. cond b [] (queue_at qs 1) ++ []) (not_other 1 d (omega arith));
        untils = grind (arith, nat_tests, not_other, append-nil);
      })
    where
      there : (c : ℕ) → queue_at rs c ≡ cond (3 + d == c) [] (queue_at qs c) ++ cond (0 == c) (queue_at qs (3 + d)) []
      there c = r c ∙ ap (λ y. cond (y == c) [] (queue_at qs c) ++ cond (0 == c) (queue_at qs y) []) h

  -- the front is served, and then the caller waits
  pub serving_waiting : (s d f : ℕ) (x : Next) (at by : ℕ) (ms rs : List (List ℕ)) → e ≡ SignalWait s d f x
      → at ≡ 3 + d → by ≡ 3 + f
      → ((c : ℕ)
      → queue_at ms c ≡ drop (cond (at == c) 1 0) (queue_at qs c) ++ cond (0 == c) (take 1 (queue_at qs at)) [])
      → ((c : ℕ) → queue_at rs c ≡ queue_at ms c ++ cond (by == c) (s ∷ []) [])
      → IsServed (lists_of p qs) e (lists_of p rs)
  serving_waiting s d f x at by ms rs i h k m r =
      subst (λ y. IsServed (lists_of p qs) y (lists_of p rs)) (sym i) (record {
        condition = λ c. condition_at rs c ∙ (there (3 + c)
            ∙ (λ j. (sym (condition_at ms c)
            ∙ (served_now qs ms d c passed ∙ (served_one (d == c) (queue_at (drop 3 qs) c)
            ∙ append-nil _))) j ++ cond (same_condition f c j) (s ∷ []) []));
        waiters = grind (arith, nat_tests, not_other, append-nil, served_waiters);
        signallers = there 1
            ∙ (λ j. other_same qs d 1 ms (omega arith) (omega arith) passed j
            ++ cond (not_other 1 f (omega arith) j) (s ∷ []) []);
        untils = grind (arith, nat_tests, other_same, not_other, append-nil);
      })
    where
      passed : IsPassed qs d ms
      passed c = m c ∙ ap (λ y. drop (cond (y == c) 1 0) (queue_at qs c) ++ cond (0 == c) (take 1 (queue_at qs y)) []) h

      there : (c : ℕ) → queue_at rs c ≡ queue_at ms c ++ cond (3 + f == c) (s ∷ []) []
      there c = r c ∙ ap (λ y. queue_at ms c ++ cond (y == c) (s ∷ []) []) k

  -- the signaller joins as well
  pub signalling : (s d : ℕ) (x : Next) (at : ℕ) (ms rs : List (List ℕ)) → e ≡ Signal s d x → at ≡ 3 + d
      → false ≡ is_empty (queue_at (drop 3 qs) d)
      → ((c : ℕ) → queue_at ms c ≡ queue_at qs c ++ cond (1 == c) (s ∷ []) [])
      → ((c : ℕ)
      → queue_at rs c ≡ drop (cond (at == c) 1 0) (queue_at ms c) ++ cond (0 == c) (take 1 (queue_at ms at)) [])
      → IsServed (lists_of p qs) e (lists_of p rs)
  signalling s d x at ms rs i h some m r =
      let kept = others_kept 1 s qs ms (omega arith) m in
      subst (λ y. IsServed (lists_of p qs) y (lists_of p rs)) (sym i) (record {
        condition = λ c. served_now ms rs d c there
            ∙ (ap (drop (cond (d == c) 1 0)) (kept c) ∙ served_one (d == c) (queue_at (drop 3 qs) c));
        waiters = grind (arith, nat_tests, served_waiters, append-nil);
        signallers = other_same ms d 1 rs (omega arith) (omega arith) there
            ∙ (m 1 ∙ ap (λ b. queue_at qs 1 ++ cond b [] (s ∷ [])) some);
        untils =
            ap (waits_in p) (other_same ms d 2 rs (omega arith) (omega arith) there
            ∙ (m 2 ∙ append-nil (queue_at qs 2)))
            ∙ sym (append-nil (waits_in p (queue_at qs 2)));
      })
    where
      there : IsPassed ms d rs
      there c = r c ∙ ap (λ y. drop (cond (y == c) 1 0) (queue_at ms c) ++ cond (0 == c) (take 1 (queue_at ms y)) []) h

  -- a seat waits until a predicate holds
  pub until : (s pred : ℕ) (x : Next) (rs : List (List ℕ)) → e ≡ Until s pred x → false ≡ is_stay (Some x)
      → s < length p
      → places s (queue_at qs) ≡ 0 → ((c : ℕ) → queue_at rs c ≡ queue_at qs c ++ cond (2 == c) (s ∷ []) [])
      → IsServed (lists_of p qs) e (lists_of (slice_set p s pred) rs)
  until s pred x rs i stay l none r =
      subst (λ y. IsServed (lists_of p qs) y (lists_of (slice_set p s pred) rs)) (sym i) (record {
        condition = λ c. others_kept 2 s qs rs (omega arith) r c ∙ sym (append-nil (queue_at (drop 3 qs) c));
        waiters = r 0;
        signallers = r 1;
        untils = grind (arith, nat_tests, waits_push, waits_set, times_le, get_or-set_same);
      })
