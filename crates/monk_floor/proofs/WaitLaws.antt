-- The waits-until, one after another
use Rattle.std.proofs.Common.{◌≡◌, ℕ, zero, suc, ◌<◌, ◌≤◌, ◌+◌, ◌==◌, true, false, cond, Option, Some, None, List, [], ◌∷◌, All}
use Rattle.std.proofs.Common.{length, drop, refl, sym, ap, subst, ◌∙◌, arith, eq-eqb, get_or, add-one}
use Rattle.std.{specs.Prelude.slice_get, proofs.lemmas.Bool.Decides.nat_tests}
use Rattle.monk_object.specs.Object.{Object}
use Rattle.monk_history.specs.Meaning.{Standing.times, Untils.ready_of}
use Rattle.monk_floor.{specs.Queues.waits_in, specs.Queues.times_in_waits, proofs.ShownLaws.seats_back}

pub times_back : (s : ℕ) (p xs : List ℕ) → times_in_waits s (waits_in p xs) ≡ times s xs
times_back s p xs = ap (times s) (seats_back p xs)

same_some : (w v : ℕ × ℕ) → Some w ≡ Some v → w ≡ v
same_some w v e = cc

seat_at : (p xs : List ℕ) (i s r : ℕ) → slice_get (waits_in p xs) i ≡ Some (s, r) → slice_get xs i ≡ Some s
seat_at p [] i s r h = absurd (cc)
seat_at p (x ∷ xs) zero s r h = ap (λ w. Some (w.0)) (same_some (x, get_or p x 0) (s, r) h)
seat_at p (x ∷ xs) (suc i) s r h = seat_at p xs i s r h

no_wait : (p xs : List ℕ) (i : ℕ) → None ≡ slice_get xs i → None ≡ slice_get (waits_in p xs) i
no_wait p [] i h = refl
no_wait p (x ∷ xs) zero h = absurd (cc)
no_wait p (x ∷ xs) (suc i) h = no_wait p xs i h

one_wait : (p xs : List ℕ) (i s : ℕ) → Some s ≡ slice_get xs i → Some (s, get_or p s 0) ≡ slice_get (waits_in p xs) i
one_wait p [] i s h = absurd (cc)
one_wait p (x ∷ xs) zero s h = let same : s ≡ x = cc in ap (λ y. Some (y, get_or p y 0)) same
one_wait p (x ∷ xs) (suc i) s h = one_wait p xs i s h

-- what comes after a seat in the waits-until, by what comes after it in its queue
pub none_after : (p xs : List ℕ) (s : ℕ) (o : Option ℕ)
    → ((i : ℕ) → slice_get xs i ≡ Some s → o ≡ slice_get xs (i + 1)) → o ≡ None
    → (i r : ℕ) → slice_get (waits_in p xs) i ≡ Some (s, r) → None ≡ slice_get (waits_in p xs) (i + 1)
none_after p xs s o f e i r h = no_wait p xs (i + 1) (sym e ∙ f i (seat_at p xs i s r h))

pub some_after : (p xs : List ℕ) (s n : ℕ) (o : Option ℕ)
    → ((i : ℕ) → slice_get xs i ≡ Some s → o ≡ slice_get xs (i + 1)) → o ≡ Some n
    → (i r : ℕ) → slice_get (waits_in p xs) i ≡ Some (s, r) → Some (n, get_or p n 0) ≡ slice_get (waits_in p xs) (i + 1)
some_after p xs s n o f e i r h = one_wait p xs (i + 1) n (sym e ∙ f i (seat_at p xs i s r h))

-- the list from one of them on
drop_at : (us : List (ℕ × ℕ)) (i : ℕ) (w : ℕ × ℕ) → slice_get us i ≡ Some w → drop i us ≡ w ∷ drop (i + 1) us
drop_at us i w h = further us i w h ∙ ap (λ n. w ∷ drop n us) (sym (add-one i))
  where
    further : (us : List (ℕ × ℕ)) (i : ℕ) (w : ℕ × ℕ) → slice_get us i ≡ Some w → drop i us ≡ w ∷ drop (suc i) us
    further [] i w h = absurd (cc)
    further (u ∷ us) zero w h = ap (λ v. v ∷ us) (same_some u w h)
    further (u ∷ us) (suc i) w h = further us i w h

drop_past : (us : List (ℕ × ℕ)) (i : ℕ) → slice_get us i ≡ None → drop i us ≡ []
drop_past [] zero h = refl
drop_past [] (suc i) h = refl
drop_past (u ∷ us) zero h = absurd (cc)
drop_past (u ∷ us) (suc i) h = drop_past us i h

nobody_past : (us : List (ℕ × ℕ)) (i : ℕ) → length us ≤ i → slice_get us i ≡ None
nobody_past [] i l = refl
nobody_past (u ∷ us) zero l = absurd (omega (arith, l))
nobody_past (u ∷ us) (suc i) l = nobody_past us i (omega (arith, l))

pub wait_times : (us : List (ℕ × ℕ)) (i s r : ℕ) → slice_get us i ≡ Some (s, r) → 1 ≤ times_in_waits s us
wait_times [] i s r h = absurd (cc)
wait_times (u ∷ us) zero s r h =
    let same : u.0 ≡ s = ap (λ w. w.0) (same_some u (s, r) h) in
    let one : ◌≡◌ {A = ℕ} (cond (u.0 == s) 1 0) 1 = ap (λ b. cond b 1 0) (eq-eqb (u.0) s same) in
    omega (arith, one)
wait_times (u ∷ us) (suc i) s r h = let more = wait_times us i s r h in omega (arith, more)

pub wait_all : (P : ℕ × ℕ → Type 0) (us : List (ℕ × ℕ)) (i : ℕ) (w : ℕ × ℕ) → slice_get us i ≡ Some w → All P us → P w
wait_all P us i w h a =
    let short = inside us i h in
    subst P (here us i h w) (a i w short)
  where
    inside : (us : List (ℕ × ℕ)) (i : ℕ) → slice_get us i ≡ Some w → i < length us
    inside [] i h = absurd (cc)
    inside (u ∷ us) zero h = omega arith
    inside (u ∷ us) (suc i) h = omega (arith, inside us i h)

    here : (us : List (ℕ × ℕ)) (i : ℕ) → slice_get us i ≡ Some w → (d : ℕ × ℕ) → get_or us i d ≡ w
    here [] i h d = absurd (cc)
    here (u ∷ us) zero h d = same_some u w h
    here (u ∷ us) (suc i) h d = here us i h d

module _ (o : Object) (d : List ℕ) (us : List (ℕ × ℕ)) (i : ℕ) where
  -- so far nobody is ready
  abbrev pub none_ready : Type 0
  none_ready = ready_of o d (drop i us) ≡ ready_of o d us

  pub ready_here : none_ready → (s r : ℕ) → slice_get us i ≡ Some (s, r) → o.holds d r ≡ true
      → Some s ≡ slice_get (ready_of o d us) 0
  ready_here k s r h t = grind (arith, nat_tests, drop_at)

  pub ready_later : none_ready → (s r : ℕ) → slice_get us i ≡ Some (s, r) → o.holds d r ≡ false
      → ready_of o d (drop (i + 1) us) ≡ ready_of o d us
  ready_later k s r h t = grind (arith, nat_tests, drop_at)

  pub ready_never : none_ready → slice_get us i ≡ None → None ≡ slice_get (ready_of o d us) 0
  ready_never k h = ap (λ xs. slice_get xs 0) (sym (ap (ready_of o d) (drop_past us i h)) ∙ k)

  pub ready_past : none_ready → length us ≤ i → None ≡ slice_get (ready_of o d us) 0
  ready_past k l = ready_never k (nobody_past us i l)
