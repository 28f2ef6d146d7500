-- A queue of many, by its index
use Rattle.std.proofs.Common.{◌≡◌, ℕ, ◌<◌, zero, suc, eqb, cond, List, [], ◌∷◌, ◌++◌, length, drop, get_or, refl, sym, ap, ◌∙◌, arith}
use Rattle.std.proofs.{lemmas.List.append-nil, Math.Dec.eqb-suc-zero, Math.Dec.eqb-zero-suc, Math.Dec.eqb-suc-suc}
use Rattle.std.specs.Prelude.{slice_set}
use Rattle.monk_history.specs.QueueAt.{seats_at}

module _ {Q : Type 0} (seats : Q → List ℕ) where
  pub seats_at-get : (vs : List Q) (i : ℕ) (d : Q) → i < length vs → seats_at seats vs i ≡ seats (get_or vs i d)
  seats_at-get [] i d l = absurd (omega arith)
  seats_at-get (w ∷ ws) zero d l = refl
  seats_at-get (w ∷ ws) (suc i) d l = seats_at-get ws i d (omega arith)

  -- a seat joins queue number i
  pub joined_at : (vs : List Q) (i : ℕ) (q v : Q) (s c : ℕ) → i < length vs → q ≡ get_or vs i q
      → seats v ≡ seats q ++ s ∷ []
      → seats_at seats (slice_set vs i v) c ≡ seats_at seats vs c ++ cond (eqb i c) (s ∷ []) []
  joined_at [] i q v s c l e f = absurd (omega arith)
  joined_at (w ∷ ws) zero q v s zero l e f = f ∙ ap (λ x. seats x ++ s ∷ []) e
  joined_at (w ∷ ws) zero q v s (suc c) l e f = rw (eqb-zero-suc c) (sym (append-nil (seats_at seats ws c)))
  joined_at (w ∷ ws) (suc i) q v s zero l e f = rw (eqb-suc-zero i) (sym (append-nil (seats w)))
  joined_at (w ∷ ws) (suc i) q v s (suc c) l e f = rw (eqb-suc-suc i c) (joined_at ws i q v s c (omega arith) e f)

  -- the front of queue number i goes
  pub taken_at : (vs : List Q) (i : ℕ) (q v : Q) (c : ℕ) → i < length vs → q ≡ get_or vs i q
      → seats v ≡ drop 1 (seats q)
      → seats_at seats (slice_set vs i v) c ≡ cond (eqb i c) (drop 1 (seats_at seats vs c)) (seats_at seats vs c)
  taken_at [] i q v c l e f = absurd (omega arith)
  taken_at (w ∷ ws) zero q v zero l e f = f ∙ ap (λ x. drop 1 (seats x)) e
  taken_at (w ∷ ws) zero q v (suc c) l e f = rw (eqb-zero-suc c) refl
  taken_at (w ∷ ws) (suc i) q v zero l e f = rw (eqb-suc-zero i) refl
  taken_at (w ∷ ws) (suc i) q v (suc c) l e f = rw (eqb-suc-suc i c) (taken_at ws i q v c (omega arith) e f)

  -- one more queue with nobody in it
  pub all_empty_push : (vs : List Q) (v : Q) → seats v ≡ [] → ((c : ℕ) → seats_at seats vs c ≡ []) → (c : ℕ)
      → seats_at seats (vs ++ v ∷ []) c ≡ []
  all_empty_push [] v e h zero = e
  all_empty_push [] v e h (suc c) = refl
  all_empty_push (w ∷ ws) v e h zero = h zero
  all_empty_push (w ∷ ws) v e h (suc c) = all_empty_push ws v e (λ d. h (suc d)) c
