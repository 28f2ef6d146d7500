-- Readers and a writer of a book exclude each other
use Rattle.std.proofs.Common.{◌≡◌, ℕ, ◌+◌, ◌-◌, ◌<◌, ◌≤◌, ◌==◌, ◌⊎◌, inl, inr, Bool, true, false, cond, List, [], ◌∷◌}
use Rattle.std.proofs.{Common.refl, Common.sym, Common.subst, Common.arith, lemmas.Bool.eqb-true, lemmas.Bool.ltb-true}
use Rattle.std.specs.Prelude.{nat_lt}
use Rattle.monk_object.proofs.Codes.{both, by_code, once, once-false, counted}
use Rattle.monk_object.specs.{Book.START_READ, Book.END_READ, Book.START_WRITE, Book.END_WRITE, Book.book_meaning}
use Rattle.monk_object.specs.{Book.book_after, Book.book_reply, Book.book_serves, Book.book_served, Laws.IsExclusive}
use Rattle.monk_object.specs.{Runs.Answered, Runs.state_after, Runs.answers_of, Runs.times_done, declared.op.Op.Op}
use Rattle.std.proofs.lemmas.Bool.Decides.{nat_tests}

-- the state after an operation of this code, if it may be served
record Step (size readers writers code : ℕ) (served : Bool) (next : List ℕ) : Type 0 where
  readers_next : ℕ
  writers_next : ℕ
  state : next ≡ size ∷ readers_next ∷ writers_next ∷ []
  within : readers_next ≤ size
  one_writer : writers_next ≤ 1
  alone : (readers_next ≡ 0) ⊎ (writers_next ≡ 0)
  reads : once START_READ code served + readers ≡ once END_READ code served + readers_next
  writes : once START_WRITE code served + writers ≡ once END_WRITE code served + writers_next

done : (size readers writers : ℕ) → readers ≤ size → writers ≤ 1 → (readers ≡ 0) ⊎ (writers ≡ 0) → (code : ℕ)
    → book_serves size readers writers code ≡ true
    → Step size readers writers code true (book_served size readers writers code)
done size readers writers within one alone = by_code
    (λ code. book_serves size readers writers code ≡ true
    → Step size readers writers code true (book_served size readers writers code))
    (λ e. let parts = both (writers == 0) (nat_lt readers size) e in
    let none : writers ≡ 0 = eqb-true _ _ parts.0 in
    let less : readers < size = ltb-true _ _ parts.1 in
    record {
      readers_next = readers + 1;
      writers_next = writers;
      state = refl;
      within = omega arith;
      one_writer =
          one;
      alone = inr none;
      reads = omega arith;
      writes = refl;
    })
    (λ e. let some : 0 < readers = ltb-true _ _ e in
    record {
      readers_next = readers - 1;
      writers_next = writers;
      state = refl;
      within = omega arith;
      one_writer = one;
      alone = elim alone [ inl z ↦ absurd (omega arith) | inr z ↦ inr z ];
      reads = omega arith;
      writes = refl;
    })
    (λ e. let parts = both (readers == 0) (writers == 0) e in
    let none : readers ≡ 0 = eqb-true _ _ parts.0 in
    let nobody : writers ≡ 0 = eqb-true _ _ parts.1 in
    record {
      readers_next = readers;
      writers_next = 1;
      state = refl;
      within = within;
      one_writer = omega arith;
      alone =
          inl none;
      reads = refl;
      writes = omega arith;
    })
    (λ e. let busy : writers ≡ 1 = eqb-true _ _ e in
    record {
      readers_next = readers;
      writers_next = 0;
      state = refl;
      within = within;
      one_writer = omega arith;
      alone =
          inr refl;
      reads = refl;
      writes = omega arith;
    })
    (λ code n0 n1 n2 n3 e. absurd (none code n0 n1 n2 n3 e))
  where
    none : (code : ℕ) → (code == 0) ≡ false → (code == 1) ≡ false → (code == 2) ≡ false → (code == 3) ≡ false
        → book_serves size readers writers code ≡ true → ⊥
    none code n0 n1 n2 n3 e = let f : false ≡ true = rw (n0, n1, n2, n3) at e in absurd cc

step : (size readers writers : ℕ) → readers ≤ size → writers ≤ 1 → (readers ≡ 0) ⊎ (writers ≡ 0)
    → (code : ℕ) (served : Bool)
    → book_serves size readers writers code ≡ served
    → Step size readers writers code served
    (cond served (book_served size readers writers code) (size ∷ readers ∷ writers ∷ []))
step size readers writers within one alone code true e = done size readers writers within one alone code e
step size readers writers within one alone code false e = record {
  readers_next = readers;
  writers_next = writers;
  state = refl;
  within = within;
  one_writer = one;
  alone = alone;
  reads = rw (once-false START_READ code, once-false END_READ code) refl;
  writes = rw (once-false START_WRITE code, once-false END_WRITE code) refl;
}

-- from a state with some readers and writers
record Run (size readers writers : ℕ) (start : List ℕ) (ops : List Op) : Type 0 where
  readers_last : ℕ
  writers_last : ℕ
  state : state_after book_meaning start ops ≡ size ∷ readers_last ∷ writers_last ∷ []
  within : readers_last ≤ size
  one_writer : writers_last ≤ 1
  alone : (readers_last ≡ 0) ⊎ (writers_last ≡ 0)
  reads : times_done START_READ (answers_of book_meaning start ops) + readers ≡ times_done END_READ
      (answers_of book_meaning start ops) + readers_last
  writes : times_done START_WRITE (answers_of book_meaning start ops) + writers ≡ times_done END_WRITE
      (answers_of book_meaning start ops) + writers_last

run : (size readers writers : ℕ) → readers ≤ size → writers ≤ 1 → (readers ≡ 0) ⊎ (writers ≡ 0) → (ops : List Op)
    → Run size readers writers (size ∷ readers ∷ writers ∷ []) ops
run size readers writers within one alone [] =
    record {
      readers_last = readers;
      writers_last = writers;
      state = refl;
      within = within;
      one_writer = one;
      alone =
          alone;
      reads = refl;
      writes = refl;
    }
run size readers writers within one alone (op ∷ ops) =
    let s = step size readers writers within one alone op.code (book_serves size readers writers op.code) refl in
    let r = subst (λ start. Run size s.readers_next s.writers_next start ops) (sym s.state)
    (run size s.readers_next s.writers_next s.within s.one_writer s.alone ops) in
    let act : Answered = record { op = op; reply = book_reply (size ∷ readers ∷ writers ∷ []) op } in
    let acts = answers_of book_meaning (book_after (size ∷ readers ∷ writers ∷ []) op) ops in
    record {
      readers_last = r.readers_last;
      writers_last = r.writers_last;
      state = r.state;
      within = r.within;
      one_writer = r.one_writer;
      alone = r.alone;
      reads = counted START_READ END_READ act acts readers s.readers_next r.readers_last s.reads r.reads;
      writes = counted START_WRITE END_WRITE act acts writers s.writers_next r.writers_last s.writes r.writes;
    }

pub exclusive : (size : ℕ) (ops : List Op) → IsExclusive size ops
exclusive size ops =
    let r = run size 0 0 (omega arith) (omega arith) (inl refl) ops in
    let reads = r.reads in
    let writes = r.writes in
    grind (arith, nat_tests)
