-- What is known of overtaken threads, after one more line
use Rattle.std.proofs.Common.{◌≡◌, ℕ, suc, ◌+◌, ◌<◌, ◌≤◌, ◌⊎◌, inl, inr, true, false, List, [], ◌∷◌, ◌++◌, Option, Some, None, length, refl, sym, ap, subst, arith, ◌∙◌}
use Rattle.std.proofs.lemmas.Bool.{cases_Bool, false≢true, Decides.nat_tests}
use Rattle.monk_logs.specs.{Log.line_seat, declared.text.line.LogLine.LogLine}
use Rattle.monk_judge.proofs.{Missing.more_many, Moments.moment_kept, Moves.Moves, Passing.Marks, Visits.seat_kept}
use Rattle.monk_judge.proofs.Many.{many_skip, many_within, same_self}
use Rattle.monk_judge.proofs.Returning.{BackAt, Hinted, HintedBefore, IsBack, IsBackAt, again_same, before_same}
use Rattle.monk_judge.proofs.Returning.{before_waits, no_wait, others_line}
use Rattle.monk_judge.proofs.Among.{first_here, first_skip, here_or_below}
use Rattle.monk_judge.proofs.Rivals.{comes_otherwise, comes_overtaken, told_by}
use Rattle.monk_judge.proofs.Nexts.{HasNext, at_last, goes_by, next_kept, on_kept, overtaken_kept}
use Rattle.monk_judge.specs.{Among.AreMany, Among.NamesFirst, Holding.takes_lock, Moments.Moment, Run.State}
use Rattle.monk_judge.specs.Hints.{Answers, ComesBack, AnswersOwn, AnswersBy, first_of, passed_of}
use Rattle.monk_judge.specs.declared.overtaking.{Back.Back, Hints.Hints}
use Rattle.monk_judge.specs.Overtaken.{GoesOn, GoesOnBy, IsOvertaken, IsOvertakenOn, WaitsAgain, seat_at}

-- ---- who is back after the line

-- a refused act doesn't change the lock
lock_kept : (l : LogLine) (x y : State) (s : ℕ) → Moves x l y → takes_lock l ≡ false → x.lock ≡ Some s
    → (GoesOnBy l s → ⊥) → y.lock ≡ Some s
lock_kept l x y s moves frees lock other = grind (arith, nat_tests)

none_some : (s : ℕ) (A : Type 0) → None ≡ Some s → A
none_some s A h = cc

back_kept : (log : List LogLine) (all : List Moment) (t : Moment) (l : LogLine) (x y : State) (b : Back) → t.line ≡ l
    → Moves x l y
    → BackAt log all x b → (GoesOnBy l b.seat → ⊥) → BackAt log (all ++ t ∷ []) y b
back_kept log all t l x y b is moves at other =
    let frees : takes_lock l ≡ false = grind (arith, nat_tests, cases_Bool, none_some) in
    grind (
      arith,
      nat_tests,
      more_many,
      on_kept,
      seat_kept,
      here_or_below,
      goes_by,
      at_last,
      moment_kept,
      false≢true,
      lock_kept,
    )

-- if the line's thread came back last, it has now gone on
next_now : (log : List LogLine) (all : List Moment) (t : Moment) (l : LogLine) (x : State) (b : Back) → t.line ≡ l
    → BackAt log all x b
    → GoesOnBy l b.seat → HasNext (all ++ t ∷ []) b.line
next_now log all t l x b is at own =
    let seat : seat_at (all ++ t ∷ []) b.line ≡ b.seat = seat_kept all t b.line at.within ∙ at.seat in
    grind (arith, nat_tests, more_many, goes_by, at_last, moment_kept)

-- after a line, before its own thread may have come back
pub record Half (log : List LogLine) (all : List Moment) (t : Moment) (y : State) (h : Hints) : Type 0 where
  pub counts : HintedBefore log all t h
  pub back : IsBack log (all ++ t ∷ []) y h.back
  pub others : (k : ℕ) → k < length all → IsOvertaken log (all ++ t ∷ []) k
      → IsBackAt h.back k ⊎ HasNext (all ++ t ∷ []) k

back_after : (log : List LogLine) (all : List Moment) (t : Moment) (x : State) (h : Hints) (b : Back)
    → h.back ≡ Some b → Hinted log all x h
    → BackAt log all x b
back_after log all t x h b is was = subst (λ o. IsBack log all x o) is was.back

has_kept : (all : List Moment) (t : Moment) (k : ℕ) → HasNext all k → HasNext (all ++ t ∷ []) k
has_kept all t k h = record { at = h.at; next = next_kept all t k h.at h.next }

-- if it did nothing
others_kept : (log : List LogLine) (all : List Moment) (t : Moment) (x : State) (h : Hints) → Hinted log all x h
    → (k : ℕ) → k < length all
    → IsOvertaken log (all ++ t ∷ []) k → IsBackAt h.back k ⊎ HasNext (all ++ t ∷ []) k
others_kept log all t x h was k lt over =
    elim (was.others k lt ((overtaken_kept log all t k lt).1 over)) as
    (λ z. IsBackAt h.back k ⊎ HasNext (all ++ t ∷ []) k)
    [ inl at ↦ inl at | inr has ↦ inr (has_kept all t k has) ]

half_none : (log : List LogLine) (all : List Moment) (t : Moment) (x y : State) (h : Hints) → h.back ≡ None
    → Hinted log all x h → Half log all t y h
half_none log all t x y h back was = record {
  counts = before_same log all t x h h was
      (again_same log all t x h was (λ k lt at w last. subst (λ o. IsBackAt o k) back at)) refl refl refl;
  back = subst (λ o. IsBack log (all ++ t ∷ []) y o) (sym back) tt;
  others = others_kept log all t x h was;
}

half_other : (log : List LogLine) (all : List Moment) (t : Moment) (l : LogLine) (x y : State) (h : Hints) (b : Back)
    → h.back ≡ Some b → t.line ≡ l → Moves x l y → Hinted log all x h → (GoesOnBy l b.seat → ⊥) → Half log all t y h
half_other log all t l x y h b back is moves was apart =
    let at = back_after log all t x h b back was in
    record {
      counts = before_same log all t x h h was
          (again_same log all t x h was
          (λ k lt here. others_line log all t l x b is at apart k lt (subst (λ o. IsBackAt o k) back here))) refl
          refl refl;
      back = subst (λ o. IsBack log (all ++ t ∷ []) y o) (sym back) (back_kept log all t l x y b is moves at apart);
      others = others_kept log all t x h was;
    }

half_own : (log : List LogLine) (all : List Moment) (t : Moment) (l : LogLine) (x y : State) (h new : Hints) (b : Back)
    → h.back ≡ Some b → t.line ≡ l → Hinted log all x h → GoesOnBy l b.seat → Answers l b h new → Half log all t y new
half_own log all t l x y h new b back is was own answers =
    let at = back_after log all t x h b back was in
    record {
      counts =
          elim answers.2 as (λ z. HintedBefore log all t new) [
            | inl waits ↦ before_waits log all t l x h new b is back was at waits.0 answers.1 waits.1 waits.2
            | inr goes ↦ before_same log all t x h new was
                (again_same log all t x h was
                (λ k lt here. no_wait log all t l x b is at goes.0 k lt (subst (λ o. IsBackAt o k) back here)))
                answers.1 goes.1 goes.2
          ];
      back = subst (λ o. IsBack log (all ++ t ∷ []) y o) (sym answers.0) tt;
      others = λ k lt over.
          elim (was.others k lt ((overtaken_kept log all t k lt).1 over)) as
          (λ z. IsBackAt new.back k ⊎ HasNext (all ++ t ∷ []) k) [
            | inl here ↦ inr (subst (λ j. HasNext (all ++ t ∷ []) j) (sym (subst (λ o. IsBackAt o k) back here))
                (next_now log all t l x b is at own))
            | inr has ↦ inr (has_kept all t k has)
          ];
    }

half_by : (log : List LogLine) (all : List Moment) (t : Moment) (l : LogLine) (x y : State) (h mid : Hints)
    (found : Option Back)
    → h.back ≡ found → t.line ≡ l → Moves x l y → Hinted log all x h → AnswersBy l found h mid → Half log all t y mid
half_by log all t l x y h mid None back is moves was goes =
    subst (λ k. Half log all t y k) (sym goes) (half_none log all t x y h back was)
half_by log all t l x y h mid (Some b) back is moves was goes =
    elim goes as (λ z. Half log all t y mid) [
      | inl own ↦ half_own log all t l x y h mid b back is was own.0 own.1
      | inr other ↦ subst (λ k. Half log all t y k) (sym other.1)
          (half_other log all t l x y h b back is moves was other.0)
    ]

-- the counts are no greater than the number of lines
pub hinted_few : (log : List LogLine) (all : List Moment) (x : State) (h : Hints) → Hinted log all x h
    → (h.many ≤ length all) × (h.again ≤ length all)
hinted_few log all x h was = grind (arith, nat_tests, many_within)

suc_many : (all : List Moment) (t : Moment) → suc (length all) ≡ length (all ++ t ∷ [])
suc_many all t = let m = more_many all t in omega arith

last_not_again : (log : List LogLine) (all : List Moment) (t : Moment) → WaitsAgain log (all ++ t ∷ []) (length all) → ⊥
last_not_again log all t w = omega (arith, more_many)

not_back : (log : List LogLine) (all : List Moment) (t : Moment) (y : State) (mid : Hints) → Half log all t y mid
    → (IsOvertaken log (all ++ t ∷ []) (length all) → ⊥) → Hinted log (all ++ t ∷ []) y mid
not_back log all t y mid half nope = record {
  counts = record {
    many = grind (arith, nat_tests, suc_many, many_skip);
    again = grind (arith, nat_tests, suc_many, many_skip, last_not_again);
    first = grind (arith, nat_tests, more_many, first_skip, same_self);
  };
  back = half.back;
  others = grind (arith, nat_tests, here_or_below, more_many, IsBackAt, HasNext);
}

some_not : (f : ℕ) (A : Type 0) → Some f ≡ None → A
some_not f A h = cc

first_with : (log : List LogLine) (all : List Moment) (t : Moment) (found : Option ℕ)
    → GoesOn log (all ++ t ∷ []) (length all)
    → NamesFirst (λ k. GoesOn log (all ++ t ∷ []) k) (length all) found
    → NamesFirst (λ k. GoesOn log (all ++ t ∷ []) k) (length all + 1) (first_of found (length all))
first_with log all t None now h = first_here (λ k. GoesOn log (all ++ t ∷ []) k) (λ k. GoesOn log (all ++ t ∷ []) k)
    (length all)
    (same_self (λ k. GoesOn log (all ++ t ∷ []) k) (length all)) now h
first_with log all t (Some f) now h =
    first_skip (λ k. GoesOn log (all ++ t ∷ []) k) (λ k. GoesOn log (all ++ t ∷ []) k) (length all) (Some f)
    (same_self (λ k. GoesOn log (all ++ t ∷ []) k) (length all)) (λ none g. some_not f ⊥ none) h

comes : (log : List LogLine) (all : List Moment) (t : Moment) (l : LogLine) (x y : State) (mid new : Hints) (c : ℕ)
    → t.line ≡ l
    → Moves x l y → takes_lock l ≡ true → Half log all t y mid → mid.back ≡ None
    → IsOvertakenOn log (all ++ t ∷ []) c (length all) → ComesBack l (length all) (Some c) mid new
    → Hinted log (all ++ t ∷ []) y new
comes log all t l x y mid new c is moves takes half none on does =
    let now : GoesOn log (all ++ t ∷ []) (length all) = (record { cond = c; on = on }, last_not_again log all t) in
    record {
      counts = record {
        many = subst (λ n. AreMany (λ k. IsOvertaken log (all ++ t ∷ []) k) n new.many) (suc_many all t)
            (subst (λ j. AreMany (λ k. IsOvertaken log (all ++ t ∷ []) k) (suc (length all)) j)
            (let e : suc mid.many ≡ new.many = omega (arith, does.1) in e) (inl (now.0, half.counts.many)));
        again = subst (λ n. AreMany (λ k. WaitsAgain log (all ++ t ∷ []) k) n new.again) (suc_many all t)
            (subst (λ j. AreMany (λ k. WaitsAgain log (all ++ t ∷ []) k) (suc (length all)) j) (sym does.2)
            (many_skip (λ k. WaitsAgain log (all ++ t ∷ []) k) (length all) mid.again (last_not_again log all t)
            half.counts.again));
        first = grind (arith, nat_tests, more_many, first_with);
      };
      back = subst (λ o. IsBack log (all ++ t ∷ []) y o) (sym does.0) (record {
        within = let m = more_many all t in omega arith;
        on = on;
        seat = ap line_seat (at_last all t l (length all) is refl);
        none = λ i from lt same. let m = more_many all t in absurd (omega arith);
        latest = λ i from lt take. let m = more_many all t in absurd (omega arith);
        lock = moves.taken takes;
      });
      others = grind (arith, nat_tests, here_or_below, more_many, IsBackAt, HasNext);
    }

-- while nobody has the lock, nobody is back
free_back : (log : List LogLine) (all : List Moment) (x : State) (l : LogLine) (h mid : Hints) (found : Option Back)
    → h.back ≡ found
    → x.lock ≡ None → Hinted log all x h → AnswersBy l found h mid → mid.back ≡ None
free_back log all x l h mid found back free was goes = grind (arith, nat_tests)

pub hinted_half : (log : List LogLine) (all : List Moment) (t : Moment) (l : LogLine) (x y : State) (h mid : Hints)
    → t.line ≡ l → Moves x l y → Hinted log all x h → AnswersOwn l h mid → Half log all t y mid
hinted_half log all t l x y h mid is moves was goes = half_by log all t l x y h mid h.back refl is moves was goes

hinted_by : (log : List LogLine) (seats : ℕ) (all : List Moment) (t : Moment) (l : LogLine) (x y : State)
    (h mid new : Hints) (on : Option ℕ) (passing passed : List (Option ℕ)) → passed_of l passed ≡ on
    → t.line ≡ l → Moves x l y → Marks log seats all x passing passed → line_seat l < seats → Hinted log all x h
    → AnswersOwn l h mid → ComesBack l (length all) on mid new → Hinted log (all ++ t ∷ []) y new
hinted_by log seats all t l x y h mid new None passing passed told is moves marks lt was goes comes =
    subst (λ k. Hinted log (all ++ t ∷ []) y k) (sym comes)
    (not_back log all t y mid (hinted_half log all t l x y h mid is moves was goes)
    (comes_otherwise log seats all t l x passing passed is marks lt told))
hinted_by log seats all t l x y h mid new (Some c) passing passed told is moves marks lt was goes does =
    let takes = (told_by l passed c (takes_lock l) refl told).0 in
    comes log all t l x y mid new c is moves takes (hinted_half log all t l x y h mid is moves was goes)
    (free_back log all x l h mid h.back refl (moves.free takes) was goes)
    (comes_overtaken log seats all t l x y passing passed c is moves marks lt told) does

pub hinted_next : (log : List LogLine) (seats : ℕ) (all : List Moment) (t : Moment) (l : LogLine) (x y : State)
    (h mid new : Hints) (on : Option ℕ) (passing passed : List (Option ℕ)) → on ≡ passed_of l passed
    → t.line ≡ l → Moves x l y → Marks log seats all x passing passed → line_seat l < seats → Hinted log all x h
    → AnswersOwn l h mid → ComesBack l (length all) on mid new → Hinted log (all ++ t ∷ []) y new
hinted_next log seats all t l x y h mid new on passing passed told is moves marks lt was goes does =
    hinted_by log seats all t l x y h mid new on passing passed (sym told) is moves marks lt was goes does
