-- The thread that came back overtaken last, and what it does next
use Rattle.std.proofs.Common.{◌≡◌, ℕ, suc, ◌+◌, ◌<◌, ◌⊎◌, inl, inr, true, List, [], ◌∷◌, ◌++◌, Option, Some, None, length, if◌then◌else◌, sym, ap, subst, arith, ◌∙◌}
use Rattle.std.proofs.lemmas.Bool.{eq-eqb, ne_eqb, Decides.nat_tests}
use Rattle.monk_logs.specs.Log.{line_seat}
use Rattle.monk_logs.specs.declared.text.line.LogLine.{LogLine, TheVariants.Wait}
use Rattle.monk_judge.proofs.{Among.SameBelow, Among.here_or_below, Missing.more_many, Moments.moment_kept}
use Rattle.monk_judge.proofs.{Rivals.resume_takes, Many.first_same, Many.many_one, Many.many_same, Visits.seat_kept}
use Rattle.monk_judge.proofs.Nexts.{HasNext, again_back, again_if_next, again_more, at_last, cond_same, goes_by}
use Rattle.monk_judge.proofs.Nexts.{on_kept, overtaken_kept}
use Rattle.monk_judge.specs.{Hints.without, Holding.takes_lock, Run.State, Among.AreMany, Among.NamesFirst}
use Rattle.monk_judge.specs.Overtaken.{CountsOvertaken, GoesOn, GoesOnBy, IsOvertaken, IsOvertakenOn, WaitsAgain}
use Rattle.monk_judge.specs.Overtaken.{is_refused, seat_at}
use Rattle.monk_judge.specs.declared.overtaking.{Back.Back, Hints.Hints}
use Rattle.monk_judge.specs.Moments.{Moment, moment}

-- ---- the thread that came back last

pub record BackAt (log : List LogLine) (all : List Moment) (x : State) (b : Back) : Type 0 where
  pub within : b.line < length all
  pub on : IsOvertakenOn log all b.cond b.line
  pub seat : seat_at all b.line ≡ b.seat
  pub none : (i : ℕ) → b.line < i → i < length all → GoesOnBy (moment all i).line b.seat → ⊥
  pub latest : (i : ℕ) → b.line < i → i < length all → takes_lock (moment all i).line ≡ true → ⊥
  pub lock : x.lock ≡ Some b.seat

abbrev pub IsBack : List LogLine → List Moment → State → Option Back → Type 0
IsBack log all x None = Unit {0}
IsBack log all x (Some b) = BackAt log all x b

abbrev pub IsBackAt : Option Back → ℕ → Type 0
IsBackAt None k = ⊥
IsBackAt (Some b) k = k ≡ b.line

pub record Hinted (log : List LogLine) (all : List Moment) (x : State) (h : Hints) : Type 0 where
  pub counts : CountsOvertaken log all h.many h.again h.first_not_again
  pub back : IsBack log all x h.back
  pub others : (k : ℕ) → k < length all → IsOvertaken log all k → IsBackAt h.back k ⊎ HasNext all k

pub hinted_opening : (log : List LogLine) (x : State) (h : Hints) → h.back ≡ None → h.many ≡ 0 → h.again ≡ 0
    → h.first_not_again ≡ None
    → Hinted log [] x h
hinted_opening log x h back many again first = record {
  counts = record {
    many = many;
    again = again;
    first = subst (λ k. NamesFirst (λ k. GoesOn log [] k) 0 k) (sym first) (λ k lt. absurd (omega arith));
  };
  back = subst (λ b. IsBack log [] x b) (sym back) tt;
  others = λ k lt. absurd (omega arith);
}

-- ---- what it does next

-- the counts over the lines before, after one more line
pub record HintedBefore (log : List LogLine) (all : List Moment) (t : Moment) (h : Hints) : Type 0 where
  pub many : AreMany (λ k. IsOvertaken log (all ++ t ∷ []) k) (length all) h.many
  pub again : AreMany (λ k. WaitsAgain log (all ++ t ∷ []) k) (length all) h.again
  pub first : NamesFirst (λ k. GoesOn log (all ++ t ∷ []) k) (length all) h.first_not_again

-- all that wait again did so before, with at most one exception
abbrev AgainSame : List LogLine → List Moment → Moment → Type 0
AgainSame log all t = SameBelow (λ k. WaitsAgain log all k) (λ k. WaitsAgain log (all ++ t ∷ []) k) (length all)

goes_on_same : (log : List LogLine) (all : List Moment) (t : Moment) (k : ℕ) → k < length all
    → ((WaitsAgain log all k → WaitsAgain log (all ++ t ∷ []) k)
    × (WaitsAgain log (all ++ t ∷ []) k → WaitsAgain log all k))
    → (GoesOn log all k → GoesOn log (all ++ t ∷ []) k) × (GoesOn log (all ++ t ∷ []) k → GoesOn log all k)
goes_on_same log all t k lt again = grind (arith, nat_tests, overtaken_kept)

pub before_same : (log : List LogLine) (all : List Moment) (t : Moment) (x : State) (h new : Hints)
    → Hinted log all x h → AgainSame log all t
    → new.many ≡ h.many → new.again ≡ h.again → new.first_not_again ≡ h.first_not_again → HintedBefore log all t new
before_same log all t x h new was same many again first = record {
  many = grind (arith, nat_tests, many_same, overtaken_kept);
  again = grind (arith, nat_tests, many_same);
  first = subst (λ k. NamesFirst (λ k. GoesOn log (all ++ t ∷ []) k) (length all) k) (sym first)
      (first_same (λ k. GoesOn log all k) (λ k. GoesOn log (all ++ t ∷ []) k) (length all) h.first_not_again
      (λ k lt. goes_on_same log all t k lt (same k lt)) was.counts.first);
}

-- the last line isn't that thread's, or it isn't that wait
pub again_same : (log : List LogLine) (all : List Moment) (t : Moment) (x : State) (h : Hints) → Hinted log all x h
    → ((k : ℕ) → k < length all → IsBackAt h.back k → (again : WaitsAgain log (all ++ t ∷ []) k)
    → again.at ≡ length all → ⊥)
    → AgainSame log all t
again_same log all t x h was nope k lt = (
  again_more log all t k lt,
  λ w.
      let over : IsOvertaken log all k = (overtaken_kept log all t k lt).1 (record { cond = w.cond; on = w.on }) in
      again_back log all t k lt w
      (elim (was.others k lt over) as (λ z. w.at < length all) [
        | inl back ↦
            elim (here_or_below w.at (length all) (subst (λ n. w.at < n) (more_many all t) w.next.within)) as
            (λ z. w.at < length all) [ inl last ↦ absurd (nope k lt back w last) | inr less ↦ less ]
        | inr has ↦ again_if_next log all t k lt has w
      ]),
)

-- another thread's line
pub others_line : (log : List LogLine) (all : List Moment) (t : Moment) (l : LogLine) (x : State) (b : Back)
    → t.line ≡ l → BackAt log all x b
    → (GoesOnBy l b.seat → ⊥) → (k : ℕ) → k < length all → k ≡ b.line → (again : WaitsAgain log (all ++ t ∷ []) k)
    → again.at ≡ length all → ⊥
others_line log all t l x b is at other k lt same again last = grind (arith, nat_tests, goes_by, at_last, seat_kept)

-- its own line, which is no such wait
pub no_wait : (log : List LogLine) (all : List Moment) (t : Moment) (l : LogLine) (x : State) (b : Back) → t.line ≡ l
    → BackAt log all x b
    → (l ≡ Wait b.seat b.cond → ⊥) → (k : ℕ) → k < length all → k ≡ b.line → (again : WaitsAgain log (all ++ t ∷ []) k)
    → again.at ≡ length all → ⊥
no_wait log all t l x b is at nope k lt same w last =
    let on : IsOvertakenOn log all w.cond b.line = grind (arith, nat_tests, on_kept) in
    let cond : w.cond ≡ b.cond = cond_same log all b.line w.cond b.cond on at.on in
    let seat : seat_at (all ++ t ∷ []) k ≡ b.seat = seat_kept all t k lt ∙ ap (seat_at all) same ∙ at.seat in
    nope (sym (at_last all t l w.at is last) ∙ w.waits ∙ (λ i. Wait (seat i) (cond i)))

-- its own line, which is that wait
now_waits : (log : List LogLine) (all : List Moment) (t : Moment) (l : LogLine) (x : State) (b : Back) → t.line ≡ l
    → BackAt log all x b
    → l ≡ Wait b.seat b.cond → WaitsAgain log (all ++ t ∷ []) b.line
now_waits log all t l x b is at wait =
    let seat : seat_at (all ++ t ∷ []) b.line ≡ b.seat = seat_kept all t b.line at.within ∙ at.seat in
    let line : (moment (all ++ t ∷ []) (length all)).line ≡ Wait b.seat b.cond = grind (arith, nat_tests, at_last) in
    record {
      cond = b.cond;
      on = (on_kept log all t b.cond b.line at.within).0 at.on;
      at = length all;
      next = record {
        behind = at.within;
        within = let m = more_many all t in omega arith;
        same = (ap line_seat line ∙ sym seat, ap is_refused line);
        none = grind (arith, nat_tests, goes_by, moment_kept);
      };
      waits = line ∙ ap (λ s. Wait s b.cond) (sym seat);
    }

not_yet : (log : List LogLine) (all : List Moment) (x : State) (b : Back) → BackAt log all x b
    → WaitsAgain log all b.line → ⊥
not_yet log all x b at w = grind (arith, nat_tests)

-- all others wait again, as before
rest_same : (log : List LogLine) (all : List Moment) (t : Moment) (x : State) (h : Hints) (b : Back)
    → h.back ≡ Some b → Hinted log all x h
    → (k : ℕ) → k < length all → (k ≡ b.line → ⊥)
    → (WaitsAgain log all k → WaitsAgain log (all ++ t ∷ []) k)
    × (WaitsAgain log (all ++ t ∷ []) k → WaitsAgain log all k)
rest_same log all t x h b is was k lt apart = (
  again_more log all t k lt,
  λ w.
      let over : IsOvertaken log all k = (overtaken_kept log all t k lt).1 (record { cond = w.cond; on = w.on }) in
      again_back log all t k lt w
      (elim (was.others k lt over) as (λ z. w.at < length all) [
        | inl back ↦ absurd (apart (subst (λ o. IsBackAt o k) is back))
        | inr has ↦ again_if_next log all t k lt has w
      ]),
)

by_apart : (k b : ℕ) → (k ≡ b) ⊎ (k ≡ b → ⊥)
by_apart k b = grind arith

which : (j k : ℕ) → (j ≡ k) ⊎ (j < k) ⊎ (k < j)
which j k = grind arith

-- it is no longer the first that doesn't wait again
first_without : (log : List LogLine) (all : List Moment) (t : Moment) (x : State) (h : Hints) (b : Back)
    (found : Option ℕ)
    → h.back ≡ Some b → Hinted log all x h → BackAt log all x b → WaitsAgain log (all ++ t ∷ []) b.line
    → NamesFirst (λ k. GoesOn log all k) (length all) found
    → NamesFirst (λ k. GoesOn log (all ++ t ∷ []) k) (length all) (without found b.line)
first_without log all t x h b None is was at now first = λ k lt g.
    elim (by_apart k b.line) as (λ z. ⊥) [
      | inl same ↦ g.1 (subst (λ j. WaitsAgain log (all ++ t ∷ []) j) (sym same) now)
      | inr apart ↦ first k lt ((goes_on_same log all t k lt (rest_same log all t x h b is was k lt apart)).1 g)
    ]
first_without log all t x h b (Some f) is was at now first =
    elim (by_apart f b.line) as
    (λ z. NamesFirst (λ k. GoesOn log (all ++ t ∷ []) k) (length all) (without (Some f) b.line)) [
      | inl same ↦ subst (λ o. NamesFirst (λ k. GoesOn log (all ++ t ∷ []) k) (length all) o)
          (sym (ap (λ z. if z then None else Some f) (eq-eqb f b.line same)))
          (λ k lt g. elim (which k b.line) as (λ z. ⊥) [
            | inl here ↦ g.1 (subst (λ j. WaitsAgain log (all ++ t ∷ []) j) (sym here) now)
            | inr other ↦ elim other as (λ z. ⊥) [
              | inl less ↦ first.2 k (omega arith)
                  ((goes_on_same log all t k lt (rest_same log all t x h b is was k lt
                  (λ e. absurd (omega arith)))).1 g)
              | inr more ↦ at.latest k more lt (resume_takes (moment all k).line
                  ((overtaken_kept log all t k lt).1 g.0).on.back)
            ]
          ])
      | inr apart ↦ subst (λ o. NamesFirst (λ k. GoesOn log (all ++ t ∷ []) k) (length all) o)
          (sym (ap (λ z. if z then None else Some f) (ne_eqb f b.line apart))) (
            first.0,
            (goes_on_same log all t f first.0 (rest_same log all t x h b is was f first.0 apart)).0 first.1,
            λ j less g. elim (by_apart j b.line) as (λ z. ⊥) [
              | inl same ↦ g.1 (subst (λ i. WaitsAgain log (all ++ t ∷ []) i) (sym same) now)
              | inr other ↦
                  let lt : j < length all = omega (arith, first.0) in
                  first.2 j less ((goes_on_same log all t j lt (rest_same log all t x h b is was j lt other)).1 g)
            ],
          )
    ]

pub before_waits : (log : List LogLine) (all : List Moment) (t : Moment) (l : LogLine) (x : State) (h new : Hints)
    (b : Back)
    → t.line ≡ l → h.back ≡ Some b → Hinted log all x h → BackAt log all x b → l ≡ Wait b.seat b.cond
    → new.many ≡ h.many → new.again ≡ h.again + 1 → new.first_not_again ≡ without h.first_not_again b.line
    → HintedBefore log all t new
before_waits log all t l x h new b is back was at wait many again first =
    let now = now_waits log all t l x b is at wait in
    record {
      many = subst (λ k. AreMany (λ k. IsOvertaken log (all ++ t ∷ []) k) (length all) k) (sym many)
          (many_same (λ k. IsOvertaken log all k) (λ k. IsOvertaken log (all ++ t ∷ []) k) (length all) h.many
          (overtaken_kept log all t) was.counts.many);
      again = subst (λ k. AreMany (λ k. WaitsAgain log (all ++ t ∷ []) k) (length all) k)
          (let e : suc h.again ≡ new.again = omega (arith, again) in e)
          (many_one (λ k. WaitsAgain log all k) (λ k. WaitsAgain log (all ++ t ∷ []) k) (length all) h.again b.line
          at.within (λ k lt apart. rest_same log all t x h b back was k lt apart) (not_yet log all x b at) now
          was.counts.again);
      first = subst (λ k. NamesFirst (λ k. GoesOn log (all ++ t ∷ []) k) (length all) k) (sym first)
          (first_without log all t x h b h.first_not_again back was at now was.counts.first);
    }
