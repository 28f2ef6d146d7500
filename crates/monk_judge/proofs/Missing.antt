-- The first missed signal, after one more line
use Rattle.std.proofs.Common.{◌≡◌, ℕ, ◌+◌, ◌<◌, ◌||◌, ◌⊎◌, inl, inr, Bool, true, false, List, [], ◌∷◌, ◌++◌, Option, None, length, sym, ap, subst, arith, ◌∙◌}
use Rattle.std.proofs.lemmas.{List.length-append, Bool.cases_Bool, Bool.false≢true, Bool.Decides.nat_tests}
use Rattle.monk_object.specs.Object.{Object}
use Rattle.monk_logs.specs.declared.text.line.LogLine.{LogLine}
use Rattle.monk_judge.proofs.Among.{first_here, first_skip, here_or_below}
use Rattle.monk_judge.proofs.Moments.{moment_kept, moment_last}
use Rattle.monk_judge.specs.{Among.NamesFirst, Moments.Moment, Moments.moment, Run.State}
use Rattle.monk_judge.specs.declared.{missed.Missed.Missed, waits_for.WaitsFor.WaitsFor}
use Rattle.monk_judge.specs.Missed.{IsMissedAt, LacksBehind, LooksAt, NamesFirstMissed, is_from_outside}

abbrev pub is_out : List Moment → ℕ → Bool
is_out all j = is_from_outside (moment all j).before.lock (moment all j).line

-- a signal came from outside
pub record Came (all : List Moment) : Type 0 where
  pub at : ℕ
  pub within : at < length all
  pub out : is_out all at ≡ true

-- what is known of the lines so far
pub record Known (o : Object) (means : List WaitsFor) (all : List Moment) (s : Missed) : Type 0 where
  pub line : NamesFirstMissed o means all s.line
  pub none : s.from_outside ≡ false → (j : ℕ) → j < length all → is_out all j ≡ false
  pub some : s.from_outside ≡ true → Came all

pub known_opening : (o : Object) (means : List WaitsFor) (s : Missed) → s.line ≡ None → s.from_outside ≡ false
    → Known o means [] s
known_opening o means s line out = record {
  line = subst (λ k. NamesFirstMissed o means [] k) (sym line) (λ k lt. absurd (omega arith));
  none = λ h j lt. absurd (omega arith);
  some = λ h. absurd (false≢true (sym out ∙ h));
}

pub more_many : (all : List Moment) (t : Moment) → length (all ++ t ∷ []) ≡ length all + 1
more_many all t = length-append all (t ∷ [])

or_false : (a b : Bool) → (a || b) ≡ false → (a ≡ false) × (b ≡ false)
or_false a b h = grind (arith, nat_tests)

or_true : (a b : Bool) → (a || b) ≡ true → (a ≡ true) ⊎ (b ≡ true)
or_true a b h = grind (arith, nat_tests)

out_kept : (all : List Moment) (t : Moment) (j : ℕ) → j < length all → is_out (all ++ t ∷ []) j ≡ is_out all j
out_kept all t j lt = ap (λ k. is_from_outside k.before.lock k.line) (moment_kept all t j lt)

out_last : (all : List Moment) (t : Moment)
    → is_out (all ++ t ∷ []) (length all) ≡ is_from_outside t.before.lock t.line
out_last all t = ap (λ k. is_from_outside k.before.lock k.line) (moment_last all t)

none_more : (all : List Moment) (t : Moment) → ((j : ℕ) → j < length all → is_out all j ≡ false)
    → is_from_outside t.before.lock t.line ≡ false → (j : ℕ) → j < length (all ++ t ∷ [])
    → is_out (all ++ t ∷ []) j ≡ false
none_more all t none last j lt =
    elim (here_or_below j (length all) (subst (λ k. j < k) (more_many all t) lt)) as
    (λ z. is_out (all ++ t ∷ []) j ≡ false) [
      | inl here ↦ ap (is_out (all ++ t ∷ [])) here ∙ out_last all t ∙ last
      | inr less ↦ out_kept all t j less ∙ none j less
    ]

some_more : (all : List Moment) (t : Moment) → Came all → Came (all ++ t ∷ [])
some_more all t came = record {
  at = came.at;
  within = let a = came.within in let b = more_many all t in omega arith;
  out = out_kept all t came.at came.within ∙ came.out;
}

some_now : (all : List Moment) (t : Moment) → is_from_outside t.before.lock t.line ≡ true → Came (all ++ t ∷ [])
some_now all t h = record {
  at = length all;
  within = let b = more_many all t in omega arith;
  out = out_last all t ∙ h;
}

-- an earlier line stays as it was
missed_kept : (o : Object) (means : List WaitsFor) (all : List Moment) (t : Moment) (k : ℕ) → k < length all
    → (IsMissedAt o means all k → IsMissedAt o means (all ++ t ∷ []) k)
    × (IsMissedAt o means (all ++ t ∷ []) k → IsMissedAt o means all k)
missed_kept o means all t k lt = grind (arith, nat_tests, moment_kept, out_kept)

-- the new line itself
missed_last : (o : Object) (means : List WaitsFor) (all : List Moment) (t : Moment)
    → LacksBehind o means t.line t.behind → ((j : ℕ) → j < length all → is_out all j ≡ false)
    → IsMissedAt o means (all ++ t ∷ []) (length all)
missed_last o means all t lacks none = grind (arith, nat_tests, moment_last, out_kept)

not_last : (o : Object) (means : List WaitsFor) (all : List Moment) (t : Moment) (s : Missed) → Known o means all s
    → (s.from_outside ≡ false → LacksBehind o means t.line t.behind → ⊥)
    → IsMissedAt o means (all ++ t ∷ []) (length all) → ⊥
not_last o means all t s was lacks h =
    elim (cases_Bool s.from_outside) as (λ z. ⊥) [
      | inl out ↦
          let came = was.some out in
          false≢true (sym (h.1 came.at came.within) ∙ out_kept all t came.at came.within ∙ came.out)
      | inr inside ↦ lacks inside (subst (λ z. LacksBehind o means z.line z.behind) (moment_last all t) h.0)
    ]

line_by : (o : Object) (means : List WaitsFor) (all : List Moment) (t : Moment) (s : Missed) (found : Option ℕ)
    → s.line ≡ found → Known o means all s
    → (s.line ≡ None → s.from_outside ≡ false → LacksBehind o means t.line t.behind → ⊥)
    → NamesFirst (λ k. IsMissedAt o means (all ++ t ∷ []) k) (length all + 1) found
line_by o means all t s found is was lacks =
    first_skip (λ k. IsMissedAt o means all k) (λ k. IsMissedAt o means (all ++ t ∷ []) k) (length all) found
    (missed_kept o means all t)
    (λ none. not_last o means all t s was (lacks (is ∙ none)))
    (subst (λ k. NamesFirstMissed o means all k) is was.line)

pub known_next : (o : Object) (means : List WaitsFor) (all : List Moment) (t : Moment) (l : LogLine) (x : State)
    (s new : Missed) → Known o means all s → t.line ≡ l → t.behind ≡ x
    → is_from_outside x.lock l ≡ is_from_outside t.before.lock l
    → LooksAt o means l x (length all) s new → Known o means (all ++ t ∷ []) new
known_next o means all t l x s new was is leads lock looks =
    let out : new.from_outside ≡ (s.from_outside || is_from_outside t.before.lock t.line) = grind (arith, nat_tests) in
    let lacks = λ (h : LacksBehind o means t.line t.behind).
    subst (λ k. LacksBehind o means k x) is (subst (λ k. LacksBehind o means t.line k) leads h) in
    record {
      line = subst (λ n. NamesFirst (λ k. IsMissedAt o means (all ++ t ∷ []) k) n new.line) (sym (more_many all t))
          (elim looks.line as
          (λ z. NamesFirst (λ k. IsMissedAt o means (all ++ t ∷ []) k) (length all + 1) new.line) [
            | inl not_it ↦ grind (arith, nat_tests, line_by)
            | inr it ↦ subst (λ k. NamesFirst (λ k. IsMissedAt o means (all ++ t ∷ []) k) (length all + 1) k)
                (sym it.3)
                (first_here (λ k. IsMissedAt o means all k) (λ k. IsMissedAt o means (all ++ t ∷ []) k) (length all)
                (missed_kept o means all t)
                (missed_last o means all t
                (subst (λ k. LacksBehind o means t.line k) (sym leads)
                (subst (λ k. LacksBehind o means k x) (sym is) it.2)) (was.none it.1))
                (subst (λ k. NamesFirstMissed o means all k) it.0 was.line))
          ]);
      none = grind (arith, nat_tests, or_false, none_more);
      some = grind (arith, nat_tests, or_true, some_more, some_now);
    }
