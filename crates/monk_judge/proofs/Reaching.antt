-- A run of the lines that a judge has taken
use Rattle.std.proofs.Common.{◌≡◌, ℕ, ◌<◌, ◌≤◌, ◌+◌, List, [], ◌∷◌, ◌++◌, Some, None, length, get_or, take, drop, arith, refl, sym, ap, subst, ◌∙◌}
use Rattle.std.proofs.lemmas.{List.length-take-le, List.take_all, Bool.Decides.nat_tests}
use Rattle.std.proofs.Math.ListN.{length-set}
use Rattle.monk_object.specs.Object.{Object}
use Rattle.monk_logs.specs.declared.text.line.LogLine.{LogLine, TheVariants.Enter}
use Rattle.monk_judge.proofs.{Totals.fewest, Asking.asked_all, Asking.asked_next, Asking.back_next}
use Rattle.monk_judge.proofs.Sleepers.{EndsAt, ends_next, goes_first, outside_not}
use Rattle.monk_judge.proofs.Covers.{CoversAt, covers_explains, covers_next, covers_opening, covers_stop, rest_is}
use Rattle.monk_judge.proofs.Moments.{Meets, moments_many, moments_on}
use Rattle.monk_judge.specs.{Explains.IsExplainable, Judged.CanStand, Judged.after_all, Moments.moments}
use Rattle.monk_judge.specs.{Reports.IsRunOf, Run.Setting, Run.State, Run.IsRun, Run.lines_of, Run.opening, Run.unasked}
use Rattle.monk_judge.specs.Asked.{ComeBackAtOnce, asked, asked_by}
use Rattle.monk_judge.specs.Ends.{AreEnds, ends_after, runs_out}
use Rattle.monk_judge.specs.Shown.{Refuses, Shown, Takes, own_steps, setting_of, state_of, whom}
use Rattle.monk_judge.specs.declared.{misfit.Misfit.Misfit, told.Told.Told, step.Step.Step}
use Rattle.monk_judge.specs.declared.wait_end.WaitEnd.{WaitEnd, TheVariants.Resumes}

-- ---- a run of the lines so far

pub record Reached (o : Object) (m : Setting) (d : List ℕ) (lines : List LogLine) (i : ℕ) (v : Shown)
    (steps : List Step) : Type 0 where
  pub same : setting_of v o ≡ m
  pub many : length v.ends ≡ length v.places
  pub covers : CoversAt m d lines i steps (state_of v)
  pub ends : EndsAt v i (drop i lines)
  pub asks : asked steps ≡ asked_by i lines
  pub back : ComeBackAtOnce steps

many_after : (ends : List WaitEnd) (l : LogLine) (e : WaitEnd) → length (ends_after ends l e) ≡ length ends
many_after ends l e = grind (arith, nat_tests, length-set)

pub reached_opening : (o : Object) (m : Setting) (d : List ℕ) (lines : List LogLine) (v : Shown) → setting_of v o ≡ m
    → length v.ends ≡ length v.places → state_of v ≡ opening d → Reached o m d lines 0 v []
reached_opening o m d lines v same many fresh = record {
  same = same;
  many = many;
  covers = covers_opening m d lines (state_of v) fresh;
  ends = λ j c h. absurd (outside_not c (sym (ap (λ (x : State). x.place j) fresh) ∙ h));
  asks = refl;
  back = tt;
}

pub stands_there : (o : Object) (m : Setting) (d : List ℕ) (lines : List LogLine) (i : ℕ) (v new : Shown)
    (steps : List Step) (l : LogLine) (e : WaitEnd) (what : Told)
    → Reached o m d lines i v steps → Takes o v new l e what → CanStand m (state_of v) l
stands_there o m d lines i v new steps l e what was does = subst (λ k. CanStand k (state_of v) l) was.same does.stands

pub reached_next : (o : Object) (m : Setting) (d : List ℕ) (lines : List LogLine) (ends : List WaitEnd) (i : ℕ)
    (v new : Shown) (steps : List Step) (what : Told)
    → i < length lines → AreEnds ends lines → Reached o m d lines i v steps
    → Takes o v new (get_or lines i (Enter 0)) (get_or ends i (Resumes 0)) what
    → Reached o m d lines (i + 1) new
    (steps ++ own_steps v (get_or lines i (Enter 0)) (get_or ends i (Resumes 0)) what)
reached_next o m d lines ends i v new steps what lt are was does =
    let x = state_of v in
    let l = get_or lines i (Enter 0) in
    let e = get_or ends i (Resumes 0) in
    let rest = drop (i + 1) lines in
    let end = are.each i lt in
    let acts = (was.covers.follows steps was.covers.run was.covers.told).holder in
    let seats : m.seats ≡ length v.places = sym (ap (λ (k : Setting). k.seats) was.same) in
    let stands = stands_there o m d lines i v new steps l e what was does in
    let leads = does.leads ∙ ap (λ k. after_all k x (own_steps v l e what)) was.same in
    let ends_here : EndsAt v i (l ∷ rest) = subst (λ k. EndsAt v i k) (rest_is lines i lt) was.ends in
    record {
      same = does.setting ∙ was.same;
      many = ap length does.ends ∙ many_after v.ends l e ∙ was.many ∙ sym (ap (λ (k : Setting). k.seats) does.setting);
      covers = covers_next m d lines i steps x (state_of new) (whom what) (runs_out e) lt was.covers stands
          does.right
          (goes_first m v l (whom what) i rest seats acts stands does.right does.earliest ends_here) leads end.lapses;
      ends = ends_next m v new l (whom what) e i rest (seats ∙ sym was.many) acts stands ends_here end leads does.ends;
      asks = asked_next m x lines i steps (whom what) (runs_out e) lt stands end.lapses was.asks;
      back = back_next m x l steps (whom what) (runs_out e) stands was.back;
    }

-- ---- the end

pub least_of : (o : Object) (m : Setting) (d : List ℕ) (lines : List LogLine) (i : ℕ) (v : Shown) (steps : List Step)
    → Reached o m d lines i v steps → (others : List Step) → IsRun m (opening d) others
    → lines_of others ≡ take i lines → unasked steps ≤ unasked others
least_of o m d lines i v steps was others run told = grind (arith, nat_tests, fewest)

pub run_all : (o : Object) (m : Setting) (d : List ℕ) (lines : List LogLine) (i : ℕ) (v : Shown) (steps : List Step)
    → length lines ≤ i → Reached o m d lines i v steps → IsRunOf m d lines None steps
run_all o m d lines i v steps all was =
    let is : take i lines ≡ lines = take_all i lines all in
    record {
      misfit = grind (arith, nat_tests, covers_explains);
      run = was.covers.run;
      told = was.covers.told ∙ is;
      least = λ others run told. least_of o m d lines i v steps was others run (told ∙ was.covers.told);
      asks = asked_all lines i steps all was.asks;
      back = was.back;
      blamed = tt;
    }

pub run_stop : (o : Object) (m : Setting) (d : List ℕ) (lines : List LogLine) (i : ℕ) (v new : Shown)
    (steps : List Step) (f : Misfit)
    → i < length lines → Reached o m d lines i v steps → Refuses o v new (get_or lines i (Enter 0)) f.why
    → f.line ≡ i
    → IsRunOf m d lines (Some f) steps
run_stop o m d lines i v new steps f lt was refused at =
    let no = λ (can : CanStand m (state_of v) (get_or lines i (Enter 0))).
    refused.not_there (subst (λ k. CanStand k (state_of v) (get_or lines i (Enter 0))) (sym was.same) can) in
    record {
      misfit = (
        subst (λ k. k < length lines) (sym at) lt,
        subst (λ k. IsExplainable m (opening d) (take k lines)) (sym at)
            (covers_explains m d (take i lines) (drop i lines) steps (state_of v) was.covers),
        subst (λ k. IsExplainable m (opening d) (take (k + 1) lines) → ⊥) (sym at)
            (covers_stop m d lines i steps (state_of v) lt was.covers no),
      );
      run = was.covers.run;
      told = was.covers.told ∙ ap (λ k. take k lines) (sym at);
      least = λ others run told. least_of o m d lines i v steps was others run (told ∙ was.covers.told);
      asks = grind (arith, nat_tests, length-take-le);
      back = was.back;
      blamed = grind (arith, nat_tests);
    }

-- the moments after one more line
pub many_moments : (o : Object) (m : Setting) (d : List ℕ) (lines : List LogLine) (i : ℕ) (v : Shown)
    (steps : List Step) → i ≤ length lines → Reached o m d lines i v steps → length (moments m (opening d) steps) ≡ i
many_moments o m d lines i v steps le was = grind (arith, nat_tests, moments_many, length-take-le)

pub moments_next : (o : Object) (m : Setting) (d : List ℕ) (lines : List LogLine) (i : ℕ) (v : Shown)
    (steps own : List Step) (l : LogLine) → Reached o m d lines i v steps → (meets : Meets m (state_of v) l own)
    → moments m (opening d) (steps ++ own) ≡ moments m (opening d) steps ++ meets.t ∷ []
moments_next o m d lines i v steps own l was meets = grind (arith, nat_tests, moments_on)
