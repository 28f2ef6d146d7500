-- What a run builds on: lists of workers and threads, a hall's passes, and the header of a closed hall
use Rattle.std.proofs.Common.{◌≡◌, ℕ, zero, suc, ◌+◌, ◌*◌, ◌^◌, ◌≤◌, true, cond, All, Result, Ok, Err}
use Rattle.std.proofs.Common.{IfErr, IfOk, List, [], ◌∷◌, ◌++◌, map, length, refl, sym, ap, subst}
use Rattle.std.proofs.Common.{◌∙◌, arith}
use Rattle.std.proofs.lemmas.Bool.{false≢true, Decides.nat_tests}
use Rattle.std.proofs.lemmas.List.Elements.{All-cons, All-head, All-nil, All-push, All-rest, All-same}
use Rattle.std.specs.Prelude.{IsTrue}
use Rattle.atomic_table.specs.Seated.{TableId}
use Rattle.monk_kinds.specs.{Names.rules_named, declared.name.KindName.KindName, declared.mode.Rules.Rules}
use Rattle.monk_kinds.specs.{declared.mode.Mode.Mode, declared.mode.Mode.TheVariants.Blocking}
use Rattle.monk_kinds.specs.{declared.mode.Mode.TheVariants.NonBlocking, declared.mode.Mode.TheVariants.QuasiBlocking}
use Rattle.monk_kinds.specs.{declared.mode.Mode.TheVariants.ImmediateReturn, declared.mode.Mode.TheVariants.Automatic}
use Rattle.monk_history.proofs.PublicLaws.Meaning.{in_order, excludes, serves_each}
use Rattle.monk_history.specs.{declared.event.Event.Event, Meaning.Events.has_conditions, Meaning.Legal.IsLegal}
use Rattle.monk_history.specs.{Meaning.Named.named_monitor, Meaning.Monitor.monitor, Meaning.Monitor.data_of}
use Rattle.monk_history.specs.Text.{Heading, is_writable}
use Rattle.monk_hall.specs.{Records.opening_records, declared.setting.Setting.Setting, Closing.IsEnded, Layout.floor_of}
use Rattle.monk_hall.specs.Tokens.{House, Token, Holder, tokens}
use Rattle.monk_object.specs.{Names.meaning_named, Names.opening_named, Object.Object}
use Rattle.monk_floor.specs.View.{FloorView, monitor_of}
use Rattle.monk_samples.specs.{Crews.IsReady, Crews.AreReady, Crews.IsClosed, Totals.totals_of, Styles.Offers}
use Rattle.monk_samples.specs.Samples.{sample_object, size_in, conds_of, budget_of, run_heading, run_monitor, KeepsLaw}
use Rattle.monk_samples.specs.Samples.{IsHistoryOf, IsOfFirstVersion, IsOutcome}
use Rattle.monk_samples.specs.declared.scenario.Scenario.{Scenario}
use Rattle.monk_samples.specs.declared.sample.Sample.{Sample, TheVariants.Buffer, TheVariants.Book, TheVariants.Shop}

pub one_more : {X : Type 0} (xs ys : List X) (x : X) (P : X → Type 0) → ys ≡ xs ++ x ∷ [] → All P xs → P x → All P ys
one_more xs ys x P e h p = All-same P ys (xs ++ x ∷ []) e (All-push P xs x h p)

pub first_of : {X : Type 0} (xs ys : List X) (x : X) (P : X → Type 0) → ys ≡ x ∷ xs → All P ys → P x
first_of xs ys x P e h = All-head P x xs (subst (All P) e h)

pub rest_of : {X : Type 0} (xs ys : List X) (x : X) (P : X → Type 0) → ys ≡ x ∷ xs → All P ys → All P xs
rest_of xs ys x P e h = All-rest P x xs ys e h

pub same_all : {X : Type 0} (xs ys : List X) (P : X → Type 0) → xs ≡ ys → All P ys → All P xs
same_all xs ys P e h = All-same P xs ys e h

pub none_yet : {X : Type 0} (xs : List X) (P : X → Type 0) → xs ≡ [] → All P xs
none_yet xs P e = All-same P xs [] e (All-nil P)

-- what was at the front of one list has gone to the back of the other
pub mapped_more : {X Y : Type 0} (xs ys : List X) (x : X) (f : X → Y) → ys ≡ xs ++ x ∷ [] → (rest all : List Y)
    → all ≡ f x ∷ rest
    → map f ys ++ rest ≡ map f xs ++ all
mapped_more xs ys x f e rest all front = ap (λ zs. map f zs ++ rest) e ∙ through xs
    ∙ ap (λ zs. map f xs ++ zs) (sym front)
  where
    through : (zs : List _) → map f (zs ++ x ∷ []) ++ rest ≡ map f zs ++ f x ∷ rest
    through [] = refl
    through (z ∷ zs) = ap (λ ws. f z ∷ ws) (through zs)

pub offers_all : (k : Rules) → Offers k (conds_of k) 3
offers_all k = by_mode k.mode
  where
    by_mode : (m : Mode) → has_conditions m ≡ true → 3 ≤ cond (has_conditions m) 3 0
    by_mode Blocking e = omega arith
    by_mode NonBlocking e = omega arith
    by_mode QuasiBlocking e = omega arith
    by_mode ImmediateReturn e = omega arith
    by_mode Automatic e = absurd (false≢true e)

ready_from : (k : Rules) (z : TableId) (c : Setting) → Offers k c.conds 3 → (n i : ℕ)
    → AreReady k (record { id = z; setting = c }) (tokens z (opening_records c n i))
ready_from k z c o zero i = All-nil (IsReady k (record { id = z; setting = c }))
ready_from k z c o (suc n) i =
    All-cons (IsReady k (record { id = z; setting = c })) _ _ ((refl, refl), o) (ready_from k z c o n (suc i))

-- the passes of a hall with a run's conditions
pub passes_ready : (k : Rules) (h : House) (ps : List Token) → h.setting.conds ≡ conds_of k
    → ps ≡ tokens h.id (opening_records h.setting h.setting.seats 0) → AreReady k h ps
passes_ready k h ps conds e =
    All-same (IsReady k h) ps _ e
    (ready_from k h.id h.setting (subst (λ (n : ℕ). Offers k n 3) (sym conds) (offers_all k)) h.setting.seats 0)

-- a run's history is short
pub few_events : (seats rounds n : ℕ) → seats ≤ 16 → rounds ≤ 1000 → n ≤ seats * budget_of seats rounds → n ≤ 2 ^ 24
few_events seats rounds n s r l = grind (arith, nat_tests)

-- a hall was closed by a seat whose floor is the hall's
pub closed_by : (k : Rules) (o : Object) (b c : Setting) (a : Holder) (before h : List Event) (state : List ℕ) → b ≡ c
    → a.floor ≡ floor_of b before → IsEnded k o a h state → IsOfFirstVersion h → IsClosed k o c h
closed_by k o b c a before h state s f e early =
    let floor : a.floor ≡ floor_of c before = f ∙ ap (λ (x : Setting). floor_of x before) s in record {
      legal = subst (λ (x : FloorView). IsLegal (monitor_of k o x) h) floor e.legal;
      few = subst (λ (x : FloorView). length h ≤ x.seats * x.budget) floor e.few;
      early = early;
    }

law_by : (k : Rules) (seats : ℕ) (h : List Event) (sample : Sample) (size : ℕ) → let m =
    monitor k seats (conds_of k) (meaning_named (sample_object sample)) (opening_named (sample_object sample) size) in
    IsLegal m h → KeepsLaw sample size (data_of m h) h
law_by k seats h Buffer size legal = in_order k seats (conds_of k) size h legal
law_by k seats h Book size legal = excludes k seats (conds_of k) size h legal
law_by k seats h Shop size legal = serves_each k seats (conds_of k) size h legal

-- the law of the sample's object holds for a legal history
pub law_of : (k : Rules) (scenario : Scenario) (seats : ℕ) (h : List Event) → IsLegal (run_monitor k scenario seats) h
    → KeepsLaw scenario.sample (size_in scenario.manner) (data_of (run_monitor k scenario seats) h) h
law_of k scenario seats h legal = law_by k seats h scenario.sample (size_in scenario.manner) legal

pub outcome_of : (k : Rules) (name : KindName) (scenario : Scenario) (seats rounds : ℕ) (h : Heading)
    (history : List Event) (totals : List ℕ) → seats ≤ 16 → rounds ≤ 1000 → k ≡ rules_named name
    → IsHistoryOf k scenario seats rounds history → h ≡ run_heading name scenario seats
    → totals ≡ totals_of scenario.sample history → IsOutcome name scenario seats h history totals
outcome_of k name scenario seats rounds h history totals near short named of header same =
    let legal = subst (λ (r : Rules). IsLegal (run_monitor r scenario seats) history) named of.legal in
    record {
      header = header;
      legal = subst (λ (x : Heading). IsLegal (named_monitor x) history) (sym header) legal;
      few = few_events seats rounds (length history) near short of.few;
      writable = subst (λ (x : Heading). IsTrue (is_writable x history)) (sym header) of.early;
      law = subst (λ (x : Heading). KeepsLaw scenario.sample (size_in scenario.manner)
          (data_of (named_monitor x) history) history) (sym header)
          (law_of (rules_named name) scenario seats history legal);
      totals_are = same;
    }

-- the law of a run's history, for a borrowed history
pub law_here : (k : Rules) (scenario : Scenario) (seats rounds : ℕ) (h lent : List Event) → lent ≡ h
    → IsHistoryOf k scenario seats rounds h
    → (size : ℕ) × (state : List ℕ) × KeepsLaw scenario.sample size state lent
law_here k scenario seats rounds h lent e of =
    let state = data_of (run_monitor k scenario seats) h in let size = size_in scenario.manner in (
      size,
      state,
      subst (λ (x : List Event). KeepsLaw scenario.sample size state x) (sym e) (law_of k scenario seats h of.legal),
    )

pub if_ok : {A E : Type 0} (r : Result A E) (P Q : A → Type 0) → ((a : A) → P a → Q a) → IfOk r P → IfOk r Q
if_ok (Ok a) P Q f h = f a h
if_ok (Err e) P Q f h = h

pub if_fault : {A E : Type 0} (r : Result A E) (P Q : E → Type 0) → ((e : E) → P e → Q e) → IfErr r P → IfErr r Q
if_fault (Ok a) P Q f h = h
if_fault (Err e) P Q f h = f e h

pub if_four : {A E : Type 0} (r : Result A E) (P Q R S T : A → Type 0)
    → ((a : A) → P a → Q a → R a → S a → T a) → IfOk r P → IfOk r Q → IfOk r R → IfOk r S → IfOk r T
if_four (Ok a) P Q R S T f p q r s = f a p q r s
if_four (Err e) P Q R S T f p q r s = tt
