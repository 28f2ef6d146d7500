-- What is owed to a text that comes in pieces, stage by stage.
use Rattle.std.proofs.Common.{◌≡◌, ◌≢◌, ◌+◌, ◌-◌, ◌^◌, ◌<◌, ◌≤◌, ◌==◌, ℕ, cond, List, [], ◌∷◌, ◌++◌, length, rules}
use Rattle.std.proofs.Common.{refl, sym, ap, subst, ◌∙◌, arith, true, false}
use Rattle.std.specs.Prelude.{◌⊎◌, IfOk, IfSome}
use Rattle.std.proofs.lemmas.{Bool.eqb-false, Bool.eqb-true, Bool.ne_eqb, Bool.Decides.nat_tests, List.append-nil}
use Rattle.std.proofs.Common.{Option, Some, None, Result, Ok, Err}
use Rattle.std.specs.Option.{option_map}
use mathlib.Core.Logic.{inl, inr}
use Rattle.monk_history.specs.Text.Words.{◌>>=◌}
use Rattle.monk_history.proofs.PublicLaws.Texts.{head_missing, head_opens, head_refused, items_end, items_unfinished}
use Rattle.monk_history.specs.Meaning.{Monitor.Monitor, Monitor.monitor, Situation.Situation, Step.opening_situation}
use Rattle.monk_history.specs.Meaning.{Named.named_monitor, Reasons.reason_in}
use Rattle.monk_history.specs.declared.{event.Event.Event, text.fault.ReadFault.ReadFault}
use Rattle.monk_history.specs.Text.{Heading, Reading.event_under, Reading.header_at}
use Rattle.monk_history.specs.Text.Pieces.{IsHeadOf, IsNextOfPiece, PieceLeft, items_with}
use Rattle.monk_history.specs.Text.Lines.{Gives, LinesLeft, is_unended, lines_of}
use Rattle.monk_history.specs.Text.Faults.{end_fault, header_fault, memory}
use Rattle.monk_audit.specs.declared.stage.Stage.TheVariants as stage
use Rattle.monk_audit.proofs.ReadingLaws.{forbidden_then, judged_end, judged_fault, judged_is, not_opened_text}
use Rattle.monk_audit.proofs.ReadingLaws.{opened_text, verdict_of_reading}
use Rattle.monk_audit.proofs.AuditLaws.{reason_opening}
use Rattle.monk_audit.specs.{Reading.read_through, Reading.verdict_at, Reading.verdict_read, Reading.lines_verdict}
use Rattle.monk_audit.specs.{Reading.text_verdict, Reading.MakesNoObject, Reading.same, Replay.replay_situation}
use Rattle.monk_audit.specs.Pieces.{events_from, found_from, judged_from_here, monitor_of, owed_verdict}
use Rattle.monk_audit.specs.Pieces.{verdict_from_here, stages_left, AsksForNone, IsCarried, IsCourseStep, IsFaulty}
use Rattle.monk_audit.specs.Pieces.{IsJudgedStep, IsSound, IsSoundCourse, IsStageStep}
use Rattle.monk_audit.specs.declared.{course.Course.Course, stage.Stage.Stage}
use Rattle.monk_audit.specs.declared.text_verdict.TextVerdict.{TextVerdict, TheVariants.Judged, TheVariants.TooBig}
use Rattle.monk_audit.specs.declared.verdict.Verdict.{Verdict, TheVariants.Forbidden, TheVariants.Legal}
use Rattle.monk_kinds.specs.{declared.mode.Rules.Rules, Names.rules_named}
use Rattle.monk_object.specs.{Object.Object, Buffer.buffer_meaning, Book.book_meaning, Shop.shop_meaning}
use Rattle.monk_object.specs.{Flags.flags_meaning, declared.name.ObjectName.ObjectName}
use Rattle.monk_object.specs.Names.{meaning_named, most, opening_named}

-- and what is left of them comes after the events that were read
pub piece_ends : (h : Heading) (count : ℕ) (p : PieceLeft) (rest : List ℕ) → p.number ≡ count + 2
    → count + p.room ≡ 2 ^ 25
    → rest ≡ p.bytes
    → (more : List ℕ) → items_with (event_under h) p more ≡ events_from h count (rest ++ more)
piece_ends h count p rest number room is more = grind (arith, nat_tests)

-- what the next line of a piece gave
pub piece_item_found : (r : Result (Option Event) ReadFault) (old new : List ℕ → Result (List Event) ReadFault)
    (e : Event)
    → r ≡ Ok (Some e) → IsNextOfPiece r old new → (more : List ℕ) → old more ≡ (new more >>= λ es. Ok (e ∷ es))
piece_item_found r old new e is h = subst (λ (x : Result (Option Event) ReadFault). IsNextOfPiece x old new) is h

pub said_of_item : (r : Result (Option Event) ReadFault) (e : Event) (said : Type 0) → r ≡ Ok (Some e)
    → IfOk r (λ x. IfSome x (λ _. said)) → said
said_of_item r e said is h = subst (λ (x : Result (Option Event) ReadFault). IfOk x (λ y. IfSome y (λ _. said))) is h

-- the verdict on a history whose last event so far is forbidden
pub piece_forbidden : (m : Monitor) (h : Heading) (n r : ℕ) (t : Situation) (e : Event) (old new : PieceLeft)
    (rest : List ℕ)
    (total : List ℕ → Result Verdict ReadFault)
    → ((more : List ℕ)
    → items_with (event_under h) old more ≡ (items_with (event_under h) new more >>= λ es. Ok (e ∷ es)))
    → r ≡ reason_in m t e → r ≢ 0
    → ((more : List ℕ) → verdict_read m n t (items_with (event_under h) old more) ≡ total more)
    → new.number ≡ n + 1 + 2 → n + 1 + new.room ≡ 2 ^ 25 → rest ≡ new.bytes
    → (more : List ℕ) → total more ≡ found_from (Forbidden (n + 1) r) h (n + 1) (rest ++ more)
piece_forbidden m h n r t e old new rest total item is some so_far number room left more =
    forbidden_then m n r t e (items_with (event_under h) old more) (items_with (event_under h) new more) (total more)
    (item more) is some (so_far more)
    ∙ ap (λ x. read_through x >>= λ _. Ok (Forbidden (n + 1) r)) (piece_ends h (n + 1) new rest number room left more)

-- ---- what is owed at each stage

pub owed_opening : (x : List ℕ) → owed_verdict stage.Opening x ≡ text_verdict x
unfolding owed_verdict
owed_opening x = refl

pub owed_buffer : (c : Course) (d x : List ℕ)
    → owed_verdict (stage.Buffer c d) x ≡ judged_from_here buffer_meaning c d x
unfolding owed_verdict
owed_buffer c d x = refl

pub owed_book : (c : Course) (d x : List ℕ) → owed_verdict (stage.Book c d) x ≡ judged_from_here book_meaning c d x
unfolding owed_verdict
owed_book c d x = refl

pub owed_shop : (c : Course) (d x : List ℕ) → owed_verdict (stage.Shop c d) x ≡ judged_from_here shop_meaning c d x
unfolding owed_verdict
owed_shop c d x = refl

pub owed_flags : (c : Course) (d x : List ℕ) → owed_verdict (stage.Flags c d) x ≡ judged_from_here flags_meaning c d x
unfolding owed_verdict
owed_flags c d x = refl

pub owed_found : (h : Heading) (n : ℕ) (v : TextVerdict) (x : List ℕ)
    → owed_verdict (stage.Found h n v) x ≡ found_from v h n x
unfolding owed_verdict
owed_found h n v x = refl

-- ---- the stage after a header

pub too_big_verdict : (h : Heading) (read : Result (List Event) ReadFault) → most h.object < h.size
    → (read_through read >>= λ _. Ok TooBig) ≡ lines_verdict h read
too_big_verdict h read big = grind (arith, nat_tests)

judged_verdict : (h : Heading) (read : Result (List Event) ReadFault) → h.size ≤ most h.object
    → (verdict_of_reading (named_monitor h) read >>= λ v. Ok (Judged v)) ≡ lines_verdict h read
judged_verdict h read fits = grind (arith, nat_tests)

-- the verdict on what is still to come doesn't depend on the opening state
opening_apart : (k : Rules) (seats conds : ℕ) (o : Object) (d : List ℕ) (n : ℕ) (t : Situation) (es : List Event)
    → verdict_at (monitor k seats conds o []) n t es ≡ verdict_at (monitor k seats conds o d) n t es
unfolding verdict_at
opening_apart k seats conds o d n t es = grind (arith, nat_tests, reason_opening)

opening_apart_read : (k : Rules) (seats conds : ℕ) (o : Object) (d : List ℕ) (n : ℕ) (t : Situation)
    (read : Result (List Event) ReadFault)
    → verdict_read (monitor k seats conds o []) n t read ≡ verdict_read (monitor k seats conds o d) n t read
opening_apart_read k seats conds o d n t read = grind (arith, nat_tests, Ok, opening_apart, Err)

begun_at : (h : Heading) (t : Situation) (name : ObjectName) (d : List ℕ) (read : Result (List Event) ReadFault)
    → t ≡ opening_situation (monitor (rules_named h.kind) h.seats h.conds (meaning_named name) d)
    → name ≡ h.object → d ≡ opening_named name h.size → h.size ≤ most h.object
    → (verdict_read (monitor (rules_named h.kind) h.seats h.conds (meaning_named name) []) 0 t read >>=
    λ v. Ok (Judged v))
    ≡ lines_verdict h read
begun_at h t name d read opening is state fits =
    let m = monitor (rules_named h.kind) h.seats h.conds (meaning_named name) d in
    let named : m ≡ named_monitor h = rw (state, is) refl in
    ap (λ r. r >>= λ v. Ok (Judged v))
    (opening_apart_read (rules_named h.kind) h.seats h.conds (meaning_named name) d 0 t read
    ∙ (ap (λ x. verdict_read m 0 x read) opening ∙ (judged_is m read ∙ ap (λ x. verdict_of_reading x read) named)))
    ∙ judged_verdict h read fits

pub begun : (h : Heading) (c : Course) (name : ObjectName) (d x : List ℕ) → c.header ≡ h → c.rules ≡ rules_named h.kind
    → c.count ≡ 0
    → replay_situation c.replay d ≡ opening_situation
    (monitor (rules_named h.kind) h.seats h.conds (meaning_named name) d)
    → name ≡ h.object → d ≡ opening_named name h.size → h.size ≤ most h.object
    → judged_from_here (meaning_named name) c d x ≡ lines_verdict h (events_from h 0 x)
begun h c name d x header rules count opening is state fits = grind (arith, nat_tests, begun_at)

-- ---- the header's line

pub opened_from : (bytes rest : List ℕ) (h : Heading) (s : Stage) → IsHeadOf header_at bytes (Ok h) rest
    → ((x : List ℕ) → owed_verdict s x ≡ lines_verdict h (events_from h 0 x))
    → (more : List ℕ) → owed_verdict stage.Opening (bytes ++ more) ≡ owed_verdict s (rest ++ more)
opened_from bytes rest h s is behind more =
    owed_opening (bytes ++ more)
    ∙ (opened_text (bytes ++ more) h _ (head_opens header_at (2 ^ 25) bytes rest h is more)
    ∙ sym (behind (rest ++ more)))

pub refused_from : (bytes rest : List ℕ) (f : ReadFault) → IsHeadOf header_at bytes (Err f) rest
    → (more : List ℕ) → owed_verdict stage.Opening (bytes ++ more) ≡ Err f
refused_from bytes rest f is more = search (rules, owed_opening, not_opened_text, head_refused)

pub no_object : (bytes rest : List ℕ) (h : Heading) → IsHeadOf header_at bytes (Ok h) rest
    → MakesNoObject bytes → most h.object < h.size
no_object bytes rest h is none =
    let left : LinesLeft = record { lines = lines_of (rest ++ []); number = 2; room = 2 ^ 25 } in
    let opened = head_opens header_at (2 ^ 25) bytes rest h is [] in
    grind (arith, nat_tests, Result, Ok, append-nil)

-- ---- the end of the text

pub end_opening : owed_verdict stage.Opening [] ≡ Err header_fault
end_opening = owed_opening [] ∙ not_opened_text [] header_fault (head_missing header_at (2 ^ 25) [] refl)

pub end_judged : (o : Object) (c : Course) (d : List ℕ) → judged_from_here o c d [] ≡ Ok (Judged (Legal c.count))
end_judged o c d =
    ap (λ r. r >>= λ v. Ok (Judged v))
    (judged_end (monitor_of o c) c.count (replay_situation c.replay d) (events_from c.header c.count [])
    (verdict_from_here o c d []) (items_end (event_under c.header) [] (c.count + 2) (2 ^ 25 - c.count) refl refl) refl)

pub end_found : (h : Heading) (n : ℕ) (v : TextVerdict) → found_from v h n [] ≡ Ok v
end_found h n v = search (rules, Ok, items_end)

pub unfinished_opening : (x : List ℕ) → is_unended x ≡ true → length x ≢ 0
    → owed_verdict stage.Opening x ≡ Err (end_fault 1)
unfinished_opening x one some =
    owed_opening x
    ∙ not_opened_text x (end_fault 1)
    (ap (λ b. Err (cond b header_fault (end_fault 1))) (sym (ne_eqb _ _ some)) ∙ head_missing header_at (2 ^ 25) x one)

pub unfinished_judged : (o : Object) (c : Course) (d x : List ℕ) → is_unended x ≡ true → length x ≢ 0
    → judged_from_here o c d x ≡ Err (end_fault (c.count + 2))
unfinished_judged o c d x one some = grind (arith, nat_tests, Ok, judged_fault, items_unfinished)

pub unfinished_found : (h : Heading) (n : ℕ) (v : TextVerdict) (x : List ℕ) → is_unended x ≡ true → length x ≢ 0
    → found_from v h n x ≡ Err (end_fault (n + 2))
unfinished_found h n v x one some = grind (arith, nat_tests, Ok, items_unfinished)

-- ---- one step of a stage that judges, as a step of the whole

pub judged_step : (found : Option Verdict) (next : Option Stage) (o : Object) (c e : Course) (d f bytes rest : List ℕ)
    → IsCourseStep found bytes rest (verdict_from_here o c d) (verdict_from_here o e f)
    (λ v. found_from v e.header e.count)
    → e.count ≤ 2 ^ 25
    → next ≡ option_map (λ v. stage.Found e.header e.count (Judged v)) found
    → IsJudgedStep next bytes rest (judged_from_here o c d) (judged_from_here o e f)
judged_step None next o c e d f bytes rest step few is =
    rw is (λ more. ap (λ r. r >>= λ v. Ok (Judged v)) (step.0 more), step.1)
judged_step (Some v) next o c e d f bytes rest step few is =
    rw is (
      λ more. ap (λ r. r >>= λ w. Ok (Judged w)) (step more)
          ∙ (found_judged (events_from e.header e.count (rest ++ more)) v
          ∙ sym (owed_found e.header e.count (Judged v) (rest ++ more))),
      few,
      tt,
    )
  where
    found_judged : (read : Result (List Event) ReadFault) (v : Verdict)
        → ((read_through read >>= λ _. Ok v) >>= λ w. Ok (Judged w)) ≡ (read_through read >>= λ _. Ok (Judged v))
    found_judged (Ok es) v = refl
    found_judged (Err g) v = refl

pub found_step : (old new : Stage) (h : Heading) (n k : ℕ) (v : TextVerdict) (bytes rest : List ℕ)
    → old ≡ stage.Found h n v
    → new ≡ stage.Found h k v
    → IsCarried (λ x. read_through (events_from h n x)) bytes (λ x. read_through (events_from h k x)) rest
    → is_unended rest ≡ true → k ≤ 2 ^ 25 → IsStageStep None bytes rest old new
found_step old new h n k v bytes rest was is carried ended few = grind (arith, nat_tests, owed_found, Ok)

pub gives_same : (r x : Result TextVerdict ReadFault) → r ≡ x → Gives same r x
gives_same (Ok v) x is = sym is
gives_same (Err f) x is = λ _. sym is

-- what is owed for bytes after which nothing comes
pub at_end : (s t : Stage) (bytes rest : List ℕ) → IsCarried (owed_verdict s) bytes (owed_verdict t) rest
    → owed_verdict s bytes ≡ owed_verdict t rest
at_end s t bytes rest carried =
    ap (owed_verdict s) (sym (append-nil bytes)) ∙ (carried [] ∙ ap (owed_verdict t) (append-nil rest))

pub faulty_end : (s : Stage) (bytes : List ℕ) (f : ReadFault) → IsFaulty (owed_verdict s) bytes f
    → owed_verdict s bytes ≡ Err f
faulty_end s bytes f faulty = ap (owed_verdict s) (sym (append-nil bytes)) ∙ faulty []

-- the memory fault is given only if memory was asked for
pub never_both : {P : Type 0} (f : ReadFault) (none : Type 0) (a b : ℕ) → f ≡ memory → b ≤ a → (none → a < b)
    → (f ≢ memory) ⊎ none → P
never_both f none a b is le lt (inl n) = absurd (n is)
never_both f none a b is le lt (inr x) = absurd (omega (arith, lt x))

-- events are judged in this stage, and all of them are legal so far
abbrev pub IsJudging : Stage → Course → Type 0
IsJudging s c =
    ((d : List ℕ) × (s ≡ stage.Buffer c d)) ⊎ (((d : List ℕ) × (s ≡ stage.Book c d))
    ⊎ (((d : List ℕ) × (s ≡ stage.Shop c d)) ⊎ ((d : List ℕ) × (s ≡ stage.Flags c d))))

pub legal_there : (s : Stage) (c : Course) → IsJudging s c → Ok (Judged (Legal c.count)) ≡ owed_verdict s []
legal_there s c (inl x) = rw x.1 (sym (owed_buffer c x.0 [] ∙ end_judged buffer_meaning c x.0))
legal_there s c (inr (inl x)) = rw x.1 (sym (owed_book c x.0 [] ∙ end_judged book_meaning c x.0))
legal_there s c (inr (inr (inl x))) = rw x.1 (sym (owed_shop c x.0 [] ∙ end_judged shop_meaning c x.0))
legal_there s c (inr (inr (inr x))) = rw x.1 (sym (owed_flags c x.0 [] ∙ end_judged flags_meaning c x.0))

pub unfinished_there : (s : Stage) (c : Course) → IsJudging s c → (x : List ℕ) → is_unended x ≡ true → length x ≢ 0
    → owed_verdict s x ≡ Err (end_fault (c.count + 2))
unfinished_there s c (inl d) x one some =
    rw d.1 (owed_buffer c d.0 x ∙ unfinished_judged buffer_meaning c d.0 x one some)
unfinished_there s c (inr (inl d)) x one some =
    rw d.1 (owed_book c d.0 x ∙ unfinished_judged book_meaning c d.0 x one some)
unfinished_there s c (inr (inr (inl d))) x one some =
    rw d.1 (owed_shop c d.0 x ∙ unfinished_judged shop_meaning c d.0 x one some)
unfinished_there s c (inr (inr (inr d))) x one some =
    rw d.1 (owed_flags c d.0 x ∙ unfinished_judged flags_meaning c d.0 x one some)

-- ---- the stages that judge, by what they have in common

pub record Judges (make : Course → List ℕ → Stage) (o : Object) : Type 0 where
  pub owes : (c : Course) (d x : List ℕ) → owed_verdict (make c d) x ≡ judged_from_here o c d x
  pub sound : (c : Course) (d : List ℕ) → IsSoundCourse o.predicates c → IsSound (make c d)
  pub one : (c : Course) (d : List ℕ) → stages_left (make c d) ≡ 1
  pub asks : (c : Course) (d x : List ℕ) → AsksForNone (make c d) x → ⊥

pub judges_buffer : Judges stage.Buffer buffer_meaning
judges_buffer = record { owes = owed_buffer; sound = λ c d s. s; one = λ c d. refl; asks = λ c d x n. n }

pub judges_book : Judges stage.Book book_meaning
judges_book = record { owes = owed_book; sound = λ c d s. s; one = λ c d. refl; asks = λ c d x n. n }

pub judges_shop : Judges stage.Shop shop_meaning
judges_shop = record { owes = owed_shop; sound = λ c d s. s; one = λ c d. refl; asks = λ c d x n. n }

pub judges_flags : Judges stage.Flags flags_meaning
judges_flags = record { owes = owed_flags; sound = λ c d s. s; one = λ c d. refl; asks = λ c d x n. n }

pub judging_step : (make : Course → List ℕ → Stage) (o : Object) → Judges make o
    → (next : Option Stage) (old new : Stage)
    (c e : Course) (d f bytes rest : List ℕ) → old ≡ make c d → new ≡ make e f → IsSoundCourse o.predicates e
    → IsJudgedStep next bytes rest (judged_from_here o c d) (judged_from_here o e f)
    → IsStageStep next bytes rest old new
judging_step make o j next old new c e d f bytes rest was is sound step = grind (arith, nat_tests)

pub judging_faulty : (make : Course → List ℕ → Stage) (o : Object) → Judges make o
    → (s : Stage) (c : Course) (d bytes : List ℕ)
    (f : ReadFault) → s ≡ make c d → (f ≢ memory → IsFaulty (judged_from_here o c d) bytes f)
    → (f ≢ memory) ⊎ AsksForNone s bytes → IsFaulty (owed_verdict s) bytes f
judging_faulty make o j s c d bytes f is faulty h = grind (arith, nat_tests)

pub found_faulty : (s : Stage) (h : Heading) (n : ℕ) (v : TextVerdict) (bytes : List ℕ) (f : ReadFault)
    → s ≡ stage.Found h n v
    → IsFaulty (λ x. read_through (events_from h n x)) bytes f → IsFaulty (owed_verdict s) bytes f
found_faulty s h n v bytes f h' h'' = grind (arith, nat_tests, owed_found, Ok)

-- ---- the end of a text after its last line

no_bytes : (xs : List ℕ) → (length xs == 0) ≡ true → xs ≡ []
no_bytes [] e = refl
no_bytes (x ∷ xs) e = absurd (omega (arith, eqb-true (length (x ∷ xs)) 0 e))

pub whole_ended : (r : Result TextVerdict ReadFault) (s t : Stage) (bytes rest : List ℕ)
    → IsCarried (owed_verdict s) bytes (owed_verdict t) rest → (length rest == 0) ≡ true
    → r ≡ owed_verdict t [] → r ≡ owed_verdict s bytes
whole_ended r s t bytes rest carried empty is = grind (arith, nat_tests, at_end, no_bytes)

pub whole_unfinished : (s t : Stage) (bytes rest : List ℕ) (f : ReadFault)
    → IsCarried (owed_verdict s) bytes (owed_verdict t) rest
    → is_unended rest ≡ true → (length rest == 0) ≡ false
    → ((x : List ℕ) → is_unended x ≡ true → length x ≢ 0 → owed_verdict t x ≡ Err f) → owed_verdict s bytes ≡ Err f
whole_unfinished s t bytes rest f carried ended some is = grind (arith, nat_tests, at_end, eqb-false)
