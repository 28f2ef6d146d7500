use Rattle.std.proofs.Common.{◌≡◌, inl, inr, refl, ap, sym, subst, ◌∙◌, List, [], ◌∷◌, ◌++◌, arith}
use Rattle.std.{proofs.lemmas.Bool.false≢true, proofs.lemmas.Grind.common_steps, specs.Prelude.All}
use Rattle.monk_history.specs.Meaning.{Counts.events_of, Turn.turn}
use Rattle.monk_history.specs.declared.event.{Event.Event, Event.TheVariants.Leave, Next.TheVariants.Entry}
use Rattle.monk_world.specs.StepTable.{out_event}
use Rattle.monk_hall.specs.{Changes.source_from, Complete.AreApart, Floors.StartsWith, Tokens.House, Tokens.Holder}
use Rattle.monk_hall.specs.{Tokens.Token, declared.record.SeatRecord.SeatRecord}
use Rattle.monk_floor.specs.View.{FloorView}
use Rattle.monk_samples.proofs.closing.close_by.Goals as goal
use Rattle.monk_samples.proofs.UnclosedLaws.{active_begins, crowded, torn, whole_here}
use Rattle.monk_samples.proofs.RunLaws.{closed_by}
use Rattle.monk_samples.proofs.MeetLaws.{apart_from, still_differ, closed_begins, closed_own, first_able, first_is_of}
use Rattle.monk_samples.proofs.MeetLaws.{holds_operations, came_comes, closed_ends, left_by, nothing_done, only_here}
use Rattle.monk_samples.specs.Samples.{IsOfFirstVersion}

pub resume-active-requires-after_bounds : goal.resume-active-requires-after_bounds
resume-active-requires-after_bounds g c κs within =
    c.arrive.ensures.hall ∙ (first_is_of c.args.hall c.args.passes.items c.in_ok-first.first c.in_ok-first.others.items
    c.in_ok-first.ensures.same c.requires.of).0

pub close-requires-after_bounds : goal.close-requires-after_bounds
close-requires-after_bounds g c κs within =
    c.resume-active.ensures.entered.hall ∙ c.arrive.ensures.hall
    ∙ (first_is_of c.args.hall c.args.passes.items c.in_ok-first.first
    c.in_ok-first.others.items c.in_ok-first.ensures.same c.requires.of).0

pub leave-requires-after_bounds : goal.leave-requires-after_bounds
leave-requires-after_bounds g c κs within =
    ap (λ (a : Holder). a.hall) c.in-Err.ensures.busy.1.peeked.is ∙ c.resume-active.ensures.entered.hall
    ∙ c.arrive.ensures.hall
    ∙ (first_is_of c.args.hall c.args.passes.items c.in_ok-first.first c.in_ok-first.others.items
    c.in_ok-first.ensures.same c.requires.of).0 ∙ sym (ap (λ (h : House). h.id) c.in-Err.ensures.busy.0)

pub is_whole-requires-clause-apart : goal.is_whole-requires-clause-apart
is_whole-requires-clause-apart g c κs within =
    let first = c.in_ok-first.first in let others = c.in_ok-first.others.items in
    subst (λ n. AreApart n c.deref-in-Ok.result.now) (sym c.seat-seat.ensures)
    (subst (λ (qs : List Token). AreApart first.me.seat qs) (sym c.deref-in-Ok.ensures.value)
    (apart_from first others (still_differ c.args.passes.items
    (first ∷ others) c.in_ok-first.ensures.same c.requires.apart)))

pub is_whole-requires-clause-seen : goal.is_whole-requires-clause-seen
is_whole-requires-clause-seen g c κs within =
    subst (λ (h : List Event). All (λ p. StartsWith h p.me.seen) c.deref-in-Ok.result.now) (sym c.deref.ensures.value)
    (subst (λ (qs : List Token). All (λ p. StartsWith c.in-Ok.closed.history.items p.me.seen) qs)
    (sym c.deref-in-Ok.ensures.value)
    (closed_begins c.in-Ok.closed.history.items c.resume-active.result.floor.history c.resume-active.result.me.seen
    c.arrive.result.me.seen c.in_ok-first.first.me.seen _ _ c.in_ok-first.others.items c.in-Ok.ensures.ended.leaves
    (ap (λ (f : FloorView). f.history) c.resume-active.ensures.entered.floor) c.resume-active.ensures.entered.starts
    (ap (λ (r : SeatRecord). r.seen) c.arrive.ensures.me) c.in_ok-first.ensures.seen))

pub returns-in-Ok-clause-closed : goal.returns-in-Ok-clause-closed
returns-in-Ok-clause-closed g c =
    closed_by g.K.Kind.rules g.T.Guarded.meaning c.arrive.result.me.setting c.args.hall.setting c.resume-active.result _
    c.in-Ok.closed.history.items (g.T.Guarded.state c.in-Ok.closed.object)
    (ap (λ (r : SeatRecord). r.setting) c.arrive.ensures.me
    ∙ (first_is_of c.args.hall c.args.passes.items c.in_ok-first.first c.in_ok-first.others.items
    c.in_ok-first.ensures.same c.requires.of).1) c.resume-active.ensures.entered.floor c.in-Ok.ensures.ended
    (subst IsOfFirstVersion c.deref.ensures.value (c.if-not-is_whole.ensures.0 refl).early)

pub returns-in-Ok-clause-ended : goal.returns-in-Ok-clause-ended
returns-in-Ok-clause-ended g c = grind (arith, common_steps)

pub returns-in-Ok-clause-whole : goal.returns-in-Ok-clause-whole
returns-in-Ok-clause-whole g c =
    let first = c.in_ok-first.first in let others = c.in_ok-first.others.items in
    let h = c.in-Ok.closed.history.items in
    let only =
    only_here h c.deref.result.now c.seat-seat.result first.me.seat others c.deref-in-Ok.result.now
    (c.if-not-is_whole.ensures.0 refl).only c.deref.ensures.value c.seat-seat.ensures c.deref-in-Ok.ensures.value in
    let own =
    closed_own h first.me.mine c.arrive.result.me.mine c.resume-active.result.me.mine _ _
    c.resume-active.result.me.seat
    c.arrive.result.me.seat first.me.seat c.in-Ok.ensures.ended.own c.resume-active.ensures.entered.mine
    (ap (λ (r : SeatRecord). r.mine) c.arrive.ensures.me) c.resume-active.ensures.entered.seat
    (ap (λ (r : SeatRecord). r.seat) c.arrive.ensures.me) in
    grind (arith, common_steps, holds_operations, nothing_done)

pub returns-in-Ok-clause-left : goal.returns-in-Ok-clause-left
returns-in-Ok-clause-left g c =
    let first = c.in_ok-first.first in let others = c.in_ok-first.others.items in
    let h = c.in-Ok.closed.history.items in
    let only =
    only_here h c.deref.result.now c.seat-seat.result first.me.seat others c.deref-in-Ok.result.now
    (c.if-not-is_whole.ensures.0 refl).only c.deref.ensures.value c.seat-seat.ensures c.deref-in-Ok.ensures.value in
    let arrived = ap (λ (r : SeatRecord). r.seat) c.arrive.ensures.me in
    let seat = c.resume-active.ensures.entered.seat ∙ arrived in
    let came = ap (λ (f : FloorView). f.history) c.resume-active.ensures.entered.floor in
    let e = out_event c.arrive.result.me.seat (source_from c.arrive.result.me.place)
    (turn c.resume-active.result.me.seen) in
    let own =
    closed_own h first.me.mine c.arrive.result.me.mine c.resume-active.result.me.mine _ _
    c.resume-active.result.me.seat
    c.arrive.result.me.seat first.me.seat c.in-Ok.ensures.ended.own c.resume-active.ensures.entered.mine
    (ap (λ (r : SeatRecord). r.mine) c.arrive.ensures.me) c.resume-active.ensures.entered.seat arrived in
    left_by h c.resume-active.result.me.seen e c.args.passes.items first others c.in_ok-first.ensures.same
    (came_comes c.arrive.result.me.seat (source_from c.arrive.result.me.place) (turn c.resume-active.result.me.seen))
    (closed_ends h c.resume-active.result.floor.history c.resume-active.result.me.seen e c.resume-active.result.me.seat
    first.me.seat c.in-Ok.ensures.ended.leaves came seat)
    (subst (λ n. events_of h first.me.seat ≡ first.me.mine ++ e ∷ Leave n Entry ∷ []) seat own)
    only
    (closed_begins h c.resume-active.result.floor.history c.resume-active.result.me.seen
    c.arrive.result.me.seen c.in_ok-first.first.me.seen _ _ c.args.passes.items c.in-Ok.ensures.ended.leaves
    came c.resume-active.ensures.entered.starts
    (ap (λ (r : SeatRecord). r.seen) c.arrive.ensures.me) c.in_ok-first.ensures.had_seen)

pub returns-then-not-is_whole-clause-fault : goal.returns-then-not-is_whole-clause-fault
returns-then-not-is_whole-clause-fault g c =
    let first = c.in_ok-first.first in let others = c.in_ok-first.others.items in
    let h = c.in-Ok.closed.history.items in let sample = c.args.rota.scenario.sample in
    let arrived = ap (λ (r : SeatRecord). r.seat) c.arrive.ensures.me in
    let seat = c.resume-active.ensures.entered.seat ∙ arrived in
    let came = ap (λ (f : FloorView). f.history) c.resume-active.ensures.entered.floor in
    let e = out_event c.arrive.result.me.seat (source_from c.arrive.result.me.place)
    (turn c.resume-active.result.me.seen) in
    let own =
    closed_own h first.me.mine c.arrive.result.me.mine c.resume-active.result.me.mine _ _
    c.resume-active.result.me.seat
    c.arrive.result.me.seat first.me.seat c.in-Ok.ensures.ended.own c.resume-active.ensures.entered.mine
    (ap (λ (r : SeatRecord). r.mine) c.arrive.ensures.me) c.resume-active.ensures.entered.seat arrived in
    inr (inl (
      refl,
      first_able c.args.passes.items first others c.left.result
          c.in_ok-first.ensures.same c.left.ensures.left c.if-left-lt2.false,
      torn g.K.Kind.rules g.T.Guarded.meaning sample h c.resume-active.result.me.seen e c.args.passes.items first others
          c.in_ok-first.ensures.same
          (came_comes c.arrive.result.me.seat (source_from c.arrive.result.me.place)
          (turn c.resume-active.result.me.seen))
          (closed_ends h c.resume-active.result.floor.history c.resume-active.result.me.seen e
          c.resume-active.result.me.seat first.me.seat c.in-Ok.ensures.ended.leaves came seat)
          (subst (λ n. events_of h first.me.seat ≡ first.me.mine ++ e ∷ Leave n Entry ∷ []) seat own)
          (closed_begins h c.resume-active.result.floor.history c.resume-active.result.me.seen
          c.arrive.result.me.seen first.me.seen _ _ c.args.passes.items c.in-Ok.ensures.ended.leaves
          came c.resume-active.ensures.entered.starts
          (ap (λ (r : SeatRecord). r.seen) c.arrive.ensures.me) c.in_ok-first.ensures.had_seen)
          (λ whole. false≢true (c.if-not-is_whole.ensures.1 (whole_here sample c.deref.result.now h first.me.seat
          c.seat-seat.result c.deref-in-Ok.result.now others (sym c.deref.ensures.value) (sym c.seat-seat.ensures)
          (sym c.deref-in-Ok.ensures.value) whole))),
    ))

pub returns-clause-fault : goal.returns-clause-fault
returns-clause-fault g c =
    let first = c.in_ok-first.first in let others = c.in_ok-first.others.items in
    let came = ap (λ (f : FloorView). f.history) c.resume-active.ensures.entered.floor in
    let e = out_event c.arrive.result.me.seat (source_from c.arrive.result.me.place)
    (turn c.resume-active.result.me.seen) in
    inr (inl (
      refl,
      first_able c.args.passes.items first others c.left.result
          c.in_ok-first.ensures.same c.left.ensures.left c.if-left-lt2.false,
      crowded g.K.Kind.rules g.T.Guarded.meaning c.args.rota.scenario.sample c.args.passes.items first others
          c.resume-active.result c.in-Err.field-0.active e c.in_ok-first.ensures.same
          (came_comes c.arrive.result.me.seat (source_from c.arrive.result.me.place)
          (turn c.resume-active.result.me.seen))
          (c.resume-active.ensures.entered.seat ∙ ap (λ (r : SeatRecord). r.seat) c.arrive.ensures.me)
          (c.resume-active.ensures.entered.mine ∙ ap (λ (r : SeatRecord). r.mine ++ e ∷ []) c.arrive.ensures.me)
          (active_begins c.resume-active.result.floor.history c.resume-active.result.me.seen c.arrive.result.me.seen
          first.me.seen e c.args.passes.items came c.resume-active.ensures.entered.starts
          (ap (λ (r : SeatRecord). r.seen) c.arrive.ensures.me) c.in_ok-first.ensures.had_seen)
          c.in-Err.ensures.busy.1,
    ))

pub arrive-requires-clause-hall : goal.arrive-requires-clause-hall
arrive-requires-clause-hall g c κs within =
    (first_is_of c.args.hall c.args.passes.items c.in_ok-first.first c.in_ok-first.others.items
    c.in_ok-first.ensures.same c.requires.of).0
