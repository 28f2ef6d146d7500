use Rattle.std.proofs.Common.{◌∙◌, ℕ, true, false, List, take, sym, ap, arith}
use Rattle.std.proofs.lemmas.List.{append-nil}
use Rattle.monk_history.specs.Meaning.Acts.{refused_from, refused_steps}
use Rattle.monk_history.specs.declared.event.{Event.TheVariants.Enter, Via.TheVariants.Free}
use Rattle.monk_tell.proofs.refused.refused_acts.Goals as goal
use Rattle.monk_tell.proofs.RefusedLaws.{refused_more, shown}
use Rattle.monk_tell.proofs.refused.refused_acts.Goals.{then-is_refused+in_ok-note, else-is_refused}
use Rattle.monk_tell.specs.Told.{told_steps}

pub loop-index-init : goal.loop-index-init
unfolding refused_from
loop-index-init c = (ap (λ (l : List ℕ). shown l 0) c.new.ensures.items, omega arith)

pub loop-index-preserved : goal.loop-index-preserved
loop-index-preserved c =
    let es = c.args.events.now in
    let i = c.loop-index.index in
    let some = Enter 0 Free in
    let steps = refused_steps (take i es) in
    elim c.if-is_refused.branch [
      | then-is_refused+in_ok-note w ↦
          let more =
          refused_more es i some true c.loop-index-test.true (sym c.is_refused.ensures ∙ w.if-is_refused.true) in
          rw w.refused-is (
            w.in_ok-note.ensures.noted steps c.loop-index.invariant.0 ∙ ap told_steps (sym more),
            omega (arith, w.note.ensures.few, c.loop-index.invariant.1),
          )
      | else-is_refused w ↦
          let more =
          refused_more es i some false c.loop-index-test.true (sym c.is_refused.ensures ∙ w.if-is_refused.false) in
          rw w.refused-is (
            c.loop-index.invariant.0 ∙ ap told_steps (sym (more ∙ append-nil steps)),
            omega (arith, c.loop-index.invariant.1),
          )
    ]
