use Rattle.std.proofs.Common.{◌≡◌, ◌∙◌, sym, arith, refl, true, false}
use Rattle.std.proofs.{Output.has_written_append, Output.has_written_of_eq, lemmas.List.append-nil}
use Rattle.monk_object.proofs.in_words.SetBitsDisplay.fmt.Goals as goal
use Rattle.monk_object.proofs.in_words.SetBitsDisplay.fmt.Goals.{then-is_set+in_ok-write, else-is_set}
use Rattle.monk_object.proofs.Printed.{bits_more}
use Rattle.monk_object.specs.InWords.{bits_below}
use Rattle.std.proofs.lemmas.Grind.{common_steps}

pub loop-place-preserved : goal.loop-place-preserved
loop-place-preserved g c = λ plain.
    let so_far = c.loop-place.invariant plain in
    let bits = c.args.self.now.0 in
    let place = c.loop-place.place-counter in
    elim c.if-is_set.branch [
      | then-is_set+in_ok-write w ↦ rw (w.f-is) (has_written_of_eq g.W.Write.write_str_gives _ _ _ _
          (sym (bits_more bits place true (sym c.is_set.ensures ∙ w.if-is_set.true)))
          (has_written_append g.W.Write.write_str_gives _ _ _ _ _ so_far
          (w.in_ok-write.ensures.writes so_far.plain refl)))
      | else-is_set w ↦ rw (w.f-is) (has_written_of_eq g.W.Write.write_str_gives _ _ _ _
          (sym (bits_more bits place false (sym c.is_set.ensures ∙ w.if-is_set.false)
          ∙ append-nil (bits_below bits place)))
          so_far)
    ]

pub returns-clause-writes : goal.returns-clause-writes
returns-clause-writes g c = λ plain ok.
    let at : c.loop-place.place-counter ≡ 32 = grind (arith, common_steps) in
    grind (arith, common_steps)
