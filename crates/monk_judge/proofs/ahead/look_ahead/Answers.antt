use Rattle.std.proofs.Common.{◌≡◌, ◌+◌, ◌-◌, ◌<◌, ◌≤◌, ◌∙◌, length, get_or, drop, refl, sym, ap, subst, arith}
use Rattle.std.proofs.{Math.ListN.length-set, Math.ListN.length-replicate, Math.ListN.set, lemmas.Grind.common_steps}
use Rattle.monk_logs.specs.{Log.line_seat, declared.text.line.LogLine.TheVariants.Enter}
use Rattle.monk_judge.proofs.ahead.look_ahead.Goals as goal
use Rattle.monk_judge.proofs.Covers.{rest_is}
use Rattle.monk_judge.proofs.LinesAhead.{IsEndBy, each_kept, next_kept, nothing_next}
use Rattle.monk_judge.specs.Ends.{IsEnd}
use Rattle.monk_judge.specs.declared.wait_end.WaitEnd.TheVariants.{Never, Resumes}

pub loop-index-init : goal.loop-index-init
loop-index-init c = record {
  within = omega arith;
  many =
      ap (λ ends. length ends) (c.in_ok-ends.ensures.items_if_clones_equal (λ y same. same))
      ∙ length-replicate (length c.args.lines.now) Never;
  size = refl;
  next = λ s small. nothing_next c.args.lines.now 256 s small;
  each = λ k le lt. absurd (omega arith);
}

pub loop-index-preserved : goal.loop-index-preserved
loop-index-preserved c =
    let was = c.loop-index.invariant in
    let lines = c.args.lines.now in
    let i = c.loop-index.index - 1 in
    let up : c.loop-index.index ≡ i + 1 = omega arith in
    let lt : i < length lines = omega arith in
    let line = get_or lines i (Enter 0) in
    let rest = drop (i + 1) lines in
    let end = c.by.result in
    let seat : line_seat line ≡ c.from-seat.result = sym (c.from-seat.ensures ∙ c.seat.ensures) in
    let few : c.from-seat.result < 256 = omega arith in
    let own : IsEndBy line (i + 1) end = grind (arith, common_steps) in
    record {
      within = omega arith;
      many = length-set c.loop-index.ends.items i _ ∙ was.many;
      size = length-set c.loop-index.next c.from-seat.result _ ∙ was.size;
      next = λ s small.
          subst (λ k. IsEnd s i (get_or (set c.loop-index.next k end) s (Resumes 0)) (drop i lines)) seat
          (subst (λ k. IsEnd s i (get_or (set c.loop-index.next (line_seat line) end) s (Resumes 0)) k)
          (sym (rest_is lines i lt))
          (next_kept c.loop-index.next line rest i end
          (subst (λ k. k < length c.loop-index.next) (sym seat) (omega (arith, was.size))) own s
          (subst (λ k. IsEnd s k (get_or c.loop-index.next s (Resumes 0)) (drop k lines)) up (was.next s small))));
      each = each_kept c.loop-index.ends.items lines i (get_or c.loop-index.next c.from-seat.result (Resumes 0))
          (omega (arith, was.many))
          (subst (λ k. IsEnd k (i + 1) (get_or c.loop-index.next c.from-seat.result (Resumes 0)) rest) (sym seat)
          (subst (λ k. IsEnd c.from-seat.result k (get_or c.loop-index.next c.from-seat.result (Resumes 0))
          (drop k lines)) up (was.next c.from-seat.result few)))
          (λ k more. was.each k (subst (λ j. j ≤ k) (sym up) more));
    }
