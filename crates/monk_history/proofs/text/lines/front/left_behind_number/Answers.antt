use Rattle.std.proofs.Common.{◌<◌, ◌^◌, arith}
use Rattle.std.proofs.lemmas.{List.nil_from_length, Grind.common_steps}
use Rattle.monk_history.proofs.text.lines.front.left_behind_number.Goals as goal
use Rattle.monk_history.proofs.TextLaws.NextWords.{digit-first, digit-more, number-last, number-ends}

pub loop-next-init : goal.loop-next-init
loop-next-init c = grind (arith, common_steps, digit-first)

pub loop-next-preserved : goal.loop-next-preserved
loop-next-preserved c =
    let digit = c.if-not-is_ascii_digit-2.ensures.cases in
    let room : c.loop-next.number < 2 ^ 59 = omega (arith, c.if-number-ge-ROOM_FOR_A_DIGIT.false) in
    record {
      so_far = rw c.from.ensures
          (digit-more c.loop-next.number c.in-Some.next.now c.args.line.now c.loop-next.rest.now c.in-Some.behind.now
          c.loop-next.invariant.so_far c.in-Some.ensures.cases.0 digit c.if-number-eq0.false room);
      within = omega (arith, c.from.ensures, digit, room);
    }

pub returns-then-next-eq32 : goal.returns-then-next-eq32
returns-then-next-eq32 c = grind (arith, common_steps, number-ends)

pub returns : goal.returns
returns c = grind (arith, common_steps, number-last, nil_from_length)
