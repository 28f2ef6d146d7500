use Rattle.std.proofs.Common.{◌<◌, ◌≤◌, arith}
use Rattle.std.proofs.Common.{◌∙◌}
use Rattle.monk_object.specs.declared.name.ObjectName.TheVariants as name
use Rattle.monk_object.specs.{Buffer.buffer_meaning, Book.book_meaning, Shop.shop_meaning, Flags.flags_meaning}
use Rattle.monk_object.specs.{Names.most}
use Rattle.monk_audit.proofs.stage.stage_behind.Goals as goal
use Rattle.monk_audit.proofs.PieceLaws.{begun, owed_book, owed_buffer, owed_flags, owed_found, owed_shop}
use Rattle.monk_audit.proofs.PieceLaws.{too_big_verdict}
use Rattle.monk_audit.specs.{Pieces.events_from, declared.text_verdict.TextVerdict.TheVariants.TooBig}
use Rattle.std.proofs.lemmas.Grind.{common_steps}

pub returns-then-size-greatest_size-clause-verdict : goal.returns-then-size-greatest_size-clause-verdict
returns-then-size-greatest_size-clause-verdict c =
    let big : most c.args.header.object < c.args.header.size = grind (arith, common_steps) in
    λ x. owed_found c.args.header 0 TooBig x ∙ too_big_verdict c.args.header (events_from c.args.header 0 x) big

pub returns-in-Ok-clause-verdict : goal.returns-in-Ok-clause-verdict
returns-in-Ok-clause-verdict c =
    let fits : c.args.header.size ≤ most c.args.header.object = grind (arith, common_steps) in
    let made = c.in_ok-course.ensures in
    λ x. owed_buffer c.in_ok-course.course c.in-Ok.buffer x
    ∙ begun c.args.header c.in_ok-course.course name.Buffer c.in-Ok.buffer x made.header made.rules made.count
    (made.opening buffer_meaning c.in-Ok.buffer) c.in-Buffer.ensures
    (rw c.size-size.ensures.value at c.in-Ok.ensures.made) fits

pub returns-in-Ok-clause-sound : goal.returns-in-Ok-clause-sound
returns-in-Ok-clause-sound c = c.in_ok-course.ensures.sound 2

pub returns-in-Ok-make-clause-verdict : goal.returns-in-Ok-make-clause-verdict
returns-in-Ok-make-clause-verdict c =
    let fits : c.args.header.size ≤ most c.args.header.object = grind (arith, common_steps) in
    let made = c.in_ok-course.ensures in
    λ x. owed_book c.in_ok-course.course c.in-Ok-make.book x
    ∙ begun c.args.header c.in_ok-course.course name.Book c.in-Ok-make.book x made.header made.rules made.count
    (made.opening book_meaning c.in-Ok-make.book) c.in-Book.ensures
    (rw c.size-size.ensures.value at c.in-Ok-make.ensures.made) fits

pub returns-in-Ok-make-clause-sound : goal.returns-in-Ok-make-clause-sound
returns-in-Ok-make-clause-sound c = c.in_ok-course.ensures.sound 2

pub returns-in-Ok-make-2-clause-verdict : goal.returns-in-Ok-make-2-clause-verdict
returns-in-Ok-make-2-clause-verdict c =
    let fits : c.args.header.size ≤ most c.args.header.object = grind (arith, common_steps) in
    let made = c.in_ok-course.ensures in
    λ x. owed_shop c.in_ok-course.course c.in-Ok-make-2.shop x
    ∙ begun c.args.header c.in_ok-course.course name.Shop c.in-Ok-make-2.shop x made.header made.rules made.count
    (made.opening shop_meaning c.in-Ok-make-2.shop) c.in-Shop.ensures
    (rw c.size-size.ensures.value at c.in-Ok-make-2.ensures.made) fits

pub returns-in-Ok-make-2-clause-sound : goal.returns-in-Ok-make-2-clause-sound
returns-in-Ok-make-2-clause-sound c = c.in_ok-course.ensures.sound 3

pub returns-in-Ok-make-3-clause-verdict : goal.returns-in-Ok-make-3-clause-verdict
returns-in-Ok-make-3-clause-verdict c =
    let fits : c.args.header.size ≤ most c.args.header.object = grind (arith, common_steps) in
    let made = c.in_ok-course.ensures in
    λ x. owed_flags c.in_ok-course.course c.in-Ok-make-3.flags x
    ∙ begun c.args.header c.in_ok-course.course name.Flags c.in-Ok-make-3.flags x made.header made.rules made.count
    (made.opening flags_meaning c.in-Ok-make-3.flags) c.in-Flags.ensures
    (rw c.size-size.ensures.value at c.in-Ok-make-3.ensures.made) fits

pub returns-in-Ok-make-3-clause-sound : goal.returns-in-Ok-make-3-clause-sound
returns-in-Ok-make-3-clause-sound c = c.in_ok-course.ensures.sound 32
