use Rattle.std.proofs.Common.{◌≡◌, ℕ, ◌+◌, ◌-◌, ◌≤◌, List, ◌++◌, rules, arith, length, take, slice_range, sym, ap, ◌∙◌, le_refl}
use Rattle.std.proofs.{lemmas.Slice.take-put_mid_below, lemmas.Grind.common_steps, KnownBytes.Consumes-trans}
use Rattle.std.proofs.Common.{drop_at, length-take-le}
use borrow.Rule.Slice.PartMut.{put_mid, post_of}
use lib.Seq.{take-add, take-append-le}
use Rattle.monk_history.proofs.text.device.DeviceRead.read_exact.Goals as goal

-- the old front, and after it what is new up to b
take_split : (a b : ℕ) (old new : List ℕ) → a ≤ b → take a new ≡ take a old
    → take a old ++ slice_range new a b ≡ take b new
take_split a b old new h front =
    let same : a + (b - a) ≡ b = omega arith in
    ap (λ l. l ++ slice_range new a b) (sym front) ∙ sym (take-add a (b - a) new) ∙ ap (λ n. take n new) same

-- the first n of what was put into the middle
middle_of_put : (a k n : ℕ) (xs ys : List ℕ) → a ≤ length xs → n ≤ length ys
    → slice_range (put_mid a k xs ys) a (a + n) ≡ take n ys
middle_of_put a k n xs ys within fits =
    let same : (a + n) - a ≡ n = omega arith in
    let after = post_of a k xs in
    ap (take ((a + n) - a)) (drop_at (take a xs) (ys ++ after) a (length-take-le a xs within))
    ∙ ap (λ m. take m (ys ++ after)) same
    ∙ take-append-le n ys after fits

pub loop-at-preserved : goal.loop-at-preserved
loop-at-preserved g c =
    let from = c.loop-at.at in
    let room = length c.loop-at.buf - from in
    let taken = c.in-Ok.taken in
    let within = c.loop-at.invariant.within in
    let part = middle_of_put from room taken c.loop-at.buf c.read.new.buf within c.in-Ok.ensures.bound.0 in
    let below = take-put_mid_below _ _ _ _ _ (le_refl _) within in
    let joined =
    take_split from (from + taken) c.loop-at.buf (put_mid from room c.loop-at.buf c.read.new.buf)
    (omega arith) below in
    grind (arith, common_steps, rules, Consumes-trans)
