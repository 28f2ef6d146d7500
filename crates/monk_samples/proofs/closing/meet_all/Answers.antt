use Rattle.std.proofs.Common.{◌≡◌, [], ◌∷◌, ◌++◌, append_assoc, append-nil, refl, sym, ap, subst, ◌∙◌, arith}
use Rattle.std.proofs.lemmas.{List.nil_from_length, List.Elements.All-cons, List.Elements.All-head}
use Rattle.std.proofs.lemmas.{List.Elements.All-nil, List.Elements.All-tail, Grind.common_steps}
use Rattle.std.specs.{Prelude.vec_items, Vec.Iter.into_iter_items}
use Rattle.monk_hall.specs.{Floors.StartsWith, Tokens.Token}
use Rattle.monk_samples.proofs.closing.meet_all.Goals as goal
use Rattle.monk_samples.proofs.TrailLaws.{starts_here}
use Rattle.monk_samples.proofs.RunLaws.{one_more, first_of, rest_of, same_all, none_yet}
use Rattle.monk_samples.proofs.MeetLaws.{same_pass, same_again, same_pushed, still_begins, met_same, met_begins}
use Rattle.monk_samples.specs.{Crews.IsOf, Wholes.AreSame}

pub loop-pass-init : goal.loop-pass-init
loop-pass-init g c =
    let first = c.in-Some.first in
    let next = ap into_iter_items c.into_iter-pass-iterator.ensures.into_iter_gives in
    let all : vec_items c.args.passes ≡ first ∷ into_iter_items c.into_iter-pass-iterator.result =
    sym c.into_iter-passes.ensures.rest ∙ c.in-Some.ensures.items ∙ ap (λ xs. first ∷ xs) (sym next) in (
      first,
      [],
      all,
      same_pass first,
      subst (AreSame []) (sym c.in_ok-others.ensures.items) tt,
      none_yet (vec_items c.in_ok-others.others) (λ p. StartsWith first.me.seen p.me.seen) c.in_ok-others.ensures.items,
      same_all (first ∷ into_iter_items c.into_iter-pass-iterator.result) (vec_items c.args.passes)
          (IsOf c.args.hall.now)
          (sym all) c.requires.of,
      All-cons (λ (p : Token). StartsWith first.me.seen p.me.seen) first [] (starts_here first.me.seen)
          (All-nil (λ (p : Token). StartsWith first.me.seen p.me.seen)),
    )

pub loop-pass-preserved : goal.loop-pass-preserved
loop-pass-preserved g c =
    let inv = c.loop-pass.invariant in
    let pass = c.in-Some-pass.pass in
    let steps = c.in-Some-pass.ensures.steps.0 in
    let rest = into_iter_items c.next-in-loop-pass.new.self in
    let one = met_same c.loop-pass.first c.meet.new.a _ _ c.meet.ensures.first in
    let other = met_same pass c.meet.new.b _ _ c.meet.ensures.second in
    let of = All-tail (IsOf c.args.hall.now) inv.0 (into_iter_items c.loop-pass.pass-iterator) inv.6 in (
      inv.0,
      inv.1 ++ pass ∷ [],
      inv.2 ∙ ap (λ xs. inv.0 ∷ inv.1 ++ xs) steps ∙ ap (λ xs. inv.0 ∷ xs) (sym (append_assoc inv.1 (pass ∷ []) rest)),
      same_again inv.0 c.loop-pass.first c.meet.new.a inv.3 one,
      same_pushed inv.1 (vec_items c.loop-pass.others) (vec_items c.push.new.self) pass c.meet.new.b inv.4 other
          c.in_ok-push.ensures.items,
      one_more (vec_items c.loop-pass.others) (vec_items c.push.new.self) c.meet.new.b
          (λ p. StartsWith c.meet.new.a.me.seen p.me.seen) c.in_ok-push.ensures.items
          (still_begins c.meet.new.a c.loop-pass.first
          (vec_items c.loop-pass.others) c.meet.ensures.first_learns.0 inv.5)
          (met_begins c.loop-pass.first c.meet.new.a pass c.meet.new.b _ _ _ c.meet.ensures.first
          c.meet.ensures.second),
      All-cons (IsOf c.args.hall.now) inv.0 rest
          (All-head (IsOf c.args.hall.now) inv.0 (into_iter_items c.loop-pass.pass-iterator) inv.6)
          (rest_of rest (into_iter_items c.loop-pass.pass-iterator) pass (IsOf c.args.hall.now) steps of),
      one_more (inv.0 ∷ inv.1) (inv.0 ∷ inv.1 ++ pass ∷ []) pass (λ p. StartsWith c.meet.new.a.me.seen p.me.seen) refl
          (still_begins c.meet.new.a c.loop-pass.first (inv.0 ∷ inv.1) c.meet.ensures.first_learns.0 inv.7)
          c.meet.ensures.first_learns.1,
    )

pub meet-requires-after_bounds : goal.meet-requires-after_bounds
meet-requires-after_bounds g c κs within =
    let inv = c.loop-pass.invariant in
    let of = All-tail (IsOf c.args.hall.now) inv.0 (into_iter_items c.loop-pass.pass-iterator) inv.6 in
    let here = first_of (into_iter_items c.next-in-loop-pass.new.self) (into_iter_items c.loop-pass.pass-iterator)
    c.in-Some-pass.pass (IsOf c.args.hall.now) c.in-Some-pass.ensures.steps.0 of in (
      inv.3.hall ∙ (All-head (IsOf c.args.hall.now) inv.0 (into_iter_items c.loop-pass.pass-iterator) inv.6).0,
      here.0,
    )

pub returns-clause-same : goal.returns-clause-same
returns-clause-same g c = grind (arith, common_steps)

pub returns-clause-had_seen : goal.returns-clause-had_seen
returns-clause-had_seen g c =
    let inv = c.loop-pass.invariant in
    let rest = nil_from_length (into_iter_items c.loop-pass.pass-iterator)
    (sym c.loop-pass.pass-iterator.rest.ok.0 ∙ c.in-None.ensures.steps.0) in
    same_all (vec_items c.args.passes) (inv.0 ∷ inv.1) (λ p. StartsWith c.loop-pass.first.me.seen p.me.seen)
    (inv.2 ∙ ap (λ xs. inv.0 ∷ inv.1 ++ xs) rest ∙ ap (λ xs. inv.0 ∷ xs) (append-nil inv.1)) inv.7

pub returns-in_err-others-clause-fault : goal.returns-in_err-others-clause-fault
returns-in_err-others-clause-fault g c = grind (arith, common_steps)

pub returns-in_err-push-clause-fault : goal.returns-in_err-push-clause-fault
returns-in_err-push-clause-fault g c = grind (arith, common_steps)
