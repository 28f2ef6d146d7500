use Rattle.std.proofs.Common.{◌≡◌, ◌+◌, All, List, length, take, arith, eq-eqb, sym, ap, subst, ◌∙◌}
use Rattle.std.proofs.lemmas.{Bool.eqb-true, List.take_all, Grind.common_steps}
use Rattle.monk_history.specs.Meaning.Counts.{events_of}
use Rattle.monk_hall.proofs.completeness.complete.Goals as goal
use Rattle.monk_hall.proofs.CompleteLaws.{KnowsItsOwn, holds_length, holds_only, made_by, one_made, one_known, some_fit}
use Rattle.monk_hall.specs.Tokens.{Token}

one_more : goal.loop-pass-preserved
one_more g c = grind (arith, common_steps, one_made, one_known, KnowsItsOwn)

pub loop-pass-preserved : goal.loop-pass-preserved
loop-pass-preserved g c = one_more g c

pub overflow_add-known : goal.overflow_add-known
overflow_add-known g c = grind (arith, common_steps, one_more, some_fit)

pub returns : goal.returns
returns g c =
    let inv = c.loop-pass.invariant in
    let ended = c.loop-pass-test.false in
    let all : take c.loop-pass.pass-index c.args.passes.now ≡ c.args.passes.now =
    take_all c.loop-pass.pass-index c.args.passes.now (omega (arith, ended)) in
    let h = c.args.history.now in
    let known : c.loop-pass.known ≡ length (events_of h c.args.seat) + made_by c.args.passes.now = inv.0
    ∙ ap (λ (ps : List Token). length (events_of h c.args.seat) + made_by ps) all in
    let own = subst (All KnowsItsOwn) all inv.1 in (
      (λ same. holds_only h c.args.seat c.args.passes.now c.requires.apart c.requires.seen own
          (sym known ∙ eqb-true c.loop-pass.known (length h) same)),
      (λ only. eq-eqb c.loop-pass.known (length h)
          (known ∙ holds_length h c.args.seat c.args.passes.now c.requires.apart only)),
    )
