use Rattle.std.proofs.Common.{refl, zero, suc, false, sym, ap, ◌∙◌, ◌++◌, append-nil, arith}
use Rattle.monk_hall.proofs.parked.Parked.resume.Goals as goal
use Rattle.monk_hall.proofs.ResumeLaws.{looks_again}
use Rattle.monk_hall.specs.{Deeds.look_at, Tokens.Token, declared.record.SeatRecord.SeatRecord}
use Rattle.std.proofs.lemmas.Grind.{common_steps}

pub loop-init : goal.loop-init
loop-init g c = (refl, (zero, λ i. record c.args.self.me { did = sym (append-nil c.args.self.me.did) i }))

pub loop-preserved : goal.loop-preserved
loop-preserved g c =
    let seen = c.loop.invariant.1 in
    let still = c.in-Err.ensures.parked in (
      ap (λ (t : Token). t.hall) (c.sleep-parked.ensures) ∙ still.hall ∙ ap (λ (t : Token). t.hall) c.watch.ensures.0
          ∙ c.loop.invariant.0,
      (
        suc seen.0,
        looks_again c.args.self.me c.loop.parked.me c.sleep-parked.result.me seen.0 seen.1
            (ap (λ (t : Token). t.me) c.sleep-parked.ensures ∙ still.me
            ∙ ap (λ (t : Token). let y : SeatRecord = record t.me { did = t.me.did ++ look_at t.me.place false } in y)
            c.watch.ensures.0),
      ),
    )

pub returns-in-Ok : goal.returns-in-Ok
returns-in-Ok g c = grind (arith, common_steps)
