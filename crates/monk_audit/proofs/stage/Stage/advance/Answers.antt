use Rattle.std.proofs.{Common.refl, Common.arith, lemmas.Result.err_from_is_err_and, lemmas.Grind.common_steps}
use Rattle.monk_audit.proofs.stage.Stage.advance.Goals as goal
use Rattle.monk_audit.proofs.stage.Stage.advance.Goals.{in-Opening+in_ok-open-in-Opening}
use Rattle.monk_audit.proofs.stage.Stage.advance.Goals.{in-Buffer+in_ok-judge_stage-in-Buffer}
use Rattle.monk_audit.proofs.stage.Stage.advance.Goals.{in-Book+in_ok-judge_stage-in-Book}
use Rattle.monk_audit.proofs.stage.Stage.advance.Goals.{in-Shop+in_ok-judge_stage-in-Shop}
use Rattle.monk_audit.proofs.stage.Stage.advance.Goals.{in-Flags+in_ok-judge_stage-in-Flags}
use Rattle.monk_audit.proofs.stage.Stage.advance.Goals.{in-Found+in_ok-read_lines-in-Found}
use Rattle.monk_audit.proofs.PieceLaws.{found_faulty, found_step, judges_book, judges_buffer, judges_flags, judges_shop}
use Rattle.monk_audit.proofs.PieceLaws.{judging_faulty, judging_step}

pub returns-in_err-judge_stage-in-Buffer-clause-fault : goal.returns-in_err-judge_stage-in-Buffer-clause-fault
returns-in_err-judge_stage-in-Buffer-clause-fault c =
    let p = err_from_is_err_and c.from_residual-in_err-judge_stage-in-Buffer.result
    c.from_residual-in_err-judge_stage-in-Buffer.ensures.1 in
    grind (arith, common_steps, judging_faulty, judges_buffer)

pub returns-in_err-judge_stage-in-Book-clause-fault : goal.returns-in_err-judge_stage-in-Book-clause-fault
returns-in_err-judge_stage-in-Book-clause-fault c =
    let p = err_from_is_err_and c.from_residual-in_err-judge_stage-in-Book.result
    c.from_residual-in_err-judge_stage-in-Book.ensures.1 in
    grind (arith, common_steps, judging_faulty, judges_book)

pub returns-in_err-judge_stage-in-Shop-clause-fault : goal.returns-in_err-judge_stage-in-Shop-clause-fault
returns-in_err-judge_stage-in-Shop-clause-fault c =
    let p = err_from_is_err_and c.from_residual-in_err-judge_stage-in-Shop.result
    c.from_residual-in_err-judge_stage-in-Shop.ensures.1 in
    grind (arith, common_steps, judging_faulty, judges_shop)

pub returns-in_err-judge_stage-in-Flags-clause-fault : goal.returns-in_err-judge_stage-in-Flags-clause-fault
returns-in_err-judge_stage-in-Flags-clause-fault c =
    let p = err_from_is_err_and c.from_residual-in_err-judge_stage-in-Flags.result
    c.from_residual-in_err-judge_stage-in-Flags.ensures.1 in
    grind (arith, common_steps, judging_faulty, judges_flags)

pub returns-in_err-read_lines-in-Found-clause-fault : goal.returns-in_err-read_lines-in-Found-clause-fault
returns-in_err-read_lines-in-Found-clause-fault c =
    let p = err_from_is_err_and c.from_residual-in_err-read_lines-in-Found.result
    c.from_residual-in_err-read_lines-in-Found.ensures.1 in
    rw (p.1, p.2) (λ _. found_faulty c.args.self.now c.in-Found.header c.in-Found.count c.in-Found.field-2
    c.args.bytes.now
    c.in_err-read_lines-in-Found.field-0.0 c.in-Found.is c.in_err-read_lines-in-Found.ensures.fault)

pub returns-clause-step : goal.returns-clause-step
returns-clause-step c = elim c.match-self.branch [
  | in-Opening+in_ok-open-in-Opening w ↦ grind (arith, common_steps)
  | in-Buffer+in_ok-judge_stage-in-Buffer w ↦ grind (arith, common_steps, judging_step, judges_buffer)
  | in-Book+in_ok-judge_stage-in-Book w ↦ grind (arith, common_steps, judging_step, judges_book)
  | in-Shop+in_ok-judge_stage-in-Shop w ↦ grind (arith, common_steps, judging_step, judges_shop)
  | in-Flags+in_ok-judge_stage-in-Flags w ↦ grind (arith, common_steps, judging_step, judges_flags)
  | in-Found+in_ok-read_lines-in-Found w ↦
      rw (w.next-is, w.self-is)
      (found_step c.args.self.now _ w.in-Found.header w.in-Found.count w.read_lines.new.count w.in-Found.field-2
      c.args.bytes.now _ w.in-Found.is refl w.in_ok-read_lines-in-Found.ensures.step
      w.in_ok-read_lines-in-Found.ensures.ended w.in_ok-read_lines-in-Found.ensures.few)
]
