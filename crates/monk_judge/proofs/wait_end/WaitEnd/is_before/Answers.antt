use Rattle.std.proofs.{Common.arith, Common.sym, Common.subst, lemmas.Bool.true≢false}
use Rattle.monk_judge.proofs.wait_end.WaitEnd.is_before.Goals as goal
use Rattle.monk_judge.{specs.Ends.ResumesBy, proofs.WaitEnds.resumes_later, proofs.WaitEnds.resumes_never}

pub returns-in-Resumes-other-clause-strictly : goal.returns-in-Resumes-other-clause-strictly
returns-in-Resumes-other-clause-strictly c = λ less no.
    resumes_later c.args.self c.args.other c.in-Resumes.mine c.in-Resumes-other.others c.in-Resumes.is
    c.in-Resumes-other.is less no

pub returns-in-RunsOut-other : goal.returns-in-RunsOut-other
returns-in-RunsOut-other c = record {
  before = λ yes n by. absurd (resumes_never c.args.other n c.in-RunsOut-other.is by);
  strictly = λ yes no. resumes_never c.args.other c.in-Resumes.mine c.in-RunsOut-other.is
      (no c.in-Resumes.mine (subst (λ e. ResumesBy e c.in-Resumes.mine) (sym c.in-Resumes.is) (omega arith)));
  not_before = λ no. absurd (true≢false no);
}
