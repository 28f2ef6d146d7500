use Rattle.std.proofs.Common.{drop, map}
use Rattle.monk_tell.specs.Steps.{step_of}
use Rattle.monk_page.proofs.page_data.write_list.Given as goal
use Rattle.monk_page.{specs.Step.step_json, proofs.WriteLaws.WritesList}

abbrev pub invariant-loop-step : goal.invariant-loop-step
invariant-loop-step l =
    WritesList (step_json l.object) (map step_of (drop l.step-index l.steps)) (map step_of l.steps)
    l.fn.out.writer l.out.writer
