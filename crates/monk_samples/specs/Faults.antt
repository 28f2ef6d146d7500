-- Which end of a worker is a fault of its crew, and of the run
use Rattle.std.specs.Prelude.{Option, Some, None}
use Rattle.monk_samples.specs.declared.crew_fault.CrewFault.TheVariants as crew
use Rattle.monk_samples.specs.declared.run_fault.RunFault.TheVariants as run
use Rattle.monk_samples.specs.declared.{crew_fault.CrewFault.CrewFault, run_fault.RunFault.RunFault}
use Rattle.monk_samples.specs.declared.end.End.{End, TheVariants.Done, TheVariants.Tired, TheVariants.Late}

-- the fault of a worker with this end, if it is one
abbrev pub fault_of : End → Option CrewFault
fault_of Done = None
fault_of Tired = Some crew.Tired
fault_of Late = Some crew.Late

-- the first fault: the earlier one if there is one, and otherwise that of the end
abbrev pub fault_after : Option CrewFault → End → Option CrewFault
fault_after None end = fault_of end
fault_after (Some fault) end = Some fault

-- the fault of a run, by that of its crew
abbrev pub run_fault_of : CrewFault → RunFault
run_fault_of crew.Memory = run.Memory
run_fault_of crew.Tired = run.Tired
run_fault_of crew.Late = run.Late
run_fault_of crew.Busy = run.Busy
run_fault_of crew.Thread = run.Thread
