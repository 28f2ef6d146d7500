-- What is written for a play: its history or its trace
use Rattle.std.specs.Prelude.{ℕ, List, Option, Some, None}
use Rattle.monk_kinds.specs.{Names.rules_named, declared.mode.Rules.Rules}
use Rattle.monk_object.specs.{Names.meaning_named, Names.opening_named, Object.Object}
use Rattle.monk_commands.specs.{Played.IsPlayedBy, Played.Telling, Traced.IsTracedBy}
use Rattle.monk_commands.specs.declared.report.Report.{Report, TheVariants.History, TheVariants.Trace}

-- what is written for a play with these objects to show: a trace shows one
abbrev pub report_with : {T : Type 0} → Option T → Report
report_with None = History
report_with (Some shown) = Trace

-- its history or its trace, by these rules and over that object
abbrev pub IsReportedBy : Report → Rules → Object → List ℕ → Telling
IsReportedBy History k o opening h budget commands Puts = IsPlayedBy k o opening h budget commands Puts
IsReportedBy Trace k o opening h budget commands Puts = IsTracedBy k o opening h budget commands Puts

-- the same by the kind and over the object that the header names
abbrev pub IsReported : Report → Telling
IsReported r h budget commands Puts =
    IsReportedBy r (rules_named h.kind) (meaning_named h.object) (opening_named h.object h.size) h budget commands Puts
