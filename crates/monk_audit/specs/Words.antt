-- A verdict in words
use Rattle.std.specs.Prelude.{ℕ, List, [], ◌++◌, codes}
use Rattle.std.specs.Fmt.{decimal}
use Rattle.monk_audit.specs.Reasons.{caption_of, numbered, word_of}
use Rattle.monk_audit.specs.declared.verdict.Verdict.{Verdict, TheVariants.Legal, TheVariants.Forbidden}

-- the line of an audit, without its end
abbrev pub verdict_text : Verdict → List ℕ
verdict_text (Legal n) = codes "legal " ++ decimal n
verdict_text (Forbidden step reason) =
    codes "forbidden " ++ decimal step ++ codes " " ++ decimal reason ++ codes " " ++ word_of (numbered reason)

-- what a picture says of the event that is forbidden, if one is
abbrev pub caption_by : Verdict → List ℕ
caption_by (Legal n) = []
caption_by (Forbidden step reason) = caption_of (numbered reason)
