use Rattle.monk_page.proofs.laws.logs_are_unbroken.Goals as goal
use Rattle.monk_page.{specs.Log.log_json, proofs.LogPlain.log_plain, proofs.PlainData.value_plain}

pub returns : goal.returns
returns c h o d run lines before last =
    (value_plain 5 (log_json h o d run lines before last) (log_plain h o d run lines before last)).1
