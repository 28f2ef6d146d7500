use Rattle.monk_judge.proofs.judge.Judge.tell.Goals as goal

pub returns-in-Broadcast-clause-setting : goal.returns-in-Broadcast-clause-setting
returns-in-Broadcast-clause-setting g c = c.wake.ensures.setting g.T.Guarded.meaning
