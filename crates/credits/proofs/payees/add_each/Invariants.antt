use Rattle.credits.proofs.payees.add_each.Given as goal

abbrev pub ghost-add_by : goal.ghost-add_by
ghost-add_by a = λ part. part
