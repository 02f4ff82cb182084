use Rattle.credits.proofs.columns.pv_total.Given as goal

abbrev pub ghost-total_by : goal.ghost-total_by
ghost-total_by a = λ agent. agent.pv
