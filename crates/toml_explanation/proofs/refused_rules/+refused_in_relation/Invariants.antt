use Rattle.toml_explanation.proofs.refused_rules.+refused_in_relation.Given as goal

abbrev pub decreases-refused_in_relation : goal.decreases-refused_in_relation
decreases-refused_in_relation l = l.levels
