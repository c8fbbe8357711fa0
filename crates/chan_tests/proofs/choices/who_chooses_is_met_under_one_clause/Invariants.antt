use Rattle.chan_tests.proofs.choices.who_chooses_is_met_under_one_clause.Given as goal

abbrev pub ghosts-the_clause_is_told : goal.ghosts-the_clause_is_told
ghosts-the_clause_is_told g a = record { name = a.blank.name; parts = a.blank.parts }
