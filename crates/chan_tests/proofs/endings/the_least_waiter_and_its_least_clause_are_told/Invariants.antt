use Rattle.chan_tests.proofs.endings.the_least_waiter_and_its_least_clause_are_told.Given as goal

abbrev pub ghosts-a_gone_end_is_told : goal.ghosts-a_gone_end_is_told
ghosts-a_gone_end_is_told g a = record { name = a.blank.name; parts = a.blank.parts }
