use Rattle.chan_tests.proofs.endings.who_receives_has_its_end_where_the_other_end_is_done.Given as goal

abbrev pub ghosts-done_is_told : goal.ghosts-done_is_told
ghosts-done_is_told g a = record { name = a.blank.name; parts = a.blank.parts }
