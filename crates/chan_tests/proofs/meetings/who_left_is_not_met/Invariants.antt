use Rattle.chan_tests.proofs.meetings.who_left_is_not_met.Given as goal

abbrev pub ghosts-the_first_is_met : goal.ghosts-the_first_is_met
ghosts-the_first_is_met g a = record { name = a.blank.name; parts = a.blank.parts }
