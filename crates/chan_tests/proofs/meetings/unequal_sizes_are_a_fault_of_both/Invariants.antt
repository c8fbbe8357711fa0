use Rattle.chan_tests.proofs.meetings.unequal_sizes_are_a_fault_of_both.Given as goal

abbrev pub ghosts-unequal_sizes_fail : goal.ghosts-unequal_sizes_fail
ghosts-unequal_sizes_fail g a = record { name = a.blank.name; parts = a.blank.parts }
