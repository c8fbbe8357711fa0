use Rattle.chan_tests.proofs.meetings.a_receiver_meets_a_sender_that_waits.Given as goal

abbrev pub ghosts-equal_sizes_meet : goal.ghosts-equal_sizes_meet
ghosts-equal_sizes_meet g a = record { name = a.blank.name; parts = a.blank.parts }
