use Rattle.dill_tests.proofs.slots.timers_pass_by_deadline_and_then_id.Given as goal

abbrev pub ghosts-timers_pass : goal.ghosts-timers_pass
ghosts-timers_pass g a = record { name = a.blank.name; parts = a.blank.parts }
