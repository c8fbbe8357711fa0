use Rattle.dill_tests.proofs.slots.who_has_waited_longest_is_found_first.Given as goal

abbrev pub ghosts-waiters_are_found : goal.ghosts-waiters_are_found
ghosts-waiters_are_found g a = record { name = a.blank.name; parts = a.blank.parts }
