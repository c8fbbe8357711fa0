use Rattle.dill_tests.proofs.slots.values_are_found_under_their_slots.Given as goal

abbrev pub ghosts-values_are_found : goal.ghosts-values_are_found
ghosts-values_are_found g a = record { name = a.blank.name; parts = a.blank.parts }
