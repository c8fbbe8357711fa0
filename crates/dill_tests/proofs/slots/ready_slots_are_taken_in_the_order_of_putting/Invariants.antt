use Rattle.dill_tests.proofs.slots.ready_slots_are_taken_in_the_order_of_putting.Given as goal

abbrev pub ghosts-ready_slots_are_taken : goal.ghosts-ready_slots_are_taken
ghosts-ready_slots_are_taken g a = record { name = a.blank.name; parts = a.blank.parts }
