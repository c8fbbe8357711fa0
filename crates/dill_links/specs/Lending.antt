-- What links and their stacks are after they were changed through a reference into them.
use Rattle.std.specs.Prelude.{ℕ}
use Rattle.std.specs.Borrow.{Fml, Lends, MutBor}
use Rattle.dill_stack.specs.Rooms.{Stocked}
use Rattle.dill_stack.specs.contracts.stack.Stack as stacks
use Rattle.dill_rules.specs.Links.{Link, Links, change_link}
use Rattle.dill_links.specs.contracts.links.Links.{the_row}
use Rattle.dill_links.specs.contracts.row.LinkRow as rows

-- the stack on a link, with the most bytes that a receive has asked for
abbrev pub stack_of : Link → Stocked
stack_of x = record { held = x.stack; most = x.most }

-- another stack stands on a link
abbrev pub set_stack : Link → Stocked → Link
set_stack x stack = record x { stack = stack.held; most = stack.most }

-- another link stands in the place of one
abbrev pub set_row : Links → ℕ → Link → Links
set_row l number row = change_link l number (λ old. row)

-- the links end with the last link behind r in this place
abbrev pub lends_row : MutBor Links → ℕ → MutBor Link → Fml
lends_row s number r = Lends the_row rows.the_row s r (set_row s.now number)

-- the link ends with the last stack behind r on it
abbrev pub lends_stack : MutBor Link → MutBor Stocked → Fml
lends_stack s r = Lends rows.the_row stacks.the_row s r (set_stack s.now)
