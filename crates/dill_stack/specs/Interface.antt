-- What the machine uses of a stack, passed on from one place. Declares nothing.
pub use Rattle.dill_stack.specs.Layers.{Place, BeforeFirst, AmongFields, BehindEmpty, TermLayer, HttpLayer, WsLayer, Placed, Prefix, Suffix, Term, Http, Ws, top_of}
pub use Rattle.dill_stack.specs.Held.{Held, Direction, Item, Origin, Task, Idle, Greets, Expects, Answers, Leaves, opening, set_link, top, is_broken, came, ended, broke, use_bytes, drop_unread, has_ended}
pub use Rattle.dill_stack.specs.Composed.{composed}
pub use Rattle.dill_stack.specs.Refusals.{first_fault, attach_fault, send_fault, line_fault, done_fault, read_fault, detach_fault}
pub use Rattle.dill_stack.specs.Sending.{is_sent, is_idle, offered, took, frame, line, done, withdraw, unmark_done}
pub use Rattle.dill_stack.specs.Needs.{need, head_need, parting_need, closing_need, needs_bytes, limit_of_want, unread_bound}
pub use Rattle.dill_stack.specs.Receiving.{Looked, read}
pub use Rattle.dill_stack.specs.Attaching.{attach, expect_greet}
pub use Rattle.dill_stack.specs.Greeting.{greet, Heard, greeted}
pub use Rattle.dill_stack.specs.Parting.{parting_fault, detach_start, detach_finish}
