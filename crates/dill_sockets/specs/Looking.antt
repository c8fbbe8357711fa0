-- The look of a call that is neither a receive nor a detach, by its word.
use Rattle.std.specs.Prelude.{if◌then◌else◌}
use Rattle.rand_core.specs.Stream.{Stream}
use Rattle.dill_calls.specs.declared.word.Word.{Word}
use Rattle.dill_stack.specs.Interface.{Held, Looked, greeted, drop_unread}
use Rattle.dill_rules.specs.Directions.{is_handshake}
use Rattle.dill_rules.specs.LinkAnswers.{is_tcp_close, heard_as, still}

abbrev pub look_by_word : Word → Stream → Held → Looked
look_by_word word random s = if is_handshake word then heard_as random (greeted s)
    else (if is_tcp_close word then still random (drop_unread s) else still random s)
