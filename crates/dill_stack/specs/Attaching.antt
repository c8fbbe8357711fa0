-- Attaches, which put a layer on top of a stack.
use Rattle.std.specs.Prelude.{◌∷◌, Bool, false, Option, Result, Ok}
use Rattle.dill_base.specs.declared.errno.Errno.{Errno}
use Rattle.dill_ws.specs.declared.side.Side.TheVariants.{Server}
use Rattle.dill_stack.specs.declared.layer.Layer.{Layer}
use Rattle.dill_stack.specs.Layers.{placed, fresh_ws, Ws}
use Rattle.dill_stack.specs.Held.{Held, Expects, is_broken}
use Rattle.dill_stack.specs.Refusals.{first_fault, is_done, attach_fault}
use Rattle.dill_stack.specs.Sending.{unless}

-- The layer stands on top.
unfoldable pub attach : Layer → Held → Result Held Errno
attach l s = unless (attach_fault l false s) (Ok (record s { layers = placed l ∷ s.layers }))

-- A handshake uses both directions, and sends a head.
unfoldable pub greet_fault : (invalid long : Bool) → Held → Option Errno
greet_fault invalid long s = first_fault invalid false (is_done s) (is_broken s) long

-- A server's WebSocket layer stands on top from now on, and waits for the client's head.
unfoldable pub expect_greet : Bool → Held → Result Held Errno
expect_greet text s = unless (greet_fault false false s) (Ok (record s { layers = Ws (fresh_ws Server text) ∷ s.layers; task = Expects }))
