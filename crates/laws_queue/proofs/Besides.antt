-- Effects on links and random numbers alone: all else of a world stays as it is.
use Rattle.std.proofs.Common.{◌≡◌, ◌&&◌, not, ℕ, List, [], ◌∷◌, ◌++◌, fold, Bool, true, false, Option, Some, None, Result, Ok, Err, if◌then◌else◌, refl, ap, subst}
use Rattle.dill_base.specs.declared.errno.Errno.{Errno}
use Rattle.dill_calls.specs.declared.call.Call.{Call}
use Rattle.dill_calls.specs.CallTable.{word_of, named_by}
use Rattle.rand_core.specs.Stream.{Stream}
use Rattle.dill_kernel.specs.declared.ready.Ready.{Ready}
use Rattle.dill_base.specs.Maps.{if_some}
use Rattle.dill_stack.specs.Interface.{Held, frame, line, done, drop_unread}
use Rattle.dill_http.specs.Heads.{line_of}
use Rattle.dill_http.specs.Lines.{crlf}
use Rattle.dill_rules.specs.declared.coroutine.Coroutine.{Coroutine}
use Rattle.dill_rules.specs.World.{World, pending_call}
use Rattle.dill_rules.specs.Links.{Link, Links, with_stack, heated, reserved}
use Rattle.dill_rules.specs.Directions.{is_send, is_first, is_end, asked, parting_of, message_of, line_said}
use Rattle.dill_rules.specs.Sockets.{link_number, stack_of, on_link, on_named}
use Rattle.dill_rules.specs.LinkAnswers.{is_on_stack, look_of}
use Rattle.dill_rules.specs.Linking.{if_ok, with_random, put, ask_stack, heat, reserve, queue_line, queue_message, queue_end, queue, dropped_for}
use Rattle.dill_rules.specs.Giving.{look_on}
use Rattle.dill_rules.specs.Hearing.{heat_ready}
use Rattle.dill_rules.specs.Settling.{pass_one, pass_all}
use Rattle.laws_queue.proofs.Crew.{SameCrew}

-- nothing else is changed
pub record Besides {V : Type 0} (w v : World V) : Type 0 where
  pub links : Links
  pub random : Stream
  pub same : v ≡ record w { links = links; random = random }

module _ {V : Type 0} where
  pub besides_crew : {w v : World V} → Besides w v → SameCrew w v
  besides_crew {w} b = record { coroutines = ap (λ (x : World V). x.coroutines) b.same; last = ap (λ (x : World V). x.last_coroutine) b.same }

  pub as_was : (w : World V) → Besides w w
  as_was w = record { links = w.links; random = w.random; same = refl }

  pub with_links : (w : World V) (l : Links) (random : Stream) → Besides w (record w { links = l; random = random })
  with_links w l random = record { links = l; random = random; same = refl }

  pub besides_then : (w v u : World V) → Besides w v → Besides v u → Besides w u
  besides_then w v u a b = record { links = b.links; random = b.random; same = subst (λ (x : World V). u ≡ record x { links = b.links; random = b.random }) a.same b.same }

  pub some_besides : {A : Type 0} (o : Option A) (w v : World V) (f : A → World V) → Besides w v → ((a : A) → Besides w (f a)) → Besides w (if_some o v f)
  some_besides None w v f e h = e
  some_besides (Some a) w v f e h = h a

  pub if_besides : (b : Bool) (w v u : World V) → Besides w v → Besides w u → Besides w (if b then v else u)
  if_besides true w v u e f = e
  if_besides false w v u e f = f

  pub fold_besides : {A : Type 0} (f : World V → A → World V) (xs : List A) (w : World V) → ((v : World V) (a : A) → Besides v (f v a)) → Besides w (fold f w xs)
  fold_besides f [] w h = as_was w
  fold_besides f (x ∷ xs) w h = besides_then w (f w x) (fold f (f w x) xs) (h w x) (fold_besides f xs (f w x) h)

  pub on_link_besides : (w : World V) (link : ℕ) (f : Link → Link) → Besides w (on_link w link f)
  on_link_besides w link f = with_links w (on_link w link f).links w.random

  pub on_named_besides : (w : World V) (number : ℕ) (f : Link → Link) → Besides w (on_named w number f)
  on_named_besides w number f = some_besides (link_number w number) w w (λ l. on_link w l f) (as_was w) (λ l. on_link_besides w l f)

  put_besides : (w : World V) (number : ℕ) (now : Held × Stream) → Besides w (put w number now)
  put_besides w number now =
      let v = on_named w number (with_stack (λ old. now.0)) in
      besides_then w v (put w number now) (on_named_besides w number (with_stack (λ old. now.0))) (with_links v v.links now.1)

  ok_besides : (r : Result (Held × Stream) Errno) (w : World V) (f : Held × Stream → World V) → ((x : Held × Stream) → Besides w (f x)) → Besides w (if_ok r w f)
  ok_besides (Ok x) w f h = h x
  ok_besides (Err e) w f h = as_was w

  pub ask_stack_besides : (w : World V) (call : Call) (f : Stream → Held → Result (Held × Stream) Errno) → Besides w (ask_stack w call f)
  ask_stack_besides w call f =
      some_besides (named_by call) w w (λ number. if_some (stack_of w call) w (λ s. if_ok (f w.random s) w (put w number))) (as_was w)
      (λ number. some_besides (stack_of w call) w w (λ s. if_ok (f w.random s) w (put w number)) (as_was w) (λ s. ok_besides (f w.random s) w (put w number) (put_besides w number)))

  pub heat_besides : (w : World V) (call : Call) (read write : Bool) → Besides w (heat w call read write)
  heat_besides w call read write = some_besides (named_by call) w w (λ number. on_named w number (heated read write)) (as_was w) (λ number. on_named_besides w number (heated read write))

  -- what a receive does before it is pending
  pub ready_besides : (w : World V) (call : Call) → Besides w (heat (reserve w call) call true false)
  ready_besides w call =
      let v = reserve w call in
      besides_then w v (heat v call true false)
      (some_besides (named_by call) w w (λ number. if_some (asked call) w (λ want. on_named w number (reserved want))) (as_was w)
      (λ number. some_besides (asked call) w w (λ want. on_named w number (reserved want)) (as_was w) (λ want. on_named_besides w number (reserved want))))
      (heat_besides v call true false)

  pub queue_besides : (w : World V) (call : Call) → Besides w (queue w call)
  queue_besides w call =
      some_besides (message_of call) w (if_some (line_said call) (if is_end (word_of call) then queue_end w call else w) (queue_line w call)) (queue_message w call)
      (some_besides (line_said call) w (if is_end (word_of call) then queue_end w call else w) (queue_line w call)
      (if_besides (is_end (word_of call)) w (queue_end w call) w (ask_stack_besides w call done) (as_was w))
      (λ said. ask_stack_besides w call (λ random s. with_random random (line (is_first said) (line_of said ++ crlf) s))))
      (λ m. ask_stack_besides w call (λ random s. frame m random s))

  pub dropped_besides : (w : World V) (call : Call) → Besides w (dropped_for w call)
  dropped_besides w call =
      some_besides (parting_of call) w (if_some (named_by call) w (λ number. on_named w number (with_stack drop_unread))) (λ parting. w)
      (some_besides (named_by call) w w (λ number. on_named w number (with_stack drop_unread)) (as_was w) (λ number. on_named_besides w number (with_stack drop_unread)))
      (λ parting. as_was w)

  pub look_besides : (w : World V) (call : Call) → Besides w (look_on w call)
  look_besides w call =
      some_besides (named_by call) w w (λ number. if_some (stack_of w call) w (λ s. put w number ((look_of call w.random s).stack, (look_of call w.random s).random))) (as_was w)
      (λ number. some_besides (stack_of w call) w w (λ s. put w number ((look_of call w.random s).stack, (look_of call w.random s).random)) (as_was w) (λ s. put_besides w number ((look_of call w.random s).stack, (look_of call w.random s).random)))

  pass_one_besides : (w : World V) (c : Coroutine V) → Besides w (pass_one w c)
  pass_one_besides w c =
      some_besides (pending_call c.mode) w w (λ call. if is_on_stack (word_of call) && not (is_send (word_of call)) then look_on w call else w) (as_was w)
      (λ call. if_besides (is_on_stack (word_of call) && not (is_send (word_of call))) w (look_on w call) w (look_besides w call) (as_was w))

  -- what stays pending uses what its look passes
  pub pass_all_besides : (w : World V) → Besides w (pass_all w)
  pass_all_besides w = fold_besides pass_one w.coroutines w pass_one_besides

  pub heat_all_besides : (ready : List Ready) (w : World V) → Besides w (fold heat_ready w ready)
  heat_all_besides ready w = fold_besides heat_ready ready w (λ v x. on_link_besides v x.link (heated x.read x.write))
