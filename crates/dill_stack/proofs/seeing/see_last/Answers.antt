use Rattle.std.proofs.Common.{◌≡◌, ◌+◌, ◌∙◌, ◌++◌, ◌&&◌, ◌==◌, Bool, List, ℕ, arith, sym, ap, refl, not, take, drop, length, true, false}
use Rattle.std.specs.Option.{unwrap_or}
use Rattle.std.specs.Str.{is_utf8}
use Rattle.std.proofs.Math.Seq.{take-append_seam}
use Rattle.dill_calls.specs.declared.answer.Answer.TheVariants.{Bytes}
use Rattle.dill_ws.specs.Frames.{masked}
use Rattle.dill_ws.specs.FrameLaws.{payload_at}
use Rattle.dill_stack.specs.declared.placed.Framed.{Framed}
use Rattle.dill_stack.specs.declared.want.ReadOut.TheVariants.{Given}
use Rattle.dill_stack.specs.Rooms.{Roomy, roomy}
use Rattle.dill_stack.specs.Seeing.{emptied}
use Rattle.dill_stack.specs.Standing.{ws_layer}
use Rattle.dill_stack.specs.WsReading.{Shown, part_of}
use Rattle.dill_stack.proofs.Again.{some_used}
use Rattle.dill_stack.proofs.Limits.{frame_at}
use Rattle.dill_stack.proofs.FramePasses.{part_at}
use Rattle.dill_stack.proofs.FrameSees.{length_joined, data_at, sees_message, sees_no_text}
use Rattle.dill_stack.proofs.seeing.see_last.Goals as goal

pub put_masked-requires : goal.put_masked-requires
put_masked-requires c =
    let d = data_at c.args.limit (ws_layer c.args.framed.now) c.args.unread.now.items c.args.head (c.args.head.start + c.args.head.length) c.requires.front c.requires.data c.requires.last in
    let l = part_at c.args.limit (ws_layer c.args.framed.now) c.args.unread.now.items c.args.head (c.args.head.start + c.args.head.length) c.requires.front d in
    let e : length c.payload_of.result.now ≡ length (take c.args.head.length (drop c.args.head.start c.args.unread.now.items)) = ap length (c.payload_of.ensures ∙ ap (λ y. take c.args.head.length (drop c.args.head.start y)) c.as_slice.ensures) in
    omega (arith, l, e, c.requires.room)

-- the test of the message, by what it was made of
test_is : (bytes joined all m : List ℕ) (code kind : ℕ) (b : Bool) → m ≡ all → kind ≡ code → b ≡ (kind == 1 && not (is_utf8 m)) → (code == 1 && not (is_utf8 all)) ≡ b
test_is bytes joined all m code kind b e f h = sym (h ∙ ap (λ x. kind == 1 && not (is_utf8 x)) e ∙ ap (λ k. k == 1 && not (is_utf8 all)) f)

pub returns-then-is_bad_text : goal.returns-then-is_bad_text
returns-then-is_bad_text c =
    let u : List ℕ = c.args.unread.now.items in
    let f : Framed = c.args.framed.now in
    let payload : c.payload_of.result.now ≡ take c.args.head.length (drop c.args.head.start u) = c.payload_of.ensures ∙ ap (λ y. take c.args.head.length (drop c.args.head.start y)) c.as_slice.ensures in
    let all : c.as_slice-2.result.now ≡ f.joined.items ++ payload_at c.args.head u = c.as_slice-2.ensures ∙ ap (λ (r : Roomy ℕ). r.items) c.put_masked.ensures ∙ ap (λ p. f.joined.items ++ masked c.args.head.key p) payload in
    let t : (unwrap_or f.joining c.args.head.opcode == 1 && not (is_utf8 (f.joined.items ++ payload_at c.args.head u))) ≡ true = test_is u u (f.joined.items ++ payload_at c.args.head u) c.as_slice-2.result.now (unwrap_or f.joining c.args.head.opcode) c.unwrap_or-kind.result c.is_bad_text.result all c.unwrap_or-kind.ensures c.is_bad_text.ensures ∙ c.if-is_bad_text.true in
    let back : c.cut.new.self ≡ f.joined = c.cut.ensures ∙ ap (λ y. roomy (take (length y) c.put_masked.new.self.items) c.put_masked.new.self.room) c.as_slice-before.ensures ∙ ap (λ (r : Roomy ℕ). roomy (take (length f.joined.items) r.items) r.room) c.put_masked.ensures ∙ ap (λ xs. roomy xs f.joined.room) (take-append_seam f.joined.items (masked c.args.head.key c.payload_of.result.now)) in
    (sees_no_text c.args.limit (ws_layer f) u c.args.head (c.args.head.start + c.args.head.length) c.requires.front c.requires.data t, ap {A = Roomy ℕ} (λ j. record f { joined = j }) back, refl)

pub returns : goal.returns
returns c =
    let u : List ℕ = c.args.unread.now.items in
    let f : Framed = c.args.framed.now in
    let used : ℕ = c.args.head.start + c.args.head.length in
    let payload : c.payload_of.result.now ≡ take c.args.head.length (drop c.args.head.start u) = c.payload_of.ensures ∙ ap (λ y. take c.args.head.length (drop c.args.head.start y)) c.as_slice.ensures in
    let joined : c.put_masked.new.self ≡ roomy (f.joined.items ++ payload_at c.args.head u) f.joined.room = c.put_masked.ensures ∙ ap (λ p. roomy (f.joined.items ++ masked c.args.head.key p) f.joined.room) payload in
    let all : c.as_slice-2.result.now ≡ f.joined.items ++ payload_at c.args.head u = c.as_slice-2.ensures ∙ ap (λ (r : Roomy ℕ). r.items) joined in
    let t : (unwrap_or f.joining c.args.head.opcode == 1 && not (is_utf8 (f.joined.items ++ payload_at c.args.head u))) ≡ false = test_is u u (f.joined.items ++ payload_at c.args.head u) c.as_slice-2.result.now (unwrap_or f.joining c.args.head.opcode) c.unwrap_or-kind.result c.is_bad_text.result all c.unwrap_or-kind.ensures c.is_bad_text.ensures ∙ c.if-is_bad_text.false in
    let d = data_at c.args.limit (ws_layer f) u c.args.head used c.requires.front c.requires.data c.requires.last in
    let l = part_at c.args.limit (ws_layer f) u c.args.head used c.requires.front d in
    let size : length c.put_masked.new.self.items ≡ length f.joined.items + length c.payload_of.result.now = ap (λ (r : Roomy ℕ). length r.items) c.put_masked.ensures ∙ length_joined f.joined.items c.args.head.key c.payload_of.result.now in
    let bare : length c.payload_of.result.now ≡ length (take c.args.head.length (drop c.args.head.start u)) = ap length payload in
    record {
      used = used;
      some = some_used (ws_layer f) u (part_of c.args.head u) used (frame_at c.args.limit (ws_layer f) u (part_of c.args.head u) used c.requires.front);
      there = c.requires.there;
      within = omega (arith, size, bare, l);
      shows = λ ended. sees_message c.args.limit (ws_layer f) u c.args.head used c.requires.front c.requires.data t ended ∙ ap (λ m. let s : Shown = record { used = used; ws = emptied (ws_layer f); said = Given (Bytes m) } in s) (sym (ap (λ (r : Roomy ℕ). r.items) joined));
      joins = ap {A = Roomy ℕ} (λ j. record f { joined = j }) (joined ∙ ap (λ xs. roomy xs f.joined.room) (sym (ap (λ (r : Roomy ℕ). r.items) joined)));
      bytes = c.use_frame.ensures;
    }
