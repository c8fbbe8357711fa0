-- Frames with their payloads, and what comes later.
use Rattle.std.proofs.Common.{◌≡◌, ◌≤◌, ◌+◌, ◌-◌, ◌%◌, ◌++◌, ◌∷◌, [], ℕ, suc, List, Bool, true, leb, length, take, drop, Option, Some, None, arith, sym, ap, ◌∙◌, refl, subst, inl, inr, length-append, append_assoc}
use lib.Bits.{xor_assoc, xor_self, xor_zero_r}
use Rattle.std.proofs.lemmas.List.{take_at, drop_at, take-append-le, drop-append-le, length-take-le, length-drop, append-nil}
use Rattle.std.proofs.Math.Seq.{take-add}
use Rattle.dill_base.specs.declared.errno.Errno.{Errno}
use Rattle.dill_base.specs.declared.errno.Errno.TheVariants.{Eproto}
use Rattle.dill_ws.specs.declared.side.Side.{Side}
use Rattle.dill_ws.specs.declared.side.Side.TheVariants.{Client, Server}
use Rattle.dill_ws.specs.declared.head.Head.{Head}
use Rattle.dill_ws.specs.declared.head.HeadFront.{HeadFront}
use Rattle.dill_ws.specs.declared.head.HeadFront.TheVariants.{Whole, Need, Fault}
use Rattle.dill_ws.specs.Frames.{peer_of, head_bytes, masked, masked_from, may_follow, Frame}
use Rattle.dill_ws.specs.Fronts.{HeadSpells, bits_of, length_size, key_size, key_at, told, is_least, head_at, head_front}
use Rattle.dill_ws.specs.FrameLaws.{AreBytes, IsSettled, payload_at, ReadsFrame}
use Rattle.dill_ws.proofs.Lengths.{told_more}
use Rattle.dill_ws.proofs.Heads.{Reads, front_reads, reads_front, Refuses, front_refuses, refused_early, refused_late, head_again, read_spells, head_of, head_same}

twice_from : (at : ℕ) (key payload : List ℕ) → masked_from at key (masked_from at key payload) ≡ payload
twice_from at key [] = refl
twice_from at key (b ∷ bs) = rw (xor_assoc, xor_self, xor_zero_r, twice_from (at + 1) key bs)

pub masked_twice : (key : Option (List ℕ)) (payload : List ℕ) → masked key (masked key payload) ≡ payload
masked_twice None payload = refl
masked_twice (Some key) payload = twice_from 0 key payload

length_from : (at : ℕ) (key payload : List ℕ) → length (masked_from at key payload) ≡ length payload
length_from at key [] = refl
length_from at key (b ∷ bs) = ap suc (length_from (at + 1) key bs)

pub length_masked : (key : Option (List ℕ)) (payload : List ℕ) → length (masked key payload) ≡ length payload
length_masked None payload = refl
length_masked (Some key) payload = length_from 0 key payload

key_stays : (r : Side) (v w : List ℕ) → key_size r ≤ length v → key_at r (v ++ w) ≡ key_at r v
key_stays Client v w h = refl
key_stays Server v w h = ap Some (take-append-le 4 v w h)

reads_stays : (r : Side) (j : Bool) (u v : List ℕ) (h : Head) → Reads r j u h → Reads r j (u ++ v) h
reads_stays r j [] v h k = absurd (omega (arith, k.two))
reads_stays r j (a ∷ []) v h k = absurd (omega (arith, k.two))
reads_stays r j (a ∷ b ∷ u) v h k =
    let size = length_size (bits_of b) in
    let l : length (u ++ v) ≡ length u + length v = length-append u v in
    let there : size + key_size r ≤ length u = omega (arith, k.key_there) in
    let rest : length (drop size u) ≡ length u - size = length-drop size u in
    let more : told (bits_of b) (u ++ v) ≡ told (bits_of b) u = told_more (bits_of b) u v (omega arith) in
    let two_more : 2 + size ≡ suc (suc size) = omega arith in
    let key : key_at r (drop (2 + size) (a ∷ b ∷ (u ++ v))) ≡ key_at r (drop (2 + size) (a ∷ b ∷ u)) =
    ap (λ m. key_at r (drop m (a ∷ b ∷ (u ++ v)))) two_more ∙ ap (key_at r) (drop-append-le size u v (omega arith)) ∙ key_stays r (drop size u) v (omega arith) ∙ ap (λ m. key_at r (drop m (a ∷ b ∷ u))) (sym two_more) in
    record {
      two = omega arith;
      starts = k.starts;
      length_there = omega (arith, k.length_there);
      least = ap (is_least (bits_of b)) more ∙ k.least;
      key_there = omega (arith, k.key_there);
      same = head_same (leb 128 a) (leb 128 a) (a % 16) (a % 16) (key_at r (drop (2 + size) (a ∷ b ∷ (u ++ v)))) (key_at r (drop (2 + size) (a ∷ b ∷ u))) (2 + size + key_size r) (2 + size + key_size r) (told (bits_of b) (u ++ v)) (told (bits_of b) u) refl refl key refl more ∙ k.same;
    }

refuses_stays : (r : Side) (j : Bool) (u v : List ℕ) (e : Errno) → Refuses r j u e → head_front r j (u ++ v) ≡ Fault Eproto
refuses_stays r j [] v e k = absurd (omega (arith, k.two))
refuses_stays r j (a ∷ []) v e k = absurd (omega (arith, k.two))
refuses_stays r j (a ∷ b ∷ u) v e k =
    let l : length (u ++ v) ≡ length u + length v = length-append u v in
    elim k.why [
      | inl s ↦ refused_early r j (a ∷ b ∷ (u ++ v)) (omega arith) s
      | inr s ↦
          let more : told (bits_of b) (u ++ v) ≡ told (bits_of b) u = told_more (bits_of b) u v (omega (arith, s.1)) in
          refused_late r j (a ∷ b ∷ (u ++ v)) (omega (arith, s.1)) (ap (is_least (bits_of b)) more ∙ s.2)
    ]

pub head_stays : (r : Side) (j : Bool) (u v : List ℕ) (f : HeadFront) → head_front r j u ≡ f → IsSettled f → head_front r j (u ++ v) ≡ f
head_stays r j u v (Whole h) e s = reads_front r j (u ++ v) h (reads_stays r j u v h (front_reads r j u h e))
head_stays r j u v Need e s = absurd s
head_stays r j u v (Fault f) e s =
    let k : Refuses r j u f = front_refuses r j u f e in
    refuses_stays r j u v f k ∙ sym (ap Fault k.errno)

payload_again : (key : Option (List ℕ)) (start n : ℕ) (head payload rest : List ℕ) → start ≡ length head → n ≡ length payload → masked key (take n (drop start ((head ++ masked key payload) ++ rest))) ≡ payload
payload_again key start n head payload rest s l =
    let cut : drop start ((head ++ masked key payload) ++ rest) ≡ masked key payload ++ rest =
    ap (drop start) (append_assoc head (masked key payload) rest) ∙ drop_at head (masked key payload ++ rest) start (sym s) in
    let front : take n (masked key payload ++ rest) ≡ masked key payload = take_at (masked key payload) rest n (length_masked key payload ∙ sym l) in
    ap (λ x. masked key (take n x)) cut ∙ ap (masked key) front ∙ masked_twice key payload

pub frame_received : (r : Side) (j fin : Bool) (op : ℕ) (payload w rest : List ℕ) → Frame (peer_of r) fin op payload w → may_follow j fin op (length payload) ≡ true → ReadsFrame r j fin op payload w rest
frame_received r j fin op payload w rest f follow =
    let head = head_bytes fin op f.key (length payload) in
    let h = head_of fin op f.key (length head) (length payload) in
    let body = masked f.key payload in
    let spelled : HeadSpells r j h head = record { keyed = f.keyed; allowed = follow; fits = f.fits; whole = refl; start = refl } in
    let read : head_front r j (head ++ (body ++ rest)) ≡ Whole h = head_again r j h head (body ++ rest) spelled in
    let grouped : (head ++ body) ++ rest ≡ head ++ (body ++ rest) = append_assoc head body rest in
    let w_is : w ++ rest ≡ (head ++ body) ++ rest = ap (λ x. x ++ rest) f.whole in
    record {
      head = h;
      read = ap (head_front r j) (w_is ∙ grouped) ∙ read;
      fin_is = refl;
      opcode_is = refl;
      payload_is = ap (payload_at h) w_is ∙ payload_again f.key (length head) (length payload) head payload rest refl refl;
      used = sym (ap length f.whole ∙ length-append head body ∙ ap (λ n. length head + n) (length_masked f.key payload));
    }

pub read_framed : (r : Side) (j : Bool) (u : List ℕ) (h : Head) → AreBytes u → head_front r j u ≡ Whole h → h.start + h.length ≤ length u → Frame (peer_of r) h.fin h.opcode (payload_at h u) (take (h.start + h.length) u)
read_framed r j u h bytes e there =
    let s : HeadSpells r j h (take h.start u) = read_spells r j u h bytes (front_reads r j u h e) in
    let body = take h.length (drop h.start u) in
    let rest : length (drop h.start u) ≡ length u - h.start = length-drop h.start u in
    let count : length body ≡ h.length = length-take-le h.length (drop h.start u) (omega arith) in
    let size : length (payload_at h u) ≡ h.length = length_masked h.key body ∙ count in
    let back : masked h.key (payload_at h u) ≡ body = masked_twice h.key body in
    record {
      key = h.key;
      keyed = s.keyed;
      joining = j;
      allowed = ap (may_follow j h.fin h.opcode) size ∙ s.allowed;
      fits = omega (arith, s.fits);
      whole = take-add h.start h.length u ∙ ap (λ x. x ++ body) s.whole ∙ ap (λ n. head_bytes h.fin h.opcode h.key n ++ body) (sym size) ∙ ap (λ x. head_bytes h.fin h.opcode h.key (length (payload_at h u)) ++ x) (sym back);
    }

frame_of_peer : (s : Side) → peer_of (peer_of s) ≡ s
frame_of_peer Client = refl
frame_of_peer Server = refl

nothing_more : (xs : List ℕ) → length xs ≡ 0 → xs ≡ []
nothing_more [] h = refl
nothing_more (x ∷ xs) h = absurd (omega arith)

free_to : (r : Side) (fin end : Bool) (op code : ℕ) (payload other w rest : List ℕ) → Frame (peer_of r) fin op payload w → Frame (peer_of r) end code other (w ++ rest) → rest ≡ []
free_to r fin end op code payload other w rest f g =
    let a : ReadsFrame r f.joining fin op payload w rest = frame_received r f.joining fin op payload w rest f f.allowed in
    let b : ReadsFrame r g.joining end code other (w ++ rest) [] = frame_received r g.joining end code other (w ++ rest) [] g g.allowed in
    let x : head_at r (w ++ rest) ≡ a.head = (front_reads r f.joining (w ++ rest) a.head a.read).same in
    let y : head_at r ((w ++ rest) ++ []) ≡ b.head = (front_reads r g.joining ((w ++ rest) ++ []) b.head b.read).same in
    let same : a.head ≡ b.head = sym x ∙ ap (head_at r) (sym (append-nil (w ++ rest))) ∙ y in
    let ends : a.head.start + a.head.length ≡ b.head.start + b.head.length = ap (λ (h : Head). h.start + h.length) same in
    let l : length (w ++ rest) ≡ length w + length rest = length-append w rest in
    nothing_more rest (omega (arith, ends, a.used, b.used))

pub frame_free : (sender : Side) (fin end : Bool) (op code : ℕ) (payload other w rest : List ℕ) → Frame sender fin op payload w → Frame sender end code other (w ++ rest) → rest ≡ []
frame_free sender fin end op code payload other w rest f g =
    free_to (peer_of sender) fin end op code payload other w rest (subst (λ (s : Side). Frame s fin op payload w) (sym (frame_of_peer sender)) f) (subst (λ (s : Side). Frame s end code other (w ++ rest)) (sym (frame_of_peer sender)) g)
