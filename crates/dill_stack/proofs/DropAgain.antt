-- A second look of a detach and of a handshake, where the first found nothing to answer, finds nothing either.
use Rattle.std.proofs.Common.{◌≡◌, ◌⊎◌, inl, inr, ◌+◌, ◌-◌, ◌<◌, ◌≤◌, [], ◌∷◌, ◌++◌, List, ℕ, zero, suc, length, drop, arith, sym, ap, ◌∙◌, refl, subst, Bool, true, false, not, ◌&&◌, ◌||◌, None, if◌then◌else◌, nat_lt}
use Rattle.std.specs.Prelude.{◌==◌, is_some}
use Rattle.std.specs.Option.{unwrap_or}
use Rattle.std.specs.Str.{is_utf8}
use Rattle.std.specs.List.{list_any, prefix_len}
use Rattle.rand_core.specs.Stream.{Stream}
use Rattle.dill_base.specs.declared.errno.Errno.{Errno}
use Rattle.dill_base.specs.declared.errno.Errno.TheVariants.{Epipe, Eproto, Emsgsize}
use Rattle.dill_base.specs.declared.errno.Front.{Front}
use Rattle.dill_base.specs.declared.errno.Front.TheVariants as front
use Rattle.dill_calls.specs.declared.answer.Answer.{Answer}
use Rattle.dill_calls.specs.declared.answer.Answer.TheVariants.{Bytes, Number}
use Rattle.dill_frames.specs.Prefix.{prefix_front}
use Rattle.dill_frames.specs.Suffix.{suffix_front}
use Rattle.dill_frames.specs.Laws.{PrefixLaws, SuffixLaws}
use Rattle.dill_http.specs.Lines.{line_limit, front_of_line, front_behind, front_behind_cr}
use Rattle.dill_http.specs.Bytes.{is_inner}
use Rattle.dill_ws.specs.Closing.{close_of}
use Rattle.dill_ws.specs.declared.request.Asked.{Asked}
use Rattle.dill_ws.specs.declared.request.Asked.TheVariants as asked
use Rattle.dill_ws.specs.Handshakes.{accept_text, server_head_of, client_front, server_front}
use Rattle.std.proofs.lemmas.List.{drop-drop, length-drop}
use Rattle.dill_stack.specs.declared.want.ReadOut.{ReadOut}
use Rattle.dill_stack.specs.declared.want.ReadOut.TheVariants.{Given, Need, Fault}
use Rattle.dill_stack.specs.Layers.{Placed, Prefix, Suffix, Term, Http, Ws, WsLayer, TermLayer, HttpLayer, AmongFields, is_behind, is_first}
use Rattle.dill_stack.specs.Held.{Held, Direction, Item, Plain, Task, Idle, Greets, Expects, Answers, Leaves}
use Rattle.dill_stack.specs.WsReading.{Passed, passed, ws_front, WsFront, Whole, Short, Refused, Shown, shown, shown_by, at_end, message_of, close_met}
use Rattle.dill_stack.specs.Read.{Outcome, outcome, no_more, by_front, behind_passed, read_ws, is_terminal, over_term, read_message, received}
use Rattle.dill_stack.specs.Sending.{is_sent, is_pong, item_of}
use Rattle.dill_stack.specs.Dropping.{drop_limit, Dropped, End, Stops, is_given, left_with, drop_message, has_met, drop_frames, drop_line, drop_one, further, after_drop, dropped_within, dropped}
use Rattle.dill_stack.specs.Dropping as drops
use Rattle.dill_stack.specs.Receiving.{Looked, ws_of, looked_over}
use Rattle.dill_stack.specs.Parting.{left_over, detach_finish}
use Rattle.dill_stack.specs.Greeting.{Heard, greeted, heard_by, by_server, by_client, unmet, met_after}
use Rattle.dill_stack.specs.Again.{still, LooksAgain}
use Rattle.dill_stack.proofs.Again.{reads_again, pongs_queue, looked_still, message_again}
use Rattle.dill_stack.proofs.Limits.{FrameAt, frame_at}
use Rattle.dill_stack.proofs.Again.{some_used}

-- ---- an item that is dropped has a byte, or it changes nothing

-- an item uses a byte, or it leaves everything
abbrev pub Moves : List Placed → List ℕ → Outcome → Type 0
Moves layers u o = ((1 ≤ o.used) × (1 ≤ length u)) ⊎ (o ≡ outcome 0 layers o.said)

sized : (layers : List Placed) (u : List ℕ) (used : ℕ) (said : ReadOut) → used ≤ length u → Moves layers u (outcome used layers said)
sized layers u zero said l = inr refl
sized layers u (suc n) said l = inl (omega arith, omega (arith, l))

front_moves : (layers : List Placed) (u : List ℕ) (ended : Bool) (f : Front) → ((from to used : ℕ) → f ≡ front.Whole from to used → used ≤ length u) → Moves layers u (by_front layers u ended f)
front_moves layers u ended (front.Whole from to used) h = sized layers u used _ (h from to used refl)
front_moves layers u ended front.Need h = inr refl
front_moves layers u ended (front.Fault e) h = inr refl

pub ws_gives : (limit : ℕ) (ended : Bool) (ws : WsLayer) (u : List ℕ) → is_given (shown limit ended ws u).said ≡ true → (1 ≤ (shown limit ended ws u).used) × (1 ≤ length u)
unfolding shown
ws_gives limit ended ws u e = by (ws_front limit ws u) refl e
  where
    by : (f : WsFront) → ws_front limit ws u ≡ f → is_given (shown_by ended ws u f).said ≡ true → (1 ≤ (shown_by ended ws u f).used) × (1 ≤ length u)
    by (Whole part used) r g = at (part.opcode == 8) g
      where
        a : FrameAt ws u part used
        a = frame_at limit ws u part used r

        one : 1 ≤ used
        one = some_used ws u part used a

        some : 1 ≤ length u
        some = omega (arith, one, a.there, a.used_is)

        close : (b : Bool) → is_given (if b then (let s : Shown = record { used = used; ws = record ws { met = true }; said = Fault Epipe } in s) else record { used = 0; ws = ws; said = Fault Eproto }).said ≡ true → ⊥
        close true h = cc
        close false h = cc

        whole : (b : Bool) → is_given (if b then (let s : Shown = record { used = 0; ws = ws; said = Fault Eproto } in s) else record { used = used; ws = record ws { joining = None; joined = [] }; said = Given (Bytes (ws.joined ++ part.payload)) }).said ≡ true → (1 ≤ (if b then (let s : Shown = record { used = 0; ws = ws; said = Fault Eproto } in s) else record { used = used; ws = record ws { joining = None; joined = [] }; said = Given (Bytes (ws.joined ++ part.payload)) }).used) × (1 ≤ length u)
        whole true h = cc
        whole false h = (one, some)

        at : (b : Bool) → is_given (if b then close_met ws part used else message_of ws part used).said ≡ true → (1 ≤ (if b then close_met ws part used else message_of ws part used).used) × (1 ≤ length u)
        at true h = absurd (close (is_some (close_of part.payload)) h)
        at false h = whole (unwrap_or ws.joining part.opcode == 1 && not (is_utf8 (ws.joined ++ part.payload))) h
    by Short r g = at ended g
      where
        end : (b : Bool) → is_given (if b then Fault Epipe else Fault Eproto) ≡ true → ⊥
        end true h = cc
        end false h = cc

        at : (b : Bool) → is_given (if b then at_end ws u else Need) ≡ true → (1 ≤ 0) × (1 ≤ length u)
        at true h = absurd (end _ h)
        at false h = cc
    by (Refused x) r g = cc

ws_moves : (below : List Placed) (ws : WsLayer) (u : List ℕ) (ended : Bool) (limit : ℕ) → is_given (read_ws below ws u ended limit).said ≡ true → Moves (Ws ws ∷ below) u (read_ws below ws u ended limit)
ws_moves below ws u ended limit e = at ws.met e
  where
    p : Passed
    p = passed limit ws u

    at : (m : Bool) → is_given (if m then outcome 0 (Ws ws ∷ below) (Fault Epipe) else behind_passed below p (shown limit ended p.ws (drop p.used u))).said ≡ true
        → Moves (Ws ws ∷ below) u (if m then outcome 0 (Ws ws ∷ below) (Fault Epipe) else behind_passed below p (shown limit ended p.ws (drop p.used u)))
    at true f = cc
    at false f = let g = ws_gives limit ended p.ws (drop p.used u) f in inl (omega (arith, g.0), omega (arith, g.1, length-drop p.used u))

message_moves : (prefixes : PrefixLaws) (suffixes : SuffixLaws) (layers : List Placed) (u : List ℕ) (ended : Bool) (limit : ℕ) → is_given (read_message layers u ended limit).said ≡ true → Moves layers u (read_message layers u ended limit)
message_moves prefixes suffixes [] u ended limit e = cc
message_moves prefixes suffixes (Prefix form ∷ below) u ended limit e = front_moves (Prefix form ∷ below) u ended (prefix_front form u limit) (λ from to used f. (prefixes.lies form u limit from to used f).there)
message_moves prefixes suffixes (Suffix end ∷ below) u ended limit e = front_moves (Suffix end ∷ below) u ended (suffix_front end u limit) (λ from to used f. (suffixes.lies end u limit from to used f).there)
message_moves prefixes suffixes (Http http ∷ below) u ended limit e = cc
message_moves prefixes suffixes (Ws ws ∷ below) u ended limit e = ws_moves below ws u ended limit e
message_moves prefixes suffixes (Term term ∷ below) u ended limit e = at term.met e (message_moves prefixes suffixes below u ended limit)
  where
    m : Outcome
    m = read_message below u ended limit

    over : (b : Bool) → is_given (if b then record m { layers = Term (record term { met = true }) ∷ m.layers; said = Fault Epipe } else record m { layers = Term term ∷ m.layers }).said ≡ true
        → (is_given m.said ≡ true → Moves below u m) → Moves (Term term ∷ below) u (if b then record m { layers = Term (record term { met = true }) ∷ m.layers; said = Fault Epipe } else record m { layers = Term term ∷ m.layers })
    over true f h = cc
    over false f h = on (h f)
      where
        on : Moves below u m → Moves (Term term ∷ below) u (record m { layers = Term term ∷ m.layers })
        on (inl l) = inl l
        on (inr same) = inr (ap (λ (x : Outcome). record x { layers = Term term ∷ x.layers }) same)

    at : (t : Bool) → is_given (if t then outcome 0 (Term term ∷ below) (Fault Epipe) else over_term term m).said ≡ true → (is_given m.said ≡ true → Moves below u m)
        → Moves (Term term ∷ below) u (if t then outcome 0 (Term term ∷ below) (Fault Epipe) else over_term term m)
    at true f h = cc
    at false f h = over (is_terminal term m.said) f h

-- ---- one item

-- an item moves or changes nothing, an end is answered, and where nothing is there a second look says so again
abbrev pub Steps : List Placed → List ℕ → Bool → Dropped → Type 0
Steps layers u ended (drops.Item o) = Moves layers u o
Steps layers u ended (End o) = o.said ≡ Given (Number 0)
Steps layers u ended (Stops o) = o.said ≡ Need → drop_one o.layers (drop o.used u) ended ≡ Stops (outcome 0 o.layers Need)

no_end : (b : Bool) → (if b then Fault Epipe else Fault Eproto) ≡ Need → ⊥
no_end true e = cc
no_end false e = cc

need_is : (ended boundary : Bool) (u : List ℕ) → no_more ended boundary u ≡ Need → ended ≡ false
need_is true boundary u e = absurd (no_end (boundary && length u == 0) e)
need_is false boundary u e = refl

message_steps : (prefixes : PrefixLaws) (suffixes : SuffixLaws) (term : TermLayer) (below : List Placed) (u : List ℕ) (ended : Bool) → term.met ≡ false → Steps (Term term ∷ below) u ended (drop_message term (read_message below u ended drop_limit))
message_steps prefixes suffixes term below u ended met = at (is_terminal term m.said) refl (is_given m.said) refl
  where
    m : Outcome
    m = read_message below u ended drop_limit

    on : Moves below u m → Moves (Term term ∷ below) u (record m { layers = Term term ∷ m.layers })
    on (inl l) = inl l
    on (inr same) = inr (ap (λ (x : Outcome). record x { layers = Term term ∷ x.layers }) same)

    again : m.said ≡ Need → drop_one (Term term ∷ m.layers) (drop m.used u) ended ≡ Stops (outcome 0 (Term term ∷ m.layers) Need)
    again e = ap (λ b. if b then End (outcome 0 m.layers (Given (Number 0))) else drop_message term (read_message m.layers (drop m.used u) ended drop_limit)) met
        ∙ ap (drop_message term) (message_again below u ended drop_limit e)

    at : (t : Bool) → is_terminal term m.said ≡ t → (g : Bool) → is_given m.said ≡ g
        → Steps (Term term ∷ below) u ended (if t then End (left_with m.layers m) else if g then drops.Item (record m { layers = Term term ∷ m.layers }) else Stops (record m { layers = Term term ∷ m.layers }))
    at true e g f = refl
    at false e true f = on (message_moves prefixes suffixes below u ended drop_limit f)
    at false e false f = again

frames_steps : (ws : WsLayer) (below : List Placed) (u : List ℕ) (ended : Bool) → Steps (Ws ws ∷ below) u ended (drop_frames below (read_ws below ws u ended drop_limit))
frames_steps ws below u ended = at ws.met (λ e. ws_moves below ws u ended drop_limit e) (λ e. message_again (Ws ws ∷ below) u ended drop_limit e)
  where
    p : Passed
    p = passed drop_limit ws u

    s : Shown
    s = shown drop_limit ended p.ws (drop p.used u)

    read : Bool → Outcome
    read m = if m then outcome 0 (Ws ws ∷ below) (Fault Epipe) else behind_passed below p s

    again : (b : Bool) → s.ws.met ≡ b → b ≡ false → read_message (Ws s.ws ∷ below) (drop (p.used + s.used) u) ended drop_limit ≡ outcome 0 (Ws s.ws ∷ below) Need → drop_one (Ws s.ws ∷ below) (drop (p.used + s.used) u) ended ≡ Stops (outcome 0 (Ws s.ws ∷ below) Need)
    again true e f g = cc
    again false e f g = ap (λ t. if t then End (outcome 0 below (Given (Number 0))) else drop_frames below (read_message (Ws s.ws ∷ below) (drop (p.used + s.used) u) ended drop_limit)) e
        ∙ ap (drop_frames below) g
        ∙ ap (λ t. if t then End (left_with below (outcome 0 (Ws s.ws ∷ below) Need)) else Stops (outcome 0 (Ws s.ws ∷ below) Need)) e

    kept : (b : Bool) → s.ws.met ≡ b → (g : Bool) → is_given s.said ≡ g → (is_given s.said ≡ true → Moves (Ws ws ∷ below) u (behind_passed below p s)) → (s.said ≡ Need → read_message (Ws s.ws ∷ below) (drop (p.used + s.used) u) ended drop_limit ≡ outcome 0 (Ws s.ws ∷ below) Need)
        → Steps (Ws ws ∷ below) u ended (if b then End (left_with below (behind_passed below p s)) else if g then drops.Item (behind_passed below p s) else Stops (behind_passed below p s))
    kept true e g f h k = refl
    kept false e true f h k = h f
    kept false e false f h k = λ n. again false e refl (k n)

    at : (m : Bool) → (is_given (read m).said ≡ true → Moves (Ws ws ∷ below) u (read m)) → ((read m).said ≡ Need → read_message (read m).layers (drop (read m).used u) ended drop_limit ≡ outcome 0 (read m).layers Need)
        → Steps (Ws ws ∷ below) u ended (drop_frames below (read m))
    at true h k = closed ws.met refl
      where
        closed : (b : Bool) → ws.met ≡ b → Steps (Ws ws ∷ below) u ended (if b then End (left_with below (outcome 0 (Ws ws ∷ below) (Fault Epipe))) else Stops (outcome 0 (Ws ws ∷ below) (Fault Epipe)))
        closed true e = refl
        closed false e = λ n. absurd (not_need n)
          where
            not_need : ◌≡◌ {A = ReadOut} (Fault Epipe) Need → ⊥
            not_need n = cc
    at false h k = kept s.ws.met refl (is_given s.said) refl h k

-- a whole line has its CRLF
line_behind : (n : ℕ) (v : List ℕ) (from to used : ℕ) → front_behind n v ≡ front.Whole from to used → (2 ≤ used) × (1 ≤ length v)
line_behind n [] from to used e = cc
line_behind n (b ∷ rest) from to used e = at (b == 13) e
  where
    lf : (t : Bool) → (if t then front.Whole 0 n (n + 2) else front.Fault (if (n + 1 == line_limit) && not (b == 13) then Emsgsize else Eproto)) ≡ front.Whole from to used → 2 ≤ used
    lf true f = let it : n + 2 ≡ used = cc in omega (arith, it)
    lf false f = cc

    cr : (v : List ℕ) → front_behind_cr n v ≡ front.Whole from to used → 2 ≤ used
    cr [] f = cc
    cr (c ∷ more) f = by (c == 10) f
      where
        by : (t : Bool) → (if t then front.Whole 0 n (n + 2) else front.Fault (if (n + 1 == line_limit) && not (c == 13) then Emsgsize else Eproto)) ≡ front.Whole from to used → 2 ≤ used
        by true g = let it : n + 2 ≡ used = cc in omega (arith, it)
        by false g = cc

    at : (t : Bool) → (if t then front_behind_cr n rest else front.Fault (if n == line_limit then Emsgsize else Eproto)) ≡ front.Whole from to used → (2 ≤ used) × (1 ≤ suc (length rest))
    at true f = (cr rest f, omega arith)
    at false f = cc

pub line_sized : (u : List ℕ) (from to used : ℕ) → front_of_line u ≡ front.Whole from to used → (1 ≤ used) × (1 ≤ length u)
unfolding front_of_line
line_sized u from to used e = at (nat_lt line_limit n) e
  where
    n : ℕ
    n = prefix_len is_inner u

    at : (b : Bool) → (if b then front.Fault Emsgsize else front_behind n (drop n u)) ≡ front.Whole from to used → (1 ≤ used) × (1 ≤ length u)
    at true f = cc
    at false f = let l = line_behind n (drop n u) from to used f in (omega (arith, l.0), omega (arith, l.1, length-drop n u))

line_steps : (http : HttpLayer) (below : List Placed) (u : List ℕ) (ended : Bool) → is_behind http.receiving ≡ false → Steps (Http http ∷ below) u ended (drop_line http below u ended (front_of_line u))
line_steps http below u ended behind = by (front_of_line u) refl
  where
    again : (f : Front) → front_of_line u ≡ f → drop_line http below u ended f ≡ Stops (outcome 0 (Http http ∷ below) Need) → drop_one (Http http ∷ below) u ended ≡ Stops (outcome 0 (Http http ∷ below) Need)
    again f r e = ap (λ b. if b then End (outcome 0 below (Given (Number 0))) else drop_line http below u ended (front_of_line u)) behind ∙ ap (drop_line http below u ended) r ∙ e

    by : (f : Front) → front_of_line u ≡ f → Steps (Http http ∷ below) u ended (drop_line http below u ended f)
    by (front.Whole from to used) r = at (to - from == 0) (is_first http.receiving)
      where
        at : (b c : Bool) → Steps (Http http ∷ below) u ended (if not b then drops.Item (outcome used (received AmongFields http ∷ below) Need) else if c then Stops (outcome 0 (Http http ∷ below) (Fault Eproto)) else End (outcome used below (Given (Number 0))))
        at false c = inl (line_sized u from to used r)
        at true true = λ e. absurd (bad e)
          where
            bad : ◌≡◌ {A = ReadOut} (Fault Eproto) Need → ⊥
            bad e = cc
        at true false = refl
    by front.Need r = λ e. again front.Need r (ap (λ x. Stops (outcome 0 (Http http ∷ below) x)) e)
    by (front.Fault x) r = λ e. again (front.Fault x) r (ap (λ y. Stops (outcome 0 (Http http ∷ below) y)) e)

pub one_steps : (prefixes : PrefixLaws) (suffixes : SuffixLaws) (layers : List Placed) (u : List ℕ) (ended : Bool) → Steps layers u ended (drop_one layers u ended)
one_steps prefixes suffixes [] u ended = λ e. refl
one_steps prefixes suffixes (Prefix form ∷ below) u ended = refl
one_steps prefixes suffixes (Suffix end ∷ below) u ended = refl
one_steps prefixes suffixes (Term term ∷ below) u ended = at term.met refl
  where
    at : (t : Bool) → term.met ≡ t → Steps (Term term ∷ below) u ended (if t then End (outcome 0 below (Given (Number 0))) else drop_message term (read_message below u ended drop_limit))
    at true e = refl
    at false e = message_steps prefixes suffixes term below u ended e
one_steps prefixes suffixes (Http http ∷ below) u ended = at (is_behind http.receiving) refl
  where
    at : (t : Bool) → is_behind http.receiving ≡ t → Steps (Http http ∷ below) u ended (if t then End (outcome 0 below (Given (Number 0))) else drop_line http below u ended (front_of_line u))
    at true e = refl
    at false e = line_steps http below u ended e
one_steps prefixes suffixes (Ws ws ∷ below) u ended = at ws.met
  where
    at : (t : Bool) → Steps (Ws ws ∷ below) u ended (if t then End (outcome 0 below (Given (Number 0))) else drop_frames below (read_ws below ws u ended drop_limit))
    at true = refl
    at false = frames_steps ws below u ended

-- ---- all items

-- nothing stands at the front, or an item that changes nothing
abbrev pub Fixed : List Placed → List ℕ → Bool → Type 0
Fixed layers u ended = (drop_one layers u ended ≡ Stops (outcome 0 layers Need)) ⊎ ((said : ReadOut) × (drop_one layers u ended ≡ drops.Item (outcome 0 layers said)))

pub fixed_stays : (most : ℕ) (layers : List Placed) (u : List ℕ) (ended : Bool) → Fixed layers u ended → dropped_within most ended layers u ≡ outcome 0 layers Need
fixed_stays zero layers u ended f = refl
fixed_stays (suc most) layers u ended (inl e) = ap (after_drop (dropped_within most ended) u) e
fixed_stays (suc most) layers u ended (inr e) = ap (after_drop (dropped_within most ended) u) e.1 ∙ ap (further (outcome 0 layers e.0)) (fixed_stays most layers u ended (inr e))

-- the items that were dropped, and what is left
abbrev Ends : Bool → List ℕ → Outcome → Type 0
Ends ended u o = o.said ≡ Need → Fixed o.layers (drop o.used u) ended

within_ends : (prefixes : PrefixLaws) (suffixes : SuffixLaws) (most : ℕ) (ended : Bool) (layers : List Placed) (u : List ℕ) → length u < most → Ends ended u (dropped_within most ended layers u)
within_ends prefixes suffixes zero ended layers u l = absurd (omega (arith, l))
within_ends prefixes suffixes (suc most) ended layers u l = at (drop_one layers u ended) refl (one_steps prefixes suffixes layers u ended) (within_ends prefixes suffixes most ended)
  where
    at : (d : Dropped) → drop_one layers u ended ≡ d → Steps layers u ended d → ((below : List Placed) (v : List ℕ) → length v < most → Ends ended v (dropped_within most ended below v)) → Ends ended u (after_drop (dropped_within most ended) u d)
    at (drops.Item o) r s again = by s
      where
        by : Moves layers u o → Ends ended u (further o (dropped_within most ended o.layers (drop o.used u)))
        by (inl less) = λ e. subst (λ v. Fixed (dropped_within most ended o.layers (drop o.used u)).layers v ended) (drop-drop (dropped_within most ended o.layers (drop o.used u)).used o.used u)
            (again o.layers (drop o.used u) (omega (arith, l, less.0, less.1, length-drop o.used u)) e)
        by (inr same) =
            let here : Fixed layers u ended = inr (o.said, r ∙ ap drops.Item same) in
            let rest : further o (dropped_within most ended o.layers (drop o.used u)) ≡ outcome 0 layers Need = ap (λ (x : Outcome). further x (dropped_within most ended x.layers (drop x.used u))) same ∙ ap (further (outcome 0 layers o.said)) (fixed_stays most layers u ended here) in
            subst (Ends ended u) (sym rest) (λ e. here)
    at (End o) r s again = λ e. absurd (bad (sym s ∙ e))
      where
        bad : ◌≡◌ {A = ReadOut} (Given (Number 0)) Need → ⊥
        bad e = cc
    at (Stops o) r s again = λ e. inl (s e)

dropped_again : (prefixes : PrefixLaws) (suffixes : SuffixLaws) (layers : List Placed) (u : List ℕ) (ended : Bool) → (dropped layers u ended).said ≡ Need
    → dropped (dropped layers u ended).layers (drop (dropped layers u ended).used u) ended ≡ outcome 0 (dropped layers u ended).layers Need
unfolding dropped
dropped_again prefixes suffixes layers u ended e =
    let o = dropped_within (suc (length u)) ended layers u in
    fixed_stays (suc (length (drop o.used u))) o.layers (drop o.used u) ended (within_ends prefixes suffixes (suc (length u)) ended layers u (omega arith) e)

-- ---- a detach

pub need_kept : (l : Looked) → l.said ≡ Need → left_over l ≡ l
need_kept l e = ap (λ said. if is_given said then record l { stack = record l.stack { task = Idle } } else l) e

pub left_need : (l : Looked) → (left_over l).said ≡ Need → l.said ≡ Need
left_need l e = at (is_given l.said) e
  where
    at : (b : Bool) → (if b then record l { stack = record l.stack { task = Idle } } else l).said ≡ Need → l.said ≡ Need
    at true f = f
    at false f = f

-- a second detach's look, whether all has gone by then or pongs stand in its way
finish_still : (v : Stream) (t : Held) → dropped t.layers t.unread t.receiving.done ≡ outcome 0 t.layers Need → detach_finish v t ≡ still v t
unfolding detach_finish
finish_still v t e = at (is_sent t)
  where
    sent : left_over (looked_over (dropped t.layers t.unread t.receiving.done) v t) ≡ still v t
    sent = let l = looked_still (dropped t.layers t.unread t.receiving.done) v t e in ap left_over l

    at : (b : Bool) → (if b then left_over (looked_over (dropped t.layers t.unread t.receiving.done) v t) else still v t) ≡ still v t
    at true = sent
    at false = refl

finishes_again : (prefixes : PrefixLaws) (suffixes : SuffixLaws) (u v : Stream) (s : Held) → (detach_finish u s).said ≡ Need → detach_finish v (detach_finish u s).stack ≡ still v (detach_finish u s).stack
unfolding detach_finish
finishes_again prefixes suffixes u v s e = at (is_sent s) refl e
  where
    o : Outcome
    o = dropped s.layers s.unread s.receiving.done

    l : Looked
    l = looked_over o u s

    gone : l.said ≡ Need → detach_finish v l.stack ≡ still v l.stack
    gone n =
        let q = pongs_queue (ws_of s.layers) o.pings u (record s { layers = o.layers; unread = drop o.used s.unread }) in
        let first = dropped_again prefixes suffixes s.layers s.unread s.receiving.done n in
        finish_still v l.stack (ap (λ x. dropped x l.stack.unread l.stack.receiving.done) q.layers ∙ ap (λ x. dropped o.layers x l.stack.receiving.done) q.unread ∙ ap (λ (d : Direction). dropped o.layers (drop o.used s.unread) d.done) q.receiving ∙ first ∙ ap (λ x. outcome 0 x Need) (sym q.layers))

    at : (b : Bool) → is_sent s ≡ b → (if b then left_over l else still u s).said ≡ Need → detach_finish v (if b then left_over l else still u s).stack ≡ still v (if b then left_over l else still u s).stack
    at true r f =
        let n : l.said ≡ Need = left_need l f in
        subst (λ (x : Looked). detach_finish v x.stack ≡ still v x.stack) (sym (need_kept l n)) (gone n)
    at false r f = ap (λ b. if b then left_over (looked_over (dropped s.layers s.unread s.receiving.done) v s) else still v s) r

-- ---- a handshake

-- a second look of a handshake
abbrev Again : Heard → Type 0
Again h = h.said ≡ Need → greeted h.stack ≡ record { stack = h.stack; said = Need }

-- a look that left the stack
left_as : (s : Held) (said : ReadOut) → heard_by s.task s ≡ record { stack = s; said = said } → said ≡ Need → greeted s ≡ record { stack = s; said = Need }
unfolding greeted
left_as s said e n = e ∙ ap (λ x. let h : Heard = record { stack = s; said = x } in h) n

some_plain : (q : List Item) (b : ℕ) (w : List ℕ) → list_any (λ item. not (is_pong item)) (q ++ item_of Plain (b ∷ w)) ≡ true
some_plain [] b w = refl
some_plain (x ∷ q) b w = at (not (is_pong x)) (some_plain q b w)
  where
    at : (t : Bool) → list_any (λ item. not (is_pong item)) (q ++ item_of Plain (b ∷ w)) ≡ true → (t || list_any (λ item. not (is_pong item)) (q ++ item_of Plain (b ∷ w))) ≡ true
    at true e = refl
    at false e = e

pub head_waits : (q : List Item) (accept : List ℕ) → list_any (λ item. not (is_pong item)) (q ++ item_of Plain (server_head_of accept)) ≡ true
head_waits q accept = some_plain q 72 (drop 1 (server_head_of accept))

bad_given : (a : Answer) → ◌≡◌ {A = ReadOut} (Given a) Need → ⊥
bad_given a e = cc

bad_fault : (x : Errno) → ◌≡◌ {A = ReadOut} (Fault x) Need → ⊥
bad_fault x e = cc

greets_again : (s : Held) → Again (greeted s)
unfolding greeted
greets_again s = at s.task refl
  where
    server : (accept : List ℕ) → s.task ≡ Greets accept → (b : Bool) → is_sent s ≡ b → (f : Front) → server_front accept s.unread ≡ f → (let h = if b then by_server f s else record { stack = s; said = Need } in Again h)
    server accept t true r (front.Whole from to used) e = λ n. absurd (bad_given (Number 0) n)
    server accept t true r front.Need e = λ n. left_as s (unmet s).said (ap (λ x. heard_by x s) t ∙ ap (λ b. if b then by_server (server_front accept s.unread) s else record { stack = s; said = Need }) r ∙ ap (λ f. by_server f s) e) n
    server accept t true r (front.Fault x) e = λ n. absurd (bad_fault x n)
    server accept t false r f e = λ n. left_as s Need (ap (λ x. heard_by x s) t ∙ ap (λ b. if b then by_server (server_front accept s.unread) s else record { stack = s; said = Need }) r) n

    client : s.task ≡ Expects → (f : Asked) → client_front s.unread ≡ f → Again (by_client f s)
    client t (asked.Whole key used) e = λ n. waits (by_client (asked.Whole key used) s).stack (head_waits s.queue (accept_text key))
      where
        waits : (x : Held) → list_any (λ item. not (is_pong item)) x.queue ≡ true → heard_by Answers x ≡ record { stack = x; said = Need }
        waits x f = ap (λ b. if not b then met_after 0 x else record { stack = x; said = Need }) f
    client t asked.Need e = λ n. left_as s (unmet s).said (ap (λ x. heard_by x s) t ∙ ap (λ f. by_client f s) e) n
    client t (asked.Fault x) e = λ n. absurd (bad_fault x n)

    answers : s.task ≡ Answers → (b : Bool) → is_sent s ≡ b → (let h = if b then met_after 0 s else record { stack = s; said = Need } in Again h)
    answers t true e = λ n. absurd (bad_given (Number 0) n)
    answers t false e = λ n. left_as s Need (ap (λ x. heard_by x s) t ∙ ap (λ b. if b then met_after 0 s else record { stack = s; said = Need }) e) n

    at : (t : Task) → s.task ≡ t → Again (heard_by t s)
    at Idle e = λ n. left_as s Need (ap (λ x. heard_by x s) e) n
    at (Greets accept) e = server accept e (is_sent s) refl (server_front accept s.unread) refl
    at Expects e = client e (client_front s.unread) refl
    at Answers e = answers e (is_sent s) refl
    at Leaves e = λ n. left_as s Need (ap (λ x. heard_by x s) e) n

pub looks_again : (prefixes : PrefixLaws) (suffixes : SuffixLaws) → LooksAgain
looks_again prefixes suffixes = record { reads = reads_again; finishes = finishes_again prefixes suffixes; greets = greets_again }
