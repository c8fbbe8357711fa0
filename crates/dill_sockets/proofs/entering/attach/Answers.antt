use Rattle.dill_sockets.proofs.entering.attach.Goals as goal

pub returns-in-PrefixAttach : goal.returns-in-PrefixAttach
returns-in-PrefixAttach c = λ random. rw c.in-PrefixAttach.is (c.attach_prefix.ensures random)

pub returns-in-SuffixAttach : goal.returns-in-SuffixAttach
returns-in-SuffixAttach c = λ random. rw c.in-SuffixAttach.is (rw (← c.as_slice.ensures) (c.attach_suffix.ensures random))

pub returns-in-TermAttach : goal.returns-in-TermAttach
returns-in-TermAttach c = λ random. rw c.in-TermAttach.is (rw (← c.as_slice-in-TermAttach.ensures) (c.attach_term.ensures random))

pub returns-in-HttpAttach : goal.returns-in-HttpAttach
returns-in-HttpAttach c = λ random. rw c.in-HttpAttach.is (c.put_layer.ensures random)

pub returns-in-WsAttachNohttp : goal.returns-in-WsAttachNohttp
returns-in-WsAttachNohttp c = λ random. rw c.in-WsAttachNohttp.is (rw (← c.side_of-side.ensures) (c.put_layer-in-WsAttachNohttp.ensures random))
