-- What a receive gives fits all room that is made for it.
use Rattle.std.proofs.Common.{◌≡◌, ◌≤◌, ◌-◌, arith, ℕ, List, length, take, drop, Option, Some, None}
use Rattle.std.specs.Prelude.{IfSome}
use Rattle.std.proofs.lemmas.List.{length-take, length-drop}
use Rattle.dill_calls.specs.declared.answer.Answer.{Answer}
use Rattle.dill_calls.specs.declared.answer.Answer.TheVariants as answer
use Rattle.dill_http.specs.declared.span.Span.{Span}
use Rattle.dill_http.specs.declared.span.Cut.{Cut}
use Rattle.dill_http.specs.Reading.{part, request_cut, status_cut, field_cut}
use Rattle.dill_stack.specs.declared.want.Want.{Want}
use Rattle.dill_stack.specs.declared.want.Want.TheVariants.{Exact, Message, Request, Status, Field}
use Rattle.dill_stack.specs.declared.want.ReadOut.{ReadOut}
use Rattle.dill_stack.specs.declared.want.ReadOut.TheVariants.{Given, Need, Fault}
use Rattle.dill_stack.specs.Answering.{Sizes, sizes, FitsAnswer, FitsGiven}
use Rattle.dill_stack.specs.Read.{two_of, coded_of, line_answer}
use Rattle.dill_stack.specs.Taking.{said_of}

some_more : (o : Option (List ℕ)) (m n : ℕ) → m ≤ n → IfSome o (λ b. length b ≤ m) → IfSome o (λ b. length b ≤ n)
some_more None m n l f = tt
some_more (Some b) m n l f = omega (arith, l, f)

answer_more : (a : Answer) (r s : Sizes) → r.first ≤ s.first → r.second ≤ s.second → FitsAnswer a r → FitsAnswer a s
answer_more (answer.Number n) r s k l f = tt
answer_more (answer.Pair m n) r s k l f = tt
answer_more (answer.Bytes bytes) r s k l f = omega (arith, k, f)
answer_more (answer.Two first second) r s k l f = (omega (arith, k, f.0), omega (arith, l, f.1))
answer_more (answer.Coded code reason) r s k l f = omega (arith, k, f)
answer_more (answer.Chosen index fault bytes) r s k l f = some_more bytes r.first s.first k f
answer_more (answer.Fault e) r s k l f = tt

-- What fits, fits more room.
pub fits_more : (said : ReadOut) (r s : Sizes) → r.first ≤ s.first → r.second ≤ s.second → FitsGiven said r → FitsGiven said s
fits_more (Given a) r s k l f = answer_more a r s k l f
fits_more Need r s k l f = tt
fits_more (Fault e) r s k l f = tt

part_short : (line : List ℕ) (span : Span) → length (part line span) ≤ length line
part_short line span = omega (arith, length-take (span.to - span.from) (drop span.from line), length-drop span.from line)

two_short : (line : List ℕ) (cut : Option Cut) → FitsGiven (said_of (two_of line cut)) (sizes (length line) (length line))
two_short line None = tt
two_short line (Some cut) = (part_short line cut.first, part_short line cut.second)

coded_short : (line : List ℕ) (status : Option (ℕ × Span)) → FitsGiven (said_of (coded_of line status)) (sizes (length line) (length line))
coded_short line None = tt
coded_short line (Some status) = part_short line status.1

-- The parts of a line are no longer than it.
pub line_short : (want : Want) (line : List ℕ) → FitsGiven (said_of (line_answer want line)) (sizes (length line) (length line))
line_short (Exact n) line = tt
line_short (Message limit) line = tt
line_short Request line = two_short line (request_cut line)
line_short Status line = coded_short line (status_cut line)
line_short Field line = two_short line (field_cut line)
