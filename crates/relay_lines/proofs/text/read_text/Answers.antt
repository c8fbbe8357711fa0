use Rattle.relay_lines.proofs.Blanks.{rest_from, slice_within}
use Rattle.relay_lines.proofs.Texts.{text_fault, text_joined, text_ended, text_more}
use Rattle.relay_lines.proofs.text.read_text.Goals as goal

pub returns-in-Fault : goal.returns-in-Fault
returns-in-Fault c = text_fault c.args.bytes.now c.loop-meant.meant c.loop-meant.rest.now c.loop-meant.invariant.tokens c.in-Fault.ensures.tokens

pub returns-then-not-ends_token : goal.returns-then-not-ends_token
returns-then-not-ends_token c = text_joined c.args.bytes.now c.loop-meant.meant c.loop-meant.rest.now c.loop-meant.invariant.tokens _ c.ends_token.result (rest_from c.loop-meant.rest.now 1) c.in-End.ensures.tokens c.ends_token.ensures c.if-not-ends_token.true

pub returns-in-End : goal.returns-in-End
returns-in-End c = text_ended c.args.bytes.now c.loop-meant.meant c.loop-meant.rest.now c.loop-meant.invariant.tokens _ c.ends_token.result (rest_from c.loop-meant.rest.now 1) c.in-End.ensures.tokens c.ends_token.ensures c.if-not-ends_token.false c.loop-meant.invariant.within

pub loop-meant-preserved : goal.loop-meant-preserved
loop-meant-preserved c = record {
  tokens = text_more c.args.bytes.now c.loop-meant.meant c.loop-meant.rest.now c.loop-meant.invariant.tokens _ c.in-Byte.byte c.in-Byte.used _ (rest_from c.loop-meant.rest.now c.in-Byte.used) c.in-Byte.ensures.tokens c.in_ok-push_all-in-Byte.ensures.ok;
  within = slice_within c.args.bytes.now c.loop-meant.rest.now _ c.in-Byte.used (rest_from c.loop-meant.rest.now c.in-Byte.used) c.loop-meant.invariant.within;
}
