use Rattle.dill_frames.specs.Prefix.{PrefixSpells}
use Rattle.dill_frames.specs.Suffix.{SuffixSpells}
use Rattle.dill_frames.proofs.Ends.{end_apart}
use Rattle.dill_frames.proofs.Exact.{prefix_one, suffix_one}
use Rattle.dill_frames.proofs.PrefixLaws.{prefix_free}
use Rattle.dill_frames.proofs.SuffixLaws.{suffix_free}
use Rattle.dill_frames.proofs.laws.term_laws.Goals as goal

pub returns : goal.returns
returns c = record {
  prefix_apart = λ form t m w s e. end_apart (PrefixSpells form) t m w (λ a b p q. prefix_one form a b w p q) s e;
  prefix_free = λ form t m n w rest s r. prefix_free form m n w rest s.spelled r.spelled;
  prefix_one = λ form t m n w s r. prefix_one form m n w s.spelled r.spelled;
  suffix_apart = λ end t m w s e. end_apart (SuffixSpells end) t m w (λ a b p q. suffix_one end a b w p q) s e;
  suffix_free = λ end t m n w rest z s r. suffix_free end m n w rest z s.spelled r.spelled;
  suffix_one = λ end t m n w s r. suffix_one end m n w s.spelled r.spelled;
}
