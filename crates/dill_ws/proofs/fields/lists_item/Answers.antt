use Rattle.std.proofs.Common.{◌≡◌, true, false, rules, tests, nat_eq}
use Rattle.std.specs.List.{slice_split}
use Rattle.std.proofs.lemmas.Iterator.{cases_from_any}
use Rattle.std.proofs.lemmas.Iterator.Splits.{YieldsList-from_slice_split}
use Rattle.dill_ws.specs.Offers.{same_word, bare}
use Rattle.dill_ws.proofs.Items.{any_answer}
use Rattle.dill_ws.proofs.fields.lists_item.Goals as goal

pub returns : goal.returns
returns c =
    any_answer (λ item. same_word (bare item) c.args.word.now) (slice_split (λ b. nat_eq b 44) c.args.value.now) c.any.result
    (cases_from_any _ _ c.any.result (λ item. same_word (bare item) c.args.word.now ≡ true) (λ item. same_word (bare item) c.args.word.now ≡ false) c.any.ensures.ran
    (YieldsList-from_slice_split _ (λ b. nat_eq b 44) c.args.value.now c.split.ensures.rest c.split.ensures.done c.split.ensures.closure (λ x r q k. search (rules, tests)))
    (λ x q k. search (rules, tests)) (λ x q k. search (rules, tests)))
