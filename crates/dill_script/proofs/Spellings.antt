-- What is read is spelled by its text, and read alike from each text that spells it.
use Rattle.std.proofs.Common.{◌≡◌, length, Bool, true, false, not, refl, sym, ap, ◌∙◌, subst}
use Rattle.std.proofs.lemmas.Bool.{le-ltb}
use Rattle.std.specs.List.{list_any}
use Rattle.dill_script.specs.Blocks.{is_empty}
use Rattle.dill_script.specs.Contexts.{opening}
use Rattle.dill_script.specs.Lines.{lines_of, has_tokens}
use Rattle.dill_script.specs.Spelling.{spoken, Spells, ReadsSpelling, ReadsEachSpelling}
use Rattle.dill_script.proofs.Judging.{leads_of, judged_of}
use Rattle.dill_script.proofs.Linking.{IsRead, is_read, reads, starts_by, without_spoken, spoken_without, any_spoken}
use Rattle.dill_script.proofs.Spoken.{leads_lines}
use Rattle.dill_script.proofs.Tokenwise.{Leads}

some_there : (b c : Bool) → b ≡ true → b ≡ not c → c ≡ false
some_there b true e f = cc
some_there b false e f = refl

pub reads_spelling : ReadsSpelling
reads_spelling built text script e =
    let r : IsRead built text script = is_read built text script e in
    let l = leads_of built 1 opening (lines_of text) script (λ x. refl) r.lines in
    record { bytes = l.0.bytes; texts = l.0.texts; lines = leads_lines built (spoken (lines_of text)) script (some_there (list_any has_tokens (lines_of text)) (is_empty (spoken (lines_of text))) r.some (any_spoken (lines_of text))) l.1 }

pub reads_each : ReadsEachSpelling
reads_each built text other script e s small =
    let r : IsRead built text script = is_read built text script e in
    let p : Spells script text = reads_spelling built text script e in
    let q : spoken (lines_of text) ≡ spoken (lines_of other) = p.lines ∙ sym s.lines in
    let l = leads_of built 1 opening (lines_of text) script (λ x. refl) r.lines in
    reads built other script (record {
      small = le-ltb 1048576 (length other) small;
      some = any_spoken (lines_of other) ∙ ap (λ x. not (is_empty x)) (sym q) ∙ sym (any_spoken (lines_of text)) ∙ r.some;
      lines = judged_of built 1 opening (lines_of other) script (record { bytes = s.bytes; texts = s.texts }) refl (subst (λ x. Leads built opening x script) q l.1);
      programs = spoken_without script 1 (lines_of other) (ap (list_any (starts_by script)) (sym q) ∙ without_spoken script 1 (lines_of text) r.programs);
      main = r.main;
    })
