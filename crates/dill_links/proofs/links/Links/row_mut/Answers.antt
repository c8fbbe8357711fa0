use Rattle.std.proofs.Common.{refl, sym, ap, ◌∙◌, length, List, Some}
use Rattle.dill_base.proofs.Places.{place}
use Rattle.dill_rules.specs.Links.{Link, Links, is_link}
use Rattle.dill_links.proofs.links.Links.row_mut.Goals as goal

pub returns : goal.returns
returns c =
    let h = c.self.inside in
    let there = rw c.as_slice.ensures.value at c.place_in-at.ensures.place in
    let stored : List Link → Links = λ rows. record { all = rows; last = h.last; kept = length h.spare.items } in (
      (refl, λ w. rw (← c.self.view_is) (ap stored (sym (place (is_link c.args.number) (λ old. w) c.index_mut.result.now h.rows.items c.place_in-at.result there).changed))),
      record {
        writes_back = tt;
        row = rw (← c.self.view_is) ((place (is_link c.args.number) (λ old. old) c.index_mut.result.now h.rows.items c.place_in-at.result there).found ∙ ap Some (sym c.index_mut.ensures.value));
      },
    )
