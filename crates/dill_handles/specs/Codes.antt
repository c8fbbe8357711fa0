-- How a map of handles is stored: as the tuple of its parts.
use Rattle.std.specs.Prelude.{ℕ, List, refl}
use Rattle.std.specs.Coded.{Coded, code_by, coded×, coded_ℕ, coded_list}
use Rattle.dill_handles.specs.declared.entry.Entry.{Entry}
use Rattle.dill_handles.specs.Handles.{Handles}

-- an entry is stored as its number, its thing and its owner
abbrev pub entry_code : {T : Type 0} → Coded T → Coded (Entry T)
entry_code {T} code =
    code_by
    (ℕ × (T × ℕ))
    (coded× coded_ℕ (coded× code coded_ℕ))
    (λ x. (x.number, (x.thing, x.owner)))
    (λ p. record { number = p.0; thing = p.1.0; owner = p.1.1 })
    (λ _. refl)

-- a map of handles is stored as its entries and its two numbers
abbrev pub handles_code : {T : Type 0} → Coded T → Coded (Handles T)
handles_code {T} code =
    code_by
    (List (Entry T) × (ℕ × ℕ))
    (coded× (coded_list (entry_code code)) (coded× coded_ℕ coded_ℕ))
    (λ h. (h.entries, (h.kept, h.last)))
    (λ p. record { entries = p.0; kept = p.1.0; last = p.1.1 })
    (λ _. refl)
