-- Worked runs of limits of handles, numbers and links.
use Rattle.std.specs.Prelude.{◌≡◌, true, ℕ, []}
use Rattle.dill_rows.specs.Play.{Play}
use Rattle.dill_rows.specs.Playing.{plain}
use Rattle.std.specs.Prelude.{not}
use Rattle.dill_handles.specs.Handles.{Handles, has_room}
use Rattle.dill_rules.specs.declared.thing.Thing.{Thing}
use Rattle.dill_rules.specs.World.{World, opening}
use Rattle.dill_rules.specs.Refusals.{has_no_link}
use Rattle.dill_rows.specs.Play.{first_of}
use Rattle.dill_rows.specs.Playing.{zeros}

-- no handles, so many kept, and this the last number that was given
abbrev pub handles_with : ℕ → ℕ → Handles Thing
handles_with kept last = record { entries = []; kept = kept; last = last }

-- a world with so many kept links, and this the last number that was used
abbrev pub links_with : ℕ → ℕ → World Play
links_with kept last = record (opening (first_of (plain 0 [])) zeros) { links = record { all = []; last = last; kept = kept } }

-- The last handle, the last number and the last link can be had, and no more.
pub record LimitsAreExact : Type 0 where
  pub room : has_room (handles_with 65535 7) 1 ≡ true
  pub no_room : not (has_room (handles_with 65536 7) 1) ≡ true
  pub two : not (has_room (handles_with 65535 7) 2) ≡ true
  pub number : has_room (handles_with 0 2147483646) 1 ≡ true
  pub no_number : not (has_room (handles_with 1 2147483646) 1) ≡ true
  pub link : not (has_no_link (links_with 4095 7)) ≡ true
  pub no_link : has_no_link (links_with 4096 7) ≡ true
  pub no_link_number : has_no_link (links_with 0 18446744073709551615) ≡ true
