-- What becomes of a link.
use Rattle.dill_rules.specs.Links.{Link, heated, read_cold, write_cold, as_wrote, as_closing, as_shut, as_stream}
use Rattle.dill_links.specs.declared.row.Change.{Change}
use Rattle.dill_links.specs.declared.row.Change.TheVariants as changes

abbrev pub changed_link : Change → Link → Link
changed_link (changes.Heats read write) = heated read write
changed_link changes.CoolsRead = read_cold
changed_link changes.CoolsWrite = write_cold
changed_link changes.Wrote = as_wrote
changed_link changes.Closes = as_closing
changed_link changes.Shuts = as_shut
changed_link changes.Connects = as_stream
