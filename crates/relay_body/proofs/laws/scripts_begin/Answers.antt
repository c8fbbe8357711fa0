use Rattle.relay_body.proofs.CanRun.{scripts_begin}
use Rattle.relay_body.proofs.laws.scripts_begin.Goals as goal

pub returns : goal.returns
returns c = scripts_begin c.script_laws.ensures.within c.script_laws.ensures.formed c.script_laws.ensures.mains c.script_laws.ensures.built c.script_laws.ensures.nested c.scripts_are_lawful.ensures.main
