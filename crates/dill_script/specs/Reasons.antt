-- The words of the reasons for which a script is refused, as they stand behind the number of the line.
use Rattle.std.specs.Prelude.{ℕ, List, codes}
use Rattle.dill_script.specs.declared.refusal.Reason.{Reason}
use Rattle.dill_script.specs.declared.refusal.Reason.TheVariants.{NoVersion, BadByte, BadText, UnknownWord, NotBuilt, BadBlock, BadOperand, RepeatedName, TooLarge, NoProgram, NoMain}

abbrev pub reason_text : Reason → List ℕ
reason_text NoVersion = codes "no version"
reason_text BadByte = codes "bad byte"
reason_text BadText = codes "bad text"
reason_text UnknownWord = codes "unknown word"
reason_text NotBuilt = codes "not built"
reason_text BadBlock = codes "bad block"
reason_text BadOperand = codes "bad operand"
reason_text RepeatedName = codes "repeated name"
reason_text TooLarge = codes "too large"
reason_text NoProgram = codes "no program"
reason_text NoMain = codes "no main"
