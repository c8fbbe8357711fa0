-- The forms of answers, as this crate names them.
use Rattle.dill_calls.specs.CallTable.{Form}
use Rattle.dill_calls.specs.CallTable as forms
use Rattle.relay_lines.specs.declared.dest.Shape.{Shape}
use Rattle.relay_lines.specs.declared.dest.Shape.TheVariants.{OneNumber, TwoNumbers, OneBytes, TwoBytes, CodeAndBytes, Choice}

-- the form that is named so
abbrev pub form_in : Shape → Form
form_in OneNumber = forms.OneNumber
form_in TwoNumbers = forms.TwoNumbers
form_in OneBytes = forms.OneBytes
form_in TwoBytes = forms.TwoBytes
form_in CodeAndBytes = forms.CodeAndBytes
form_in Choice = forms.Choice
