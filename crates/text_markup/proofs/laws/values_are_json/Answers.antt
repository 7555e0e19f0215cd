use Rattle.text_markup.proofs.Printed.{document-text}
use Rattle.text_markup.proofs.laws.values_are_json.Goals as goal

pub returns : goal.returns
returns c = document-text
