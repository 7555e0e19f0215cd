use Rattle.text_markup.proofs.Decimals.{decimals}
use Rattle.text_markup.proofs.laws.decimals_are_json.Goals as goal

pub returns : goal.returns
returns c = decimals
