use Rattle.text_markup.proofs.Printed.{document-listing}
use Rattle.text_markup.proofs.laws.listings_are_json.Goals as goal

pub returns : goal.returns
returns c = document-listing
