use Rattle.asn1_contents.proofs.Contents.{exact}
use Rattle.asn1_contents.proofs.laws.contents_are_exact.Goals as goal

pub returns : goal.returns
returns c = exact
