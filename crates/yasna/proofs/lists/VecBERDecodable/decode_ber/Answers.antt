use Rattle.std.proofs.Common.{◌≡◌, None, rules}
use Rattle.yasna_reader.specs.Decodes.{Decodes}
use Rattle.yasna_reader.proofs.Tuples.{IsDecoder}
use Rattle.yasna.proofs.Closures.{list_by}
use Rattle.yasna_reader.proofs.Sticky.{parts_repeat_error}
use Rattle.yasna.proofs.lists.VecBERDecodable.decode_ber.Goals as goal

pub returns-clause-decodes : goal.returns-clause-decodes
returns-clause-decodes g c failed =
    let item : IsDecoder g.T.BERDecodable.may_allocate g.T.BERDecodable.encodes g.T.BERDecodable.elements (λ s r s'. s.failed ≡ None →
    Decodes g.T.BERDecodable.may_allocate g.T.BERDecodable.encodes g.T.BERDecodable.elements s r s') = record { decodes = λ s r s' fresh x. x fresh.0 } in
    list_by g.met.T.BERDecodable.coding item (failed, c.requires) c.collect_sequence_of.ensures (λ f f' p q x h. search rules)

pub returns-clause-failed : goal.returns-clause-failed
returns-clause-failed g c = parts_repeat_error c.collect_sequence_of.ensures
