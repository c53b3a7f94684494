use Rattle.std.proofs.Common.{◌∷◌, [], codes}
use Rattle.json.specs.Token.{key}
use Rattle.asn1show_json.proofs.Tokens.{members_written, then_ok}
use Rattle.asn1show_json.specs.Json.{name_tokens, place_tokens, tag_tokens, value_token}
use Rattle.asn1show_json.proofs.element.write_members.Goals as goal

pub returns-clause-tokens : goal.returns-clause-tokens
returns-clause-tokens c =
    let item = c.args.item.now in
    let part = name_tokens (codes "field") c.args.part in
    let alternative = name_tokens (codes "alternative") c.args.alternative in
    let value = key (codes "value") ∷ value_token c.args.value ∷ [] in
    let start = c.args.json.now.tokens in
    let placed = c.write_place.new.json.tokens in
    let tagged = c.write_tag.new.json.tokens in
    let named = c.write_name.new.json.tokens in
    let chosen = c.write_name-2.new.json.tokens in
    let written = members_written start placed tagged named chosen c.write_value.new.json.tokens (place_tokens item) (tag_tokens item) part alternative value in
    let first = written c.in_ok-write_place.ensures.tokens c.in_ok-write_tag.ensures.tokens in
    let so_far = first c.in_ok-write_name.ensures.tokens c.in_ok-write_name-2.ensures.tokens in
    then_ok c.write_value.result so_far c.write_value.ensures.tokens
