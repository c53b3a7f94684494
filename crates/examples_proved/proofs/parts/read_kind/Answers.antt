use Rattle.std.proofs.Common.{◌≡◌, ◌∷◌, [], rules, false, subst}
use Rattle.std.specs.Prelude.{Ok, Err}
use Rattle.yasna.specs.Words.{BeginsWithTag, DecodesByTags, null_tag, boolean_tag, context}
use Rattle.yasna.proofs.Closures.{looked, found_none_by_tags, seen}
use Rattle.examples_proved.specs.Tickets.{EncodesKind, AnyKind, kind_with_tags}
use Rattle.examples_proved.specs.declared.parts.TicketKind.TheVariants.{Sealed, Limited}
use Rattle.examples_proved.proofs.Tickets.{is_open, open_read, sealed_read, limit_read}
use Rattle.examples_proved.proofs.parts.read_kind.Goals as goal

pub returns-in-Err-read_null : goal.returns-in-Err-read_null
returns-in-Err-read_null c =
    let s = c.args.reader.now in
    let same : c.in-Ok.tag ≡ null_tag = search rules in
    let found = subst (λ t. BeginsWithTag t s.left) same (looked s c.lookahead_tag.result (Ok c.in-Ok.tag) c.lookahead_tag.ensures c.requires.0 c.in-Ok.is) in
    subst (λ z. DecodesByTags (null_tag ∷ boolean_tag ∷ context 2 ∷ []) false EncodesKind AnyKind s (seen is_open z) c.read_null.new.self) c.in-Err-read_null.is
    (open_read s c.requires found c.read_null.result c.read_null.new.self c.read_null.ensures)

pub returns-in-Err-read_bool : goal.returns-in-Err-read_bool
returns-in-Err-read_bool c =
    let s = c.args.reader.now in
    let same : c.in-Ok.tag ≡ boolean_tag = search rules in
    let found = subst (λ t. BeginsWithTag t s.left) same (looked s c.lookahead_tag.result (Ok c.in-Ok.tag) c.lookahead_tag.ensures c.requires.0 c.in-Ok.is) in
    subst (λ z. DecodesByTags (null_tag ∷ boolean_tag ∷ context 2 ∷ []) false EncodesKind AnyKind s (seen Sealed z) c.read_bool.new.self) c.in-Err-read_bool.is
    (sealed_read s c.requires found c.read_bool.result c.read_bool.new.self c.read_bool.ensures)

pub returns-in-Err-read_limit : goal.returns-in-Err-read_limit
returns-in-Err-read_limit c =
    let s = c.args.reader.now in
    let no_null : c.in-Ok.tag ≡ null_tag → ⊥ = search rules in
    let no_boolean : c.in-Ok.tag ≡ boolean_tag → ⊥ = search rules in
    let found = looked s c.lookahead_tag.result (Ok c.in-Ok.tag) c.lookahead_tag.ensures c.requires.0 c.in-Ok.is in
    subst (λ z. DecodesByTags (null_tag ∷ boolean_tag ∷ context 2 ∷ []) false EncodesKind AnyKind s (seen Limited z) c.read_limit.new.reader)
    c.in-Err-read_limit.is
    (limit_read c.in-Ok.tag s found no_null no_boolean c.read_limit.result c.read_limit.new.reader c.read_limit.ensures)

pub returns-in-Err : goal.returns-in-Err
returns-in-Err c =
    let s = c.args.reader.now in
    found_none_by_tags (null_tag ∷ boolean_tag ∷ context 2 ∷ []) false kind_with_tags.coding s c.requires c.in-Err.error
    (looked s c.lookahead_tag.result (Err c.in-Err.error) c.lookahead_tag.ensures c.requires.0 c.in-Err.is)
