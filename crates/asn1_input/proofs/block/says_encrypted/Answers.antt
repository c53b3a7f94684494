use Rattle.std.proofs.Common.{◌≡◌, ◌∙◌, ◌-◌, ap, sym, true, length, take}
use Rattle.std.specs.Char.{is_ascii_whitespace}
use Rattle.std.specs.List.{ends_with, starts_with, suffix_len}
use Rattle.std.specs.Prelude.{◌&&◌, codes, nat_eq}
use Rattle.std.proofs.lemmas.Str.Ascii.{trim_ascii_end_is}
use Rattle.asn1_input.proofs.block.says_encrypted.Goals as goal

pub returns-then-starts_with : goal.returns-then-starts_with
returns-then-starts_with c =
    let line = c.args.line.now in
    let trimmed = trim_ascii_end_is line c.trim_ascii_end.result.now c.trim_ascii_end.ensures.value in
    let begins : starts_with nat_eq line (codes "Proc-Type:") ≡ true = sym c.starts_with.ensures.value ∙ c.if-starts_with.true in
    let ends = c.ends_with.ensures.value ∙ ap (λ z. ends_with nat_eq z (codes "ENCRYPTED")) trimmed in
    ends ∙ sym (ap (λ b. b && ends_with nat_eq (take (length line - suffix_len is_ascii_whitespace line) line) (codes "ENCRYPTED")) begins)
