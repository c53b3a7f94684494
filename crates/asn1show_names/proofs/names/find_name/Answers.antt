use Rattle.std.proofs.Common.{rules, ap}
use Rattle.std.proofs.lemmas.Fn.{always_returns_same}
use Rattle.std.proofs.lemmas.Map.Lookups.{exact_bytes}
use Rattle.std.proofs.lemmas.List.{get_or_default}
use Rattle.yasna_base.specs.Order.{octets_cmp}
use Rattle.asn1show_names.specs.Names.{Row}
use Rattle.asn1show_names.proofs.Sorted.{rises, unnamed}
use Rattle.asn1show_names.proofs.names.find_name.Goals as goal

pub returns-in-Ok : goal.returns-in-Ok
returns-in-Ok c =
    let at = c.in-Ok.ensures.position (λ (row : Row). octets_cmp row.0.now c.args.oid.now) (always_returns_same _ _ _ (λ a r f' k. search rules)) in (
      c.in-Ok.index,
      c.in-Ok.ensures.bound,
      λ d. (exact_bytes _ _ (at d), ap (λ (row : Row). row.1.now) (get_or_default c.args.rows.now c.in-Ok.index d _ c.in-Ok.ensures.bound)),
    )

pub returns-in-Err : goal.returns-in-Err
returns-in-Err c =
    let position = c.in-Err.ensures.position (λ (row : Row). octets_cmp row.0.now c.args.oid.now) (always_returns_same _ _ _ (λ a r f' k. search rules)) in
    λ up name named. unnamed c.args.rows.now c.args.oid.now name c.in-Err.field-0 (c.args.oid, c.args.oid) (position (rises c.args.rows.now c.args.oid.now up)) named
