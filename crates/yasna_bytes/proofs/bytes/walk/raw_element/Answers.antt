use Rattle.std.proofs.Common.{◌-◌, refl, subst}
use Rattle.yasna_base.specs.Raw.{IsRaw}
use Rattle.yasna_bytes.proofs.RawElement.{not_opened, not_followed, to_rest, followed_rest, followed}
use Rattle.yasna_bytes.proofs.Header.{seen_bit}
use Rattle.yasna_bytes.proofs.WalkEnds.{opens_taken}
use Rattle.yasna_bytes.proofs.bytes.walk.raw_element.Goals as goal

pub follow-requires-clause-taken : goal.follow-requires-clause-taken
follow-requires-clause-taken c =
    let o = c.in-Ok.opened in
    let x = c.in-Ok.ensures {u = tt} in
    opens_taken c.args.cursor.mode c.in-Ok.tag o.bit c.args.cursor.left.now o.contents o.end x.opens

pub payload-requires : goal.payload-requires
payload-requires c =
    let p = c.args.cursor in
    let o = c.in-Ok.opened in
    to_rest (IsRaw p.mode (p.levels - 1)) p.mode o.bit o.contents o.end c.in-Ok-follow.rest.now (c.in-Ok-follow.ensures {u = tt})

pub prefix_before-requires : goal.prefix_before-requires
prefix_before-requires c =
    let p = c.args.cursor in
    let o = c.in-Ok.opened in
    followed_rest p.mode p.levels c.in-Ok.tag o.bit p.left.now o.contents o.end c.in-Ok-follow.rest.now (c.in-Ok.ensures {u = tt})
    (c.in-Ok-follow.ensures {u = tt})

pub returns-in-Ok-follow : goal.returns-in-Ok-follow
returns-in-Ok-follow c =
    let p = c.args.cursor in
    let o = c.in-Ok.opened in
    record {
      raw = subst (λ q. IsRaw p.mode p.levels (record { tag = c.in-Ok.tag; bit = q; payload = c.payload.result.now }) c.prefix_before.result.now)
          (seen_bit c.opened.view_is refl) (followed p.mode p.levels c.in-Ok.tag o.bit p.left.now o.contents o.end c.in-Ok-follow.rest.now c.payload.result.now
          c.prefix_before.result.now (c.in-Ok.ensures {u = tt}) (c.in-Ok-follow.ensures {u = tt}) c.payload.ensures c.prefix_before.ensures);
      joined = c.prefix_before.ensures;
    }

pub returns-in-Err-follow : goal.returns-in-Err-follow
returns-in-Err-follow c =
    let p = c.args.cursor in
    let o = c.in-Ok.opened in
    let w = c.in-Err-follow.ensures {u = tt} in
    rw c.reject.ensures
    (not_followed p.mode p.levels c.in-Ok.tag o.bit p.left.now o.contents o.end _ (c.in-Ok.ensures {u = tt}) w.0 w.1 refl)

pub returns-in-Err : goal.returns-in-Err
returns-in-Err c = not_opened c.args.cursor.mode c.args.cursor.levels c.args.cursor.left.now c.in-Err.rejection (c.in-Err.ensures {u = tt})
