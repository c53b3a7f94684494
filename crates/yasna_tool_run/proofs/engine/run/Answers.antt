use Rattle.std.proofs.Common.{ℕ, Vec, refl, subst, ◌∙◌, inl, inr}
use Rattle.std.proofs.KnownBytes.{Consumes-whole, Keeps-refl}
use Rattle.std.proofs.lemmas.Result.{on_ok_weaker}
use Rattle.std.specs.Global.{Global}
use Rattle.std.specs.Io.KnownBytes.{Appends}
use Rattle.yasna.specs.base.declared.mode.BERMode.TheVariants.{Der}
use Rattle.yasna.proofs.Laws.{can_be_written}
use Rattle.yasna_tool_run.proofs.Errors.{not_grown, none_rejected, end_failed, rejected_with, handed_on}
use Rattle.yasna_tool_run.proofs.engine.run.Goals as goal

pub returns-in_err-bytes : goal.returns-in_err-bytes
returns-in_err-bytes g c =
    let read = c.in_err-bytes.ensures {u = tt} in
    handed_on _ _ _ _ _ _ _ _ (Vec ℕ Global) c.in_err-bytes.field-0.0 c.from_residual.result c.from_residual.ensures.1
    (Keeps-refl (g.W.Sink.contents c.args.writer.now))
    read.rejected (λ e h. ((h.1, refl), λ other. absurd (other h.0))) read.io_error (λ h. inl h)

pub returns-in_err-value : goal.returns-in_err-value
returns-in_err-value g c =
    let read = c.in_ok-bytes.ensures {u = tt} in
    rejected_with _ _ _ _ _ _ _ _ c.in_err-value.field-0.0 c.from_residual-in_err-value.result c.from_residual-in_err-value.ensures.1
    (read.ok, refl) (Keeps-refl (g.W.Sink.contents c.args.writer.now)) (λ other. (
      read.end,
      Consumes-whole (g.R.Source.remaining c.args.reader.now) (g.R.Source.remaining c.read_all.new.reader) c.in_ok-bytes.bytes.items
          (λ s. g.T.BERDecodable.elements c.args.mode 101 s → ⊥) read.bytes read.end
          (subst (λ s. g.T.BERDecodable.elements c.args.mode 101 s → ⊥) c.as_slice.ensures.value ((c.in_err-value.ensures {u = tt}).decoded.none other)),
    ))

pub returns-in_err-encoding : goal.returns-in_err-encoding
returns-in_err-encoding g c =
    rejected_with _ _ _ _ _ _ _ _ c.in_err-encoding.field-0.0 c.from_residual-in_err-encoding.result c.from_residual-in_err-encoding.ensures.1
    ((c.in_ok-bytes.ensures {u = tt}).ok, refl) (Keeps-refl (g.W.Sink.contents c.args.writer.now))
    (λ other. absurd (other (c.in_err-encoding.ensures {u = tt}).memory))

pub returns : goal.returns
returns g c =
    let read = c.in_ok-bytes.ensures {u = tt} in
    let value = c.in_ok-value.value in
    record {
      ok =
          on_ok_weaker c.write_all.result
          (λ appended. Consumes-whole (g.R.Source.remaining c.args.reader.now) (g.R.Source.remaining c.read_all.new.reader) c.in_ok-bytes.bytes.items
          (λ s. (x : g.row.T.Denot) × g.T.BERDecodable.encodes c.args.mode 101 x s
          × Appends (g.W.Sink.contents c.args.writer.now) (g.W.Sink.contents c.write_all.new.writer) (g.T.DEREncodable.encoding Der x))
          read.bytes read.end (
            value,
            subst (g.T.BERDecodable.encodes c.args.mode 101 value) c.as_slice.ensures.value ((c.in_ok-value.ensures {u = tt}).decoded),
            subst (Appends (g.W.Sink.contents c.args.writer.now) (g.W.Sink.contents c.write_all.new.writer))
                (c.as_slice-2.ensures.value ∙ (c.in_ok-encoding.ensures {u = tt}).encoding) appended,
          ))
          c.write_all.ensures.bytes;
      to_the_end = on_ok_weaker c.write_all.result (λ _. read.end) c.write_all.ensures.ok;
      flushed = c.write_all.ensures.flushed;
      counts = on_ok_weaker c.write_all.result (λ h. (read.ok, h)) c.write_all.ensures.ok;
      rejected_counts = none_rejected _ c.write_all.result _ c.write_all.ensures.err;
      rejected_writes_nothing = none_rejected _ c.write_all.result _ c.write_all.ensures.err;
      rejected = none_rejected _ c.write_all.result _ c.write_all.ensures.err;
      io_error = end_failed c.write_all.result (λ h. inr h) c.write_all.ensures.err;
      failed_read = not_grown (g.R.Source.failed c.args.reader.now) (g.R.Source.failed c.read_all.new.reader) read.ok;
    }

pub encode_der-requires : goal.encode_der-requires
encode_der-requires g c =
    can_be_written g.met.T.DERCanonical.written c.args.mode 101 c.in_ok-value.value c.as_slice.result.now (c.in_ok-value.ensures {u = tt}).decoded
