use Rattle.std.proofs.Common.{Vec, List, ℕ, ℤ, rules}
use Rattle.std.specs.Global.{Global}
use Rattle.std.specs.Int.{w64}
use Rattle.std.specs.Io.KnownBytes.{Appends}
use Rattle.yasna.specs.time.GeneralizedTime.{EncodesGeneralizedTime, generalized_time_encoding}
use Rattle.yasna.specs.time.Models.{utc_of, moment_of}
use Rattle.yasna.specs.time.UtcTime.{EncodesUtcTime, utc_time_encoding}
use Rattle.yasna.specs.base.Octets.{EncodesOctets, octets_tag, octets_encoding}
use Rattle.yasna.specs.base.Text.{EncodesText, characters, utf8_encoding}
use Rattle.yasna_tool_run.specs.Kinds.{EncodesIntegers, integers_encoding}
use Rattle.yasna.proofs.Laws.{list_along, signed_coding}
use Rattle.yasna_tool_run.proofs.Recoded.{recoded, not_recoded}
use Rattle.yasna_tool_run.proofs.value_type.run_kind.Goals as goal
use Rattle.yasna.specs.base.Text.{utf8_tag}
use Rattle.yasna.specs.time.GeneralizedTime.{generalized_time_tag}
use Rattle.yasna.specs.time.UtcTime.{utc_time_tag}

pub returns-in-Octets-clause-recoded : goal.returns-in-Octets-clause-recoded
returns-in-Octets-clause-recoded g c =
    rw c.in-Octets.is
    (recoded EncodesOctets (λ (v : Vec ℕ Global). v.items) (octets_encoding octets_tag) c.args.mode
    (Appends (g.W.Sink.contents c.args.writer.now) (g.W.Sink.contents c.run-in-Octets.new.writer)) (g.R.Source.remaining c.args.reader.now)
    c.run-in-Octets.result c.run-in-Octets.ensures.ok)

pub returns-in-Octets-clause-none : goal.returns-in-Octets-clause-none
returns-in-Octets-clause-none g c =
    rw c.in-Octets.is
    (not_recoded EncodesOctets (octets_encoding octets_tag) c.args.mode (λ v b x. (v, x)) _ _ (g.R.Source.remaining c.args.reader.now)
    c.run-in-Octets.result c.run-in-Octets.ensures.rejected)

pub returns-in-Text-clause-recoded : goal.returns-in-Text-clause-recoded
returns-in-Text-clause-recoded g c =
    rw c.in-Text.is
    (recoded EncodesText characters (utf8_encoding utf8_tag) c.args.mode
    (Appends (g.W.Sink.contents c.args.writer.now) (g.W.Sink.contents c.run-in-Text.new.writer)) (g.R.Source.remaining c.args.reader.now)
    c.run-in-Text.result c.run-in-Text.ensures.ok)

pub returns-in-Text-clause-none : goal.returns-in-Text-clause-none
returns-in-Text-clause-none g c =
    rw c.in-Text.is
    (not_recoded EncodesText (utf8_encoding utf8_tag) c.args.mode (λ v b x. (v, x)) _ _ (g.R.Source.remaining c.args.reader.now)
    c.run-in-Text.result c.run-in-Text.ensures.rejected)

pub returns-in-Utime-clause-recoded : goal.returns-in-Utime-clause-recoded
returns-in-Utime-clause-recoded g c =
    rw c.in-Utime.is
    (recoded EncodesUtcTime utc_of (utc_time_encoding utc_time_tag) c.args.mode
    (Appends (g.W.Sink.contents c.args.writer.now) (g.W.Sink.contents c.run-in-Utime.new.writer)) (g.R.Source.remaining c.args.reader.now)
    c.run-in-Utime.result c.run-in-Utime.ensures.ok)

pub returns-in-Utime-clause-none : goal.returns-in-Utime-clause-none
returns-in-Utime-clause-none g c =
    rw c.in-Utime.is
    (not_recoded EncodesUtcTime (utc_time_encoding utc_time_tag) c.args.mode (λ v b x. (v, x)) _ _ (g.R.Source.remaining c.args.reader.now)
    c.run-in-Utime.result c.run-in-Utime.ensures.rejected)

pub returns-in-Gtime-clause-recoded : goal.returns-in-Gtime-clause-recoded
returns-in-Gtime-clause-recoded g c =
    rw c.in-Gtime.is
    (recoded EncodesGeneralizedTime moment_of (generalized_time_encoding generalized_time_tag) c.args.mode
    (Appends (g.W.Sink.contents c.args.writer.now) (g.W.Sink.contents c.run-in-Gtime.new.writer)) (g.R.Source.remaining c.args.reader.now)
    c.run-in-Gtime.result c.run-in-Gtime.ensures.ok)

pub returns-in-Gtime-clause-none : goal.returns-in-Gtime-clause-none
returns-in-Gtime-clause-none g c =
    rw c.in-Gtime.is
    (not_recoded EncodesGeneralizedTime (generalized_time_encoding generalized_time_tag) c.args.mode (λ v b x. (v, x)) _ _ (g.R.Source.remaining c.args.reader.now)
    c.run-in-Gtime.result c.run-in-Gtime.ensures.rejected)

pub returns-in-Ints-clause-recoded : goal.returns-in-Ints-clause-recoded
returns-in-Ints-clause-recoded g c =
    rw c.in-Ints.is
    (recoded EncodesIntegers (λ (v : Vec ℤ Global). v.items) integers_encoding c.args.mode
    (Appends (g.W.Sink.contents c.args.writer.now) (g.W.Sink.contents c.run-in-Ints.new.writer)) (g.R.Source.remaining c.args.reader.now)
    c.run-in-Ints.result c.run-in-Ints.ensures.ok)

pub returns-in-Ints-clause-none : goal.returns-in-Ints-clause-none
returns-in-Ints-clause-none g c =
    rw c.in-Ints.is
    (not_recoded EncodesIntegers integers_encoding c.args.mode ((list_along (λ (v : List ℤ). v) (signed_coding w64)).meaning.among c.args.mode 101) _ _
    (g.R.Source.remaining c.args.reader.now) c.run-in-Ints.result c.run-in-Ints.ensures.rejected)

pub returns-in-Pair-clause-recoded : goal.returns-in-Pair-clause-recoded
returns-in-Pair-clause-recoded g c = search rules

pub returns-in-Pair-clause-none : goal.returns-in-Pair-clause-none
returns-in-Pair-clause-none g c = search rules
