-- Types of which a mode accepts only some values.
use Rattle.std.proofs.Common.{◌≡◌, Bool, true}
use Rattle.yasna_base.specs.declared.mode.BERMode.{BERMode}
use Rattle.yasna_base.specs.Coding.{IsCoding, Any}
use Rattle.yasna_base.specs.Grammar.{Grammar, Members}

-- b encodes a value by B, and the value passes the test of the mode
abbrev pub WithinMode : {A : Type 0} → (BERMode → A → Bool) → Grammar A → Grammar A
WithinMode passes B m n v b = B m n v b × (passes m v ≡ true)

-- its laws of reading
pub within_mode_coding : {A : Type 0} {E : A → A → Type 0} {B : Grammar A} {S : Members} (passes : BERMode → A → Bool) → IsCoding E B S →
    IsCoding E (WithinMode passes B) (Any (WithinMode passes B))
within_mode_coding passes x = record {
  meaning = record {
    equal = x.meaning.equal;
    among = λ m n v b p. (v, p);
    exact = λ m n k v w b p q. x.meaning.exact m n k v w b p.0 q.0;
    deeper = λ m n k v b le p. (x.meaning.deeper m n k v b le p.0, p.1);
  };
  opens = λ m n b p. x.opens m n b (x.meaning.among m n p.0 b p.1.0);
  prefix_free = λ m n k b c r s p q. x.prefix_free m n k b c r s (x.meaning.among m n p.0 b p.1.0) (x.meaning.among m k q.0 c q.1.0);
}
