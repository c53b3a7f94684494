-- What reading parts, and values that represent others, does.
use Rattle.std.proofs.Common.{◌≡◌, ℕ, List, [], ◌++◌, length, Option, Some, None, refl, sym, ap, subst, ◌∙◌, append_assoc, length-append, Bool, true, false, ◌||◌, zero, suc, arith}
use Rattle.std.proofs.lemmas.Bool.{or_left, or_right}
use Rattle.std.specs.Prelude.{Result, Ok, Err}
use Rattle.yasna_base.specs.declared.error.ASN1Error.{ASN1Error}
use Rattle.yasna_base.specs.declared.mode.BERMode.{BERMode}
use Rattle.yasna_base.specs.declared.tag.Tag.{Tag}
use Rattle.yasna_base.specs.Grammar.{Grammar, Members}
use Rattle.yasna_base.specs.Identifier.{end_tag}
use Rattle.yasna_base.specs.Element.{Enclosed, AnyEnclosed}
use Rattle.yasna_base.specs.Sequence.{PartOf, NoParts, AnyPart, AnyNothing}
use Rattle.yasna_base.specs.Coding.{IsCoding, ArePartsCoding}
use Rattle.yasna_base.proofs.Lists.{append_same}
use Rattle.yasna_reader.specs.Parse.{unless_failed}
use Rattle.yasna_reader.specs.Sequence.{ReadsParts}
use Rattle.yasna_reader.specs.Decodes.{Explains, StickyExplains, ParsedValue, NotParsed, Decodes, DecodesParts, DecodesContents, AndIn, Step, Done, Made}
use Rattle.yasna_reader.specs.State.{Reading, IsFresh, Does}
use Rattle.yasna_reader.proofs.Sequences.{replaced, element}

module _ {A : Type 0} (may_allocate : Bool) (C : Grammar A) (S : Members) where
  sticky_contents : (k : Option ASN1Error) (s : Reading) (e : ASN1Error) (s' : Reading) → Explains may_allocate (S s.mode s.levels) s.left e →
      StickyExplains may_allocate (S s.mode s.levels) s.left k → DecodesContents may_allocate C S s (unless_failed k (Err e)) s'
  sticky_contents None s e s' t h = record { none = λ q d x i j. t.none q d x i; memory = t.memory }
  sticky_contents (Some f) s e s' t h = record { none = λ q d x i j. h.none q d x i; memory = h.memory }

  single_contents : ((m : BERMode) (n : ℕ) (v : A) (c : List ℕ) → C m n v c → S m n c) →
      ((m : BERMode) (n k : ℕ) (b c r s : List ℕ) → S m n b → S m k c → b ++ r ≡ c ++ s → b ≡ c) → (s : Reading) (r : Result A ASN1Error) (s' : Reading) →
      IsFresh s → DecodesParts may_allocate C S s r s' → DecodesContents may_allocate C S s (unless_failed s'.failed r) s'
  single_contents among prefix_free s (Ok v) s' fresh h =
      subst (λ k. DecodesContents may_allocate C S s (unless_failed k (Ok v)) s') (sym (ap (λ (z : Reading). z.failed) h.left ∙ fresh.0)) (record {
        parsed = h;
        ends = λ d x i j k. prefix_free s.mode s.levels s.levels d h.prefix x h.rest k (among s.mode s.levels v h.prefix h.member) (sym i ∙ h.joined);
      })
  single_contents among prefix_free s (Err e) s' fresh h = sticky_contents s'.failed s e s' h.explains h.failed

-- the parts of a tuple are contents that were read up to their end
pub parts_read : {A : Type 0} {E : A → A → Type 0} {C : Grammar A} {S : Members} → (may_allocate : Bool) →
    ArePartsCoding E C S → (s : Reading) (r : Result A ASN1Error) (s' : Reading) → IsFresh s → DecodesParts may_allocate C S s r s' →
    DecodesContents may_allocate C S s (unless_failed s'.failed r) s'
parts_read {C} {S} may_allocate laws = single_contents may_allocate C S laws.meaning.among laws.prefix_free

-- an element around the parts of a tuple
pub parts_element : {A : Type 0} {E : A → A → Type 0} {C : Grammar A} {S : Members} → (may_allocate : Bool) →
    ArePartsCoding E C S → (t : Tag) → (t ≡ end_tag → ⊥) → (s : Reading) → IsFresh s → (r : Result A ASN1Error) (s' : Reading) →
    ReadsParts (DecodesParts may_allocate C S) t s r s' → Decodes may_allocate (Enclosed C t) (AnyEnclosed S t) s r s'
parts_element {C} {S} may_allocate laws = element may_allocate C S (DecodesParts may_allocate C S) (parts_read may_allocate laws)

module _ {A V : Type 0} {E : A → A → Type 0} {B : Grammar A} {S : Members} (laws : IsCoding E B S) (p q : Bool) (C : Grammar V) (Q : Members) where
  explains_first : (m : BERMode) (n : ℕ) (s : List ℕ) (e : ASN1Error) → Explains p (S m n) s e → Explains (p || q) (AnyPart S Q m n) s e
  explains_first m n s e x = record {
    none = λ k b r i j. x.none k j.prefix (j.rest ++ r) (i ∙ ap (λ z. z ++ r) j.joined ∙ append_assoc j.prefix j.rest r) j.here;
    memory = λ k. or_left p q (x.memory k);
  }

  keeps_first : (m : BERMode) (n : ℕ) (s : List ℕ) (k : Option ASN1Error) → StickyExplains p (S m n) s k → StickyExplains (p || q) (AnyPart S Q m n) s k
  keeps_first m n s None x = tt
  keeps_first m n s (Some e) x = explains_first m n s e x

  -- where the first part isn't read, the parts aren't
  pub part_err : (s : Reading) (e : ASN1Error) (s' : Reading) → NotParsed p (S s.mode s.levels) s e s' → NotParsed (p || q) (AnyPart S Q s.mode s.levels) s e s'
  part_err s e s' x = record {
    explains = explains_first s.mode s.levels s.left e x.explains;
    failed = keeps_first s.mode s.levels s.left s'.failed x.failed;
    further = x.further;
    same = x.same;
  }

  explains_second : (m : BERMode) (n : ℕ) (v : A) (prefix rest s : List ℕ) → s ≡ prefix ++ rest → B m n v prefix → (e : ASN1Error) → Explains q (Q m n) rest e →
      Explains (p || q) (AnyPart S Q m n) s e
  explains_second m n v prefix rest s joined member e x = record {
    none = λ k b r i j.
        let f : prefix ++ rest ≡ j.prefix ++ (j.rest ++ r) = sym joined ∙ i ∙ ap (λ z. z ++ r) j.joined ∙ append_assoc j.prefix j.rest r in
        let g = laws.prefix_free m n n prefix j.prefix rest (j.rest ++ r) (laws.meaning.among m n v prefix member) j.here f in
        x.none k j.rest r (append_same j.prefix rest (j.rest ++ r) (sym (ap (λ z. z ++ rest) g) ∙ f)) j.more;
    memory = λ k. or_right p q (x.memory k);
  }

  keeps_second : (m : BERMode) (n : ℕ) (v : A) (prefix rest s : List ℕ) → s ≡ prefix ++ rest → B m n v prefix → (k : Option ASN1Error) →
      StickyExplains q (Q m n) rest k → StickyExplains (p || q) (AnyPart S Q m n) s k
  keeps_second m n v prefix rest s joined member None x = tt
  keeps_second m n v prefix rest s joined member (Some e) x = explains_second m n v prefix rest s joined member e x

  -- where the first part was read and the others aren't, the parts aren't
  pub others_err : (s : Reading) (v : A) (m : Reading) → ParsedValue (B s.mode s.levels) s v m → (e : ASN1Error) (s' : Reading) →
      NotParsed q (Q m.mode m.levels) m e s' → NotParsed (p || q) (AnyPart S Q s.mode s.levels) s e s'
  others_err s v m h e s' k =
      let x = subst (λ z. NotParsed q (Q z.mode z.levels) z e s') h.left k in
      record {
        explains = explains_second s.mode s.levels v h.prefix h.rest s.left h.joined h.member e x.explains;
        failed = keeps_second s.mode s.levels v h.prefix h.rest s.left h.joined h.member s'.failed x.failed;
        further = omega (arith, x.further, ap length h.joined, length-append h.prefix h.rest);
        same = x.same;
      }

  -- where both were read, the parts were
  pub others_ok : (s : Reading) (v : A) (m : Reading) → ParsedValue (B s.mode s.levels) s v m → (w : V) (s' : Reading) → ParsedValue (C m.mode m.levels) m w s' →
      ParsedValue (PartOf B C s.mode s.levels) s (v, w) s'
  others_ok s v m h w s' k =
      let x = subst (λ z. ParsedValue (C z.mode z.levels) z w s') h.left k in
      record {
        prefix = h.prefix ++ x.prefix;
        rest = x.rest;
        joined = h.joined ∙ ap (λ z. h.prefix ++ z) x.joined ∙ sym (append_assoc h.prefix x.prefix x.rest);
        member = record { prefix = h.prefix; rest = x.prefix; joined = refl; here = h.member; more = x.member };
        left = x.left;
      }

  module _ {U : Type 0} (make : A × V → U) where
    others : (s : Reading) (v : A) (m : Reading) → ParsedValue (B s.mode s.levels) s v m → (r : Result U ASN1Error) (s' : Reading) →
        DecodesParts q (Made C (λ w. make (v, w))) Q m r s' → DecodesParts (p || q) (Made (PartOf B C) make) (AnyPart S Q) s r s'
    others s v m h (Ok u) s' k =
        let w = k.member.0 in
        let x = others_ok s v m h w s' (record { prefix = k.prefix; rest = k.rest; joined = k.joined; member = k.member.1; left = k.left }) in
        record { prefix = x.prefix; rest = x.rest; joined = x.joined; member = ((v, w), x.member, k.member.2); left = x.left }
    others s v m h (Err e) s' k = others_err s v m h e s' k

    stepped : (K : A → Does U) (s : Reading) → IsFresh s → (x : Result A ASN1Error) (m : Reading) →
        Decodes p B S s x m → (r : Result U ASN1Error) (s' : Reading) →
        ((v : A) → IsFresh m → K v m r s' → DecodesParts q (Made C (λ w. make (v, w))) Q m r s') → AndIn K x m r s' →
        DecodesParts (p || q) (Made (PartOf B C) make) (AnyPart S Q) s r s'
    stepped K s fresh (Ok v) m h r s' more k =
        others s v m h r s' (more v (ap (λ (z : Reading). z.failed) h.left ∙ fresh.0, ap (λ (z : Reading). z.tag) h.left ∙ fresh.1) k)
    stepped K s fresh (Err e) m h r s' more k = replaced (DecodesParts (p || q) (Made (PartOf B C) make) (AnyPart S Q) s) k.0 k.1 (part_err s e m h.0)

-- each run of N on a fresh reading decodes
pub record IsDecoder {A : Type 0} (may_allocate : Bool) (B : Grammar A) (S : Members) (N : Does A) : Type 0 where
  pub decodes : (s : Reading) (r : Result A ASN1Error) (s' : Reading) → IsFresh s → N s r s' → Decodes may_allocate B S s r s'

-- each run of P on a fresh reading decodes parts that make a value
pub record IsPartsDecoder {U A : Type 0} (may_allocate : Bool) (C : Grammar A) (S : Members) (make : A → U) (P : Does U) : Type 0 where
  pub decodes : (s : Reading) (r : Result U ASN1Error) (s' : Reading) → IsFresh s → P s r s' → DecodesParts may_allocate (Made C make) S s r s'

-- a part, and where it was there, others
pub step_by : {A V U : Type 0} {E : A → A → Type 0} {B : Grammar A} {S : Members} {N : Does A} {p q : Bool} {C : Grammar V} {Q : Members}
    {make : A × V → U} {K : A → Does U} → IsCoding E B S → IsDecoder p B S N →
    ((v : A) → IsPartsDecoder q C Q (λ w. make (v, w)) (K v)) → IsPartsDecoder (p || q) (PartOf B C) (AnyPart S Q) make (Step N K)
step_by {p} {q} {C} {Q} {make} {K} laws first more =
    record {
      decodes = λ s r s' fresh h. stepped laws p q C Q make K s fresh h.0 h.1 (first.decodes s h.0 h.1 fresh h.2) r s'
          (λ v now k. (more v).decodes h.1 r s' now k) h.3;
    }

done : {U : Type 0} (make : Unit {0} → U) (s : Reading) (r : Result U ASN1Error) (s' : Reading) → Done (make tt) s r s' →
    DecodesParts false (Made NoParts make) AnyNothing s r s'
done make s r s' h = replaced (DecodesParts false (Made NoParts make) AnyNothing s) h.0 h.1
    (record { prefix = []; rest = s.left; joined = refl; member = (tt, refl, refl); left = refl })

-- no part
pub done_by : {U : Type 0} {make : Unit {0} → U} → IsPartsDecoder false NoParts AnyNothing make (Done (make tt))
done_by {make} = record { decodes = λ s r s' fresh h. done make s r s' h }

-- what decodes is a decoder
pub decodes_by : {A : Type 0} {may_allocate : Bool} {B : Grammar A} {S : Members} → IsDecoder may_allocate B S (Decodes may_allocate B S)
decodes_by = record { decodes = λ s r s' fresh h. h }

module _ {A : Type 0} (may_allocate : Bool) (B D : Grammar A) (S : Members) (obeys : (m : BERMode) (n : ℕ) (v : A) (b : List ℕ) → B m n v b → D m n v b) where
  -- what encodes by one relation, by another that follows from it
  pub decodes_map : (s : Reading) (r : Result A ASN1Error) (s' : Reading) → Decodes may_allocate B S s r s' → Decodes may_allocate D S s r s'
  decodes_map s (Ok v) s' h = record { prefix = h.prefix; rest = h.rest; joined = h.joined; member = obeys s.mode s.levels v h.prefix h.member; left = h.left }
  decodes_map s (Err e) s' h = h

-- what r returns, with a value seen as what it represents
abbrev pub seen : {U A : Type 0} → (U → A) → Result U ASN1Error → Result A ASN1Error
seen f (Ok v) = Ok (f v)
seen f (Err e) = Err e

-- What reads one way of a choice, where nothing of another way is there, reads the choice: its values are by f for those of
-- the choice.
module _ {A U : Type 0} (may_allocate more : Bool) (B : Grammar A) (S : Members) (D : Grammar U) (T : Members) (f : A → U)
    (obeys : (m : BERMode) (n : ℕ) (v : A) (b : List ℕ) → B m n v b → D m n (f v) b) (up : may_allocate ≡ true → more ≡ true) where
  chosen_explains : (m : BERMode) (n : ℕ) (s : List ℕ) → ((b r : List ℕ) → s ≡ b ++ r → T m n b → S m n b) → (e : ASN1Error) → Explains may_allocate (S m n) s e →
      Explains more (T m n) s e
  chosen_explains m n s only e h = record { none = λ q b r i j. h.none q b r i (only b r i j); memory = λ q. up (h.memory q) }

  chosen_sticky : (m : BERMode) (n : ℕ) (s : List ℕ) → ((b r : List ℕ) → s ≡ b ++ r → T m n b → S m n b) → (k : Option ASN1Error) →
      StickyExplains may_allocate (S m n) s k → StickyExplains more (T m n) s k
  chosen_sticky m n s only None h = tt
  chosen_sticky m n s only (Some e) h = chosen_explains m n s only e h

  pub chosen : (s : Reading) → ((b r : List ℕ) → s.left ≡ b ++ r → T s.mode s.levels b → S s.mode s.levels b) → (x : Result A ASN1Error) (s' : Reading) →
      Decodes may_allocate B S s x s' → Decodes more D T s (seen f x) s'
  chosen s only (Ok v) s' h = record { prefix = h.prefix; rest = h.rest; joined = h.joined; member = obeys s.mode s.levels v h.prefix h.member; left = h.left }
  chosen s only (Err e) s' h = (
    record {
      explains = chosen_explains s.mode s.levels s.left only e h.0.explains;
      failed = chosen_sticky s.mode s.levels s.left only s'.failed h.0.failed;
      further = h.0.further;
      same = h.0.same;
    },
    h.1,
  )

made : {U A : Type 0} (f : U → A) (make : A → U) → ((w : A) → f (make w) ≡ w) →
    (may_allocate : Bool) (C : Grammar A) (S : Members) (s : Reading) (r : Result U ASN1Error) (s' : Reading) →
    DecodesParts may_allocate (Made C make) S s r s' → DecodesParts {A = U} may_allocate (λ m n v c. C m n (f v) c) S s r s'
made f make back may_allocate C S s (Ok v) s' h = record {
  prefix = h.prefix;
  rest = h.rest;
  joined = h.joined;
  member = subst (λ w. C s.mode s.levels w h.prefix) (sym (ap f h.member.2 ∙ back h.member.0)) h.member.1;
  left = h.left;
}
made f make back may_allocate C S s (Err e) s' h = h

-- an element around what represents a value is one that represents the value
pub enclosed_seen : {U A : Type 0} (f : U → A) (C : Grammar A) (t : Tag) (m : BERMode) (n : ℕ) (v : U) (b : List ℕ) →
    Enclosed {A = U} (λ m n v c. C m n (f v) c) t m n v b → Enclosed C t m n (f v) b
enclosed_seen f C t m zero v b h = h
enclosed_seen f C t m (suc n) v b h = record { contents = h.contents; element = h.element; meaning = h.meaning }

last : {A U : Type 0} (may_allocate : Bool) (C : Grammar A) (S : Members) (make : A → U) (s : Reading)
    (x : Result A ASN1Error) (m : Reading) → DecodesParts may_allocate C S s x m → (r : Result U ASN1Error) (s' : Reading) → AndIn (λ w. Done (make w)) x m r s' →
    DecodesParts may_allocate (Made C make) S s r s'
last may_allocate C S make s (Ok w) m h r s' k = replaced (DecodesParts may_allocate (Made C make) S s) k.0 k.1
    (record { prefix = h.prefix; rest = h.rest; joined = h.joined; member = (w, h.member, refl); left = h.left })
last may_allocate C S make s (Err e) m h r s' k = replaced (DecodesParts may_allocate (Made C make) S s) k.0 k.1 h

-- an element around parts that are read one by one and make a value
pub steps_sequence : {U A : Type 0} {E : A → A → Type 0} {C : Grammar A} {S : Members} {may_allocate : Bool}
    {P : Does U} (f : U → A) (make : A → U) → ((w : A) → f (make w) ≡ w) → ArePartsCoding E C S →
    IsPartsDecoder may_allocate C S make P → (t : Tag) → (t ≡ end_tag → ⊥) → (s : Reading) → IsFresh s → (r : Result U ASN1Error) (s' : Reading) →
    ReadsParts P t s r s' → Decodes {A = U} may_allocate (λ m n v b. Enclosed C t m n (f v) b) (AnyEnclosed S t) s r s'
steps_sequence {C} {S} {may_allocate} {P} f make back laws parts t not_end s fresh r s' h =
    decodes_map may_allocate (Enclosed (λ m n v c. C m n (f v) c) t) (λ m n v b. Enclosed C t m n (f v) b) (AnyEnclosed S t) (enclosed_seen f C t) s r s'
    (element may_allocate (λ m n v c. C m n (f v) c) S P
    (λ z x m i k. single_contents may_allocate (λ m n v c. C m n (f v) c) S (λ m n v c. laws.meaning.among m n (f v) c) laws.prefix_free z x m i
    (made f make back may_allocate C S z x m (parts.decodes z x m i k))) t not_end s fresh r s' h)
