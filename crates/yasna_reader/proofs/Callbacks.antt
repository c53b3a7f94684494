-- What a callback that was handed a reading came to.
use Rattle.std.proofs.Common.{◌≡◌, inl, inr, ℕ, ◌-◌, List, [], ◌++◌, length, take, drop, take-append-drop, length-append, Option, Some, None, Ok, Err, refl, sym, ap, subst, ◌∙◌, arith}
use Rattle.std.proofs.Math.Seq.{drop-append_seam}
use Rattle.std.specs.Borrow.{Bor}
use Rattle.std.specs.Prelude.{Result}
use Rattle.yasna_base.specs.declared.error.ASN1Error.{ASN1Error}
use Rattle.yasna_base.specs.declared.mode.BERMode.{BERMode}
use Rattle.yasna_base.specs.declared.tag.Tag.{Tag}
use Rattle.yasna_bytes.specs.declared.bytes.cursor.Cursor.{Cursor}
use Rattle.yasna_reader.specs.declared.callback.Outcome.{Outcome}
use Rattle.yasna_reader.specs.declared.callback.Outcome.TheVariants.{Matched, NoMatch, Failed}
use Rattle.yasna_reader.specs.Buffer.{Buffered}
use Rattle.yasna_reader.specs.Callback.{ComesTo, Barred, BarredBy, Hands, Lent, Regains, ErrorCause, WithSome, advanced_as, at_cursor, sticky, before, own}
use Rattle.yasna_reader.specs.Sequence.{place_in}
use Rattle.yasna_reader.specs.State.{Reading, Does, failing}

-- where there is no going on, that is what a callback came to
pub barred_fails : {A : Type 0} (s : Reading) (x : Result A ASN1Error) (m : Reading) (e : ASN1Error) (s' : Reading) → Barred s m (Some e) s' →
    ComesTo s x m (Failed e) s'
barred_fails s x m e s' (inl k, f) = (sticky k, f)
barred_fails s x m e s' (inr h, f) = (before h.0 h.1 h.2, f)

cause_as : {A B : Type 0} (c : List ℕ) (d : ASN1Error) (m : Reading) (e : ASN1Error) → ErrorCause {A = A} c (Err d) m e → ErrorCause {A = B} c (Err d) m e
cause_as c d m e (sticky k) = sticky k
cause_as c d m e (before k b i) = before k b i
cause_as c d m e (own k b i n) = own k b (let g : d ≡ e = cc in ap Err g) n

-- a callback that returned an Err gave no value, of whatever type
pub none_given : (A : Type 0) (s : Reading) (d : ASN1Error) (m : Reading) (o : Outcome (Unit {0})) (s' : Reading) → ComesTo s (Err d) m o s' →
    WithSome {A = A} (λ o. ComesTo s (Err d) m o s') o
none_given A s d m (Matched u) s' h = let i = h.2 in absurd (cc)
none_given A s d m (NoMatch e) s' h = (h.0, h.1, h.2, (let i = h.3 in let g : d ≡ e = cc in ap Err g), h.4)
none_given A s d m (Failed e) s' h = (cause_as s.left d m e h.0, h.1)

tagged_at : {A : Type 0} (c : Cursor) (t : Option Tag) (k : Option ASN1Error) (x : Result A ASN1Error) (m : Reading) (o : Outcome A) (s' : Reading) →
    ComesTo (at_cursor c) x m o s' → ComesTo (record (at_cursor c) { tag = t; failed = k }) x m o s'
tagged_at c t k x m (Matched v) s' h = h
tagged_at c t k x m (NoMatch e) s' h = h
tagged_at c t k x m (Failed e) s' h = h

-- what a callback came to depends on the place alone that it began at
pub comes_at : {A : Type 0} (c : Cursor) (t : Option Tag) (k : Option ASN1Error) (s : Reading) (x : Result A ASN1Error) (m : Reading) (o : Outcome A)
    (s' : Reading) → record (at_cursor c) { tag = t; failed = k } ≡ s → ComesTo (at_cursor c) x m o s' → ComesTo s x m o s'
comes_at c t k s x m o s' e h = subst (λ z. ComesTo z x m o s') e (tagged_at c t k x m o s' h)

-- what is left then is after what was taken
pub taken_after : {A : Type 0} (s : Reading) (x : Result A ASN1Error) (m : Reading) (o : Outcome A) (s' : Reading) → ComesTo s x m o s' →
    (taken : List ℕ) × (s.left ≡ taken ++ s'.left)
taken_after s x m o s' h =
    let e = advanced s x m o s' h in
    let n = length s.left - length m.left in
    (take n s.left, sym (take-append-drop n s.left) ∙ ap (λ z. take n s.left ++ z) (sym e))
  where
    advanced : {A : Type 0} (s : Reading) (x : Result A ASN1Error) (m : Reading) (o : Outcome A) (s' : Reading) → ComesTo s x m o s' →
        s'.left ≡ place_in s.left m.left
    advanced s x m (Matched v) s' h = ap (λ (z : Reading). z.left) h.3
    advanced s x m (NoMatch e) s' h = ap (λ (z : Reading). z.left) h.4
    advanced s x m (Failed e) s' h = ap (λ (z : Reading). z.left) h.1

taken_prefix : (b left l taken : List ℕ) → b ≡ taken ++ l → left ≡ l → b ≡ take (length b - length left) b ++ l
taken_prefix b left l taken e f =
    let n : length b - length left ≡ length taken = omega (arith, ap length e, ap length f, length-append taken l) in
    sym (take-append-drop (length b - length left) b) ∙ ap (λ z. take (length b - length left) b ++ z)
    (ap (λ k. drop k b) n ∙ ap (λ z. drop (length taken) z) e ∙ drop-append_seam taken l)

-- what was taken of these bytes is as long as what is left is shorter
pub buffered : {A : Type 0} (b left l : List ℕ) (v : A) (x : Bor (List ℕ)) (o : Outcome A) → o ≡ Matched v → (taken : List ℕ) × (b ≡ taken ++ l) →
    left ≡ l → x.now ≡ take (length b - length left) b → Buffered b o (Ok (v, x)) l
buffered b left l v x o g t f e =
    subst (λ p. Buffered b p (Ok (v, x)) l) (sym g) (refl, taken_prefix b left l t.0 t.1 f ∙ ap (λ z. z ++ l) (sym e))

-- as `taken_after`, of a reading that begins at these bytes
pub taken_from : {A : Type 0} (c : List ℕ) (mode : BERMode) (n : ℕ) (x : Result A ASN1Error) (m : Reading) (o : Outcome A) (s' : Reading) →
    ComesTo (record { left = c; mode = mode; levels = n; tag = None; failed = None }) x m o s' → (taken : List ℕ) × (c ≡ taken ++ s'.left)
taken_from c mode n x m o s' h = taken_after (record { left = c; mode = mode; levels = n; tag = None; failed = None }) x m o s' h

-- a place that didn't move is where it was
pub place_unconsumed : (c y : List ℕ) → length y ≡ length c → place_in c y ≡ c
place_unconsumed c y e = let n : length c - length y ≡ 0 = omega (arith, e) in ap (λ n. drop n c) n

-- a copy of a reading, for which the tag t waits
pub copied : (c d : Cursor) (t u : Option Tag) (k : Option ASN1Error) (s : Reading) → d.left.now ≡ c.left.now → d.mode ≡ c.mode → d.levels ≡ c.levels →
    record (at_cursor c) { tag = u; failed = k } ≡ s → s.failed ≡ None → record (at_cursor d) { tag = t } ≡ record s { tag = t }
copied c d t u k s left mode levels e f =
    ap {A = List ℕ} {B = Reading} (λ l. record { left = l; mode = d.mode; levels = d.levels; tag = t; failed = None }) left
    ∙ ap {A = BERMode} {B = Reading} (λ m. record { left = c.left.now; mode = m; levels = d.levels; tag = t; failed = None }) mode
    ∙ ap {A = ℕ} {B = Reading} (λ n. record { left = c.left.now; mode = c.mode; levels = n; tag = t; failed = None }) levels
    ∙ ap (λ (z : Reading). record z { tag = t; failed = None }) e
    ∙ ap {A = Option ASN1Error} {B = Reading} (λ u. record s { tag = t; failed = u }) (sym f)

-- a callback that is lent a copy, for which a tag waits
pub regained : {A : Type 0} (P : Does A) (s : Reading) (t : Option Tag) (x : Result A ASN1Error) (m : Reading) (o : Outcome A) (s' : Reading) →
    P (record s { tag = t }) x m → Regains x m s o s' → Lent P (record s { tag = t }) s o s'
regained P s t x m (Matched v) s' p h = record { between = s'; hands = record { own = x; left = m; obeys = p; comes = h }; state = refl }
regained P s t x m (NoMatch e) s' p h =
    record { between = advanced_as s m; hands = record { own = x; left = m; obeys = p; comes = h.0 }; state = h.1 }
regained P s t x m (Failed e) s' p h = record { between = s'; hands = record { own = x; left = m; obeys = p; comes = h }; state = refl }

-- where a callback was lent a copy that can't go on, that is what it came to
pub barred_regains : {A : Type 0} (x : Result A ASN1Error) (m s : Reading) (e : ASN1Error) (s' : Reading) → BarredBy s m (Some e) →
    s' ≡ failing (advanced_as s m) e → Regains x m s (Failed e) s'
barred_regains x m s e s' (inl k) f = (sticky k, f)
barred_regains x m s e s' (inr h) f = (before h.0 h.1 h.2, f)

after : {A : Type 0} (P : Does A) (z s : Reading) (o : Outcome A) (b s' : Reading) → z.left ≡ s.left →
    Hands P z o b → s' ≡ b → (taken : List ℕ) × (s.left ≡ taken ++ s'.left)
after P z s o b s' e h f =
    let t = taken_after z h.own h.left o b h.comes in
    (t.0, sym e ∙ t.1 ∙ ap (λ (x : Reading). t.0 ++ x.left) (sym f))

-- what is left of a reading that was lent is after what was taken
pub lent_after : {A : Type 0} (P : Does A) (z s : Reading) (o : Outcome A) (s' : Reading) → z.left ≡ s.left →
    Lent P z s o s' → (taken : List ℕ) × (s.left ≡ taken ++ s'.left)
lent_after P z s (Matched v) s' e h = after P z s (Matched v) h.between s' e h.hands h.state
lent_after P z s (NoMatch d) s' e h = ([], ap (λ (x : Reading). x.left) (sym h.state))
lent_after P z s (Failed d) s' e h = after P z s (Failed d) h.between s' e h.hands h.state
