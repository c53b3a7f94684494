-- A report knows one more element after each visit.
use Rattle.std.proofs.Common.{◌≡◌, ◌↔◌, List, [], ◌∷◌, ◌++◌, refl, sym, ap, ◌∙◌, subst, Bool, true, false, None}
use Rattle.std.specs.Prelude.{IsTrue, ◌&&◌, ◌||◌, reverse, Result, Ok, Err, OnOk}
use Rattle.std.proofs.lemmas.List.{reverse-append}
use Rattle.yasna_base.specs.declared.mode.BERMode.{BERMode}
use Rattle.yasna_base.specs.declared.mode.BERMode.TheVariants.{Ber, Der, Cer}
use Rattle.asn1show_schema.specs.declared.fields.Label.{Label}
use Rattle.asn1show_walk.specs.Listing.{Line}
use Rattle.asn1show_walk.specs.Reading.{line_of}
use Rattle.asn1show_walk.specs.declared.listing.item.Item.{Item}
use Rattle.asn1show_printer.specs.Conformance.{conforms, AreMet}
use Rattle.asn1show_printer.specs.Reports.{ConformsTo, Knows, IsReportOf, Labels, Describes}
use Rattle.asn1show_printer.specs.Segments.{Tracks}
use Rattle.asn1show_printer.specs.declared.diagnostic.Conformance.{Conformance}
use Rattle.asn1show_printer.specs.declared.report.Report.{Report}

-- a fact holds of a result that is Ok
pub on_ok : {A E : Type 0} (r : Result A E) (P : Type 0) → P → OnOk r P
on_ok (Ok x) P p = p
on_ok (Err e) P p = tt

met : (old further new : Conformance) → AreMet old further new → (m : BERMode) → conforms new m ≡ (conforms old m && conforms further m)
met old further new x Ber = x.ber
met old further new x Der = x.der
met old further new x Cer = x.cer

both_conform : {P Q : Type 0} (a b all : Bool) → all ≡ (a && b) → IsTrue a ↔ P → IsTrue b ↔ Q → IsTrue all ↔ (Q × P)
both_conform true true all e p q = (λ t. (q.0 refl, p.0 refl), λ x. e)
both_conform true false all e p q = (λ t. absurd (let f : true ≡ false = sym t ∙ e in cc), λ x. let f = q.1 x.0 in absurd (cc))
both_conform false b all e p q = (λ t. absurd (let f : true ≡ false = sym t ∙ e in cc), λ x. let f = p.1 x.1 in absurd (cc))

-- what is in a string conforms to each mode
pub counts : (in_string : Bool) (noted left : Bool) (K : Type 0) → left ≡ (in_string || noted) → IsTrue noted ↔ K → IsTrue left ↔ (in_string ≡ false → K)
counts true noted left K e x = (λ t f. absurd (cc), λ k. e)
counts false noted left K e x = (λ t f. x.0 (sym e ∙ t), λ k. e ∙ x.1 (k refl))

-- nothing is known of no elements
pub knows_none : (r : Report) → r.style.view.schema ≡ None → r.fields ≡ None → Tracks r.segments [] → ((m : BERMode) → conforms r.conformance m ≡ true) →
    IsReportOf r []
knows_none r s f t c = record { plain = s; fields = f; tracks = t; conformance = λ m. (λ e. tt, λ x. c m) }

-- one more element, which was labelled, described and counted
pub knows_more : (old labelled begun described noted counted new : Report) (i : Item) (label : Label) (before : List Line) → Labels old labelled label →
    begun ≡ record labelled { line = begun.line } → Describes begun described i label → noted ≡ record described { line = noted.line } →
    AreMet noted.conformance noted.notes.conformance counted.conformance →
    counted ≡ record noted { conformance = counted.conformance; position = counted.position } → new ≡ record counted { line = new.line } →
    IsReportOf old before → IsReportOf new (before ++ (line_of i ∷ []))
knows_more old labelled begun described noted counted new i label before l b d n met_by c e knows =
    let style : new.style ≡ old.style =
    ap (λ r. r.style) e ∙ ap (λ r. r.style) c ∙ ap (λ r. r.style) n ∙ d.style ∙ ap (λ r. r.style) b ∙ l.style in
    let begun_style : begun.style ≡ old.style = ap (λ r. r.style) b ∙ l.style in
    let plain : begun.style.view.schema ≡ None = ap (λ s. s.view.schema) begun_style ∙ knows.plain in
    let any = l.unnamed knows.fields in
    let fields : new.fields ≡ None =
    ap (λ r. r.fields) e ∙ ap (λ r. r.fields) c ∙ ap (λ r. r.fields) n ∙ d.fields ∙ ap (λ r. r.fields) b ∙ l.fields knows.fields in
    let begun_segments : begun.segments ≡ old.segments = ap (λ r. r.segments) b ∙ l.segments in
    let tracks_before : Tracks begun.segments (reverse before) = subst (λ s. Tracks s (reverse before)) (sym begun_segments) knows.tracks in
    let segments : new.segments ≡ described.segments = ap (λ r. r.segments) e ∙ ap (λ r. r.segments) c ∙ ap (λ r. r.segments) n in
    let tracks : Tracks new.segments (line_of i ∷ reverse before) =
    subst (λ s. Tracks s (line_of i ∷ reverse before)) (sym segments) (d.tracks plain any (reverse before) tracks_before) in
    let noted_conformance : noted.conformance ≡ old.conformance =
    ap (λ r. r.conformance) n ∙ d.conformance ∙ ap (λ r. r.conformance) b ∙ l.conformance in
    let noted_modes : noted.notes.conformance ≡ described.notes.conformance = ap (λ r. r.notes.conformance) n in
    let conforming : ConformsTo new.conformance (line_of i ∷ reverse before) = λ m.
    both_conform (conforms old.conformance m) (conforms described.notes.conformance m) (conforms new.conformance m)
    (ap (λ z. conforms z m) (ap (λ r. r.conformance) e) ∙ met noted.conformance noted.notes.conformance counted.conformance met_by m
    ∙ ap (λ z. conforms z m && conforms noted.notes.conformance m) noted_conformance ∙ ap (λ z. conforms old.conformance m && conforms z m) noted_modes)
    (knows.conformance m) (d.modes plain any (reverse before) tracks_before m) in
    subst (Knows new) (sym (reverse-append before (line_of i ∷ []))) (record { plain = ap (λ s. s.view.schema) style ∙ knows.plain; fields = fields; tracks = tracks; conformance = conforming })
