-- What is added to a list of modules.
use Rattle.std.proofs.Common.{◌≡◌, ℕ, ◌+◌, ◌<◌, List, [], ◌++◌, length, get_or, take, refl, sym, subst, Bor}
use Rattle.std.specs.Prelude.{Result, Ok, Err, OnOk, is_ok, if◌then◌else◌}
use Rattle.std.proofs.lemmas.List.{take_more}
use Rattle.asn1_syntax.specs.declared.tree.Module.{Module}
use Rattle.asn1_syntax.specs.declared.error.Expected.{Expected}
use Rattle.asn1_syntax.specs.declared.error.SyntaxError.{SyntaxError}
use Rattle.asn1_syntax.specs.declared.error.SyntaxError.TheVariants.{Malformed}
use Rattle.asn1_syntax.specs.Parsing.{IsSourceOf, ParsingFails}
use Rattle.message_modules.specs.Sources.{AddsModulesOf, AreModulesOf, source_of_lines, of_modules, malformed, no_files, one_more}

-- the modules of a source are appended, if there was memory
pub appended : {T E : Type 0} {source : List ℕ} (before : List Module) {after modules : List Module} (r : Result T E) → IsSourceOf source modules →
    after ≡ (if is_ok r then before ++ modules else before) → OnOk r (AddsModulesOf source before after)
appended before (Ok x) parsed is = of_modules parsed is
appended before (Err e) parsed is = tt

pub none_of_malformed : {source : List ℕ} {l : List Module} {e : SyntaxError} {offset : ℕ} {expected : Expected} → ParsingFails source e →
    e ≡ Malformed offset expected → AddsModulesOf source l l
none_of_malformed {source = source} fails is = malformed (subst (λ (x : SyntaxError). ParsingFails source x) is fails) refl

pub no_file_yet : {all : List Module} → all ≡ [] → AreModulesOf [] all
no_file_yet is = subst (λ (l : List Module). AreModulesOf [] l) (sym is) no_files

-- the modules of one file more, of those at an index and before
pub one_file_more : (files : List (Bor (List (Bor (List ℕ))))) (i : ℕ) (d : Bor (List (Bor (List ℕ)))) {source : List ℕ} {before after : List Module} →
    i < length files → AreModulesOf (take i files) before → source ≡ source_of_lines (get_or files i d).now → AddsModulesOf source before after →
    AreModulesOf (take (i + 1) files) after
one_file_more files i d {source} {before} {after} below are is adds =
    let added = subst (λ (s : List ℕ). AddsModulesOf s before after) is adds in
    subst (λ (l : List (Bor (List (Bor (List ℕ))))). AreModulesOf l after) (sym (take_more files i d below)) (one_more (get_or files i d) are added)
