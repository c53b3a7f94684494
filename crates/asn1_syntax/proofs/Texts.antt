-- Texts of lexical items, one after the other.
use Rattle.std.proofs.Common.{◌≡◌, ◌∙◌, ◌<◌, ◌≤◌, ◌-◌, ℕ, suc, List, [], ◌∷◌, ◌++◌, get_or, length, map, reverse, take, refl, ap, sym, arith}
use Rattle.std.proofs.Math.Seq.{take-suc}
use Rattle.std.proofs.lemmas.List.{reverse-append}
use Rattle.std.specs.Borrow.{Bor}
use Rattle.std.specs.Prelude.{Vec}
use Rattle.std.specs.declared.alloc.Global.{Global}
use Rattle.asn1_syntax.specs.declared.token.Token.{Token}
use Rattle.asn1_syntax.specs.declared.tree.Assignment.{Assignment}
use Rattle.asn1_syntax.specs.declared.tree.Component.{Component}
use Rattle.asn1_syntax.specs.declared.tree.Import.{Import}
use Rattle.asn1_syntax.specs.declared.tree.Module.{Module}
use Rattle.asn1_syntax.specs.declared.tree.TypeNotation.{TypeNotation}
use Rattle.asn1_syntax.specs.Tree.{Texts, assignment_then, assignments_then, comma_then, component_texts, component_then, components_then, constraints_then, import_list_then, import_then, is_name, module_then, modules_then, names_then, parenthesized_then, texts_then}

-- one more at the end of a list is the first one after it
pub one_more_text : (ts : List Token) (t : Token) (rest : Texts) → texts_then (ts ++ (t ∷ [])) rest ≡ texts_then ts (t.text.now ∷ rest)
one_more_text [] t rest = refl
one_more_text (u ∷ ts) t rest = ap (λ l. u.text.now ∷ l) (one_more_text ts t rest)

pub one_more_constraint : (cs : List (Vec Token Global)) (c : Vec Token Global) (rest : Texts) → constraints_then (cs ++ (c ∷ [])) rest ≡ constraints_then cs (parenthesized_then c.items rest)
one_more_constraint [] c rest = refl
one_more_constraint (d ∷ cs) c rest = ap (parenthesized_then d.items) (one_more_constraint cs c rest)

pub one_more_component : (cs : List (Component TypeNotation)) (c : Component TypeNotation) (rest : Texts)
    → components_then (map component_texts (cs ++ (c ∷ []))) rest ≡ components_then (map component_texts cs) (component_then (component_texts c) rest)
one_more_component [] c rest = refl
one_more_component (d ∷ cs) c rest = ap (component_then (component_texts d)) (one_more_component cs c rest)

pub one_more_name : (ts : List Token) (t : Token) (rest : Texts) → names_then (ts ++ (t ∷ [])) rest ≡ names_then ts (comma_then (is_name t.kind) (t.text.now ∷ rest))
one_more_name [] t rest = refl
one_more_name (u ∷ ts) t rest = ap (λ l. comma_then (is_name u.kind) (u.text.now ∷ l)) (one_more_name ts t rest)

pub one_more_import : (is : List Import) (i : Import) (rest : Texts) → import_list_then (is ++ (i ∷ [])) rest ≡ import_list_then is (import_then i rest)
one_more_import [] i rest = refl
one_more_import (j ∷ is) i rest = ap (import_then j) (one_more_import is i rest)

pub one_more_assignment : (known : List Assignment) (a : Assignment) (rest : Texts) → assignments_then (known ++ (a ∷ [])) rest ≡ assignments_then known (assignment_then a rest)
one_more_assignment [] a rest = refl
one_more_assignment (b ∷ known) a rest = ap (assignment_then b) (one_more_assignment known a rest)

pub one_more_module : (ms : List Module) (m : Module) (rest : Texts) → modules_then (ms ++ (m ∷ [])) rest ≡ modules_then ms (module_then m rest)
one_more_module [] m rest = refl
one_more_module (n ∷ ms) m rest = ap (module_then n) (one_more_module ms m rest)

-- one more at the end of texts in reverse is the first one of them
pub one_more_prepended : (ts : List (Bor (List ℕ))) (t : Bor (List ℕ)) →
    map (λ text. text.now) (reverse (ts ++ (t ∷ []))) ≡ t.now ∷ map (λ text. text.now) (reverse ts)
one_more_prepended ts t = ap (map (λ text. text.now)) (reverse-append ts (t ∷ []))

-- the first elements of a list are those before the last one of them, and that one
pub last_of_first : {A : Type 0} (xs : List A) (n : ℕ) (d : A) → 0 < n → n ≤ length xs → take n xs ≡ take (n - 1) xs ++ (get_or xs (n - 1) d ∷ [])
last_of_first xs n d some fits =
    let size : n ≡ suc (n - 1) = omega (arith, some) in
    ap (λ k. take k xs) size ∙ take-suc xs (n - 1) d (omega (arith, some, fits))

-- the same, where the last one was read
pub last_read_of_first : {A : Type 0} (xs : List A) (n : ℕ) (x : A) → 0 < n → n ≤ length xs → x ≡ get_or xs (n - 1) x →
    take n xs ≡ take (n - 1) xs ++ (x ∷ [])
last_read_of_first xs n x some fits read = last_of_first xs n x some fits ∙ ap (λ y. take (n - 1) xs ++ (y ∷ [])) (sym read)
