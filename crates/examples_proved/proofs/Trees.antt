-- What reading a list of trees says of the tree of them.
use Rattle.std.proofs.Common.{◌≡◌, true, ap}
use Rattle.std.specs.Global.{Global}
use Rattle.std.specs.Prelude.{Result, Vec}
use Rattle.yasna.specs.Words.{ASN1Error, IsNested, AnyNested, sequence_tag, IsListOf, AnyListOf, Decodes, Reading}
use Rattle.yasna.proofs.Closures.{chosen, seen}
use Rattle.yasna.proofs.Laws.{nested_list, any_nested_list}
use Rattle.examples_proved.specs.Branches.{branches_of}
use Rattle.examples_proved.specs.declared.tree.Tree.{Tree}
use Rattle.examples_proved.specs.declared.tree.Tree.TheViews.{roll-Tree, out-roll-Tree}

abbrev pub tree_of : Vec Tree Global → Tree
tree_of v = roll-Tree (record { branches = v })

branches_back : (v : Vec Tree Global) → branches_of (tree_of v) ≡ v.items
branches_back v = ap (λ z. z.branches.items) (out-roll-Tree (record { branches = v }))

pub tree_read : (s : Reading) (x : Result (Vec Tree Global) ASN1Error) (s' : Reading) →
    Decodes {A = Vec Tree Global} true (λ m n v b. IsListOf (IsNested branches_of) sequence_tag m n v.items b)
    (AnyListOf AnyNested sequence_tag) s x s' →
    Decodes true (IsNested branches_of) AnyNested s (seen tree_of x) s'
tree_read s x s' h =
    chosen true true (λ m n v b. IsListOf (IsNested branches_of) sequence_tag m n v.items b)
    (AnyListOf AnyNested sequence_tag) (IsNested branches_of) AnyNested tree_of
    (λ m n v b p. nested_list branches_of m n (tree_of v) v.items b (branches_back v) p) (λ e. e) s
    (λ b r e k. any_nested_list s.mode s.levels b k) x s' h
