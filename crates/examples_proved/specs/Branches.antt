-- The branches of a tree.
use Rattle.std.specs.Prelude.{List}
use Rattle.examples_proved.specs.declared.tree.Tree.{Tree}
use Rattle.examples_proved.specs.declared.tree.Tree.TheViews.{out-Tree}

-- the branches of a tree, as a list
abbrev pub branches_of : Tree → List Tree
branches_of v = (out-Tree v).branches.items
